-- The actions of each row of the pattern table, by the operands of the statement. A row that does
-- not match these operands has none.
use Rattle.std.specs.Prelude.{ℕ, nat_eq, Bool, true, false, not, ◌&&◌, if◌then◌else◌, List, [], ◌∷◌, ◌++◌, Option, Some, None, option_map, ℤ, pos}
use Rattle.std.specs.Ordering.{int_eq}
use Rattle.jz_words.specs.declared.size.Size.{Size}
use Rattle.x64_insn.specs.declared.types.Alu.{Alu}
use Rattle.x64_insn.specs.declared.types.One.{One}
use Rattle.x64_insn.specs.declared.types.Shift.{Shift}
use Rattle.jz_ir.specs.Paths.{among}
use Rattle.jz_operations.specs.declared.operation.Pinned.{Pinned}
use Rattle.jz_operations.specs.declared.operation.Arg.{Arg}
use Rattle.jz_operations.specs.declared.operation.Arg.TheVariants as arg
use Rattle.jz_operations.specs.declared.operation.Action.{Action}
use Rattle.jz_operations.specs.declared.operation.Action.TheVariants as action
use Rattle.jz_operations.specs.Reading.{is_var, found_by}

-- ---- operands that are one: a variable, an access, or a cell
abbrev pub same_option : Option ℕ → Option ℕ → Bool
same_option None None = true
same_option (Some a) (Some b) = nat_eq a b
same_option _ _ = false

abbrev pub same_index : Option (ℕ × ℕ) → Option (ℕ × ℕ) → Bool
same_index None None = true
same_index (Some a) (Some b) = nat_eq a.0 b.0 && nat_eq a.1 b.1
same_index _ _ = false

abbrev pub same_arg : Arg → Arg → Bool
same_arg (arg.Var v) (arg.Var w) = nat_eq v w
same_arg (arg.Mem a) (arg.Mem b) =
    same_option a.base b.base && (same_index a.index b.index && int_eq a.disp b.disp)
same_arg (arg.Cell c) (arg.Cell e) =
    nat_eq c.of e.of && (same_option c.index e.index && int_eq c.offset e.offset)
same_arg _ _ = false

abbrev pub is_imm : Arg → Bool
is_imm (arg.Imm i) = true
is_imm _ = false

-- a variable that stands nowhere in the operand
abbrev pub is_free : Arg → Arg → Bool
is_free (arg.Var v) o = not (among (is_var o ++ found_by o) v)
is_free _ o = false

-- ---- the first operand comes to the destination
-- It is there; or the operands may be swapped and the second one is there; or the destination is a
-- variable that does not occur in the rest, and the first operand is copied to it. The actions, and
-- what is the second operand then.
abbrev pub brought : Bool → Size → Arg → Arg → Arg → Option (List Action × Arg)
brought swaps z d a o =
    if same_arg d a then Some ([], o)
    else if swaps && same_arg d o then Some ([], a)
    else if is_free d o then Some (action.Mov z d a ∷ [], o)
    else None

-- with the action behind it
abbrev pub behind : (Arg → Action) → Option (List Action × Arg) → Option (List Action)
behind f = option_map (λ r. r.0 ++ (f r.1 ∷ []))

-- where there is no second operand
abbrev pub nothing : Arg
nothing = arg.Imm (pos 0)

-- ---- the rows
-- `d = o`, and the lowest bits of a register
abbrev pub move_code : Size → Arg → Arg → List Action
move_code z d o = action.Mov z d o ∷ []

-- `d = a op o`, and with a flag that is read
abbrev pub two_code : Alu → Bool → Size → Arg → Arg → Arg → Option Pinned → Option (List Action)
two_code op swaps z d a o c = behind (λ x. action.Alu op z d x c) (brought swaps z d a o)

-- `d = -a`, `d = !a`
abbrev pub one_code : One → Size → Arg → Arg → Option (List Action)
one_code op z d a = behind (λ x. action.One op z d) (brought false z d a nothing)

-- `r = a * o`; the operands are not swapped where the first is an immediate
abbrev pub times_code : Size → ℕ → Arg → Arg → Option (List Action)
times_code z v a o = behind (action.Imul z v) (brought (not (is_imm a)) z (arg.Var v) a o)

-- `r = a * c`, c a number
abbrev pub times_by_code : Size → ℕ → Arg → ℤ → List Action
times_by_code z v a i = action.ImulBy z v a i ∷ []

-- `d = a sh c`, c a number
abbrev pub shift_code : Shift → Size → Arg → Arg → ℕ → Option (List Action)
shift_code kind z d a n = behind (λ x. action.Shift kind z d n) (brought false z d a nothing)

-- `d = a sh (v & k)`
abbrev pub shift_by_code : Shift → Size → Arg → Arg → Pinned → Option (List Action)
shift_by_code kind z d a v =
    behind (λ x. action.ShiftBy kind z d v) (brought false z d a (arg.Var v.variable))

-- `r = (tu)o`, `r = (ts)o`
abbrev pub extend_code : Bool → Size → Size → ℕ → Arg → List Action
extend_code sign to from v o = action.Extend sign to from v o ∷ []
