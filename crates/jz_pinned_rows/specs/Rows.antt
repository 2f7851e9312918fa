-- Rows of the table of flags, RAX and RDX as values: their actions, the numbers that each of them
-- shows, and the variables of the flags.
use Rattle.std.specs.Prelude.{ℕ, Bool, List, [], ◌∷◌, ◌++◌, All, Option, Some, None}
use Rattle.jz_words.specs.declared.size.Size.{Size}
use Rattle.jz_tree.specs.Span.{Span}
use Rattle.jz_tree.specs.declared.expr.BinOp.{BinOp}
use Rattle.jz_tree.specs.declared.expr.Expr.{Expr}
use Rattle.jz_tree.specs.declared.stmt.Lval.{Lval}
use Rattle.jz_meaning.specs.Statements.{assign}
use Rattle.jz_operations.specs.declared.operation.Arg.{Arg}
use Rattle.jz_operations.specs.declared.operation.Flags.{Flags}
use Rattle.jz_operations.specs.declared.operation.Action.{Action}
use Rattle.jz_operations.specs.declared.operation.Operation.{Operation}
use Rattle.jz_encodable.specs.Encodable.{CanEncode}
use Rattle.jz_change.specs.declared.change.Number.{Number}
use Rattle.jz_change.specs.declared.change.Number.TheVariants.{Nth}
use Rattle.jz_change.specs.declared.change.Numbers.{Numbers}
use Rattle.jz_change.specs.declared.change.Numbers.TheVariants.{These}
use Rattle.jz_homes.specs.Homes.{Homes}
use Rattle.jz_homes.specs.Operands.{Leaks, IsArg}
use Rattle.jz_row_operations.specs.Codes.{lasting}
use Rattle.jz_row_operations.specs.Rows.{NotImm}
use Rattle.jz_flag_rows.specs.Conditions.{IsFlagCondition}
use Rattle.jz_flag_rows.specs.Rows.{LowersFlags}
use Rattle.jz_operands.specs.TableHomes.{leaks_of}
use Rattle.jz_operands.specs.Refusals.{FindsOr, HasFields}
use Rattle.jz_rows.specs.Rows.{nth_of, actions_in, items_in}
use Rattle.jz_pinned_rows.specs.declared.parts.Operands.{Operands}
use Rattle.jz_pinned_rows.specs.declared.row.Acts.{Acts}
use Rattle.jz_pinned_rows.specs.declared.row.Divided.{Divided}
use Rattle.jz_pinned_rows.specs.declared.row.PinnedRow.{PinnedRow}

-- the three numbers of a division, one behind another
abbrev pub three_in : Option Divided → List Number
three_in None = []
three_in (Some d) = Nth d.high ∷ Nth d.low ∷ Nth d.by ∷ []

abbrev pub last_item : Acts → Numbers
last_item a = These ((nth_of a.last.shown.first ++ nth_of a.last.shown.second) ++ three_in a.divided)

abbrev pub actions_of : Acts → List Action
actions_of a = actions_in a.before ++ (actions_in a.between ++ (a.last.action ∷ []))

abbrev pub items_of : Acts → List Numbers
items_of a = items_in a.before ++ (items_in a.between ++ (last_item a ∷ []))

-- each at this span, the flags those of the last one
abbrev pub operations_at : Span → PinnedRow → List Operation
operations_at at r = lasting at r.flags (actions_of r.acts)

-- ---- what is found
-- no value of this kind is there
abbrev pub Nowhere : {A : Type 0} → (A → Type 0) → Type 0
Nowhere {A} P = (x : A) → P x → ⊥

-- actions of this kind with the numbers that they show; else none that can be encoded
abbrev pub FindsActs : (List Action → List Numbers → Type 0) → Option Acts → Type 0
FindsActs P o =
    FindsOr o (λ a. P (actions_of a) (items_of a))
    ((acts : List Action) (items : List Numbers) → P acts items → All CanEncode acts → ⊥)

-- and with flags
abbrev pub FindsRow : (Flags → List Action → List Numbers → Type 0) → Option PinnedRow → Type 0
FindsRow P o =
    FindsOr o (λ r. P r.flags (actions_of r.acts) (items_of r.acts))
    ((fl : Flags) (acts : List Action) (items : List Numbers)
    → P fl acts items → All CanEncode acts → ⊥)

-- ---- two operands
pub record AreOperands (home : Homes) (z : Size) (a b : Expr) (t : Operands) : Type 0 where
  pub first : IsArg home z a t.first.arg (leaks_of t.first.leaks)
  pub second : IsArg home z b t.second.arg (leaks_of t.second.leaks)

abbrev pub NeverOperands : Homes → Size → Expr → Expr → Type 0
NeverOperands home z a b =
    (x y : Arg) (p q : Leaks)
    → IsArg home z a x p → IsArg home z b y q → HasFields x → HasFields y → ⊥

-- the second one no number
pub record AreWords (home : Homes) (z : Size) (a b : Expr) (t : Operands) : Type 0 where
  pub both : AreOperands home z a b t
  pub no_number : NotImm t.second.arg

abbrev pub NeverWords : Homes → Size → Expr → Expr → Type 0
NeverWords home z a b =
    (x y : Arg) (p q : Leaks)
    → IsArg home z a x p → IsArg home z b y q → NotImm y → HasFields x → HasFields y → ⊥

-- ---- statements and conditions
-- the row of an assignment, wherever it stands
abbrev pub IsPinnedRow : Homes → List Lval → Option BinOp → Expr → Option Expr → PinnedRow → Type 0
IsPinnedRow home to o e c r =
    (at : Span) → LowersFlags home (assign to o e c at) (operations_at at r) (items_of r.acts)

abbrev pub NeverPinned : Homes → List Lval → Option BinOp → Expr → Option Expr → Type 0
NeverPinned home to o e c =
    (at : Span) (os : List Operation) (is : List Numbers)
    → LowersFlags home (assign to o e c at) os is → ⊥

-- it is no bool variable, denied or not
abbrev pub NeverFlag : Homes → Expr → Type 0
NeverFlag home e = (n : ℕ) (denied : Bool) → IsFlagCondition home e n denied → ⊥
