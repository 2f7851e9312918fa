-- Left sides that take flags, and words in RAX and RDX.
use Rattle.std.proofs.Common.{◌≡◌, ℕ, Bool, true, List, [], ◌∷◌, ◌++◌, Option, Some, None, sym, ap, ◌∙◌}
use Rattle.std.specs.Prelude.{IsFalse}
use Rattle.jz_io.specs.declared.span.Span.{Span}
use Rattle.jz_words.specs.declared.size.Size.{Size}
use Rattle.x64_insn.specs.declared.types.FlagVal.{FlagVal}
use Rattle.x64_insn.specs.declared.types.Place.{Place}
use Rattle.x64_insn.specs.declared.types.Place.TheVariants as place
use Rattle.x64_insn.specs.declared.types.Reg.TheVariants as reg
use Rattle.x64_insn.specs.declared.types.Wide.{Wide}
use Rattle.jz_tree.specs.declared.stmt.Lval.{Lval}
use Rattle.jz_ir.specs.declared.code.Need.{Need}
use Rattle.jz_ir.specs.Paths.{among}
use Rattle.jz_meaning.specs.States.{Value}
use Rattle.jz_meaning.specs.Intrinsics.{flag_result}
use Rattle.jz_operations.specs.declared.operation.Pinned.{Pinned}
use Rattle.jz_operations.specs.declared.operation.Arg.{Arg}
use Rattle.jz_operations.specs.declared.operation.Action.TheVariants as action
use Rattle.jz_operations.specs.declared.operation.Flags.{Flags}
use Rattle.jz_operations.specs.Rows.{inputs, outputs, changes, flags_of}
use Rattle.jz_operations.specs.Reading.{is_var, found_by, five_flags, need_at, input_needs, output_needs, asked_needs, flag_needs, needs_of}
use Rattle.jz_operations.specs.Standing.{NeedsMet}
use Rattle.jz_operations.specs.Values as over
use Rattle.jz_homes.specs.Homes.{Homes}
use Rattle.jz_flag_rows.specs.Results.{IsFlag}
use Rattle.jz_row_operations.proofs.SameArgs.{not_true}
use Rattle.jz_flag_rows.specs.Wide.{is_apart}

-- the left sides that take flags, the variables of the five flags, which of them are written, with what, and the results of the source
pub data AreFlags (home : Homes) : List Lval → List (Option Pinned) → List Bool → List FlagVal → List (Option Value) → Type 0 where
  no_more : AreFlags home [] [] [] [] []
  taken : {ls : List Lval} {ps : List (Option Pinned)} {cs : List Bool} {fs : List FlagVal} {vs : List (Option Value)} (l : Lval) (p : Option Pinned) (f : FlagVal) → IsFlag home l p → AreFlags home ls ps cs fs vs → AreFlags home (l ∷ ls) (p ∷ ps) (true ∷ cs) (f ∷ fs) (flag_result f ∷ vs)
  unlisted : {ls : List Lval} {ps : List (Option Pinned)} {cs : List Bool} {fs : List FlagVal} {vs : List (Option Value)} (c : Bool) (f : FlagVal) → AreFlags home ls ps cs fs vs → AreFlags home ls (None ∷ ps) (c ∷ cs) (f ∷ fs) vs
  -- the source unsets it, whatever the operation leaves
  unset : {ls : List Lval} {ps : List (Option Pinned)} {cs : List Bool} {fs : List FlagVal} {vs : List (Option Value)} (l : Lval) (p : Option Pinned) (f : FlagVal) → IsFlag home l p → AreFlags home ls ps cs fs vs → AreFlags home (l ∷ ls) (p ∷ ps) (true ∷ cs) (f ∷ fs) (None ∷ vs)

-- two pinned variables are not one
abbrev pub AreApart : Option Pinned → Option Pinned → Type 0
AreApart (Some p) (Some q) = p.variable ≡ q.variable → ⊥
AreApart _ _ = Unit {0}

abbrev pub set_pinned : Option Pinned → Size → ℕ → (ℕ → Option over.Value) → ℕ → Option over.Value
set_pinned None z n vars = vars
set_pinned (Some p) z n vars = over.set_var p.variable (Some (over.word z n)) vars

-- the variable stands nowhere in the operand
abbrev pub IsFreeOf : Option Pinned → Arg → Type 0
IsFreeOf None y = Unit {0}
IsFreeOf (Some p) y = IsFalse (among (is_var y ++ found_by y) p.variable)

pub free_of : (p : Option Pinned) (y : Arg) → is_apart p y ≡ true → IsFreeOf p y
free_of None y e = tt
free_of (Some p) y e = not_true _ e

-- ---- one variable is in no two registers
needs_front : (places : ℕ → Place) (ks ls : List Need) → NeedsMet places (ks ++ ls) → NeedsMet places ks
needs_front places [] ls h = tt
needs_front places (k ∷ ks) ls h = (h.0, needs_front places ks ls h.1)

needs_back : (places : ℕ → Place) (ks ls : List Need) → NeedsMet places (ks ++ ls) → NeedsMet places ls
needs_back places [] ls h = h
needs_back places (k ∷ ks) ls h = needs_back places ks ls h.1

met_apart : (places : ℕ → Place) (p q : Option Pinned) → NeedsMet places (need_at (place.Reg reg.Rax) p ++ (need_at (place.Reg reg.Rdx) q ++ [])) → AreApart p q
met_apart places None None h = tt
met_apart places None (Some q) h = tt
met_apart places (Some p) None h = tt
met_apart places (Some p) (Some q) h = λ e. let both : place.Reg reg.Rax ≡ place.Reg reg.Rdx = sym h.0 ∙ ap places e ∙ h.1.0 in cc

pub wide_apart : (places : ℕ → Place) (at : Span) (fl : Flags) (op : Wide) (z : Size) (l h : Option Pinned) (y : Arg) → NeedsMet places (needs_of (record { span = at; action = action.Wide op z l h y; flags = fl })) → AreApart l h
wide_apart places at fl op z l h y m =
    let act = action.Wide op z l h y in
    met_apart places l h (needs_front places (output_needs (outputs act)) (asked_needs act ++ flag_needs (flags_of fl) (changes act) five_flags) (needs_back places (input_needs (inputs act)) (output_needs (outputs act) ++ (asked_needs act ++ flag_needs (flags_of fl) (changes act) five_flags)) m))

pub turned_apart : (p q : Option Pinned) → AreApart p q → AreApart q p
turned_apart None None h = tt
turned_apart None (Some q) h = tt
turned_apart (Some p) None h = tt
turned_apart (Some p) (Some q) h = λ e. h (sym e)
