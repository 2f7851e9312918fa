-- What stands for an operand of a class: a variable, an access or a cell, a number.
use Rattle.std.proofs.Common.{◌≡◌, ℕ, ℤ, Bool, true, false, not, ◌&&◌, Option, refl, sym, ap, ◌∙◌}
use Rattle.std.proofs.lemmas.Bool.{false≢true}
use Rattle.jz_words.specs.declared.size.Size.{Size}
use Rattle.jz_select.specs.declared.class.Class.{Class}
use Rattle.jz_select.specs.declared.class.Class.TheVariants as class
use Rattle.jz_select.specs.Rows.{is_r, is_m, is_i, is_rm}
use Rattle.jz_operations.specs.declared.operation.Address.{Address}
use Rattle.jz_operations.specs.declared.operation.Cell.{Cell}
use Rattle.jz_operations.specs.declared.operation.Arg.{Arg}
use Rattle.jz_operations.specs.declared.operation.Arg.TheVariants as arg
use Rattle.jz_row_operations.specs.Table.{is_imm}
use Rattle.jz_total_rows.proofs.Fits.{is_place, is_kept}

pub data Stands : Class → Arg → Type 0 where
  in_variable : (z : Size) (n : ℕ) → Stands (class.Reg z) (arg.Var n)
  in_memory : (z : Option Size) (m : Address) → Stands (class.Mem z) (arg.Mem m)
  in_frame : (z : Option Size) (c : Cell) → Stands (class.Mem z) (arg.Cell c)
  as_number : (i : ℤ) → Stands class.Inline (arg.Imm i)

abbrev pub is_variable : Arg → Bool
is_variable (arg.Var v) = true
is_variable _ = false

pub stands_r : {c : Class} {x : Arg} → Stands c x → is_r c ≡ is_variable x
stands_r (in_variable z n) = refl
stands_r (in_memory z m) = refl
stands_r (in_frame z c) = refl
stands_r (as_number i) = refl

pub stands_m : {c : Class} {x : Arg} → Stands c x → is_m c ≡ is_kept x
stands_m (in_variable z n) = refl
stands_m (in_memory z m) = refl
stands_m (in_frame z c) = refl
stands_m (as_number i) = refl

pub stands_i : {c : Class} {x : Arg} → Stands c x → is_i c ≡ is_imm x
stands_i (in_variable z n) = refl
stands_i (in_memory z m) = refl
stands_i (in_frame z c) = refl
stands_i (as_number i) = refl

pub stands_place : {c : Class} {x : Arg} → Stands c x → is_rm c ≡ true → is_place x ≡ true
stands_place (in_variable z n) h = refl
stands_place (in_memory z m) h = refl
stands_place (in_frame z c) h = refl
stands_place (as_number i) h = absurd (false≢true h)

-- the variable that stands for a register
pub variable_of : {c : Class} {x : Arg} → Stands c x → is_r c ≡ true → (n : ℕ) × (x ≡ arg.Var n)
variable_of (in_variable z n) h = (n, refl)
variable_of (in_memory z m) h = absurd (false≢true h)
variable_of (in_frame z c) h = absurd (false≢true h)
variable_of (as_number i) h = absurd (false≢true h)

pub number_of : {c : Class} {x : Arg} → Stands c x → is_i c ≡ true → (i : ℤ) × (x ≡ arg.Imm i)
number_of (in_variable z n) h = absurd (false≢true h)
number_of (in_memory z m) h = absurd (false≢true h)
number_of (in_frame z c) h = absurd (false≢true h)
number_of (as_number i) h = (i, refl)

-- of two operands that are not both in memory one is outside
not_true : (b : Bool) → not b ≡ true → b ≡ false
not_true true h = absurd (false≢true h)
not_true false h = refl

pub kept_both : {c e : Class} {b x : Arg} → Stands c b → Stands e x → not (is_m c && is_m e) ≡ true → (is_kept b && is_kept x) ≡ false
kept_both {c} {e} {b} {x} s t h = sym (ap (λ k. k && is_kept x) (stands_m s)) ∙ (sym (ap (λ k. is_m c && k) (stands_m t)) ∙ not_true (is_m c && is_m e) h)
