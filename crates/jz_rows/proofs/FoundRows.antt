-- What a function finds of one form of assignment, as what is found of any.
use Rattle.std.proofs.Common.{◌≡◌, ℕ, Bool, true, false, Option, sym, ap, ◌∙◌, subst, ℤ, pos}
use Rattle.jz_words.specs.declared.size.Size.{Size}
use Rattle.jz_tree.specs.Span.{Span}
use Rattle.jz_tree.specs.Operators.{is_shift}
use Rattle.jz_tree.specs.declared.expr.Access.{Access}
use Rattle.jz_tree.specs.declared.expr.BinOp.{BinOp}
use Rattle.jz_tree.specs.declared.expr.BinOp.TheVariants as op
use Rattle.jz_tree.specs.declared.expr.Expr.{Expr}
use Rattle.jz_tree.specs.declared.expr.Expr.TheVariants as expr
use Rattle.jz_tree.specs.declared.expr.Expr.TheOpen.{Expr-F}
use Rattle.jz_tree.specs.declared.expr.Expr.TheViews.{out-Expr}
use Rattle.jz_tree.specs.declared.expr.Var.{Var}
use Rattle.jz_type_names.specs.Kinds.{same_size}
use Rattle.jz_operations.specs.declared.operation.Arg.TheVariants as arg
use Rattle.jz_homes.specs.Operands.{silent, IsDest}
use Rattle.jz_row_operations.specs.Rows.{IsCarryOp, mask_of}
use Rattle.jz_one_row.proofs.Outs.{out_cell, out_load, out_num, out_var}
use Rattle.jz_one_row.proofs.Operands.{one_dest}
use Rattle.jz_operands.specs.declared.operands.Leaks.TheVariants.{Silent}
use Rattle.jz_operands.specs.declared.operands.Operand.{Operand}
use Rattle.jz_operands.specs.TableHomes.{homes_of, leaks_of}
use Rattle.jz_operands.specs.Refusals.{FindsOr}
use Rattle.jz_operands.proofs.OperandLemmas.{size_one}
use Rattle.jz_operands.proofs.SumLemmas.{for_found}
use Rattle.jz_rows.specs.declared.row.Row.{Row}
use Rattle.jz_rows.specs.declared.targets.Target.{Target}
use Rattle.jz_rows.specs.Found.{IsRow, Rule, Moves, Sums, Carries, Signs, Times, TimesBy, Shifts, ShiftsBy, Extends, Lowest, NeverBy, NeverRow}
use Rattle.jz_rows.proofs.RowRules.{FoundDest, silent_is, second_number, second_bin, other_operator, first_bin, other_inner, lowest_signed, other_cast}
use Rattle.jz_rows.proofs.Dispatch.{operand_never, truth_never, minus_never, denial_never, cast_never, shift_never, sum_never, product_never}
use Rattle.jz_rows.proofs.RowLemmas.{register_is, size_differs}

-- a row, or none of a kind, or of two
abbrev pub Finds : Target → Expr → Option Row → Type 0 → Type 0
Finds t e o none = FindsOr o (IsRow t e) none

abbrev pub FindsBy : Rule → Target → Expr → Option Row → Type 0
FindsBy r t e o = Finds t e o (NeverBy r t e)

abbrev pub FindsBoth : Rule → Rule → Target → Expr → Option Row → Type 0
FindsBoth q r t e o = Finds t e o (NeverBy q t e × NeverBy r t e)

abbrev pub FindsAny : Target → Expr → Option Row → Type 0
FindsAny t e o = Finds t e o (NeverRow t e)

module _ (t : Target) (o : Option Row) where
  -- ---- shifts
  pub number_finds : (p : BinOp) (a g : Expr) (i j : ℤ) (there at : Span) → g ≡ expr.Num i there → j ≡ i → FindsBy Shifts t (expr.Bin p a (expr.Num j there) at) o → FindsBoth Shifts ShiftsBy t (expr.Bin p a g at) o
  number_finds p a g i j there at is same h =
      subst (λ x. FindsBoth Shifts ShiftsBy t (expr.Bin p a x at) o) (ap (λ k. expr.Num k there) same ∙ sym is)
      (for_found o (λ r row. row) (λ none. (none, second_number t p a j there at)) h)

  pub masked_finds : (p b : BinOp) (a g u m u2 m2 : Expr) (inner at : Span) → g ≡ expr.Bin b u m inner → b ≡ op.And → u2 ≡ u → m2 ≡ m → FindsBy ShiftsBy t (expr.Bin p a (expr.Bin op.And u2 m2 inner) at) o → FindsBoth Shifts ShiftsBy t (expr.Bin p a g at) o
  masked_finds p b a g u m u2 m2 inner at is both first second h =
      subst (λ x. FindsBoth Shifts ShiftsBy t (expr.Bin p a x at) o) (ap (λ x. expr.Bin op.And x m2 inner) first ∙ ap (λ x. expr.Bin op.And u x inner) second ∙ ap (λ x. expr.Bin x u m inner) (sym both) ∙ sym is)
      (for_found o (λ r row. row) (λ none. (second_bin t p op.And a u2 m2 inner at, none)) h)

  -- ---- sums
  pub sum_finds : (p : BinOp) (a c : Expr) (at : Span) → NeverBy Carries t (expr.Bin p a c at) → FindsBy Sums t (expr.Bin p a c at) o → FindsBoth Sums Carries t (expr.Bin p a c at) o
  sum_finds p a c at none h = for_found o (λ r row. row) (λ no_sum. (no_sum, none)) h

  pub carried_finds : (p b : BinOp) (a c u m u2 m2 : Expr) (inner at : Span) → a ≡ expr.Bin b u m inner → p ≡ b → u2 ≡ u → m2 ≡ m → FindsBy Carries t (expr.Bin p (expr.Bin p u2 m2 inner) c at) o → FindsBoth Sums Carries t (expr.Bin p a c at) o
  carried_finds p b a c u m u2 m2 inner at is both first second h =
      subst (λ x. FindsBoth Sums Carries t (expr.Bin p x c at) o) (ap (λ x. expr.Bin p x m2 inner) first ∙ ap (λ x. expr.Bin p u x inner) second ∙ ap (λ x. expr.Bin x u m inner) both ∙ sym is)
      (for_found o (λ r row. row) (λ none. (first_bin t p p u2 m2 c inner at, none)) h)

  -- ---- casts
  pub cast_finds : (z : Size) (s : Bool) (a : Expr) (at : Span) → same_size z t.size ≡ true → s ≡ false → NeverBy Extends t (expr.Cast t.size s a at) → FindsBy Lowest t (expr.Cast t.size false a at) o → FindsBoth Extends Lowest t (expr.Cast z s a at) o
  cast_finds z s a at e unsigned none h =
      subst (λ y. FindsBoth Extends Lowest t (expr.Cast y s a at) o) (sym (size_one z t.size e))
      (for_found o (λ r row. subst (λ b. IsRow t (expr.Cast t.size b a at) r) (sym unsigned) row) (λ no. (none, subst (λ b. NeverBy Lowest t (expr.Cast t.size b a at)) (sym unsigned) no)) h)

  -- ---- any
  pub num_finds : (e : Expr) (i : ℤ) (at : Span) → e ≡ expr.Num i at → FindsBy Moves t e o → FindsAny t e o
  num_finds e i at is h = for_found o (λ r row. row) (λ none. operand_never t e (Expr-F.Num i at) (ap out-Expr is ∙ out_num i at) tt none) h

  pub var_finds : (e : Expr) (v : Var) → e ≡ expr.Var v → FindsBy Moves t e o → FindsAny t e o
  var_finds e v is h = for_found o (λ r row. row) (λ none. operand_never t e (Expr-F.Var v) (ap out-Expr is ∙ out_var v) tt none) h

  pub cell_finds : (e : Expr) (v : Var) (i : Expr) → e ≡ expr.Cell v i → FindsBy Moves t e o → FindsAny t e o
  cell_finds e v i is h = for_found o (λ r row. row) (λ none. operand_never t e (Expr-F.Cell v i) (ap out-Expr is ∙ out_cell v i) tt none) h

  pub load_finds : (e : Expr) (a : Access) → e ≡ expr.Load a → FindsBy Moves t e o → FindsAny t e o
  load_finds e a is h = for_found o (λ r row. row) (λ none. operand_never t e (Expr-F.Load a) (ap out-Expr is ∙ out_load a) tt none) h

  pub minus_finds : (e a : Expr) (at : Span) → e ≡ expr.Neg a at → FindsBy Signs t e o → FindsAny t e o
  minus_finds e a at is h = for_found o (λ r row. row) (λ none. subst (NeverRow t) (sym is) (minus_never t a at (subst (NeverBy Signs t) is none))) h

  pub denial_finds : (e a : Expr) (at : Span) → e ≡ expr.Not a at → FindsBy Signs t e o → FindsAny t e o
  denial_finds e a at is h = for_found o (λ r row. row) (λ none. subst (NeverRow t) (sym is) (denial_never t a at (subst (NeverBy Signs t) is none))) h

  pub any_cast : (e : Expr) (z : Size) (s : Bool) (a b : Expr) (at : Span) → e ≡ expr.Cast z s a at → b ≡ a → FindsBoth Extends Lowest t (expr.Cast z s b at) o → FindsAny t e o
  any_cast e z s a b at is same h =
      subst (λ x. FindsAny t x o) (ap (λ x. expr.Cast z s x at) same ∙ sym is) (for_found o (λ r row. row) (λ none. cast_never t z s b at none) h)

  pub any_bin : (e : Expr) (p : BinOp) (a c a2 c2 : Expr) (at : Span) → e ≡ expr.Bin p a c at → a2 ≡ a → c2 ≡ c → FindsAny t (expr.Bin p a2 c2 at) o → FindsAny t e o
  any_bin e p a c a2 c2 at is first second h = subst (λ x. FindsAny t x o) (ap (λ x. expr.Bin p x c2 at) first ∙ ap (λ x. expr.Bin p a x at) second ∙ sym is) h

  -- operations on two operands
  pub any_shift : (p : BinOp) (a c : Expr) (at : Span) → is_shift p ≡ true → FindsBoth Shifts ShiftsBy t (expr.Bin p a c at) o → FindsAny t (expr.Bin p a c at) o
  any_shift p a c at is h = for_found o (λ r row. row) (λ none. shift_never t p a c at is none) h

  pub any_product : (p : BinOp) (a c : Expr) (at : Span) → p ≡ op.Mul → FindsBoth Times TimesBy t (expr.Bin op.Mul a c at) o → FindsAny t (expr.Bin p a c at) o
  any_product p a c at is h = subst (λ q. FindsAny t (expr.Bin q a c at) o) (sym is) (for_found o (λ r row. row) (λ none. product_never t a c at none) h)

  pub any_sum : (p : BinOp) (a c : Expr) (at : Span) → is_shift p ≡ false → (p ≡ op.Mul → ⊥) → FindsBoth Sums Carries t (expr.Bin p a c at) o → FindsAny t (expr.Bin p a c at) o
  any_sum p a c at is other h = for_found o (λ r row. row) (λ none. sum_never t p a c at is other none) h

module _ (t : Target) (o : Option Row) where
  -- ---- a flag behind a sum, a variable with its mask
  pub flag_finds : (p : BinOp) (sum c : Expr) (f : Var) (at : Span) → c ≡ expr.Var f → FindsBy Carries t (expr.Bin p sum (expr.Var f) at) o → FindsBy Carries t (expr.Bin p sum c at) o
  flag_finds p sum c f at is h = subst (λ x. FindsBy Carries t (expr.Bin p sum x at) o) (sym is) h

  pub variable_finds : (p : BinOp) (a u m : Expr) (v : Var) (i : ℤ) (there inner at : Span) → u ≡ expr.Var v → m ≡ expr.Num i there → i ≡ pos (mask_of t.size)
      → FindsBy ShiftsBy t (expr.Bin p a (expr.Bin op.And (expr.Var v) (expr.Num (pos (mask_of t.size)) there) inner) at) o → FindsBy ShiftsBy t (expr.Bin p a (expr.Bin op.And u m inner) at) o
  variable_finds p a u m v i there inner at first second same h =
      subst (λ x. FindsBy ShiftsBy t (expr.Bin p a x at) o)
      (ap (λ x. expr.Bin op.And x (expr.Num (pos (mask_of t.size)) there) inner) (sym first) ∙ ap (λ j. expr.Bin op.And u (expr.Num j there) inner) (sym same) ∙ ap (λ x. expr.Bin op.And u x inner) (sym second)) h

-- the variable that a left side is
pub register_found : (t : Target) (x : Operand) (o : Option ℕ) → FoundDest t x → FindsOr o (λ n. (x.arg ≡ arg.Var n) × (x.leaks ≡ Silent)) ((n : ℕ) → x.arg ≡ arg.Var n → x.leaks ≡ Silent → ⊥)
    → FindsOr o (λ n. IsDest (homes_of t.homes.now) t.size t.to.now (arg.Var n) silent) ((n : ℕ) → IsDest (homes_of t.homes.now) t.size t.to.now (arg.Var n) silent → ⊥)
register_found t x o f h =
    for_found o (λ n e. register_is x n f e.0 e.1)
    (λ none n d. let s = one_dest (homes_of t.homes.now) t.size t.to.now x.arg (arg.Var n) (leaks_of x.leaks) silent f d in none n s.0 (silent_is x.leaks s.1)) h

module _ (t : Target) where
  -- ---- nothing is found
  pub unmasked : (p b : BinOp) (a g u m : Expr) (inner at : Span) → g ≡ expr.Bin b u m inner → (b ≡ op.And → ⊥) → NeverBy Shifts t (expr.Bin p a g at) × NeverBy ShiftsBy t (expr.Bin p a g at)
  unmasked p b a g u m inner at is none =
      subst (λ x. NeverBy Shifts t (expr.Bin p a x at) × NeverBy ShiftsBy t (expr.Bin p a x at)) (sym is) (second_bin t p b a u m inner at, other_operator t p a u m inner at b none)

  pub uncarried : (p b : BinOp) (a c u m : Expr) (inner at : Span) → a ≡ expr.Bin b u m inner → (p ≡ b → IsCarryOp p → ⊥) → NeverBy Sums t (expr.Bin p a c at) × NeverBy Carries t (expr.Bin p a c at)
  uncarried p b a c u m inner at is none =
      subst (λ x. NeverBy Sums t (expr.Bin p x c at) × NeverBy Carries t (expr.Bin p x c at)) (sym is) (first_bin t p b u m c inner at, other_inner t p b u m c inner at none)

  pub truth_row : (e : Expr) (b : Bool) (at : Span) → e ≡ expr.Bool b at → NeverRow t e
  truth_row e b at is = subst (NeverRow t) (sym is) (truth_never t b at)

  pub signed_cast : (z : Size) (s : Bool) (a : Expr) (at : Span) → same_size z t.size ≡ true → s ≡ true → NeverBy Extends t (expr.Cast t.size s a at) → NeverBy Extends t (expr.Cast z s a at) × NeverBy Lowest t (expr.Cast z s a at)
  signed_cast z s a at e signed none = subst (λ y. NeverBy Extends t (expr.Cast y s a at) × NeverBy Lowest t (expr.Cast y s a at)) (sym (size_one z t.size e)) (none, lowest_signed t s a at signed)

  pub unequal_cast : (z : Size) (s : Bool) (a : Expr) (at : Span) → same_size z t.size ≡ false → NeverBy Extends t (expr.Cast z s a at) × NeverBy Lowest t (expr.Cast z s a at)
  unequal_cast z s a at e = other_cast t z s a at (size_differs z t.size e)

  pub cast_is : (z : Size) (s : Bool) (a : Expr) (at : Span) (r : Row) → same_size z t.size ≡ true → IsRow t (expr.Cast t.size s a at) r → IsRow t (expr.Cast z s a at) r
  cast_is z s a at r e row = subst (λ y. IsRow t (expr.Cast y s a at) r) (sym (size_one z t.size e)) row
