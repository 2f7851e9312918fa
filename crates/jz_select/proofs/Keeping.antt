-- A row that matches with the hardest answers matches with others: operands, rows and intrinsics.
use Rattle.std.proofs.Common.{◌≡◌, Bool, true, false, ◌&&◌, ◌||◌, not, Option, Some, None, refl, ap, ◌∙◌}
use Rattle.std.specs.Prelude.{if◌then◌else◌}
use Rattle.jz_words.specs.declared.size.Size.{Size}
use Rattle.jz_tree.specs.declared.expr.BinOp.{BinOp}
use Rattle.jz_tree.specs.declared.expr.BinOp.TheVariants as op
use Rattle.jz_tree.specs.declared.intrinsic.Intrinsic.{Intrinsic}
use Rattle.jz_tree.specs.declared.intrinsic.Intrinsic.TheVariants as name
use Rattle.jz_tree.specs.Operators.{divides}
use Rattle.jz_select.specs.declared.class.Class.{Class}
use Rattle.jz_select.specs.declared.class.Class.TheVariants as class
use Rattle.jz_select.specs.declared.class.Meeting.{Meeting}
use Rattle.jz_select.specs.declared.class.Operand.{Operand}
use Rattle.jz_select.specs.declared.pattern.Pattern.{Pattern}
use Rattle.jz_select.specs.declared.pattern.Pattern.TheVariants as pattern
use Rattle.jz_select.specs.declared.shape.Value.TheVariants as values
use Rattle.jz_select.specs.declared.shape.Shape.{Shape}
use Rattle.jz_select.specs.declared.shape.Shape.TheVariants as shapes
use Rattle.std.specs.Option.{option_or}
use Rattle.jz_select.specs.Rows.{is_rm, is_i, is_rmi, is_apart_from, computes, changes, sums, times, times_inline, is_product, is_quotient, shifts_inline, shifts_masked, masks, swaps, is_wide, is_long, is_longest, class_size, is_r, is_skip, is_flag, is_pinned, may_lead, are_inline, product_size, one_fits, two_fits, three_fits, named_if}
use Rattle.jz_select.specs.Selected.{table, first_of, pattern_named}

-- ---- tests
pub and_kept : (p b c : Bool) → (b ≡ true → c ≡ true) → (p && b) ≡ true → (p && c) ≡ true
and_kept true b c h e = h e
and_kept false b c h e = absurd cc

pub or_kept : (p b c : Bool) → (b ≡ true → c ≡ true) → (p || b) ≡ true → (p || c) ≡ true
or_kept true b c h e = refl
or_kept false b c h e = h e

either_kept : (a b c d : Bool) → (a ≡ true → c ≡ true) → (b ≡ true → d ≡ true) → (a || b) ≡ true → (c || d) ≡ true
either_kept true b c d f g e = ap (λ x. x || d) (f refl)
either_kept false b true d f g e = refl
either_kept false b false d f g e = g e

and_false : (p : Bool) → (p && false) ≡ false
and_false true = refl
and_false false = refl

none_some : (q : Pattern) → ◌≡◌ {A = Option Pattern} None (Some q) → ⊥
none_some q e = cc

-- ---- the first of some rows
pub one_row : (b c : Bool) (r q : Pattern) → (b ≡ true → c ≡ true) → (if b then Some r else None) ≡ Some q → (if c then Some r else None) ≡ Some q
one_row true c r q h e = ap (λ (x : Bool). if x then Some r else None) (h refl) ∙ e
one_row false c r q h e = absurd (none_some q e)

-- of two rows of which the second does not match where the first one does
two_rows : (b c s t : Bool) (r r' q : Pattern) → (b ≡ true → c ≡ true) → (s ≡ true → t ≡ true) → (c ≡ true → s ≡ false)
    → (if b then Some r else if s then Some r' else None) ≡ Some q → (if c then Some r else if t then Some r' else None) ≡ Some q
two_rows true c s t r r' q f g h e = ap (λ (x : Bool). if x then Some r else if t then Some r' else None) (f refl) ∙ e
two_rows false true true t r r' q f g h e = absurd (let clash : true ≡ false = h refl in cc)
two_rows false false true t r r' q f g h e = ap (λ (x : Bool). if x then Some r' else None) (g refl) ∙ e
two_rows false c false t r r' q f g h e = absurd (none_some q e)

past : (c : Bool) (r q : Pattern) (x y : Option Pattern) → (x ≡ Some q → y ≡ Some q) → (if c then Some r else x) ≡ Some q → (if c then Some r else y) ≡ Some q
past true r q x y h e = e
past false r q x y h e = h e

-- ---- classes
rm_not_i : (c : Class) → is_rm c ≡ true → is_i c ≡ false
rm_not_i (class.Reg z) e = refl
rm_not_i (class.Mem z) e = refl
rm_not_i class.Inline e = absurd cc
rm_not_i class.Flag e = refl
rm_not_i (class.Masked m) e = refl
rm_not_i class.Skip e = refl
rm_not_i class.Other e = refl

i_not_masked : (long : Bool) (c : Class) → is_i c ≡ true → masks long c ≡ false
i_not_masked long (class.Reg z) e = refl
i_not_masked long (class.Mem z) e = refl
i_not_masked long class.Inline e = refl
i_not_masked long class.Flag e = refl
i_not_masked long (class.Masked m) e = absurd cc
i_not_masked long class.Skip e = refl
i_not_masked long class.Other e = refl

pub second : (a b : Bool) → (a && b) ≡ true → b ≡ true
second true b e = e
second false b e = absurd cc

pub first : (a b : Bool) → (a && b) ≡ true → a ≡ true
first true b e = refl
first false b e = absurd cc

abbrev pub an : Class → Meeting → Operand
an c m = record { class = c; meeting = m }

-- the first row of the pattern table that matches the one matches the other
abbrev pub Goes : Shape → Shape → Type 0
Goes s t = (q : Pattern) → first_of table s ≡ Some q → first_of table t ≡ Some q

module _ (d a o : Class) (m n m' n' : Meeting)
    (computed : (swapped : Bool) → computes swapped d (an a m) (an o n) ≡ true → computes swapped d (an a m') (an o n') ≡ true)
    (changed : changes d (an a m) ≡ true → changes d (an a m') ≡ true) where
  sums_kept : (lead : Option Class) (swapped : Bool) → sums lead swapped d (an a m) (an o n) ≡ true → sums lead swapped d (an a m') (an o n') ≡ true
  sums_kept lead swapped =
      and_kept (may_lead lead) _ _ (and_kept (is_rmi o) _ _ (and_kept (not (are_inline (an a m) (an o n))) _ _ (computed swapped)))

  times_kept : times d (an a m) (an o n) ≡ true → times d (an a m') (an o n') ≡ true
  times_kept = and_kept (is_r d) _ _ (and_kept (is_wide (class_size d)) _ _ (and_kept (is_rm o) _ _ (computed (not (is_i a)))))

  pub product_kept : (z : Option Size) (h : Class) → is_product z h d (an a m) (an o n) ≡ true → is_product z h d (an a m') (an o n') ≡ true
  product_kept z h =
      and_kept (is_pinned h) _ _ (and_kept (is_long (product_size z h d (an a m) (an o n))) _ _
      (and_kept (is_rmi a) _ _ (and_kept (is_rm o) _ _ (or_kept (is_skip d) _ _ (and_kept (is_r d) _ _ (computed (not (is_i a))))))))

  inline_kept : shifts_inline d (an a m) (an o n) ≡ true → shifts_inline d (an a m') (an o n') ≡ true
  inline_kept = and_kept (is_i o) _ _ changed

  masked_kept : (z : Option Size) → shifts_masked z d (an a m) (an o n) ≡ true → shifts_masked z d (an a m') (an o n') ≡ true
  masked_kept z = and_kept (masks (is_longest (option_or z (option_or (class_size d) (class_size a)))) o) _ _ (computed false)

  -- a product is not one of an inline operand
  not_inline : times d (an a m') (an o n') ≡ true → times_inline d (an a m) (an o n) ≡ false
  not_inline e =
      let rest = second (is_wide (class_size d)) _ (second (is_r d) _ e) in
      let is_none : is_i o ≡ false = rm_not_i o (first (is_rm o) _ rest) in
      ap (λ i. is_r d && (is_wide (class_size d) && (is_rm a && i))) is_none
      ∙ (ap (λ x. is_r d && (is_wide (class_size d) && x)) (and_false (is_rm a))
      ∙ (ap (λ x. is_r d && x) (and_false (is_wide (class_size d))) ∙ and_false (is_r d)))

  not_masked : shifts_inline d (an a m') (an o n') ≡ true → shifts_masked None d (an a m) (an o n) ≡ false
  not_masked e = ap (λ x. x && computes false d (an a m) (an o n)) (i_not_masked _ o (first (is_i o) _ e))

  shift_goes : (q : Pattern)
      → (if shifts_inline d (an a m) (an o n) then Some (pattern.P 9) else if shifts_masked None d (an a m) (an o n) then Some (pattern.P 10) else None) ≡ Some q
      → (if shifts_inline d (an a m') (an o n') then Some (pattern.P 9) else if shifts_masked None d (an a m') (an o n') then Some (pattern.P 10) else None) ≡ Some q
  shift_goes q e = two_rows _ _ _ _ _ _ q inline_kept (masked_kept None) not_masked e

  -- ---- the rows of an operation of two operands but for a quotient
  alone_goes : (w : Class) (p : BinOp) → divides p ≡ false → Goes (shapes.Assign None d w (values.Two p (an a m) (an o n))) (shapes.Assign None d w (values.Two p (an a m') (an o n')))
  alone_goes w op.Add h q e = past _ _ q _ _ (λ x. one_row _ _ _ q (sums_kept None true) x) e
  alone_goes w op.Sub h q e = past _ _ q _ _ (λ x. one_row _ _ _ q (sums_kept None false) x) e
  alone_goes w op.And h q e = past _ _ q _ _ (λ x. one_row _ _ _ q (sums_kept None true) x) e
  alone_goes w op.Or h q e = past _ _ q _ _ (λ x. one_row _ _ _ q (sums_kept None true) x) e
  alone_goes w op.Xor h q e = past _ _ q _ _ (λ x. one_row _ _ _ q (sums_kept None true) x) e
  alone_goes w op.Mul h q e = past _ _ q _ _ (λ x. two_rows _ _ _ _ _ _ q times_kept (λ i. i) not_inline x) e
  alone_goes w op.Shl h q e = past _ _ q _ _ (λ x. shift_goes q x) e
  alone_goes w op.Shr h q e = past _ _ q _ _ (λ x. shift_goes q x) e
  alone_goes w op.Sar h q e = past _ _ q _ _ (λ x. shift_goes q x) e
  alone_goes w op.Rol h q e = past _ _ q _ _ (λ x. shift_goes q x) e
  alone_goes w op.Ror h q e = past _ _ q _ _ (λ x. shift_goes q x) e
  alone_goes w op.Div h q e = absurd cc
  alone_goes w op.Rem h q e = absurd cc
  alone_goes w op.DivS h q e = absurd cc
  alone_goes w op.RemS h q e = absurd cc
  alone_goes w _ h q e = e

  behind_goes : (x w : Class) (p : BinOp) → Goes (shapes.Assign (Some x) d w (values.Two p (an a m) (an o n))) (shapes.Assign (Some x) d w (values.Two p (an a m') (an o n')))
  behind_goes x w op.Add q e = one_row _ _ _ q (sums_kept (Some x) true) e
  behind_goes x w op.Sub q e = one_row _ _ _ q (sums_kept (Some x) false) e
  behind_goes x w op.Mul q e = one_row _ _ _ q (product_kept None x) e
  behind_goes x w _ q e = e

  pub two_goes : (lead : Option Class) (w : Class) (p : BinOp) → divides p ≡ false → Goes (shapes.Assign lead d w (values.Two p (an a m) (an o n))) (shapes.Assign lead d w (values.Two p (an a m') (an o n')))
  two_goes None w p h q e = alone_goes w p h q e
  two_goes (Some x) w p h q e = behind_goes x w p q e

  pub carry_goes : (lead : Option Class) (w : Class) (p : BinOp) → Goes (shapes.Assign lead d w (values.Carry p (an a m) (an o n))) (shapes.Assign lead d w (values.Carry p (an a m') (an o n')))
  carry_goes None w p q e = past _ _ q _ _ (λ x. one_row _ _ _ q (sums_kept None (swaps p)) x) e
  carry_goes (Some x) w p q e = one_row _ _ _ q (sums_kept (Some x) (swaps p)) e

  -- ---- intrinsics
  plain_kept : (swapped : Bool) → (is_rmi o && computes swapped d (an a m) (an o n)) ≡ true → (is_rmi o && computes swapped d (an a m') (an o n')) ≡ true
  plain_kept swapped = and_kept (is_rmi o) _ _ (computed swapped)

  shift_kept : (z : Option Size) → (shifts_inline d (an a m) (an o n) || shifts_masked z d (an a m) (an o n)) ≡ true → (shifts_inline d (an a m') (an o n') || shifts_masked z d (an a m') (an o n')) ≡ true
  shift_kept z = either_kept _ _ _ _ inline_kept (masked_kept z)

  pub two_kept : (i : Intrinsic) (z : Option Size) → two_fits i z d (an a m) (an o n) ≡ true → two_fits i z d (an a m') (an o n') ≡ true
  two_kept name.Add z e = plain_kept true e
  two_kept name.And z e = plain_kept true e
  two_kept name.Or z e = plain_kept true e
  two_kept name.Xor z e = plain_kept true e
  two_kept name.Sub z e = plain_kept false e
  two_kept name.Imul z e = either_kept _ _ _ _ times_kept (λ i. i) e
  two_kept name.Shl z e = shift_kept z e
  two_kept name.Shr z e = shift_kept z e
  two_kept name.Sar z e = shift_kept z e
  two_kept name.Rol z e = shift_kept z e
  two_kept name.Ror z e = shift_kept z e
  two_kept _ z e = e

  pub three_kept : (i : Intrinsic) (c : Class) → three_fits i d (an a m) (an o n) c ≡ true → three_fits i d (an a m') (an o n') c ≡ true
  three_kept name.Adc c e = and_kept (is_flag c) _ _ (plain_kept true) e
  three_kept name.Sbb c e = and_kept (is_flag c) _ _ (plain_kept false) e
  three_kept _ c e = e

-- ---- one operand
module _ (d a : Class) (m m' : Meeting) (changed : changes d (an a m) ≡ true → changes d (an a m') ≡ true) where
  pub one_goes : (lead : Option Class) (w : Class) → Goes (shapes.Assign lead d w (values.One (an a m))) (shapes.Assign lead d w (values.One (an a m')))
  one_goes None w q e = past _ _ q _ _ (λ x. one_row _ _ _ q changed x) e
  one_goes (Some x) w q e = e

  pub one_kept : (i : Intrinsic) (z : Option Size) → one_fits i z d (an a m) ≡ true → one_fits i z d (an a m') ≡ true
  one_kept name.Neg z e = changed e
  one_kept name.Inc z e = changed e
  one_kept name.Dec z e = changed e
  one_kept name.Not z e = changed e
  one_kept name.Bswap z e = and_kept (is_r d) _ _ (and_kept (is_long (option_or z (class_size d))) _ _ changed) e
  one_kept _ z e = e

-- ---- quotients
module _ (d a o : Class) (m n m' n' : Meeting) (apart : is_apart_from n ≡ true → is_apart_from n' ≡ true) where
  quotient_kept : is_quotient d (an a m) (an o n) ≡ true → is_quotient d (an a m') (an o n') ≡ true
  quotient_kept = and_kept (is_r d) _ _ (and_kept (is_long (class_size d)) _ _ (and_kept (is_rmi a) _ _ (and_kept (is_rm o) _ _ apart)))

  quotient_alone : (w : Class) (p : BinOp) → divides p ≡ true → Goes (shapes.Assign None d w (values.Two p (an a m) (an o n))) (shapes.Assign None d w (values.Two p (an a m') (an o n')))
  quotient_alone w op.Div h q e = past _ _ q _ _ (λ x. one_row _ _ _ q quotient_kept x) e
  quotient_alone w op.Rem h q e = past _ _ q _ _ (λ x. one_row _ _ _ q quotient_kept x) e
  quotient_alone w op.DivS h q e = past _ _ q _ _ (λ x. one_row _ _ _ q quotient_kept x) e
  quotient_alone w op.RemS h q e = past _ _ q _ _ (λ x. one_row _ _ _ q quotient_kept x) e
  quotient_alone w _ h q e = absurd cc

  quotient_behind : (x w : Class) (p : BinOp) → divides p ≡ true → Goes (shapes.Assign (Some x) d w (values.Two p (an a m) (an o n))) (shapes.Assign (Some x) d w (values.Two p (an a m') (an o n')))
  quotient_behind x w op.Div h q e = e
  quotient_behind x w op.Rem h q e = e
  quotient_behind x w op.DivS h q e = e
  quotient_behind x w op.RemS h q e = e
  quotient_behind x w _ h q e = absurd cc

  pub quotient_goes : (lead : Option Class) (w : Class) (p : BinOp) → divides p ≡ true → Goes (shapes.Assign lead d w (values.Two p (an a m) (an o n))) (shapes.Assign lead d w (values.Two p (an a m') (an o n')))
  quotient_goes None w p h q e = quotient_alone w p h q e
  quotient_goes (Some x) w p h q e = quotient_behind x w p h q e

-- ---- the intrinsic that a statement is
pub named_kept : (i : Intrinsic) (b c : Bool) → (b ≡ true → c ≡ true) → (q : Pattern) → pattern_named (named_if i b) ≡ Some q → pattern_named (named_if i c) ≡ Some q
named_kept i true c h q e = ap (λ x. pattern_named (named_if i x)) (h refl) ∙ e
named_kept i false c h q e = absurd (none_some q e)
