-- A row of two results that matches before matches behind.
use Rattle.std.proofs.Common.{◌≡◌, inl, inr, Bool, true, false, ◌&&◌, ◌||◌, not, Option, Some, None, refl, sym, ap, ◌∙◌}
use Rattle.std.specs.Prelude.{◌⊎◌}
use Rattle.std.specs.Option.{option_or}
use Rattle.std.proofs.lemmas.Bool.{false≢true, and_parts, and_from}
use Rattle.jz_tree.specs.Size.{Size}
use Rattle.jz_tree.specs.declared.expr.BinOp.{BinOp}
use Rattle.jz_select.specs.declared.class.Class.{Class}
use Rattle.jz_select.specs.declared.class.Operand.{Operand}
use Rattle.jz_select.specs.declared.shape.Value.{Value}
use Rattle.jz_select.specs.declared.shape.Value.TheVariants as values
use Rattle.jz_select.specs.declared.shape.Shape as rowed
use Rattle.jz_select.specs.declared.shape.Shape.TheVariants as shapes
use Rattle.jz_select.specs.Rows.{is_r, is_i, is_rm, is_rmi, is_skip, is_pinned, is_long, is_flag_result, class_size, adds, joins_bits, multiplies, swaps, computes, are_inline, product_size, is_product, arithmetic_row, carrying_row, wide_product_row}
use Rattle.jz_row_laws.proofs.Booleans.{or_parts, or_left, or_right}
use Rattle.jz_row_laws.proofs.Copied.{Matches}
use Rattle.jz_kept_classes.specs.Classes.{KeepsClass}
use Rattle.jz_kept_classes.proofs.Kept.{same_class}
use Rattle.jz_kept_patterns.proofs.Operands.{KeptOperand, ValueMeets, m_alone, m_one, m_two, m_carry, m_inner, m_cast}
use Rattle.jz_kept_patterns.proofs.Matching.{next, none, rmi_first, first_rmi, Sums, sums_kept, computes_kept}

module _ (x y d w l u : Class) (X : KeepsClass x y) (F : KeepsClass d l) (K : KeepsClass w u) where
  abbrev S : Value → rowed.Shape
  S v = shapes.Assign (Some x) d w v

  abbrev Z : Value → rowed.Shape
  Z v = shapes.Assign (Some y) l u v

  lead_same : is_flag_result x ≡ true → is_flag_result y ≡ true
  lead_same h = ap is_flag_result (same_class is_flag_result refl x y X h) ∙ h

  -- ---- sums
  module _ (a c : Operand) (p : KeptOperand (is_r d) a c) (o e : Operand) (q : KeptOperand (is_r d) o e) where
    led_kept : (s : Bool) → (is_flag_result x && Sums d w l u F K a c p o e q s d a o) ≡ true → (is_flag_result y && Sums d w l u F K a c p o e q s l c e) ≡ true
    led_kept s h =
        let k = and_parts (is_flag_result x) (Sums d w l u F K a c p o e q s d a o) h in
        and_from (is_flag_result y) (Sums d w l u F K a c p o e q s l c e) (lead_same k.0) (sums_kept d w l u F K a c p o e q s k.1)

    arithmetic_row_kept : (t : BinOp) → arithmetic_row (S (values.Two t a o)) ≡ true → arithmetic_row (Z (values.Two t c e)) ≡ true
    arithmetic_row_kept t h =
        let g : Bool = adds t || (joins_bits t && false) in
        let k = and_parts g (is_flag_result x && Sums d w l u F K a c p o e q (swaps t) d a o) h in
        and_from g (is_flag_result y && Sums d w l u F K a c p o e q (swaps t) l c e) k.0 (led_kept (swaps t) k.1)

    carrying_row_kept : (t : BinOp) → carrying_row (S (values.Carry t a o)) ≡ true → carrying_row (Z (values.Carry t c e)) ≡ true
    carrying_row_kept t h = led_kept (swaps t) h

    -- ---- products
    abbrev low : Class → Operand → Operand → Bool
    low k f g = is_skip k || (is_r k && computes (not (is_i f.class)) k f g)

    low_same : low d a o ≡ true → l ≡ d
    low_same h = by_part (or_parts (is_skip d) (is_r d && computes (not (is_i a.class)) d a o) h)
      where
        by_part : (is_skip d ≡ true) ⊎ ((is_r d && computes (not (is_i a.class)) d a o) ≡ true) → l ≡ d
        by_part (inl t) = same_class is_skip refl d l F t
        by_part (inr t) = same_class is_r refl d l F (and_parts (is_r d) _ t).0

    low_kept : e.class ≡ o.class → low d a o ≡ true → low l c e ≡ true
    low_kept eo h = by_part (or_parts (is_skip d) (is_r d && computes (not (is_i a.class)) d a o) h)
      where
        by_part : (is_skip d ≡ true) ⊎ ((is_r d && computes (not (is_i a.class)) d a o) ≡ true) → low l c e ≡ true
        by_part (inl t) = or_left (is_skip l) (is_r l && computes (not (is_i c.class)) l c e) (ap is_skip (same_class is_skip refl d l F t) ∙ t)
        by_part (inr t) =
            let k = and_parts (is_r d) (computes (not (is_i a.class)) d a o) t in
            let ca : c.class ≡ a.class = rmi_first d w l u F K a c p (first_rmi d w l u F K a c p o e q (not (is_i a.class)) k.1) in
            or_right (is_skip l) (is_r l && computes (not (is_i c.class)) l c e)
            (and_from (is_r l) (computes (not (is_i c.class)) l c e) (ap is_r (same_class is_r refl d l F k.0) ∙ k.0)
            (ap (λ m. computes (not (is_i m)) l c e) ca ∙ computes_kept d w l u F K a c p o e q (not (is_i a.class)) eo k.1))

    abbrev sized : Option Size → Class → Class → Class → Class → Bool
    sized z h k f g = is_long (option_or z (option_or (class_size h) (option_or (class_size k) (option_or (class_size f) (class_size g)))))

    pub product_kept : (z : Option Size) → is_product z x d a o ≡ true → is_product z y l c e ≡ true
    product_kept z h =
        let i = and_parts (is_pinned x) (is_long (product_size z x d a o) && (is_rmi a.class && (is_rm o.class && low d a o))) h in
        let j = and_parts (is_long (product_size z x d a o)) (is_rmi a.class && (is_rm o.class && low d a o)) i.1 in
        let k = and_parts (is_rmi a.class) (is_rm o.class && low d a o) j.1 in
        let m = and_parts (is_rm o.class) (low d a o) k.1 in
        let yx : y ≡ x = same_class is_pinned refl x y X i.0 in
        let ca : c.class ≡ a.class = rmi_first d w l u F K a c p k.0 in
        let eo : e.class ≡ o.class = same_class is_rm refl o.class e.class q.kept m.0 in
        let ld : l ≡ d = low_same m.1 in
        and_from (is_pinned y) (is_long (product_size z y l c e) && (is_rmi c.class && (is_rm e.class && low l c e))) (ap is_pinned yx ∙ i.0)
        (and_from (is_long (product_size z y l c e)) (is_rmi c.class && (is_rm e.class && low l c e)) ((λ t. sized z (yx t) (ld t) (ca t) (eo t)) ∙ j.0)
        (and_from (is_rmi c.class) (is_rm e.class && low l c e) (ap is_rmi ca ∙ k.0) (and_from (is_rm e.class) (low l c e) (ap is_rm eo ∙ m.0) (low_kept eo m.1))))

    wide_product_row_kept : (t : BinOp) → wide_product_row (S (values.Two t a o)) ≡ true → wide_product_row (Z (values.Two t c e)) ≡ true
    wide_product_row_kept t h = let k = and_parts (multiplies t) (is_product None x d a o) h in and_from (multiplies t) (is_product None y l c e) k.0 (product_kept None k.1)

  inner_never : (t : BinOp) (a o : Operand) → (is_rmi a.class ≡ true → is_rmi o.class ≡ true → are_inline a o ≡ true) → carrying_row (S (values.Carry t a o)) ≡ true → ⊥
  inner_never t a o n h =
      let i = and_parts (is_flag_result x) (is_rmi o.class && (not (are_inline a o) && computes (swaps t) d a o)) h in
      let j = and_parts (is_rmi o.class) (not (are_inline a o) && computes (swaps t) d a o) i.1 in
      let k = and_parts (not (are_inline a o)) (computes (swaps t) d a o) j.1 in
      let m = and_parts (is_rmi a.class) _ (and_parts (is_rm d) _ k.1).1 in
      false≢true (sym (ap not (n m.0 j.0)) ∙ k.0)

  pub pair_kept : {v v' : Value} → ValueMeets (is_r d) v v' → Matches (S v) → Matches (Z v')
  pair_kept (m_alone v) h = absurd (false≢true h)
  pair_kept (m_one a c p) h = absurd (false≢true h)
  pair_kept (m_two t a o c e p q) h =
      let v : Value = values.Two t a o in
      let v' : Value = values.Two t c e in
      next (arithmetic_row (S v)) (wide_product_row (S v) || false) (arithmetic_row (Z v')) (wide_product_row (Z v') || false) (arithmetic_row_kept a c p o e q t) (next (wide_product_row (S v)) false (wide_product_row (Z v')) false (wide_product_row_kept a c p o e q t) (none false)) h
  pair_kept (m_carry t a o c e p q) h =
      let v : Value = values.Carry t a o in
      let v' : Value = values.Carry t c e in
      next (carrying_row (S v)) false (carrying_row (Z v')) false (carrying_row_kept a c p o e q t) (none false) h
  pair_kept (m_inner t a o v n) h = by_part (or_parts (carrying_row (S (values.Carry t a o))) false h)
    where
      by_part : (carrying_row (S (values.Carry t a o)) ≡ true) ⊎ (false ≡ true) → Matches (Z v)
      by_part (inl i) = absurd (inner_never t a o n i)
      by_part (inr i) = absurd (false≢true i)
  pair_kept (m_cast z s c e k) h = absurd (false≢true h)
