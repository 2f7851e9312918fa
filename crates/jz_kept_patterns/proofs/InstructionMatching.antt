-- The row of an intrinsic that fits before fits behind.
use Rattle.std.proofs.Common.{◌≡◌, Bool, true, false, ◌&&◌, ◌||◌, Option, None, refl, ap, ◌∙◌}
use Rattle.std.specs.List.{list_any}
use Rattle.std.proofs.lemmas.Bool.{false≢true, and_parts, and_from}
use Rattle.jz_tree.specs.Size.{Size}
use Rattle.jz_tree.specs.declared.intrinsic.Intrinsic.{Intrinsic}
use Rattle.jz_tree.specs.declared.intrinsic.Intrinsic.TheVariants as name
use Rattle.jz_select.specs.declared.class.Class.{Class}
use Rattle.jz_select.specs.declared.class.Class.TheVariants as class
use Rattle.jz_select.specs.declared.class.Operand.{Operand}
use Rattle.jz_select.specs.declared.shape.Shape as rowed
use Rattle.jz_select.specs.declared.shape.Shape.TheVariants as shapes
use Rattle.jz_select.specs.Rows.{is_r, is_i, is_rm, is_rmi, is_flag, is_pinned, is_long, is_longest, is_byte_size, class_size, changes, computes, times, times_inline, shifts_inline, shifts_masked, one_fits, two_fits, three_fits, division_size, divides_long, is_product, sets, named_if}
use Rattle.jz_select.specs.Selected.{is_named, intrinsics}
use Rattle.std.specs.Option.{option_or}
use Rattle.jz_row_laws.proofs.Copied.{Matches, no_free}
use Rattle.jz_kept_classes.specs.Classes.{KeepsClass, the_same}
use Rattle.jz_kept_classes.proofs.Kept.{same_class, flag_same}
use Rattle.jz_kept_patterns.proofs.Operands.{KeptOperand}
use Rattle.jz_kept_patterns.proofs.Matching.{next, changes_kept, computes_kept, times_kept, inline_kept, shifts_kept, masked_kept}
use Rattle.jz_kept_patterns.proofs.PairMatching.{product_kept}

-- ---- shapes whose parts are kept
pub data ShapeMeets : rowed.Shape → rowed.Shape → Type 0 where
  s_free : (s : rowed.Shape) → ShapeMeets shapes.Free s
  s_one : (n : Intrinsic) (z : Option Size) (d l : Class) (a c : Operand) → KeepsClass d l → KeptOperand (is_r d) a c → ShapeMeets (shapes.One n z d a) (shapes.One n z l c)
  s_two : (n : Intrinsic) (z : Option Size) (d l : Class) (a c o e : Operand) → KeepsClass d l → KeptOperand (is_r d) a c → KeptOperand (is_r d) o e → ShapeMeets (shapes.Two n z d a o) (shapes.Two n z l c e)
  s_three : (n : Intrinsic) (d l : Class) (a c o e : Operand) (w u : Class) → KeepsClass d l → KeptOperand (is_r d) a c → KeptOperand (is_r d) o e → KeepsClass w u
      → ShapeMeets (shapes.Three n d a o w) (shapes.Three n l c e u)
  s_address : (z : Option Size) (d l : Class) (s t : Bool) → KeepsClass d l → (s ≡ true → t ≡ true) → ShapeMeets (shapes.Address z d s) (shapes.Address z l t)
  s_set : (z : Option Size) (d l : Class) (s t : Bool) → KeepsClass d l → (s ≡ true → t ≡ true) → ShapeMeets (shapes.Set z d s) (shapes.Set z l t)
  s_compare : (n : Intrinsic) (a c o e : Class) → KeepsClass a c → KeepsClass o e → ShapeMeets (shapes.Compare n a o) (shapes.Compare n c e)
  s_product : (z : Option Size) (h k d l : Class) (a c o e : Operand) → KeepsClass h k → KeepsClass d l → KeptOperand (is_r d) a c → KeptOperand (is_r d) o e
      → ShapeMeets (shapes.Product z h d a o) (shapes.Product z k l c e)
  s_division : (z : Option Size) (q p r t h k l m b c : Class) (s g : Bool) → KeepsClass q p → KeepsClass r t → KeepsClass h k → KeepsClass l m → KeepsClass b c
      → (is_pinned q ≡ true → is_pinned r ≡ true → s ≡ true → g ≡ true) → ShapeMeets (shapes.Division z q r h l b s) (shapes.Division z p t k m c g)

-- ---- by its name
abbrev any_named : Option Intrinsic → Bool
any_named o = list_any (λ n. is_named n o) intrinsics

by_name : (n : Intrinsic) (b c : Bool) → (b ≡ true → c ≡ true) → any_named (named_if n b) ≡ true → any_named (named_if n c) ≡ true
by_name n true c f h = ap (λ x. any_named (named_if n x)) (f refl) ∙ h
by_name n false c f h = absurd (false≢true h)

module _ (z : Option Size) (d l : Class) (F : KeepsClass d l) (a c : Operand) (x : KeptOperand (is_r d) a c) where
  abbrev changed : changes d a ≡ true → changes l c ≡ true
  changed h = changes_kept d class.Other l class.Other F the_same a c x h

  swapped : is_r d ≡ true → l ≡ d
  swapped h = same_class is_r refl d l F h

  bytes_swapped : one_fits name.Bswap z d a ≡ true → one_fits name.Bswap z l c ≡ true
  bytes_swapped h =
      let p = and_parts (is_r d) (is_long (option_or z (class_size d)) && changes d a) h in
      let q = and_parts (is_long (option_or z (class_size d))) (changes d a) p.1 in
      and_from (is_r l) (is_long (option_or z (class_size l)) && changes l c) (ap is_r (swapped p.0) ∙ p.0)
      (and_from (is_long (option_or z (class_size l))) (changes l c) (ap (λ k. is_long (option_or z (class_size k))) (swapped p.0) ∙ q.0) (changed q.1))

  one_kept : (n : Intrinsic) → one_fits n z d a ≡ true → one_fits n z l c ≡ true
  one_kept name.Add h = absurd (false≢true h)
  one_kept name.Sub h = absurd (false≢true h)
  one_kept name.And h = absurd (false≢true h)
  one_kept name.Or h = absurd (false≢true h)
  one_kept name.Xor h = absurd (false≢true h)
  one_kept name.Adc h = absurd (false≢true h)
  one_kept name.Sbb h = absurd (false≢true h)
  one_kept name.Neg h = changed h
  one_kept name.Inc h = changed h
  one_kept name.Dec h = changed h
  one_kept name.Not h = changed h
  one_kept name.Bswap h = bytes_swapped h
  one_kept name.Lea h = absurd (false≢true h)
  one_kept name.Cmp h = absurd (false≢true h)
  one_kept name.Test h = absurd (false≢true h)
  one_kept name.Shl h = absurd (false≢true h)
  one_kept name.Shr h = absurd (false≢true h)
  one_kept name.Sar h = absurd (false≢true h)
  one_kept name.Rol h = absurd (false≢true h)
  one_kept name.Ror h = absurd (false≢true h)
  one_kept name.Imul h = absurd (false≢true h)
  one_kept name.Mul h = absurd (false≢true h)
  one_kept name.Div h = absurd (false≢true h)
  one_kept name.Setcc h = absurd (false≢true h)

  module _ (o e : Operand) (y : KeptOperand (is_r d) o e) where
    abbrev computed : (sw : Bool) → e.class ≡ o.class → computes sw d a o ≡ true → computes sw l c e ≡ true
    computed sw eo h = computes_kept d class.Other l class.Other F the_same a c x o e y sw eo h

    second : is_rmi o.class ≡ true → e.class ≡ o.class
    second h = same_class is_rmi refl o.class e.class y.kept h

    joined : (sw : Bool) → (is_rmi o.class && computes sw d a o) ≡ true → (is_rmi e.class && computes sw l c e) ≡ true
    joined sw h =
        let p = and_parts (is_rmi o.class) (computes sw d a o) h in
        and_from (is_rmi e.class) (computes sw l c e) (ap is_rmi (second p.0) ∙ p.0) (computed sw (second p.0) p.1)

    multiplied : (times d a o || times_inline d a o) ≡ true → (times l c e || times_inline l c e) ≡ true
    multiplied h =
        next (times d a o) (times_inline d a o) (times l c e) (times_inline l c e)
        (times_kept d class.Other l class.Other F the_same a c x o e y) (inline_kept d class.Other l class.Other F the_same a c x o e y) h

    shifted : (shifts_inline d a o || shifts_masked z d a o) ≡ true → (shifts_inline l c e || shifts_masked z l c e) ≡ true
    shifted h =
        next (shifts_inline d a o) (shifts_masked z d a o) (shifts_inline l c e) (shifts_masked z l c e)
        (shifts_kept d class.Other l class.Other F the_same a c x o e y) (masked_kept d class.Other l class.Other F the_same a c x o e y z) h

    two_kept : (n : Intrinsic) → two_fits n z d a o ≡ true → two_fits n z l c e ≡ true
    two_kept name.Add h = joined true h
    two_kept name.Sub h = joined false h
    two_kept name.And h = joined true h
    two_kept name.Or h = joined true h
    two_kept name.Xor h = joined true h
    two_kept name.Adc h = absurd (false≢true h)
    two_kept name.Sbb h = absurd (false≢true h)
    two_kept name.Neg h = absurd (false≢true h)
    two_kept name.Inc h = absurd (false≢true h)
    two_kept name.Dec h = absurd (false≢true h)
    two_kept name.Not h = absurd (false≢true h)
    two_kept name.Bswap h = absurd (false≢true h)
    two_kept name.Lea h = absurd (false≢true h)
    two_kept name.Cmp h = absurd (false≢true h)
    two_kept name.Test h = absurd (false≢true h)
    two_kept name.Shl h = shifted h
    two_kept name.Shr h = shifted h
    two_kept name.Sar h = shifted h
    two_kept name.Rol h = shifted h
    two_kept name.Ror h = shifted h
    two_kept name.Imul h = multiplied h
    two_kept name.Mul h = absurd (false≢true h)
    two_kept name.Div h = absurd (false≢true h)
    two_kept name.Setcc h = absurd (false≢true h)

    with_flag : (sw : Bool) (w u : Class) → KeepsClass w u → (is_flag w && (is_rmi o.class && computes sw d a o)) ≡ true → (is_flag u && (is_rmi e.class && computes sw l c e)) ≡ true
    with_flag sw w u K h =
        let p = and_parts (is_flag w) (is_rmi o.class && computes sw d a o) h in
        and_from (is_flag u) (is_rmi e.class && computes sw l c e) (flag_same w u K ∙ p.0) (joined sw p.1)

    three_kept : (n : Intrinsic) (w u : Class) → KeepsClass w u → three_fits n d a o w ≡ true → three_fits n l c e u ≡ true
    three_kept name.Add w u K h = absurd (false≢true h)
    three_kept name.Sub w u K h = absurd (false≢true h)
    three_kept name.And w u K h = absurd (false≢true h)
    three_kept name.Or w u K h = absurd (false≢true h)
    three_kept name.Xor w u K h = absurd (false≢true h)
    three_kept name.Adc w u K h = with_flag true w u K h
    three_kept name.Sbb w u K h = with_flag false w u K h
    three_kept name.Neg w u K h = absurd (false≢true h)
    three_kept name.Inc w u K h = absurd (false≢true h)
    three_kept name.Dec w u K h = absurd (false≢true h)
    three_kept name.Not w u K h = absurd (false≢true h)
    three_kept name.Bswap w u K h = absurd (false≢true h)
    three_kept name.Lea w u K h = absurd (false≢true h)
    three_kept name.Cmp w u K h = absurd (false≢true h)
    three_kept name.Test w u K h = absurd (false≢true h)
    three_kept name.Shl w u K h = absurd (false≢true h)
    three_kept name.Shr w u K h = absurd (false≢true h)
    three_kept name.Sar w u K h = absurd (false≢true h)
    three_kept name.Rol w u K h = absurd (false≢true h)
    three_kept name.Ror w u K h = absurd (false≢true h)
    three_kept name.Imul w u K h = absurd (false≢true h)
    three_kept name.Mul w u K h = absurd (false≢true h)
    three_kept name.Div w u K h = absurd (false≢true h)
    three_kept name.Setcc w u K h = absurd (false≢true h)

-- ---- the others
address_kept : (z : Option Size) (d l : Class) (s t : Bool) → KeepsClass d l → (s ≡ true → t ≡ true) → (is_r d && (is_longest (option_or z (class_size d)) && s)) ≡ true
    → (is_r l && (is_longest (option_or z (class_size l)) && t)) ≡ true
address_kept z d l s t F f h =
    let p = and_parts (is_r d) (is_longest (option_or z (class_size d)) && s) h in
    let q = and_parts (is_longest (option_or z (class_size d))) s p.1 in
    let e : l ≡ d = same_class is_r refl d l F p.0 in
    and_from (is_r l) (is_longest (option_or z (class_size l)) && t) (ap is_r e ∙ p.0)
    (and_from (is_longest (option_or z (class_size l))) t (ap (λ k. is_longest (option_or z (class_size k))) e ∙ q.0) (f q.1))

set_kept : (z : Option Size) (d l : Class) (s t : Bool) → KeepsClass d l → (s ≡ true → t ≡ true) → (sets z d && s) ≡ true → (sets z l && t) ≡ true
set_kept z d l s t F f h =
    let p = and_parts (sets z d) s h in
    let q = and_parts (is_byte_size z) (is_rm d && is_byte_size (class_size d)) p.0 in
    let e : l ≡ d = same_class is_rm refl d l F (and_parts (is_rm d) (is_byte_size (class_size d)) q.1).0 in
    and_from (sets z l) t (ap (sets z) e ∙ p.0) (f p.1)

abbrev is_ri : Class → Bool
is_ri c = is_r c || is_i c

compare_kept : (a c o e : Class) → KeepsClass a c → KeepsClass o e → (is_rm a && is_ri o) ≡ true → (is_rm c && is_ri e) ≡ true
compare_kept a c o e F K h =
    let p = and_parts (is_rm a) (is_ri o) h in
    and_from (is_rm c) (is_ri e) (ap is_rm (same_class is_rm refl a c F p.0) ∙ p.0) (ap is_ri (same_class is_ri refl o e K p.1) ∙ p.1)

module _ (z : Option Size) (q p r t h k l m b c : Class) (Q : KeepsClass q p) (R : KeepsClass r t) (H : KeepsClass h k) (L : KeepsClass l m) (B : KeepsClass b c) where
  division_kept : (s g : Bool) → (is_pinned q ≡ true → is_pinned r ≡ true → s ≡ true → g ≡ true) → divides_long z q r h l b s ≡ true → divides_long z p t k m c g ≡ true
  division_kept s g f x =
      let long = is_long (division_size z q r h l b) in
      let x1 = and_parts (is_pinned q) (is_pinned r && (is_rmi h && (is_rmi l && (is_rm b && (s && long))))) x in
      let x2 = and_parts (is_pinned r) (is_rmi h && (is_rmi l && (is_rm b && (s && long)))) x1.1 in
      let x3 = and_parts (is_rmi h) (is_rmi l && (is_rm b && (s && long))) x2.1 in
      let x4 = and_parts (is_rmi l) (is_rm b && (s && long)) x3.1 in
      let x5 = and_parts (is_rm b) (s && long) x4.1 in
      let x6 = and_parts s long x5.1 in
      let e1 : p ≡ q = same_class is_pinned refl q p Q x1.0 in
      let e2 : t ≡ r = same_class is_pinned refl r t R x2.0 in
      let e3 : k ≡ h = same_class is_rmi refl h k H x3.0 in
      let e4 : m ≡ l = same_class is_rmi refl l m L x4.0 in
      let e5 : c ≡ b = same_class is_rm refl b c B x5.0 in
      let size : is_long (division_size z p t k m c) ≡ true = (λ i. is_long (division_size z (e1 i) (e2 i) (e3 i) (e4 i) (e5 i))) ∙ x6.1 in
      and_from (is_pinned p) (is_pinned t && (is_rmi k && (is_rmi m && (is_rm c && (g && is_long (division_size z p t k m c)))))) (ap is_pinned e1 ∙ x1.0)
      (and_from (is_pinned t) (is_rmi k && (is_rmi m && (is_rm c && (g && is_long (division_size z p t k m c))))) (ap is_pinned e2 ∙ x2.0)
      (and_from (is_rmi k) (is_rmi m && (is_rm c && (g && is_long (division_size z p t k m c)))) (ap is_rmi e3 ∙ x3.0)
      (and_from (is_rmi m) (is_rm c && (g && is_long (division_size z p t k m c))) (ap is_rmi e4 ∙ x4.0)
      (and_from (is_rm c) (g && is_long (division_size z p t k m c)) (ap is_rm e5 ∙ x5.0)
      (and_from g (is_long (division_size z p t k m c)) (f x1.0 x2.0 x6.0) size)))))

-- ---- the row
pub shape_kept : {s t : rowed.Shape} → ShapeMeets s t → Matches s → Matches t
shape_kept (s_free s) h = absurd (no_free h)
shape_kept (s_one n z d l a c F x) h = by_name n (one_fits n z d a) (one_fits n z l c) (one_kept z d l F a c x n) h
shape_kept (s_two n z d l a c o e F x y) h = by_name n (two_fits n z d a o) (two_fits n z l c e) (two_kept z d l F a c x o e y n) h
shape_kept (s_three n d l a c o e w u F x y K) h = by_name n (three_fits n d a o w) (three_fits n l c e u) (three_kept None d l F a c x o e y n w u K) h
shape_kept (s_address z d l s t F f) h =
    by_name name.Lea (is_r d && (is_longest (option_or z (class_size d)) && s)) (is_r l && (is_longest (option_or z (class_size l)) && t)) (address_kept z d l s t F f) h
shape_kept (s_set z d l s t F f) h = by_name name.Setcc (sets z d && s) (sets z l && t) (set_kept z d l s t F f) h
shape_kept (s_compare n a c o e F K) h = by_name n (is_rm a && is_ri o) (is_rm c && is_ri e) (compare_kept a c o e F K) h
shape_kept (s_product z h k d l a c o e X F x y) m =
    by_name name.Mul (is_product z h d a o) (is_product z k l c e) (product_kept h k d class.Other l class.Other X F the_same a c x o e y z) m
shape_kept (s_division z q p r t h k l m b c s g Q R H L B f) x =
    by_name name.Div (divides_long z q r h l b s) (divides_long z p t k m c g) (division_kept z q p r t h k l m b c Q R H L B s g f) x
