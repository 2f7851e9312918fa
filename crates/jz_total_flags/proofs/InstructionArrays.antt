-- No operand of an intrinsic that matches is an array as a whole.
use Rattle.std.proofs.Common.{◌≡◌, Bool, true, false, ◌&&◌, ◌||◌, List, [], ◌∷◌, Option, Some, None, refl, sym, ap, ◌∙◌, subst, inl, inr, if◌then◌else◌}
use Rattle.std.specs.Prelude.{◌⊎◌, All, not}
use Rattle.std.proofs.lemmas.Bool.{false≢true, and_parts}
use Rattle.std.proofs.lemmas.List.Elements.{All-nil, All-cons, All-head, All-tail}
use Rattle.jz_words.specs.declared.size.Size.{Size}
use Rattle.jz_tree.specs.declared.intrinsic.Intrinsic.{Intrinsic}
use Rattle.jz_tree.specs.declared.intrinsic.Intrinsic.TheVariants as name
use Rattle.jz_tree.specs.declared.intrinsic.Instance.{Instance}
use Rattle.jz_tree.specs.declared.expr.Expr.{Expr}
use Rattle.jz_tree.specs.declared.expr.Var.{Var}
use Rattle.jz_tree.specs.declared.stmt.Lval.{Lval}
use Rattle.jz_type_names.specs.Kinds.{known_of, is_array, array_layer}
use Rattle.jz_select.specs.declared.class.Class.{Class}
use Rattle.jz_select.specs.declared.class.Class.TheVariants as class
use Rattle.jz_select.specs.declared.class.Operand.{Operand}
use Rattle.jz_select.specs.declared.shaping.Flags.TheVariants as flags
use Rattle.jz_select.specs.declared.shape.Shape as rowed
use Rattle.jz_select.specs.declared.shape.Shape.TheVariants as shapes
use Rattle.jz_select.specs.Operands.{var_class, class_layer, class_of, dest_of, operand_of}
use Rattle.jz_select.specs.Rows as table
use Rattle.jz_select.specs.Rows.{is_r, is_i, is_rm, is_rmi, is_flag, class_size, is_longest, masks, changes, computes, times, times_inline, shifts_inline, shifts_masked, one_fits, two_fits, three_fits}
use Rattle.jz_select.specs.Shapes.{whichever, five_lead, stand_apart, value_behind, one_shape, two_shape, three_shape, compare_shape, product_shape, division_shape, intrinsic_shape}
use Rattle.std.specs.Option.{option_or}
use Rattle.jz_row_laws.proofs.Booleans.{or_parts}
use Rattle.jz_row_laws.proofs.Copied.{Matches, no_free}
use Rattle.jz_run_laws.specs.OneSize.{takes_size, IsNoArray}
use Rattle.jz_stuck_runs.proofs.RowSizes.{named_fits}
use Rattle.jz_homes.specs.Homes.{Homes}
use Rattle.jz_one_row.proofs.Outs.{out_num, out_bool, out_var, out_cell, out_load, out_neg, out_not, out_cast, out_bin}
use Rattle.jz_total_rows.specs.Expanded.{HasHome, a_word, a_flag, a_scalar, an_array, IsExpanded, a_number, a_truth, a_variable, a_cell, a_load, a_minus, a_denial, a_cast, of_two}
use Rattle.jz_total_rows.proofs.Meets.{A}

-- ---- one operand, of a class that an array does not have
pub record IsNotOther (c : Class) : Type 0 where
  pub test : Class → Bool
  pub other : test class.Other ≡ false
  pub holds : test c ≡ true

pub not_array : (home : Homes) (v : Var) → HasHome home v → IsNotOther (var_class (known_of v)) → is_array (known_of v) ≡ false
not_array home v (a_word z n d k h) c = ap is_array d
not_array home v (a_flag n d k h) c = ap is_array d
not_array home v (a_scalar z w d k h) c = ap is_array d
not_array home v (an_array z n w d a) c = absurd (false≢true (sym c.other ∙ (sym (ap (λ q. c.test (var_class q)) d) ∙ c.holds)))

no_array : (home : Homes) (e : Expr) → IsExpanded home e → IsNotOther (class_of e) → IsNoArray e
no_array home e (a_number i at) c = ap array_layer (out_num i at)
no_array home e (a_truth b at) c = ap array_layer (out_bool b at)
no_array home e (a_variable v x) c =
    ap array_layer (out_var v)
    ∙ ap (λ b. if b then Some v else None) (not_array home v x (record { test = c.test; other = c.other; holds = sym (ap (λ l. c.test (class_layer l)) (out_var v)) ∙ c.holds }))
no_array home e (a_cell v i x y) c = ap array_layer (out_cell v i)
no_array home e (a_load a x) c = ap array_layer (out_load a)
no_array home e (a_minus a at n x) c = ap array_layer (out_neg a at)
no_array home e (a_denial a at n x) c = ap array_layer (out_not a at)
no_array home e (a_cast z s a at x) c = ap array_layer (out_cast z s a at)
no_array home e (of_two o a b at n x y) c = ap array_layer (out_bin o a b at)

word_class : (c : Class) → is_rmi c ≡ true → IsNotOther c
word_class c h = record { test = is_rmi; other = refl; holds = h }

rm_class : (c : Class) → is_rm c ≡ true → IsNotOther c
rm_class c h = record { test = is_rm; other = refl; holds = h }

-- ---- what the rows ask of operands
changes_word : (d : Class) (a : Operand) → changes d a ≡ true → IsNotOther a.class
changes_word d a h = word_class a.class (and_parts (is_rmi a.class) _ (and_parts (is_rm d) _ h).1).0

computes_word : (s : Bool) (d : Class) (a o : Operand) → computes s d a o ≡ true → IsNotOther a.class
computes_word s d a o h = word_class a.class (and_parts (is_rmi a.class) _ (and_parts (is_rm d) _ h).1).0

sum_words : (s : Bool) (d : Class) (a o : Operand) → (is_rmi o.class && computes s d a o) ≡ true → IsNotOther a.class × IsNotOther o.class
sum_words s d a o h = let p = and_parts (is_rmi o.class) (computes s d a o) h in (computes_word s d a o p.1, word_class o.class p.0)

times_words : (d : Class) (a o : Operand) → (times d a o || times_inline d a o) ≡ true → IsNotOther a.class × IsNotOther o.class
times_words d a o h = by_part (or_parts (times d a o) (times_inline d a o) h)
  where
    by_part : (times d a o ≡ true) ⊎ (times_inline d a o ≡ true) → IsNotOther a.class × IsNotOther o.class
    by_part (inl t) =
        let p = and_parts (is_rm o.class) _ (and_parts (table.is_wide (class_size d)) _ (and_parts (is_r d) _ t).1).1 in
        (computes_word (not (is_i a.class)) d a o p.1, rm_class o.class p.0)
    by_part (inr t) =
        let p = and_parts (is_rm a.class) (is_i o.class) (and_parts (table.is_wide (class_size d)) _ (and_parts (is_r d) _ t).1).1 in
        (rm_class a.class p.0, record { test = is_i; other = refl; holds = p.1 })

shift_words : (z : Option Size) (d : Class) (a o : Operand) → (shifts_inline d a o || shifts_masked z d a o) ≡ true → IsNotOther a.class × IsNotOther o.class
shift_words z d a o h = by_part (or_parts (shifts_inline d a o) (shifts_masked z d a o) h)
  where
    by_part : (shifts_inline d a o ≡ true) ⊎ (shifts_masked z d a o ≡ true) → IsNotOther a.class × IsNotOther o.class
    by_part (inl t) = let p = and_parts (is_i o.class) (changes d a) t in (changes_word d a p.1, record { test = is_i; other = refl; holds = p.0 })
    by_part (inr t) =
        let l = is_longest (option_or z (option_or (class_size d) (class_size a.class))) in
        let p = and_parts (masks l o.class) (computes false d a o) t in
        (computes_word false d a o p.1, record { test = masks l; other = refl; holds = p.0 })

module _ (home : Homes) (i : Instance) where
  abbrev X : Expr → Type 0
  X e = IsExpanded home e

  abbrev Plain : List Expr → Type 0
  Plain es = All IsNoArray es

  one_plain : (a : Expr) → X a → IsNotOther (class_of a) → Plain (a ∷ [])
  one_plain a x c = All-cons IsNoArray a [] (no_array home a x c) (All-nil IsNoArray)

  two_plain : (a b : Expr) → All X (a ∷ b ∷ []) → IsNotOther (class_of a) → IsNotOther (class_of b) → Plain (a ∷ b ∷ [])
  two_plain a b all c d = All-cons IsNoArray a (b ∷ []) (no_array home a (All-head X a (b ∷ []) all) c) (one_plain b (All-head X b [] (All-tail X a (b ∷ []) all)) d)

  three_plain : (a b g : Expr) → All X (a ∷ b ∷ g ∷ []) → IsNotOther (class_of a) → IsNotOther (class_of b) → IsNotOther (class_of g) → Plain (a ∷ b ∷ g ∷ [])
  three_plain a b g all c d e = All-cons IsNoArray a (b ∷ g ∷ []) (no_array home a (All-head X a (b ∷ g ∷ []) all) c) (two_plain b g (All-tail X a (b ∷ g ∷ []) all) d e)

  -- ---- by the shape
  one_operand : (n : Intrinsic) → ((d : Class) (a : Operand) → one_fits n i.size d a ≡ true → IsNotOther a.class) → i.name ≡ n → (x : Option Lval) (es : List Expr) → All X es → Matches (one_shape (whichever A) i x es) → Plain es
  one_operand n f e (Some d) (a ∷ []) all m =
      let o = operand_of A d a in
      let h = named_fits i.name (one_fits i.name i.size (dest_of d) o) m in
      one_plain a (All-head X a [] all) (f (dest_of d) o (subst (λ q. one_fits q i.size (dest_of d) o ≡ true) e h))
  one_operand n f e x es all m = absurd (no_free m)

  two_operands : (n : Intrinsic) → ((d : Class) (a o : Operand) → two_fits n i.size d a o ≡ true → IsNotOther a.class × IsNotOther o.class) → i.name ≡ n → (x : Option Lval) (es : List Expr) → All X es → Matches (two_shape (whichever A) i x es) → Plain es
  two_operands n f e (Some d) (a ∷ b ∷ []) all m =
      let u = operand_of A d a in
      let v = operand_of A d b in
      let h = named_fits i.name (two_fits i.name i.size (dest_of d) u v) m in
      let k = f (dest_of d) u v (subst (λ q. two_fits q i.size (dest_of d) u v ≡ true) e h) in
      two_plain a b all k.0 k.1
  two_operands n f e x es all m = absurd (no_free m)

  three_operands : (n : Intrinsic) (s : Bool) → ((d : Class) (a o : Operand) (c : Class) → three_fits n d a o c ≡ true → (is_flag c && (is_rmi o.class && computes s d a o)) ≡ true) → i.name ≡ n → (x : Option Lval) (es : List Expr) → All X es → Matches (three_shape (whichever A) i x es) → Plain es
  three_operands n s f e (Some d) (a ∷ b ∷ g ∷ []) all m =
      let u = operand_of A d a in
      let v = operand_of A d b in
      let h = named_fits i.name (three_fits i.name (dest_of d) u v (class_of g)) m in
      let p = and_parts (is_flag (class_of g)) _ (f (dest_of d) u v (class_of g) (subst (λ q. three_fits q (dest_of d) u v (class_of g) ≡ true) e h)) in
      let k = sum_words s (dest_of d) u v p.1 in
      three_plain a b g all k.0 k.1 (record { test = is_flag; other = refl; holds = p.0 })
  three_operands n s f e x es all m = absurd (no_free m)

  if_five : (b : Bool) (s : rowed.Shape) → Matches (if b then s else shapes.Free) → Matches s
  if_five true s h = h
  if_five false s h = absurd (no_free h)

  compared : (to : List Lval) (es : List Expr) → All X es → Matches (compare_shape i to es) → Plain es
  compared (c1 ∷ c2 ∷ c3 ∷ c4 ∷ c5 ∷ []) (a ∷ b ∷ []) all m =
      let h = named_fits i.name (is_rm (class_of a) && (is_r (class_of b) || is_i (class_of b))) (if_five (five_lead c1 c2 c3 c4 c5) (shapes.Compare i.name (class_of a) (class_of b)) m) in
      let p = and_parts (is_rm (class_of a)) (is_r (class_of b) || is_i (class_of b)) h in
      two_plain a b all (rm_class (class_of a) p.0) (record { test = λ c. is_r c || is_i c; other = refl; holds = p.1 })
  compared to es all m = absurd (no_free m)

  multiplied : (to : List Lval) (es : List Expr) → All X es → Matches (product_shape (whichever A) i to es) → Plain es
  multiplied (c1 ∷ c2 ∷ c3 ∷ c4 ∷ c5 ∷ h ∷ l ∷ []) (a ∷ b ∷ []) all m =
      let u = operand_of A l a in
      let v = operand_of A l b in
      let k = named_fits name.Mul (table.is_product i.size (dest_of h) (dest_of l) u v) (if_five (five_lead c1 c2 c3 c4 c5) (shapes.Product i.size (dest_of h) (dest_of l) u v) m) in
      let p = and_parts (is_rmi (class_of a)) _ (and_parts (table.is_long (table.product_size i.size (dest_of h) (dest_of l) u v)) _ (and_parts (table.is_pinned (dest_of h)) _ k).1).1 in
      two_plain a b all (word_class (class_of a) p.0) (rm_class (class_of b) (and_parts (is_rm (class_of b)) _ p.1).0)
  multiplied to es all m = absurd (no_free m)

  divided : (to : List Lval) (es : List Expr) → All X es → Matches (division_shape (whichever A) i to es) → Plain es
  divided (c1 ∷ c2 ∷ c3 ∷ c4 ∷ c5 ∷ q ∷ r ∷ []) (hi ∷ lo ∷ b ∷ []) all m =
      let s = stand_apart (whichever A) q r hi b in
      let k = named_fits name.Div (table.divides_long i.size (dest_of q) (dest_of r) (class_of hi) (class_of lo) (class_of b) s)
      (if_five (five_lead c1 c2 c3 c4 c5) (shapes.Division i.size (dest_of q) (dest_of r) (class_of hi) (class_of lo) (class_of b) s) m) in
      let p = and_parts (is_rmi (class_of hi)) _ (and_parts (table.is_pinned (dest_of r)) _ (and_parts (table.is_pinned (dest_of q)) _ k).1).1 in
      let u = and_parts (is_rmi (class_of lo)) _ p.1 in
      three_plain hi lo b all (word_class (class_of hi) p.0) (word_class (class_of lo) u.0) (rm_class (class_of b) (and_parts (is_rm (class_of b)) _ u.1).0)
  divided to es all m = absurd (no_free m)

  -- ---- by the name
  pub no_arrays : (m : Intrinsic) (to : List Lval) (es : List Expr) → takes_size m ≡ true → i.name ≡ m → All X es → Matches (intrinsic_shape (whichever A) m i to es) → Plain es
  no_arrays name.Neg to es t e all m = one_operand name.Neg (λ d a h. changes_word d a h) e (value_behind flags.Five to) es all m
  no_arrays name.Inc to es t e all m = one_operand name.Inc (λ d a h. changes_word d a h) e (value_behind flags.Four to) es all m
  no_arrays name.Dec to es t e all m = one_operand name.Dec (λ d a h. changes_word d a h) e (value_behind flags.Four to) es all m
  no_arrays name.Not to es t e all m = one_operand name.Not (λ d a h. changes_word d a h) e (value_behind flags.Zero to) es all m
  no_arrays name.Bswap to es t e all m =
      one_operand name.Bswap (λ d a h. changes_word d a (and_parts (table.is_long (option_or i.size (class_size d))) (changes d a) (and_parts (is_r d) _ h).1).1) e (value_behind flags.Zero to) es all m
  no_arrays name.Add to es t e all m = two_operands name.Add (λ d a o h. sum_words true d a o h) e (value_behind flags.Five to) es all m
  no_arrays name.Sub to es t e all m = two_operands name.Sub (λ d a o h. sum_words false d a o h) e (value_behind flags.Five to) es all m
  no_arrays name.And to es t e all m = two_operands name.And (λ d a o h. sum_words true d a o h) e (value_behind flags.Five to) es all m
  no_arrays name.Or to es t e all m = two_operands name.Or (λ d a o h. sum_words true d a o h) e (value_behind flags.Five to) es all m
  no_arrays name.Xor to es t e all m = two_operands name.Xor (λ d a o h. sum_words true d a o h) e (value_behind flags.Five to) es all m
  no_arrays name.Imul to es t e all m = two_operands name.Imul (λ d a o h. times_words d a o h) e (value_behind flags.Five to) es all m
  no_arrays name.Shl to es t e all m = two_operands name.Shl (λ d a o h. shift_words i.size d a o h) e (value_behind flags.Five to) es all m
  no_arrays name.Shr to es t e all m = two_operands name.Shr (λ d a o h. shift_words i.size d a o h) e (value_behind flags.Five to) es all m
  no_arrays name.Sar to es t e all m = two_operands name.Sar (λ d a o h. shift_words i.size d a o h) e (value_behind flags.Five to) es all m
  no_arrays name.Rol to es t e all m = two_operands name.Rol (λ d a o h. shift_words i.size d a o h) e (value_behind flags.Two to) es all m
  no_arrays name.Ror to es t e all m = two_operands name.Ror (λ d a o h. shift_words i.size d a o h) e (value_behind flags.Two to) es all m
  no_arrays name.Adc to es t e all m = three_operands name.Adc true (λ d a o c h. h) e (value_behind flags.Five to) es all m
  no_arrays name.Sbb to es t e all m = three_operands name.Sbb false (λ d a o c h. h) e (value_behind flags.Five to) es all m
  no_arrays name.Cmp to es t e all m = compared to es all m
  no_arrays name.Test to es t e all m = compared to es all m
  no_arrays name.Mul to es t e all m = multiplied to es all m
  no_arrays name.Div to es t e all m = divided to es all m
  no_arrays name.Lea to es t e all m = absurd (false≢true t)
  no_arrays name.Setcc to es t e all m = absurd (false≢true t)
