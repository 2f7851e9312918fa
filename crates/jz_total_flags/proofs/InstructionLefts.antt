-- No left side of an intrinsic that matches is an array as a whole.
use Rattle.std.proofs.Common.{◌≡◌, Bool, true, false, ◌&&◌, ◌||◌, List, [], ◌∷◌, Option, Some, None, refl, sym, ap, subst, inl, inr, if◌then◌else◌}
use Rattle.std.specs.Prelude.{◌⊎◌, All, not}
use Rattle.std.proofs.lemmas.Bool.{false≢true, and_parts}
use Rattle.std.proofs.lemmas.List.Elements.{All-nil, All-cons, All-head, All-tail}
use Rattle.jz_words.specs.declared.size.Size.{Size}
use Rattle.jz_tree.specs.declared.intrinsic.Intrinsic.{Intrinsic}
use Rattle.jz_tree.specs.declared.intrinsic.Intrinsic.TheVariants as name
use Rattle.jz_tree.specs.declared.intrinsic.Instance.{Instance}
use Rattle.jz_tree.specs.declared.expr.Expr.{Expr}
use Rattle.jz_tree.specs.declared.stmt.Lval.{Lval}
use Rattle.jz_type_names.specs.Kinds.{whole_array}
use Rattle.jz_judgement.proofs.Nothing.{none_not, same_some}
use Rattle.jz_select.specs.declared.class.Class.{Class}
use Rattle.jz_select.specs.declared.class.Operand.{Operand}
use Rattle.jz_select.specs.declared.shaping.Flags.{Flags}
use Rattle.jz_select.specs.declared.shaping.Flags.TheVariants as flags
use Rattle.jz_select.specs.declared.shape.Shape as rowed
use Rattle.jz_select.specs.declared.shape.Shape.TheVariants as shapes
use Rattle.jz_select.specs.Operands.{class_of, dest_of, operand_of}
use Rattle.jz_select.specs.Rows as table
use Rattle.jz_select.specs.Rows.{is_r, is_m, is_i, is_rm, is_rmi, is_flag, is_skip, is_flag_result, is_pinned, is_longest, class_size, masks, changes, computes, times, times_inline, shifts_inline, shifts_masked, one_fits, two_fits, three_fits}
use Rattle.jz_select.specs.Shapes.{whichever, leads, two_lead, four_lead, five_lead, if_lead, stand_apart, value_behind, one_shape, two_shape, three_shape, compare_shape, product_shape, division_shape, intrinsic_shape}
use Rattle.std.specs.Option.{option_or}
use Rattle.jz_row_laws.proofs.Booleans.{or_parts, or_left, or_right}
use Rattle.jz_row_laws.proofs.Copied.{Matches, no_free}
use Rattle.jz_run_laws.specs.OneSize.{takes_size}
use Rattle.jz_run_laws.specs.Lefts.{CountedParts, IsCountedLeft}
use Rattle.jz_stuck_runs.proofs.RowSizes.{named_fits}
use Rattle.jz_homes.specs.Homes.{Homes}
use Rattle.jz_total_rows.specs.Expanded as expanded
use Rattle.jz_total_rows.specs.Expanded.{IsExpandedLeft}
use Rattle.jz_total_rows.proofs.Meets.{A}
use Rattle.jz_total_rows.proofs.Counting.{home_counted, all_counted}
use Rattle.jz_total_flags.proofs.InstructionArrays.{IsNotOther, not_array}

-- ---- one left side
abbrev pub IsPlace : Lval → Type 0
IsPlace d = IsNotOther (dest_of d)

flag_place : (d : Lval) → leads d ≡ true → IsPlace d
flag_place d h = record { test = is_flag_result; other = refl; holds = h }

rm_place : (d : Lval) → is_rm (dest_of d) ≡ true → IsPlace d
rm_place d h = record { test = is_rm; other = refl; holds = h }

pinned_place : (d : Lval) → is_pinned (dest_of d) ≡ true → IsPlace d
pinned_place d h = record { test = is_pinned; other = refl; holds = h }

parts_counted : (home : Homes) (d : Lval) → IsExpandedLeft home d → CountedParts d
parts_counted home d (expanded.to_nothing at) = tt
parts_counted home d (expanded.to_variable v x) = home_counted home v x
parts_counted home d (expanded.to_cell v i x y) = (home_counted home v x, all_counted home i y)
parts_counted home d (expanded.to_memory a x) = all_counted home a.at x

no_whole : (home : Homes) (d : Lval) → IsExpandedLeft home d → IsPlace d → whole_array d ≡ None
no_whole home d (expanded.to_nothing at) c = refl
no_whole home d (expanded.to_variable v x) c = ap (λ b. if b then Some v else None) (not_array home v x c)
no_whole home d (expanded.to_cell v i x y) c = refl
no_whole home d (expanded.to_memory a x) c = refl

pub lefts_counted : (home : Homes) (to : List Lval) → All (IsExpandedLeft home) to → All IsPlace to → All IsCountedLeft to
lefts_counted home [] all c = All-nil IsCountedLeft
lefts_counted home (d ∷ ds) all c =
    let x = All-head (IsExpandedLeft home) d ds all in
    All-cons IsCountedLeft d ds (parts_counted home d x, no_whole home d x (All-head IsPlace d ds c)) (lefts_counted home ds (All-tail (IsExpandedLeft home) d ds all) (All-tail IsPlace d ds c))

-- ---- flags, and what is behind them
behind_if : (b : Bool) (d x : Lval) → if_lead b d ≡ Some x → (b ≡ true) × (d ≡ x)
behind_if true d x e = (refl, same_some d x e)
behind_if false d x e = absurd (none_not x e)

back : (d x : Lval) → d ≡ x → IsPlace x → All IsPlace (d ∷ [])
back d x e c = All-cons IsPlace d [] (subst IsPlace (sym e) c) (All-nil IsPlace)

five_places : (a b c g k : Lval) (rest : List Lval) → five_lead a b c g k ≡ true → All IsPlace rest → All IsPlace (a ∷ b ∷ c ∷ g ∷ k ∷ rest)
five_places a b c g k rest h all =
    let p = and_parts (leads a) _ h in
    let q = and_parts (leads b) _ p.1 in
    let r = and_parts (leads c) _ q.1 in
    let s = and_parts (leads g) (leads k) r.1 in
    All-cons IsPlace a (b ∷ c ∷ g ∷ k ∷ rest) (flag_place a p.0)
    (All-cons IsPlace b (c ∷ g ∷ k ∷ rest) (flag_place b q.0)
    (All-cons IsPlace c (g ∷ k ∷ rest) (flag_place c r.0) (All-cons IsPlace g (k ∷ rest) (flag_place g s.0) (All-cons IsPlace k rest (flag_place k s.1) all))))

zero_behind : (to : List Lval) (x : Lval) → value_behind flags.Zero to ≡ Some x → IsPlace x → All IsPlace to
zero_behind [] x e c = absurd (none_not x e)
zero_behind (d ∷ []) x e c = back d x (same_some d x e) c
zero_behind (d ∷ b ∷ ds) x e c = absurd (none_not x e)

two_behind : (to : List Lval) (x : Lval) → value_behind flags.Two to ≡ Some x → IsPlace x → All IsPlace to
two_behind (a ∷ b ∷ d ∷ []) x e c =
    let t = behind_if (two_lead a b) d x e in
    let p = and_parts (leads a) (leads b) t.0 in
    All-cons IsPlace a (b ∷ d ∷ []) (flag_place a p.0) (All-cons IsPlace b (d ∷ []) (flag_place b p.1) (back d x t.1 c))
two_behind to x e c = absurd (none_not x e)

four_behind : (to : List Lval) (x : Lval) → value_behind flags.Four to ≡ Some x → IsPlace x → All IsPlace to
four_behind (a ∷ b ∷ g ∷ k ∷ d ∷ []) x e c =
    let t = behind_if (four_lead a b g k) d x e in
    let p = and_parts (leads a) _ t.0 in
    let q = and_parts (leads b) _ p.1 in
    let r = and_parts (leads g) (leads k) q.1 in
    All-cons IsPlace a (b ∷ g ∷ k ∷ d ∷ []) (flag_place a p.0)
    (All-cons IsPlace b (g ∷ k ∷ d ∷ []) (flag_place b q.0) (All-cons IsPlace g (k ∷ d ∷ []) (flag_place g r.0) (All-cons IsPlace k (d ∷ []) (flag_place k r.1) (back d x t.1 c))))
four_behind to x e c = absurd (none_not x e)

five_behind : (to : List Lval) (x : Lval) → value_behind flags.Five to ≡ Some x → IsPlace x → All IsPlace to
five_behind (a ∷ b ∷ c ∷ g ∷ k ∷ d ∷ []) x e w = let t = behind_if (five_lead a b c g k) d x e in five_places a b c g k (d ∷ []) t.0 (back d x t.1 w)
five_behind to x e c = absurd (none_not x e)

places_behind : (f : Flags) (to : List Lval) (x : Lval) → value_behind f to ≡ Some x → IsPlace x → All IsPlace to
places_behind flags.Zero to x e c = zero_behind to x e c
places_behind flags.Two to x e c = two_behind to x e c
places_behind flags.Four to x e c = four_behind to x e c
places_behind flags.Five to x e c = five_behind to x e c

-- ---- what the rows ask of the destination
changes_to : (d : Class) (a : Operand) → changes d a ≡ true → is_rm d ≡ true
changes_to d a h = (and_parts (is_rm d) _ h).0

computes_to : (s : Bool) (d : Class) (a o : Operand) → computes s d a o ≡ true → is_rm d ≡ true
computes_to s d a o h = (and_parts (is_rm d) _ h).0

sum_to : (s : Bool) (d : Class) (a o : Operand) → (is_rmi o.class && computes s d a o) ≡ true → is_rm d ≡ true
sum_to s d a o h = computes_to s d a o (and_parts (is_rmi o.class) (computes s d a o) h).1

times_to : (d : Class) (a o : Operand) → (times d a o || times_inline d a o) ≡ true → is_rm d ≡ true
times_to d a o h = by_part (or_parts (times d a o) (times_inline d a o) h)
  where
    by_part : (times d a o ≡ true) ⊎ (times_inline d a o ≡ true) → is_rm d ≡ true
    by_part (inl t) = or_left (is_r d) (is_m d) (and_parts (is_r d) _ t).0
    by_part (inr t) = or_left (is_r d) (is_m d) (and_parts (is_r d) _ t).0

shift_to : (z : Option Size) (d : Class) (a o : Operand) → (shifts_inline d a o || shifts_masked z d a o) ≡ true → is_rm d ≡ true
shift_to z d a o h = by_part (or_parts (shifts_inline d a o) (shifts_masked z d a o) h)
  where
    by_part : (shifts_inline d a o ≡ true) ⊎ (shifts_masked z d a o ≡ true) → is_rm d ≡ true
    by_part (inl t) = changes_to d a (and_parts (is_i o.class) (changes d a) t).1
    by_part (inr t) = computes_to false d a o (and_parts (masks (is_longest (option_or z (option_or (class_size d) (class_size a.class)))) o.class) (computes false d a o) t).1

if_five : (b : Bool) (s : rowed.Shape) → Matches (if b then s else shapes.Free) → (b ≡ true) × Matches s
if_five true s h = (refl, h)
if_five false s h = absurd (no_free h)

low_place : (l : Lval) (c : Bool) → (is_skip (dest_of l) || (is_r (dest_of l) && c)) ≡ true → IsPlace l
low_place l c h = by_part (or_parts (is_skip (dest_of l)) (is_r (dest_of l) && c) h)
  where
    by_part : (is_skip (dest_of l) ≡ true) ⊎ ((is_r (dest_of l) && c) ≡ true) → IsPlace l
    by_part (inl s) = pinned_place l (or_right (is_r (dest_of l)) (is_skip (dest_of l)) s)
    by_part (inr s) = pinned_place l (or_left (is_r (dest_of l)) (is_skip (dest_of l)) (and_parts (is_r (dest_of l)) c s).0)

two_places : (h l : Lval) → IsPlace h → IsPlace l → All IsPlace (h ∷ l ∷ [])
two_places h l p q = All-cons IsPlace h (l ∷ []) p (All-cons IsPlace l [] q (All-nil IsPlace))

module _ (i : Instance) where
  one_place : (n : Intrinsic) (g : Flags) → ((d : Class) (a : Operand) → one_fits n i.size d a ≡ true → is_rm d ≡ true) → i.name ≡ n → (to : List Lval) (x : Option Lval) → value_behind g to ≡ x → (es : List Expr) → Matches (one_shape (whichever A) i x es) → All IsPlace to
  one_place n g f e to (Some d) s (a ∷ []) m =
      let o = operand_of A d a in
      let h = named_fits i.name (one_fits i.name i.size (dest_of d) o) m in
      places_behind g to d s (rm_place d (f (dest_of d) o (subst (λ q. one_fits q i.size (dest_of d) o ≡ true) e h)))
  one_place n g f e to x s es m = absurd (no_free m)

  two_place : (n : Intrinsic) (g : Flags) → ((d : Class) (a o : Operand) → two_fits n i.size d a o ≡ true → is_rm d ≡ true) → i.name ≡ n → (to : List Lval) (x : Option Lval) → value_behind g to ≡ x → (es : List Expr) → Matches (two_shape (whichever A) i x es) → All IsPlace to
  two_place n g f e to (Some d) s (a ∷ b ∷ []) m =
      let u = operand_of A d a in
      let v = operand_of A d b in
      let h = named_fits i.name (two_fits i.name i.size (dest_of d) u v) m in
      places_behind g to d s (rm_place d (f (dest_of d) u v (subst (λ q. two_fits q i.size (dest_of d) u v ≡ true) e h)))
  two_place n g f e to x s es m = absurd (no_free m)

  three_place : (n : Intrinsic) (t : Bool) → ((d : Class) (a o : Operand) (c : Class) → three_fits n d a o c ≡ true → (is_flag c && (is_rmi o.class && computes t d a o)) ≡ true) → i.name ≡ n → (to : List Lval) (x : Option Lval) → value_behind flags.Five to ≡ x → (es : List Expr)
      → Matches (three_shape (whichever A) i x es) → All IsPlace to
  three_place n t f e to (Some d) s (a ∷ b ∷ k ∷ []) m =
      let u = operand_of A d a in
      let v = operand_of A d b in
      let h = named_fits i.name (three_fits i.name (dest_of d) u v (class_of k)) m in
      let p = and_parts (is_flag (class_of k)) _ (f (dest_of d) u v (class_of k) (subst (λ q. three_fits q (dest_of d) u v (class_of k) ≡ true) e h)) in
      places_behind flags.Five to d s (rm_place d (sum_to t (dest_of d) u v p.1))
  three_place n t f e to x s es m = absurd (no_free m)

  compared : (to : List Lval) (es : List Expr) → Matches (compare_shape i to es) → All IsPlace to
  compared (c1 ∷ c2 ∷ c3 ∷ c4 ∷ c5 ∷ []) (a ∷ b ∷ []) m = five_places c1 c2 c3 c4 c5 [] (if_five (five_lead c1 c2 c3 c4 c5) (shapes.Compare i.name (class_of a) (class_of b)) m).0 (All-nil IsPlace)
  compared to es m = absurd (no_free m)

  multiplied : (to : List Lval) (es : List Expr) → Matches (product_shape (whichever A) i to es) → All IsPlace to
  multiplied (c1 ∷ c2 ∷ c3 ∷ c4 ∷ c5 ∷ h ∷ l ∷ []) (a ∷ b ∷ []) m =
      let u = operand_of A l a in
      let v = operand_of A l b in
      let f = if_five (five_lead c1 c2 c3 c4 c5) (shapes.Product i.size (dest_of h) (dest_of l) u v) m in
      let p = and_parts (is_pinned (dest_of h)) _ (named_fits name.Mul (table.is_product i.size (dest_of h) (dest_of l) u v) f.1) in
      let q = and_parts (table.is_long (table.product_size i.size (dest_of h) (dest_of l) u v)) _ p.1 in
      let r = and_parts (is_rmi (class_of a)) _ q.1 in
      let s = and_parts (is_rm (class_of b)) _ r.1 in
      five_places c1 c2 c3 c4 c5 (h ∷ l ∷ []) f.0 (two_places h l (pinned_place h p.0) (low_place l (computes (not (is_i (class_of a))) (dest_of l) u v) s.1))
  multiplied to es m = absurd (no_free m)

  divided : (to : List Lval) (es : List Expr) → Matches (division_shape (whichever A) i to es) → All IsPlace to
  divided (c1 ∷ c2 ∷ c3 ∷ c4 ∷ c5 ∷ q ∷ r ∷ []) (hi ∷ lo ∷ b ∷ []) m =
      let s = stand_apart (whichever A) q r hi b in
      let f = if_five (five_lead c1 c2 c3 c4 c5) (shapes.Division i.size (dest_of q) (dest_of r) (class_of hi) (class_of lo) (class_of b) s) m in
      let p = and_parts (is_pinned (dest_of q)) _ (named_fits name.Div (table.divides_long i.size (dest_of q) (dest_of r) (class_of hi) (class_of lo) (class_of b) s) f.1) in
      five_places c1 c2 c3 c4 c5 (q ∷ r ∷ []) f.0 (two_places q r (pinned_place q p.0) (pinned_place r (and_parts (is_pinned (dest_of r)) _ p.1).0))
  divided to es m = absurd (no_free m)

  pub all_places : (m : Intrinsic) (to : List Lval) (es : List Expr) → takes_size m ≡ true → i.name ≡ m → Matches (intrinsic_shape (whichever A) m i to es) → All IsPlace to
  all_places name.Neg to es t e m = one_place name.Neg flags.Five (λ d a h. changes_to d a h) e to (value_behind flags.Five to) refl es m
  all_places name.Inc to es t e m = one_place name.Inc flags.Four (λ d a h. changes_to d a h) e to (value_behind flags.Four to) refl es m
  all_places name.Dec to es t e m = one_place name.Dec flags.Four (λ d a h. changes_to d a h) e to (value_behind flags.Four to) refl es m
  all_places name.Not to es t e m = one_place name.Not flags.Zero (λ d a h. changes_to d a h) e to (value_behind flags.Zero to) refl es m
  all_places name.Bswap to es t e m = one_place name.Bswap flags.Zero (λ d a h. or_left (is_r d) (is_m d) (and_parts (is_r d) _ h).0) e to (value_behind flags.Zero to) refl es m
  all_places name.Add to es t e m = two_place name.Add flags.Five (λ d a o h. sum_to true d a o h) e to (value_behind flags.Five to) refl es m
  all_places name.Sub to es t e m = two_place name.Sub flags.Five (λ d a o h. sum_to false d a o h) e to (value_behind flags.Five to) refl es m
  all_places name.And to es t e m = two_place name.And flags.Five (λ d a o h. sum_to true d a o h) e to (value_behind flags.Five to) refl es m
  all_places name.Or to es t e m = two_place name.Or flags.Five (λ d a o h. sum_to true d a o h) e to (value_behind flags.Five to) refl es m
  all_places name.Xor to es t e m = two_place name.Xor flags.Five (λ d a o h. sum_to true d a o h) e to (value_behind flags.Five to) refl es m
  all_places name.Imul to es t e m = two_place name.Imul flags.Five (λ d a o h. times_to d a o h) e to (value_behind flags.Five to) refl es m
  all_places name.Shl to es t e m = two_place name.Shl flags.Five (λ d a o h. shift_to i.size d a o h) e to (value_behind flags.Five to) refl es m
  all_places name.Shr to es t e m = two_place name.Shr flags.Five (λ d a o h. shift_to i.size d a o h) e to (value_behind flags.Five to) refl es m
  all_places name.Sar to es t e m = two_place name.Sar flags.Five (λ d a o h. shift_to i.size d a o h) e to (value_behind flags.Five to) refl es m
  all_places name.Rol to es t e m = two_place name.Rol flags.Two (λ d a o h. shift_to i.size d a o h) e to (value_behind flags.Two to) refl es m
  all_places name.Ror to es t e m = two_place name.Ror flags.Two (λ d a o h. shift_to i.size d a o h) e to (value_behind flags.Two to) refl es m
  all_places name.Adc to es t e m = three_place name.Adc true (λ d a o c h. h) e to (value_behind flags.Five to) refl es m
  all_places name.Sbb to es t e m = three_place name.Sbb false (λ d a o c h. h) e to (value_behind flags.Five to) refl es m
  all_places name.Cmp to es t e m = compared to es m
  all_places name.Test to es t e m = compared to es m
  all_places name.Mul to es t e m = multiplied to es m
  all_places name.Div to es t e m = divided to es m
  all_places name.Lea to es t e m = absurd (false≢true t)
  all_places name.Setcc to es t e m = absurd (false≢true t)
