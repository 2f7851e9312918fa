-- The rows of intrinsics.
use Rattle.std.proofs.Common.{◌≡◌, Bool, true, false, ◌&&◌, ◌||◌, List, [], ◌∷◌, Option, Some, None, refl, sym, subst, inl, inr, if◌then◌else◌}
use Rattle.std.specs.Prelude.{◌⊎◌, All}
use Rattle.std.specs.List.{list_any}
use Rattle.std.proofs.lemmas.Bool.{and_parts, false≢true}
use Rattle.std.proofs.lemmas.List.Elements.{All-nil, All-cons}
use Rattle.jz_tree.specs.Size.{Size}
use Rattle.jz_tree.specs.declared.expr.Expr.{Expr}
use Rattle.jz_tree.specs.declared.stmt.Lval.{Lval}
use Rattle.jz_tree.specs.declared.intrinsic.Intrinsic.{Intrinsic}
use Rattle.jz_tree.specs.declared.intrinsic.Intrinsic.TheVariants as name
use Rattle.jz_tree.specs.declared.intrinsic.Instance.{Instance}
use Rattle.jz_judgement.proofs.Nothing.{none_not, same_some}
use Rattle.jz_select.specs.declared.class.Class.{Class}
use Rattle.jz_select.specs.declared.class.Operand.{Operand}
use Rattle.jz_select.specs.declared.shape.Shape as rowed
use Rattle.jz_select.specs.declared.shape.Shape.TheVariants as shapes
use Rattle.jz_select.specs.declared.shaping.Flags.{Flags}
use Rattle.jz_select.specs.declared.shaping.Flags.TheVariants as flags
use Rattle.jz_select.specs.Sums.{is_sum}
use Rattle.jz_select.specs.Look.{terms_of}
use Rattle.jz_select.specs.Operands.{class_of, dest_of}
use Rattle.jz_select.specs.Rows.{is_r, is_i, is_rm, is_rmi, is_flag, is_skip, is_pinned, changes, computes, times, times_inline, shifts_inline, shifts_masked, masks, one_fits, two_fits, three_fits, is_product, divides_long, sets, named_if}
use Rattle.jz_select.specs.Shapes.{Asked, leads, two_lead, four_lead, five_lead, if_lead, value_behind, address_shape, set_shape, compare_shape, has_flags, beside, one_shape, two_shape, three_shape, product_shape, stand_apart, division_shape, intrinsic_shape, named_shape}
use Rattle.jz_select.specs.Selected.{is_named, intrinsics}
use Rattle.jz_meaning.specs.Shapes.{Sorts}
use Rattle.jz_row_laws.proofs.Booleans.{or_right, or_parts}
use Rattle.jz_row_laws.proofs.Fixed.{HasClass, is_masked, Fixed, class_fixed, good_fixed}
use Rattle.jz_row_laws.proofs.Copied.{Matches, no_free, rm_class, i_class, r_class, masks_mask, operand_fixed, flag_fixed}
use Rattle.jz_row_laws.proofs.Flags.{flags_fixed}
use Rattle.jz_row_laws.proofs.Assigned.{fine, FineLeft, fine_class, fine_result, fine_pinned}

-- ---- the intrinsic fits
abbrev any_named : Option Intrinsic → Bool
any_named o = list_any (λ n. is_named n o) intrinsics

named_fits : (n : Intrinsic) (c : Bool) → any_named (named_if n c) ≡ true → c ≡ true
named_fits n true h = refl
named_fits n false h = absurd (false≢true h)

changes_parts : (d : Class) (a : Operand) → changes d a ≡ true → (fine d ≡ true) × HasClass a.class
changes_parts d a h = let x = and_parts (is_rm d) _ h in (fine_class d (rm_class d x.0), (and_parts (is_rmi a.class) _ x.1).0)

computes_parts : (s : Bool) (d : Class) (a o : Operand) → computes s d a o ≡ true → (fine d ≡ true) × HasClass a.class
computes_parts s d a o h = let x = and_parts (is_rm d) _ h in (fine_class d (rm_class d x.0), (and_parts (is_rmi a.class) _ x.1).0)

abbrev OneFits : Class → Operand → Type 0
OneFits d a = (fine d ≡ true) × HasClass a.class

one_so : (n : Intrinsic) (z : Option Size) (d : Class) (a : Operand) → one_fits n z d a ≡ true → OneFits d a
one_so name.Neg z d a h = changes_parts d a h
one_so name.Inc z d a h = changes_parts d a h
one_so name.Dec z d a h = changes_parts d a h
one_so name.Not z d a h = changes_parts d a h
one_so name.Bswap z d a h = changes_parts d a (and_parts _ (changes d a) (and_parts (is_r d) _ h).1).1
one_so n z d a h = absurd (false≢true h)

-- a register, memory, inline or a masked count
abbrev Operanded : Operand → Type 0
Operanded o = HasClass o.class ⊎ (is_masked o.class ≡ true)

abbrev TwoFits : Class → Operand → Operand → Type 0
TwoFits d a o = (fine d ≡ true) × (HasClass a.class × Operanded o)

plain_two : (s : Bool) (d : Class) (a o : Operand) → (is_rmi o.class && computes s d a o) ≡ true → TwoFits d a o
plain_two s d a o h =
    let x = and_parts (is_rmi o.class) (computes s d a o) h in
    let y = computes_parts s d a o x.1 in
    (y.0, (y.1, inl x.0))

product_two : (d : Class) (a o : Operand) → (times d a o || times_inline d a o) ≡ true → TwoFits d a o
product_two d a o h = by_part (or_parts (times d a o) (times_inline d a o) h)
  where
    by_part : (times d a o ≡ true) ⊎ (times_inline d a o ≡ true) → TwoFits d a o
    by_part (inl t) =
        let r = and_parts (is_r d) _ t in
        let z = and_parts (is_rm o.class) _ (and_parts _ _ r.1).1 in
        let m = and_parts (is_rm d) _ z.1 in
        (fine_class d (r_class d r.0), ((and_parts (is_rmi a.class) _ m.1).0, inl (rm_class o.class z.0)))
    by_part (inr t) =
        let r = and_parts (is_r d) _ t in
        let z = and_parts (is_rm a.class) (is_i o.class) (and_parts _ _ r.1).1 in
        (fine_class d (r_class d r.0), (rm_class a.class z.0, inl (i_class o.class z.1)))

shift_two : (z : Option Size) (d : Class) (a o : Operand) → (shifts_inline d a o || shifts_masked z d a o) ≡ true → TwoFits d a o
shift_two z d a o h = by_part (or_parts (shifts_inline d a o) (shifts_masked z d a o) h)
  where
    by_part : (shifts_inline d a o ≡ true) ⊎ (shifts_masked z d a o ≡ true) → TwoFits d a o
    by_part (inl t) =
        let x = and_parts (is_i o.class) (changes d a) t in
        let y = changes_parts d a x.1 in
        (y.0, (y.1, inl (i_class o.class x.0)))
    by_part (inr t) =
        let x = and_parts (masks _ o.class) (computes false d a o) t in
        let y = computes_parts false d a o x.1 in
        (y.0, (y.1, inr (masks_mask _ o.class x.0)))

two_so : (n : Intrinsic) (z : Option Size) (d : Class) (a o : Operand) → two_fits n z d a o ≡ true → TwoFits d a o
two_so name.Add z d a o h = plain_two true d a o h
two_so name.And z d a o h = plain_two true d a o h
two_so name.Or z d a o h = plain_two true d a o h
two_so name.Xor z d a o h = plain_two true d a o h
two_so name.Sub z d a o h = plain_two false d a o h
two_so name.Imul z d a o h = product_two d a o h
two_so name.Shl z d a o h = shift_two z d a o h
two_so name.Shr z d a o h = shift_two z d a o h
two_so name.Sar z d a o h = shift_two z d a o h
two_so name.Rol z d a o h = shift_two z d a o h
two_so name.Ror z d a o h = shift_two z d a o h
two_so n z d a o h = absurd (false≢true h)

three_by : (s : Bool) (d : Class) (a o : Operand) (c : Class) → (is_flag c && (is_rmi o.class && computes s d a o)) ≡ true → TwoFits d a o × (is_flag c ≡ true)
three_by s d a o c h = let x = and_parts (is_flag c) (is_rmi o.class && computes s d a o) h in (plain_two s d a o x.1, x.0)

three_so : (n : Intrinsic) (d : Class) (a o : Operand) (c : Class) → three_fits n d a o c ≡ true → TwoFits d a o × (is_flag c ≡ true)
three_so name.Adc d a o c h = three_by true d a o c h
three_so name.Sbb d a o c h = three_by false d a o c h
three_so n d a o c h = absurd (false≢true h)

-- ---- left sides
abbrev Lefts : List Lval → Type 0
Lefts to = All FineLeft to

lead_fine : (d : Lval) → leads d ≡ true → FineLeft d
lead_fine d h = fine_result (dest_of d) h

-- what stands behind the flags
behind_if : (b : Bool) (d x : Lval) → if_lead b d ≡ Some x → (b ≡ true) × (d ≡ x)
behind_if true d x e = (refl, same_some d x e)
behind_if false d x e = absurd (none_not x e)

one_left : (d : Lval) → FineLeft d → Lefts (d ∷ [])
one_left d h = All-cons FineLeft d [] h (All-nil FineLeft)

five_left : (a b c e g : Lval) (ds : List Lval) → five_lead a b c e g ≡ true → Lefts ds → Lefts (a ∷ b ∷ c ∷ e ∷ g ∷ ds)
five_left a b c e g ds h k =
    let p = and_parts (leads a) _ h in
    let q = and_parts (leads b) _ p.1 in
    let r = and_parts (leads c) _ q.1 in
    let t = and_parts (leads e) (leads g) r.1 in
    All-cons FineLeft a (b ∷ c ∷ e ∷ g ∷ ds) (lead_fine a p.0)
    (All-cons FineLeft b (c ∷ e ∷ g ∷ ds) (lead_fine b q.0)
    (All-cons FineLeft c (e ∷ g ∷ ds) (lead_fine c r.0) (All-cons FineLeft e (g ∷ ds) (lead_fine e t.0) (All-cons FineLeft g ds (lead_fine g t.1) k))))

four_left : (a b c e : Lval) (ds : List Lval) → four_lead a b c e ≡ true → Lefts ds → Lefts (a ∷ b ∷ c ∷ e ∷ ds)
four_left a b c e ds h k =
    let p = and_parts (leads a) _ h in
    let q = and_parts (leads b) _ p.1 in
    let r = and_parts (leads c) (leads e) q.1 in
    All-cons FineLeft a (b ∷ c ∷ e ∷ ds) (lead_fine a p.0)
    (All-cons FineLeft b (c ∷ e ∷ ds) (lead_fine b q.0) (All-cons FineLeft c (e ∷ ds) (lead_fine c r.0) (All-cons FineLeft e ds (lead_fine e r.1) k)))

two_left : (a b : Lval) (ds : List Lval) → two_lead a b ≡ true → Lefts ds → Lefts (a ∷ b ∷ ds)
two_left a b ds h k =
    let p = and_parts (leads a) (leads b) h in
    All-cons FineLeft a (b ∷ ds) (lead_fine a p.0) (All-cons FineLeft b ds (lead_fine b p.1) k)

behind_lefts : (f : Flags) (to : List Lval) (x : Lval) → value_behind f to ≡ Some x → FineLeft x → Lefts to
behind_lefts flags.Zero (d ∷ []) x e h = one_left d (subst FineLeft (sym (same_some d x e)) h)
behind_lefts flags.Two (a ∷ b ∷ d ∷ []) x e h =
    let t = behind_if (two_lead a b) d x e in two_left a b (d ∷ []) t.0 (one_left d (subst FineLeft (sym t.1) h))
behind_lefts flags.Four (a ∷ b ∷ c ∷ g ∷ d ∷ []) x e h =
    let t = behind_if (four_lead a b c g) d x e in four_left a b c g (d ∷ []) t.0 (one_left d (subst FineLeft (sym t.1) h))
behind_lefts flags.Five (a ∷ b ∷ c ∷ g ∷ k ∷ d ∷ []) x e h =
    let t = behind_if (five_lead a b c g k) d x e in five_left a b c g k (d ∷ []) t.0 (one_left d (subst FineLeft (sym t.1) h))
behind_lefts f to x e h = absurd (none_not x e)

-- ---- operands
module _ (sorts : Sorts) (asked : Asked) where
  abbrev AllFixed : List Expr → Type 0
  AllFixed es = All (Fixed sorts) es

  abbrev Both : List Lval → List Expr → Type 0
  Both to args = Lefts to × AllFixed args

  one_arg : (a : Expr) → Fixed sorts a → AllFixed (a ∷ [])
  one_arg a h = All-cons (Fixed sorts) a [] h (All-nil (Fixed sorts))

  two_args : (a b : Expr) → Fixed sorts a → Fixed sorts b → AllFixed (a ∷ b ∷ [])
  two_args a b h k = All-cons (Fixed sorts) a (b ∷ []) h (one_arg b k)

  three_args : (a b c : Expr) → Fixed sorts a → Fixed sorts b → Fixed sorts c → AllFixed (a ∷ b ∷ c ∷ [])
  three_args a b c h k l = All-cons (Fixed sorts) a (b ∷ c ∷ []) h (two_args b c k l)

  -- by the value behind the flags
  one_by : (i : Instance) (f : Flags) (to : List Lval) (x : Option Lval) (args : List Expr) → value_behind f to ≡ x → Matches (one_shape asked i x args) → Both to args
  one_by i f to (Some d) (a ∷ []) e h =
      let t = one_so i.name i.size (dest_of d) (beside asked d (Some a) a) (named_fits i.name (one_fits i.name i.size (dest_of d) (beside asked d (Some a) a)) h) in
      (behind_lefts f to d e t.0, one_arg a (class_fixed sorts a t.1))
  one_by i f to None args e h = absurd (no_free h)
  one_by i f to (Some d) [] e h = absurd (no_free h)
  one_by i f to (Some d) (a ∷ b ∷ args) e h = absurd (no_free h)

  two_by : (i : Instance) (f : Flags) (to : List Lval) (x : Option Lval) (args : List Expr) → value_behind f to ≡ x → Matches (two_shape asked i x args) → Both to args
  two_by i f to (Some d) (a ∷ o ∷ []) e h =
      let u = beside asked d (Some a) a in
      let v = beside asked d (Some a) o in
      let t = two_so i.name i.size (dest_of d) u v (named_fits i.name (two_fits i.name i.size (dest_of d) u v) h) in
      (behind_lefts f to d e t.0, two_args a o (class_fixed sorts a t.1.0) (operand_fixed sorts o t.1.1))
  two_by i f to None args e h = absurd (no_free h)
  two_by i f to (Some d) [] e h = absurd (no_free h)
  two_by i f to (Some d) (a ∷ []) e h = absurd (no_free h)
  two_by i f to (Some d) (a ∷ b ∷ c ∷ args) e h = absurd (no_free h)

  three_arguments : (i : Instance) (f : Flags) (to : List Lval) (x : Option Lval) (args : List Expr) → value_behind f to ≡ x → Matches (three_shape asked i x args) → Both to args
  three_arguments i f to (Some d) (a ∷ o ∷ c ∷ []) e h =
      let u = beside asked d (Some a) a in
      let v = beside asked d (Some a) o in
      let t = three_so i.name (dest_of d) u v (class_of c) (named_fits i.name (three_fits i.name (dest_of d) u v (class_of c)) h) in
      (behind_lefts f to d e t.0.0, three_args a o c (class_fixed sorts a t.0.1.0) (operand_fixed sorts o t.0.1.1) (flag_fixed sorts c t.1))
  three_arguments i f to None args e h = absurd (no_free h)
  three_arguments i f to (Some d) [] e h = absurd (no_free h)
  three_arguments i f to (Some d) (a ∷ []) e h = absurd (no_free h)
  three_arguments i f to (Some d) (a ∷ b ∷ []) e h = absurd (no_free h)
  three_arguments i f to (Some d) (a ∷ b ∷ c ∷ k ∷ args) e h = absurd (no_free h)

  address_by : (i : Instance) (f : Flags) (to : List Lval) (x : Option Lval) (args : List Expr) → value_behind f to ≡ x → Matches (address_shape i x args) → Both to args
  address_by i f to (Some d) (a ∷ []) e h =
      let t = and_parts (is_r (dest_of d)) _ (named_fits name.Lea _ h) in
      let s = and_parts _ (is_sum (terms_of a)) t.1 in
      (behind_lefts f to d e (fine_class (dest_of d) (r_class (dest_of d) t.0)), one_arg a (good_fixed sorts a (and_parts (terms_of a).good _ s.1).0))
  address_by i f to None args e h = absurd (no_free h)
  address_by i f to (Some d) [] e h = absurd (no_free h)
  address_by i f to (Some d) (a ∷ b ∷ args) e h = absurd (no_free h)

  set_by : (i : Instance) (f : Flags) (to : List Lval) (x : Option Lval) (args : List Expr) → value_behind f to ≡ x → Matches (set_shape i x args) → Both to args
  set_by i f to (Some d) (c ∷ []) e h =
      let t = and_parts (sets i.size (dest_of d)) (has_flags c) (named_fits name.Setcc (sets i.size (dest_of d) && has_flags c) h) in
      let s = and_parts (is_rm (dest_of d)) _ (and_parts _ _ t.0).1 in
      (behind_lefts f to d e (fine_class (dest_of d) (rm_class (dest_of d) s.0)), one_arg c (flags_fixed sorts c t.1))
  set_by i f to None args e h = absurd (no_free h)
  set_by i f to (Some d) [] e h = absurd (no_free h)
  set_by i f to (Some d) (a ∷ b ∷ args) e h = absurd (no_free h)

  -- ---- behind five flags
  if_five : (b : Bool) (s : rowed.Shape) → Matches (if b then s else shapes.Free) → (b ≡ true) × Matches s
  if_five true s h = (refl, h)
  if_five false s h = absurd (no_free h)

  compared : (i : Instance) (to : List Lval) (args : List Expr) → Matches (compare_shape i to args) → Both to args
  compared i (a ∷ b ∷ c ∷ e ∷ g ∷ []) (x ∷ y ∷ []) h =
      let t = if_five (five_lead a b c e g) (shapes.Compare i.name (class_of x) (class_of y)) h in
      let u = and_parts (is_rm (class_of x)) (is_r (class_of y) || is_i (class_of y)) (named_fits i.name (is_rm (class_of x) && (is_r (class_of y) || is_i (class_of y))) t.1) in
      (five_left a b c e g [] t.0 (All-nil FineLeft), two_args x y (class_fixed sorts x (rm_class (class_of x) u.0)) (class_fixed sorts y (second (or_parts (is_r (class_of y)) (is_i (class_of y)) u.1))))
    where
      second : (is_r (class_of y) ≡ true) ⊎ (is_i (class_of y) ≡ true) → HasClass (class_of y)
      second (inl k) = r_class (class_of y) k
      second (inr k) = i_class (class_of y) k
  compared i to args h = absurd (no_free h)

  low_fine : (d : Class) (r s : Bool) → (r ≡ true → fine d ≡ true) → is_skip d ≡ s → (s || r) ≡ true → fine d ≡ true
  low_fine d r true f e h = or_right (is_rmi d) (is_flag d || is_skip d) (or_right (is_flag d) (is_skip d) e)
  low_fine d r false f e h = f h

  multiplied : (i : Instance) (to : List Lval) (args : List Expr) → Matches (product_shape asked i to args) → Both to args
  multiplied i (a ∷ b ∷ c ∷ e ∷ g ∷ k ∷ l ∷ []) (x ∷ y ∷ []) h =
      let u = beside asked l (Some x) x in
      let v = beside asked l (Some x) y in
      let t = if_five (five_lead a b c e g) (shapes.Product i.size (dest_of k) (dest_of l) u v) h in
      let m = and_parts (is_pinned (dest_of k)) _ (named_fits name.Mul (is_product i.size (dest_of k) (dest_of l) u v) t.1) in
      let n = and_parts (is_rmi (class_of x)) _ (and_parts _ _ m.1).1 in
      let o = and_parts (is_rm (class_of y)) _ n.1 in
      let low = low_fine (dest_of l) _ (is_skip (dest_of l)) (λ z. fine_class (dest_of l) (r_class (dest_of l) (and_parts (is_r (dest_of l)) _ z).0)) refl o.1 in (
        five_left a b c e g (k ∷ l ∷ []) t.0 (All-cons FineLeft k (l ∷ []) (fine_pinned (dest_of k) m.0) (one_left l low)),
        two_args x y (class_fixed sorts x n.0) (class_fixed sorts y (rm_class (class_of y) o.0)),
      )
  multiplied i to args h = absurd (no_free h)

  divided : (i : Instance) (to : List Lval) (args : List Expr) → Matches (division_shape asked i to args) → Both to args
  divided i (a ∷ b ∷ c ∷ e ∷ g ∷ k ∷ l ∷ []) (x ∷ y ∷ z ∷ []) h =
      let s = stand_apart asked k l x z in
      let t = if_five (five_lead a b c e g) (shapes.Division i.size (dest_of k) (dest_of l) (class_of x) (class_of y) (class_of z) s) h in
      let m = and_parts (is_pinned (dest_of k)) _ (named_fits name.Div (divides_long i.size (dest_of k) (dest_of l) (class_of x) (class_of y) (class_of z) s) t.1) in
      let n = and_parts (is_pinned (dest_of l)) _ m.1 in
      let o = and_parts (is_rmi (class_of x)) _ n.1 in
      let p = and_parts (is_rmi (class_of y)) _ o.1 in
      let q = and_parts (is_rm (class_of z)) _ p.1 in (
        five_left a b c e g (k ∷ l ∷ []) t.0 (All-cons FineLeft k (l ∷ []) (fine_pinned (dest_of k) m.0) (one_left l (fine_pinned (dest_of l) n.0))),
        three_args x y z (class_fixed sorts x o.0) (class_fixed sorts y p.0) (class_fixed sorts z (rm_class (class_of z) q.0)),
      )
  divided i to args h = absurd (no_free h)

  -- ---- each intrinsic
  by_name : (n : Intrinsic) (i : Instance) (to : List Lval) (args : List Expr) → Matches (intrinsic_shape asked n i to args) → Both to args
  by_name name.Neg i to args h = one_by i flags.Five to (value_behind flags.Five to) args refl h
  by_name name.Inc i to args h = one_by i flags.Four to (value_behind flags.Four to) args refl h
  by_name name.Dec i to args h = one_by i flags.Four to (value_behind flags.Four to) args refl h
  by_name name.Not i to args h = one_by i flags.Zero to (value_behind flags.Zero to) args refl h
  by_name name.Bswap i to args h = one_by i flags.Zero to (value_behind flags.Zero to) args refl h
  by_name name.Lea i to args h = address_by i flags.Zero to (value_behind flags.Zero to) args refl h
  by_name name.Setcc i to args h = set_by i flags.Zero to (value_behind flags.Zero to) args refl h
  by_name name.Adc i to args h = three_arguments i flags.Five to (value_behind flags.Five to) args refl h
  by_name name.Sbb i to args h = three_arguments i flags.Five to (value_behind flags.Five to) args refl h
  by_name name.Cmp i to args h = compared i to args h
  by_name name.Test i to args h = compared i to args h
  by_name name.Mul i to args h = multiplied i to args h
  by_name name.Div i to args h = divided i to args h
  by_name name.Rol i to args h = two_by i flags.Two to (value_behind flags.Two to) args refl h
  by_name name.Ror i to args h = two_by i flags.Two to (value_behind flags.Two to) args refl h
  by_name n i to args h = two_by i flags.Five to (value_behind flags.Five to) args refl h

  pub instructed_fixed : (i : Option Instance) (to : List Lval) (args : List Expr) → Matches (named_shape asked i to args) → Both to args
  instructed_fixed None to args h = absurd (no_free h)
  instructed_fixed (Some i) to args h = by_name i.name i to args h
