-- What a row gives of the classes of an instruction's operands and left sides.
use Rattle.std.proofs.Common.{◌≡◌, Bool, true, false, ◌&&◌, ◌||◌, List, [], ◌∷◌, Option, Some, None, refl, sym, ap, ◌∙◌, inl, inr, if◌then◌else◌}
use Rattle.std.specs.Prelude.{◌⊎◌}
use Rattle.std.specs.Option.{option_or}
use Rattle.std.proofs.lemmas.Bool.{and_parts, false≢true}
use Rattle.x64_insn.specs.Size.{Size}
use Rattle.jz_tree.specs.declared.expr.Expr.{Expr}
use Rattle.jz_tree.specs.declared.stmt.Lval.{Lval}
use Rattle.jz_tree.specs.declared.intrinsic.Intrinsic.{Intrinsic}
use Rattle.jz_tree.specs.declared.intrinsic.Intrinsic.TheVariants as name
use Rattle.jz_tree.specs.declared.intrinsic.Instance.{Instance}
use Rattle.jz_judgement.proofs.Nothing.{none_not, same_some}
use Rattle.jz_select.specs.declared.class.Class.{Class}
use Rattle.jz_select.specs.declared.class.Operand.{Operand}
use Rattle.jz_select.specs.declared.shape.Shape as rowed
use Rattle.jz_select.specs.declared.shape.Shape.TheVariants as shapes
use Rattle.jz_select.specs.declared.shaping.Flags.TheVariants as flags
use Rattle.jz_select.specs.Sums.{is_sum}
use Rattle.jz_select.specs.Look.{look_of, terms_of}
use Rattle.jz_select.specs.Operands.{class_of, dest_of}
use Rattle.jz_select.specs.Rows.{is_r, is_i, is_m, is_rm, is_rmi, is_flag, is_skip, is_pinned, is_longest, class_size, changes, computes, times, times_inline, shifts_inline, shifts_masked, masks, one_fits, two_fits, three_fits, is_product, divides_long, sets}
use Rattle.jz_select.specs.Shapes.{Asked, leads, two_lead, four_lead, five_lead, if_lead, value_behind, address_shape, set_shape, compare_shape, has_flags, beside, one_shape, two_shape, three_shape, product_shape, stand_apart, division_shape, intrinsic_shape}
use Rattle.jz_row_laws.proofs.Booleans.{or_left, or_right, or_parts}
use Rattle.jz_row_laws.proofs.Copied.{Matches, no_free, rm_class, i_class, r_class}
use Rattle.jz_stuck_runs.proofs.RowSizes.{named_fits}
use Rattle.jz_instructed.specs.Instructed.{a_flag, a_word, five_flags, flags_and_word, flags_and_two, shapes_of, Form, one_word, two_words, three_words, with_carry, with_count, an_address, a_condition, form_of}
use Rattle.jz_row_classes.specs.RowClasses.{Classed, LeftsClassed}

-- ---- classes
abbrev OneFits : Class → Operand → Type 0
OneFits d a = (is_rm d ≡ true) × (is_rmi a.class ≡ true)

r_rm : (c : Class) → is_r c ≡ true → is_rm c ≡ true
r_rm c h = or_left (is_r c) (is_m c) h

changes_parts : (d : Class) (a : Operand) → changes d a ≡ true → OneFits d a
changes_parts d a h = let x = and_parts (is_rm d) _ h in (x.0, (and_parts (is_rmi a.class) _ x.1).0)

computes_parts : (s : Bool) (d : Class) (a o : Operand) → computes s d a o ≡ true → OneFits d a
computes_parts s d a o h = let x = and_parts (is_rm d) _ h in (x.0, (and_parts (is_rmi a.class) _ x.1).0)

one_so : (n : Intrinsic) (z : Option Size) (d : Class) (a : Operand) → one_fits n z d a ≡ true → OneFits d a
one_so name.Neg z d a h = changes_parts d a h
one_so name.Inc z d a h = changes_parts d a h
one_so name.Dec z d a h = changes_parts d a h
one_so name.Not z d a h = changes_parts d a h
one_so name.Bswap z d a h = changes_parts d a (and_parts _ (changes d a) (and_parts (is_r d) _ h).1).1
one_so n z d a h = absurd (false≢true h)

abbrev TwoFits : Class → Operand → Operand → Type 0
TwoFits d a o = (is_rm d ≡ true) × ((is_rmi a.class ≡ true) × (is_rmi o.class ≡ true))

plain_two : (s : Bool) (d : Class) (a o : Operand) → (is_rmi o.class && computes s d a o) ≡ true → TwoFits d a o
plain_two s d a o h =
    let x = and_parts (is_rmi o.class) (computes s d a o) h in
    let y = computes_parts s d a o x.1 in
    (y.0, (y.1, x.0))

product_two : (d : Class) (a o : Operand) → (times d a o || times_inline d a o) ≡ true → TwoFits d a o
product_two d a o h = by_part (or_parts (times d a o) (times_inline d a o) h)
  where
    by_part : (times d a o ≡ true) ⊎ (times_inline d a o ≡ true) → TwoFits d a o
    by_part (inl t) =
        let r = and_parts (is_r d) _ t in
        let z = and_parts (is_rm o.class) _ (and_parts _ _ r.1).1 in
        let m = and_parts (is_rm d) _ z.1 in
        (r_rm d r.0, ((and_parts (is_rmi a.class) _ m.1).0, rm_class o.class z.0))
    by_part (inr t) =
        let r = and_parts (is_r d) _ t in
        let z = and_parts (is_rm a.class) (is_i o.class) (and_parts _ _ r.1).1 in
        (r_rm d r.0, (rm_class a.class z.0, i_class o.class z.1))

carry_by : (s : Bool) (d : Class) (a o : Operand) (c : Class) → (is_flag c && (is_rmi o.class && computes s d a o)) ≡ true → TwoFits d a o × (is_flag c ≡ true)
carry_by s d a o c h = let x = and_parts (is_flag c) (is_rmi o.class && computes s d a o) h in (plain_two s d a o x.1, x.0)

-- a number or a mask as a count
abbrev CountFits : Class → Operand → Operand → Type 0
CountFits d a o = (is_rm d ≡ true) × ((is_rmi a.class ≡ true) × ((is_i o.class ≡ true) ⊎ ((longest : Bool) × (masks longest o.class ≡ true))))

shift_two : (z : Option Size) (d : Class) (a o : Operand) → (shifts_inline d a o || shifts_masked z d a o) ≡ true → CountFits d a o
shift_two z d a o h = by_part (or_parts (shifts_inline d a o) (shifts_masked z d a o) h)
  where
    by_part : (shifts_inline d a o ≡ true) ⊎ (shifts_masked z d a o ≡ true) → CountFits d a o
    by_part (inl t) =
        let x = and_parts (is_i o.class) (changes d a) t in
        let y = changes_parts d a x.1 in
        (y.0, (y.1, inl x.0))
    by_part (inr t) =
        let x = and_parts (masks (is_longest (option_or z (option_or (class_size d) (class_size a.class)))) o.class) (computes false d a o) t in
        let y = computes_parts false d a o x.1 in
        (y.0, (y.1, inr (is_longest (option_or z (option_or (class_size d) (class_size a.class))), x.0)))

-- ---- left sides behind so many flags
behind_if : (b : Bool) (d x : Lval) → if_lead b d ≡ Some x → (b ≡ true) × (d ≡ x)
behind_if true d x e = (refl, same_some d x e)
behind_if false d x e = absurd (none_not x e)

module _ (z : Size) where
  one_left : (d x : Lval) → d ≡ x → is_rm (dest_of x) ≡ true → LeftsClassed (a_word z ∷ []) (d ∷ [])
  one_left d x e h = (ap (λ k. is_rm (dest_of k)) e ∙ h, tt)

  zero_behind : (to : List Lval) (x : Lval) → value_behind flags.Zero to ≡ Some x → is_rm (dest_of x) ≡ true → LeftsClassed (a_word z ∷ []) to
  zero_behind [] x e h = absurd (none_not x e)
  zero_behind (d ∷ []) x e h = one_left d x (same_some d x e) h
  zero_behind (d ∷ b ∷ ds) x e h = absurd (none_not x e)

  two_behind : (to : List Lval) (x : Lval) → value_behind flags.Two to ≡ Some x → is_rm (dest_of x) ≡ true → LeftsClassed (a_flag ∷ a_flag ∷ a_word z ∷ []) to
  two_behind (a ∷ b ∷ d ∷ []) x e h =
      let t = behind_if (two_lead a b) d x e in
      let p = and_parts (leads a) (leads b) t.0 in
      (p.0, (p.1, one_left d x t.1 h))
  two_behind to x e h = absurd (none_not x e)

  four_behind : (to : List Lval) (x : Lval) → value_behind flags.Four to ≡ Some x → is_rm (dest_of x) ≡ true → LeftsClassed (a_flag ∷ a_flag ∷ a_flag ∷ a_flag ∷ a_word z ∷ []) to
  four_behind (a ∷ b ∷ c ∷ g ∷ d ∷ []) x e h =
      let t = behind_if (four_lead a b c g) d x e in
      let p = and_parts (leads a) _ t.0 in
      let q = and_parts (leads b) _ p.1 in
      let r = and_parts (leads c) (leads g) q.1 in
      (p.0, (q.0, (r.0, (r.1, one_left d x t.1 h))))
  four_behind to x e h = absurd (none_not x e)

  five_behind : (to : List Lval) (x : Lval) → value_behind flags.Five to ≡ Some x → is_rm (dest_of x) ≡ true → LeftsClassed (flags_and_word z) to
  five_behind (a ∷ b ∷ c ∷ g ∷ k ∷ d ∷ []) x e h =
      let t = behind_if (five_lead a b c g k) d x e in
      let p = and_parts (leads a) _ t.0 in
      let q = and_parts (leads b) _ p.1 in
      let r = and_parts (leads c) _ q.1 in
      let s = and_parts (leads g) (leads k) r.1 in
      (p.0, (q.0, (r.0, (s.0, (s.1, one_left d x t.1 h)))))
  five_behind to x e h = absurd (none_not x e)

if_five : (b : Bool) (s : rowed.Shape) → Matches (if b then s else shapes.Free) → (b ≡ true) × Matches s
if_five true s h = (refl, h)
if_five false s h = absurd (no_free h)

-- ---- operands
module _ (asked : Asked) (i : Instance) where
  -- what is behind the flags is a register or memory
  abbrev IsBehind : Type 0 → Option Lval → Type 0
  IsBehind L x = (d : Lval) → x ≡ Some d → is_rm (dest_of d) ≡ true → L

  one_facts : (L : Type 0) (x : Option Lval) (args : List Expr) → IsBehind L x → Matches (one_shape asked i x args) → L × Classed one_word args
  one_facts L (Some d) (a ∷ []) f h =
      let u = beside asked d (Some a) a in
      let t = one_so i.name i.size (dest_of d) u (named_fits i.name (one_fits i.name i.size (dest_of d) u) h) in
      (f d refl t.0, t.1)
  one_facts L None args f h = absurd (no_free h)
  one_facts L (Some d) [] f h = absurd (no_free h)
  one_facts L (Some d) (a ∷ b ∷ args) f h = absurd (no_free h)

  -- by what the instruction asks of both
  abbrev Asks : Intrinsic → (Class → Class → Type 0) → Type 0
  Asks n R = (z : Option Size) (d : Class) (a o : Operand) → two_fits n z d a o ≡ true → (is_rm d ≡ true) × R a.class o.class

  two_facts : (L : Type 0) (n : Intrinsic) (R : Class → Class → Type 0) (k : Form) → Asks n R → ((a o : Expr) → R (class_of a) (class_of o) → Classed k (a ∷ o ∷ [])) → i.name ≡ n → (x : Option Lval) (args : List Expr) → IsBehind L x
      → Matches (two_shape asked i x args) → L × Classed k args
  two_facts L n R k so g e (Some d) (a ∷ o ∷ []) f h =
      let u = beside asked d (Some a) a in
      let v = beside asked d (Some a) o in
      let w = named_fits i.name (two_fits i.name i.size (dest_of d) u v) h in
      let t = so i.size (dest_of d) u v (sym (ap (λ m. two_fits m i.size (dest_of d) u v) e) ∙ w) in
      (f d refl t.0, g a o t.1)
  two_facts L n R k so g e None args f h = absurd (no_free h)
  two_facts L n R k so g e (Some d) [] f h = absurd (no_free h)
  two_facts L n R k so g e (Some d) (a ∷ []) f h = absurd (no_free h)
  two_facts L n R k so g e (Some d) (a ∷ b ∷ c ∷ args) f h = absurd (no_free h)

  abbrev AreRmi : Class → Class → Type 0
  AreRmi a o = (is_rmi a ≡ true) × (is_rmi o ≡ true)

  abbrev IsShifted : Class → Class → Type 0
  IsShifted a o = (is_rmi a ≡ true) × ((is_i o ≡ true) ⊎ ((longest : Bool) × (masks longest o ≡ true)))

  words : (L : Type 0) (n : Intrinsic) → Asks n AreRmi → i.name ≡ n → (x : Option Lval) (args : List Expr) → IsBehind L x → Matches (two_shape asked i x args) → L × Classed two_words args
  words L n so e x args f h = two_facts L n AreRmi two_words so (λ a o r. r) e x args f h

  shift : (L : Type 0) (n : Intrinsic) → Asks n IsShifted → i.name ≡ n → (x : Option Lval) (args : List Expr) → IsBehind L x → Matches (two_shape asked i x args) → L × Classed with_count args
  shift L n so e x args f h = two_facts L n IsShifted with_count so (λ a o r. r) e x args f h

  abbrev IsCarry : Intrinsic → Type 0
  IsCarry n = (d : Class) (a o : Operand) (c : Class) → three_fits n d a o c ≡ true → TwoFits d a o × (is_flag c ≡ true)

  three_facts : (L : Type 0) (n : Intrinsic) → IsCarry n → i.name ≡ n → (x : Option Lval) (args : List Expr) → IsBehind L x → Matches (three_shape asked i x args) → L × Classed with_carry args
  three_facts L n so e (Some d) (a ∷ o ∷ c ∷ []) f h =
      let u = beside asked d (Some a) a in
      let v = beside asked d (Some a) o in
      let w = named_fits i.name (three_fits i.name (dest_of d) u v (class_of c)) h in
      let t = so (dest_of d) u v (class_of c) (sym (ap (λ m. three_fits m (dest_of d) u v (class_of c)) e) ∙ w) in
      (f d refl t.0.0, (t.0.1.0, t.0.1.1, t.1))
  three_facts L n so e None args f h = absurd (no_free h)
  three_facts L n so e (Some d) [] f h = absurd (no_free h)
  three_facts L n so e (Some d) (a ∷ []) f h = absurd (no_free h)
  three_facts L n so e (Some d) (a ∷ b ∷ []) f h = absurd (no_free h)
  three_facts L n so e (Some d) (a ∷ b ∷ c ∷ g ∷ args) f h = absurd (no_free h)

  address_facts : (L : Type 0) (x : Option Lval) (args : List Expr) → IsBehind L x → Matches (address_shape i x args) → L × Classed an_address args
  address_facts L (Some d) (a ∷ []) f h =
      let t = and_parts (is_r (dest_of d)) _ (named_fits name.Lea _ h) in
      let s = and_parts _ (is_sum (terms_of a)) t.1 in
      (f d refl (r_rm (dest_of d) t.0), (and_parts (look_of a).sum.good _ s.1).0)
  address_facts L None args f h = absurd (no_free h)
  address_facts L (Some d) [] f h = absurd (no_free h)
  address_facts L (Some d) (a ∷ b ∷ args) f h = absurd (no_free h)

  set_facts : (L : Type 0) (x : Option Lval) (args : List Expr) → IsBehind L x → Matches (set_shape i x args) → L × Classed a_condition args
  set_facts L (Some d) (c ∷ []) f h =
      let t = and_parts (sets i.size (dest_of d)) (has_flags c) (named_fits name.Setcc (sets i.size (dest_of d) && has_flags c) h) in
      let s = and_parts (is_rm (dest_of d)) _ (and_parts _ _ t.0).1 in
      (f d refl s.0, t.1)
  set_facts L None args f h = absurd (no_free h)
  set_facts L (Some d) [] f h = absurd (no_free h)
  set_facts L (Some d) (a ∷ b ∷ args) f h = absurd (no_free h)

  -- ---- behind five flags
  module _ (z : Size) where
    compared : (to : List Lval) (args : List Expr) → Matches (compare_shape i to args) → LeftsClassed five_flags to × Classed two_words args
    compared (a ∷ b ∷ c ∷ e ∷ g ∷ []) (x ∷ y ∷ []) h =
        let t = if_five (five_lead a b c e g) (shapes.Compare i.name (class_of x) (class_of y)) h in
        let u = and_parts (is_rm (class_of x)) (is_r (class_of y) || is_i (class_of y)) (named_fits i.name (is_rm (class_of x) && (is_r (class_of y) || is_i (class_of y))) t.1) in
        (five_flagged a b c e g t.0, (rm_class (class_of x) u.0, second (or_parts (is_r (class_of y)) (is_i (class_of y)) u.1)))
      where
        second : (is_r (class_of y) ≡ true) ⊎ (is_i (class_of y) ≡ true) → is_rmi (class_of y) ≡ true
        second (inl k) = r_class (class_of y) k
        second (inr k) = i_class (class_of y) k

        five_flagged : (a b c e g : Lval) → five_lead a b c e g ≡ true → LeftsClassed five_flags (a ∷ b ∷ c ∷ e ∷ g ∷ [])
        five_flagged a b c e g h =
            let p = and_parts (leads a) _ h in
            let q = and_parts (leads b) _ p.1 in
            let r = and_parts (leads c) _ q.1 in
            let s = and_parts (leads e) (leads g) r.1 in
            (p.0, (q.0, (r.0, (s.0, (s.1, tt)))))
    compared to args h = absurd (no_free h)

    with_pinned : (a b c e g k l : Lval) → five_lead a b c e g ≡ true → is_pinned (dest_of k) ≡ true → is_pinned (dest_of l) ≡ true → LeftsClassed (flags_and_two z) (a ∷ b ∷ c ∷ e ∷ g ∷ k ∷ l ∷ [])
    with_pinned a b c e g k l h m n =
        let p = and_parts (leads a) _ h in
        let q = and_parts (leads b) _ p.1 in
        let r = and_parts (leads c) _ q.1 in
        let s = and_parts (leads e) (leads g) r.1 in
        (p.0, (q.0, (r.0, (s.0, (s.1, (m, (n, tt)))))))

    low_pinned : (c : Class) (r : Bool) → (is_skip c || (is_r c && r)) ≡ true → is_pinned c ≡ true
    low_pinned c r h = by_part (or_parts (is_skip c) (is_r c && r) h)
      where
        by_part : (is_skip c ≡ true) ⊎ ((is_r c && r) ≡ true) → is_pinned c ≡ true
        by_part (inl t) = or_right (is_r c) (is_skip c) t
        by_part (inr t) = or_left (is_r c) (is_skip c) (and_parts (is_r c) r t).0

    multiplied : (to : List Lval) (args : List Expr) → Matches (product_shape asked i to args) → LeftsClassed (flags_and_two z) to × Classed two_words args
    multiplied (a ∷ b ∷ c ∷ e ∷ g ∷ k ∷ l ∷ []) (x ∷ y ∷ []) h =
        let u = beside asked l (Some x) x in
        let v = beside asked l (Some x) y in
        let t = if_five (five_lead a b c e g) (shapes.Product i.size (dest_of k) (dest_of l) u v) h in
        let m = and_parts (is_pinned (dest_of k)) _ (named_fits name.Mul (is_product i.size (dest_of k) (dest_of l) u v) t.1) in
        let n = and_parts (is_rmi (class_of x)) _ (and_parts _ _ m.1).1 in
        let o = and_parts (is_rm (class_of y)) _ n.1 in
        (with_pinned a b c e g k l t.0 m.0 (low_pinned (dest_of l) _ o.1), (n.0, rm_class (class_of y) o.0))
    multiplied to args h = absurd (no_free h)

    divided : (to : List Lval) (args : List Expr) → Matches (division_shape asked i to args) → LeftsClassed (flags_and_two z) to × Classed three_words args
    divided (a ∷ b ∷ c ∷ e ∷ g ∷ k ∷ l ∷ []) (x ∷ y ∷ w ∷ []) h =
        let s = stand_apart asked k l x w in
        let t = if_five (five_lead a b c e g) (shapes.Division i.size (dest_of k) (dest_of l) (class_of x) (class_of y) (class_of w) s) h in
        let m = and_parts (is_pinned (dest_of k)) _ (named_fits name.Div (divides_long i.size (dest_of k) (dest_of l) (class_of x) (class_of y) (class_of w) s) t.1) in
        let n = and_parts (is_pinned (dest_of l)) _ m.1 in
        let o = and_parts (is_rmi (class_of x)) _ n.1 in
        let p = and_parts (is_rmi (class_of y)) _ o.1 in
        let q = and_parts (is_rm (class_of w)) _ p.1 in
        (with_pinned a b c e g k l t.0 m.0 n.0, (o.0, p.0, rm_class (class_of w) q.0))
    divided to args h = absurd (no_free h)

    -- ---- each instruction
    abbrev Facts : Intrinsic → List Lval → List Expr → Type 0
    Facts n to args = LeftsClassed (shapes_of n z) to × Classed (form_of n) args

    abbrev Lefts : Intrinsic → List Lval → Type 0
    Lefts n to = LeftsClassed (shapes_of n z) to

    five_words : (n : Intrinsic) → Asks n AreRmi → i.name ≡ n → (to : List Lval) (args : List Expr) → Matches (two_shape asked i (value_behind flags.Five to) args) → LeftsClassed (flags_and_word z) to × Classed two_words args
    five_words n so e to args h = words (LeftsClassed (flags_and_word z) to) n so e (value_behind flags.Five to) args (λ d. five_behind z to d) h

    five_shift : (n : Intrinsic) → Asks n IsShifted → i.name ≡ n → (to : List Lval) (args : List Expr) → Matches (two_shape asked i (value_behind flags.Five to) args) → LeftsClassed (flags_and_word z) to × Classed with_count args
    five_shift n so e to args h = shift (LeftsClassed (flags_and_word z) to) n so e (value_behind flags.Five to) args (λ d. five_behind z to d) h

    pub row_facts : (n : Intrinsic) → i.name ≡ n → (to : List Lval) (args : List Expr) → Matches (intrinsic_shape asked n i to args) → Facts n to args
    row_facts name.Add e to args h = five_words name.Add (λ y d a o t. plain_two true d a o t) e to args h
    row_facts name.And e to args h = five_words name.And (λ y d a o t. plain_two true d a o t) e to args h
    row_facts name.Or e to args h = five_words name.Or (λ y d a o t. plain_two true d a o t) e to args h
    row_facts name.Xor e to args h = five_words name.Xor (λ y d a o t. plain_two true d a o t) e to args h
    row_facts name.Sub e to args h = five_words name.Sub (λ y d a o t. plain_two false d a o t) e to args h
    row_facts name.Imul e to args h = five_words name.Imul (λ y d a o t. product_two d a o t) e to args h
    row_facts name.Shl e to args h = five_shift name.Shl (λ y d a o t. shift_two y d a o t) e to args h
    row_facts name.Shr e to args h = five_shift name.Shr (λ y d a o t. shift_two y d a o t) e to args h
    row_facts name.Sar e to args h = five_shift name.Sar (λ y d a o t. shift_two y d a o t) e to args h
    row_facts name.Rol e to args h = shift (Lefts name.Rol to) name.Rol (λ y d a o t. shift_two y d a o t) e (value_behind flags.Two to) args (λ d. two_behind z to d) h
    row_facts name.Ror e to args h = shift (Lefts name.Ror to) name.Ror (λ y d a o t. shift_two y d a o t) e (value_behind flags.Two to) args (λ d. two_behind z to d) h
    row_facts name.Adc e to args h = three_facts (Lefts name.Adc to) name.Adc (λ d a o c t. carry_by true d a o c t) e (value_behind flags.Five to) args (λ d. five_behind z to d) h
    row_facts name.Sbb e to args h = three_facts (Lefts name.Sbb to) name.Sbb (λ d a o c t. carry_by false d a o c t) e (value_behind flags.Five to) args (λ d. five_behind z to d) h
    row_facts name.Neg e to args h = one_facts (Lefts name.Neg to) (value_behind flags.Five to) args (λ d. five_behind z to d) h
    row_facts name.Inc e to args h = one_facts (Lefts name.Inc to) (value_behind flags.Four to) args (λ d. four_behind z to d) h
    row_facts name.Dec e to args h = one_facts (Lefts name.Dec to) (value_behind flags.Four to) args (λ d. four_behind z to d) h
    row_facts name.Not e to args h = one_facts (Lefts name.Not to) (value_behind flags.Zero to) args (λ d. zero_behind z to d) h
    row_facts name.Bswap e to args h = one_facts (Lefts name.Bswap to) (value_behind flags.Zero to) args (λ d. zero_behind z to d) h
    row_facts name.Lea e to args h = address_facts (Lefts name.Lea to) (value_behind flags.Zero to) args (λ d. zero_behind z to d) h
    row_facts name.Setcc e to args h = set_facts (Lefts name.Setcc to) (value_behind flags.Zero to) args (λ d. zero_behind z to d) h
    row_facts name.Cmp e to args h = compared to args h
    row_facts name.Test e to args h = compared to args h
    row_facts name.Mul e to args h = multiplied to args h
    row_facts name.Div e to args h = divided to args h
