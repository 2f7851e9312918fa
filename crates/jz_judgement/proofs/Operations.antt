-- Operations: the judgement of two operands and what typing finds.
use Rattle.std.proofs.Common.{◌≡◌, Bool, true, false, ◌&&◌, List, [], ◌++◌, ◌⊎◌, inl, inr, Option, Some, None, refl, sym, ap, ap₂, ◌∙◌, subst}
use Rattle.std.specs.Prelude.{if◌then◌else◌, is_some}
use Rattle.std.proofs.lemmas.Bool.{false≢true, true≢false, and_parts, and_from, and_left, and_right}
use Rattle.std.specs.Option.{option_or}
use Rattle.jz_tree.specs.Span.{Span}
use Rattle.jz_tree.specs.Size.{Size}
use Rattle.jz_tree.specs.Size.TheVariants as sizes
use Rattle.jz_tree.specs.declared.expr.BinOp.{BinOp}
use Rattle.jz_tree.specs.declared.expr.BinOp.TheVariants as op
use Rattle.jz_type_names.specs.Order.{unless}
use Rattle.jz_type_sizes.specs.declared.operators.Group.{Group}
use Rattle.jz_type_sizes.specs.declared.operators.Group.TheVariants as group
use Rattle.jz_type_sizes.specs.declared.wants.Want.{Want}
use Rattle.jz_type_sizes.specs.declared.wants.Want.TheVariants as want
use Rattle.jz_type_sizes.specs.Wants.{sized_want}
use Rattle.jz_type_sizes.specs.Operators.{group_of, is_of_words, gives, stops, compared_size, group_size, is_test, word_or, left_of, right_of, is_word_place, takes_carry, count_want}
use Rattle.jz_type_sizes.specs.Typings.{Typing, bin_typing}
use Rattle.jz_judgement.specs.Places.{Place, integer, truth, word, stated, unsized, TakesNumber, TakesCarry, count_place, IsSum}
use Rattle.jz_judgement.specs.HasType.{Term, Says, OperandSays, first, second, shifted, is_known, Admits, HasType, Operates, arithmetic, carry, shift, integers, words, logic}
use Rattle.jz_judgement.specs.Agreement.{want_of}
use Rattle.jz_judgement.proofs.Nothing.{none_not, neither_size, no_sizes, is_truth, no_bool, no_bool_so, a_bool}
use Rattle.jz_type_names.proofs.Empty.{one_not, both, joined}
use Rattle.jz_judgement.proofs.Agreeing.{IsRight, Agrees, IsApart, SaysItself}

-- ---- tests
pub if_true : {A : Type 0} (b : Bool) (x y : A) → b ≡ true → (if b then x else y) ≡ x
if_true true x y e = refl
if_true false x y e = absurd (false≢true e)

pub if_false : {A : Type 0} (b : Bool) (x y : A) → b ≡ false → (if b then x else y) ≡ y
if_false true x y e = absurd (true≢false e)
if_false false x y e = refl

pub is_or_not : (b : Bool) → (b ≡ true) ⊎ (b ≡ false)
is_or_not true = inl refl
is_or_not false = inr refl

-- ---- operators
carry_place : (p : Place) → is_word_place (want_of p) ≡ true → TakesCarry p
carry_place integer e = absurd (false≢true e)
carry_place truth e = absurd (false≢true e)
carry_place (word z) e = tt
carry_place (stated s) e = tt
carry_place unsized e = tt

place_carries : (p : Place) → TakesCarry p → is_word_place (want_of p) ≡ true
place_carries integer h = absurd h
place_carries truth h = absurd h
place_carries (word z) h = refl
place_carries (stated s) h = refl
place_carries unsized h = refl

carry_number : (p : Place) → TakesCarry p → TakesNumber p
carry_number integer h = absurd h
carry_number truth h = absurd h
carry_number (word z) h = tt
carry_number (stated s) h = tt
carry_number unsized h = tt

takes_sum : (o : BinOp) (p : Place) → takes_carry o (want_of p) ≡ true → IsSum o × TakesCarry p
takes_sum op.Add p e = (tt, carry_place p e)
takes_sum op.Sub p e = (tt, carry_place p e)
takes_sum o p e = absurd (false≢true e)

sum_takes : (o : BinOp) (p : Place) → IsSum o → TakesCarry p → takes_carry o (want_of p) ≡ true
sum_takes op.Add p s h = place_carries p h
sum_takes op.Sub p s h = place_carries p h
sum_takes o p s h = absurd s

sum_group : (o : BinOp) → IsSum o → group_of o ≡ group.Arith
sum_group op.Add s = refl
sum_group op.Sub s = refl
sum_group o s = absurd s

sum_words : (o : BinOp) → IsSum o → is_of_words o ≡ false
sum_words op.Add s = refl
sum_words op.Sub s = refl
sum_words o s = absurd s

count_is : (p : Place) → TakesNumber p → count_want (want_of p) ≡ want_of (count_place p)
count_is integer h = refl
count_is truth h = absurd h
count_is (word z) h = refl
count_is (stated s) h = refl
count_is unsized h = refl

-- ---- an operation on a and b
module _ (o : BinOp) (at : Span) (a b : Typing) (x y : Term) (ha : Agrees a (HasType x) (Says x) (is_known x)) (hb : Agrees b (HasType y) (Says y) (is_known y)) (vb : IsApart b) where
  abbrev both_inline : Bool
  both_inline = b.form.inline && a.form.inline

  abbrev t : Typing
  t = bin_typing o a b at

  -- what is wrong, where the operator is of that group
  abbrev wrong_in : Group → Want → List Span
  wrong_in g w =
      unless (gives g w) at
      ++ (if stops g w then [] else
      b.wrong (right_of g (takes_carry o w && b.form.truth) (compared_size g a.form.size b.form.size) w)
      ++ a.wrong (left_of g o both_inline (compared_size g a.form.size b.form.size) w))

  same_known : both_inline ≡ (is_known y && is_known x)
  same_known = ap₂ (λ c d. c && d) hb.inline ha.inline

  admitted : (is_of_words o && both_inline) ≡ false → Admits o x y
  admitted e = ap (λ c. is_of_words o && c) (sym same_known) ∙ e

  admits : Admits o x y → (is_of_words o && both_inline) ≡ false
  admits e = ap (λ c. is_of_words o && c) same_known ∙ e

  -- an operation that only words have is not done on what is known
  not_any : (is_of_words o && both_inline) ≡ true → a.wrong want.AnyWord ≡ [] → ⊥
  not_any e h = ha.no_word (and_parts b.form.inline a.form.inline (and_parts (is_of_words o) both_inline e).1).1 h

  pub left_plain : (w : Want) → a.wrong (word_or (is_of_words o && both_inline) w) ≡ [] → ((is_of_words o && both_inline) ≡ false) × (a.wrong w ≡ [])
  left_plain w h = at_test (is_of_words o && both_inline) refl h
    where
      at_test : (c : Bool) → (is_of_words o && both_inline) ≡ c → a.wrong (word_or c w) ≡ [] → ((is_of_words o && both_inline) ≡ false) × (a.wrong w ≡ [])
      at_test true e h = absurd (not_any e h)
      at_test false e h = (e, h)

  plain_left : (w : Want) → (is_of_words o && both_inline) ≡ false → a.wrong w ≡ [] → a.wrong (word_or (is_of_words o && both_inline) w) ≡ []
  plain_left w e h = ap (λ v. a.wrong v) (if_false (is_of_words o && both_inline) want.AnyWord w e) ∙ h

  -- ---- from what is found to the judgement
  arith_holds : group_of o ≡ group.Arith → (p : Place) → wrong_in group.Arith (want_of p) ≡ [] → Operates o x y p
  arith_holds e p h = at_test (takes_carry o (want_of p) && b.form.truth) refl parts.1
    where
      parts : TakesNumber p × (b.wrong (right_of group.Arith (takes_carry o (want_of p) && b.form.truth) None (want_of p)) ++ a.wrong (left_of group.Arith o both_inline None (want_of p)) ≡ [])
      parts = no_bool p at (b.wrong (right_of group.Arith (takes_carry o (want_of p) && b.form.truth) None (want_of p)) ++ a.wrong (left_of group.Arith o both_inline None (want_of p))) h

      at_test : (c : Bool) → (takes_carry o (want_of p) && b.form.truth) ≡ c → b.wrong (if c then want.Truth else want_of p) ++ a.wrong (left_of group.Arith o both_inline None (want_of p)) ≡ [] → Operates o x y p
      at_test true c k =
          let operands = both (b.wrong want.Truth) (a.wrong (left_of group.Arith o both_inline None (want_of p))) k in
          let sum = takes_sum o p (and_parts _ _ c).0 in
          carry sum.0 sum.1 (ha.holds p (left_plain (want_of p) operands.1).1) (hb.holds truth operands.0)
      at_test false c k =
          let operands = both (b.wrong (want_of p)) (a.wrong (left_of group.Arith o both_inline None (want_of p))) k in
          let plain = left_plain (want_of p) operands.1 in
          arithmetic e parts.0 (admitted plain.0) (ha.holds p plain.1) (hb.holds p operands.0)

  shift_holds : group_of o ≡ group.Shift → (p : Place) → wrong_in group.Shift (want_of p) ≡ [] → Operates o x y p
  shift_holds e p h =
      let parts = no_bool p at (b.wrong (count_want (want_of p)) ++ a.wrong (word_or (is_of_words o && both_inline) (want_of p))) h in
      let operands = both (b.wrong (count_want (want_of p))) (a.wrong (word_or (is_of_words o && both_inline) (want_of p))) parts.1 in
      let plain = left_plain (want_of p) operands.1 in
      shift e parts.0 (admitted plain.0) (ha.holds p plain.1) (hb.holds (count_place p) (ap (λ w. b.wrong w) (sym (count_is p parts.0)) ∙ operands.0))

  says_size : (z : Size) (s : Option Size) → a.form.size ≡ s → option_or s b.form.size ≡ Some z → Says x z ⊎ Says y z
  says_size z None e h = inr (hb.says z h)
  says_size z (Some v) e h = inl (ha.says z (e ∙ h))

  compare_holds : group_of o ≡ group.Compare → (p : Place) → wrong_in group.Compare (want_of p) ≡ [] → Operates o x y p
  compare_holds e p h =
      let s = option_or a.form.size b.form.size in
      let parts = a_bool p at (b.wrong (sized_want false s) ++ a.wrong (sized_want (is_of_words o && both_inline) s)) h in
      subst (λ q. Operates o x y q) (sym (is_truth p parts.0)) (at_size s refl parts.1)
    where
      at_size : (s : Option Size) → option_or a.form.size b.form.size ≡ s → b.wrong (sized_want false s) ++ a.wrong (sized_want (is_of_words o && both_inline) s) ≡ [] → Operates o x y truth
      at_size (Some z) c k =
          let operands = both (b.wrong (want.Word z)) (a.wrong (want.Word z)) k in
          words z e (says_size z a.form.size refl c) (ha.holds (word z) operands.1) (hb.holds (word z) operands.0)
      at_size None c k =
          let operands = both (b.wrong want.Int) (a.wrong (word_or (is_of_words o && both_inline) want.Int)) k in
          let plain = left_plain want.Int operands.1 in
          integers e (admitted plain.0) (ha.holds integer plain.1) (hb.holds integer operands.0)

  logic_holds : group_of o ≡ group.Logic → (p : Place) → wrong_in group.Logic (want_of p) ≡ [] → Operates o x y p
  logic_holds e p h =
      let parts = a_bool p at (b.wrong want.Truth ++ a.wrong want.Truth) h in
      let operands = both (b.wrong want.Truth) (a.wrong want.Truth) parts.1 in
      subst (λ q. Operates o x y q) (sym (is_truth p parts.0)) (logic e (ha.holds truth operands.1) (hb.holds truth operands.0))

  holds_in : (g : Group) → group_of o ≡ g → (p : Place) → wrong_in g (want_of p) ≡ [] → Operates o x y p
  holds_in group.Logic e p h = logic_holds e p h
  holds_in group.Compare e p h = compare_holds e p h
  holds_in group.Shift e p h = shift_holds e p h
  holds_in group.Arith e p h = arith_holds e p h

  -- ---- and back
  abbrev RightIn : Group → Place → Type 0
  RightIn g p = wrong_in g (want_of p) ≡ []

  in_group : (g : Group) (p : Place) → group_of o ≡ g → RightIn g p → IsRight t p
  in_group g p e h = subst (λ k. RightIn k p) (sym e) h

  -- a size that one says, where both are words of z
  one_size : (z : Size) → Says x z ⊎ Says y z → a.wrong (want.Word z) ≡ [] → b.wrong (want.Word z) ≡ [] → option_or a.form.size b.form.size ≡ Some z
  one_size z s h k = at_left a.form.size refl
    where
      at_right : (c : Option Size) → b.form.size ≡ c → a.form.size ≡ None → c ≡ Some z
      at_right (Some v) e n = ap (λ (u : Size). Some u) (hb.one v z k e)
      at_right None e n = absurd (no_one s)
        where
          no_one : Says x z ⊎ Says y z → ⊥
          no_one (inl g) = false≢true (ap is_some (sym n) ∙ ha.said z g)
          no_one (inr g) = false≢true (ap is_some (sym e) ∙ hb.said z g)

      at_left : (c : Option Size) → a.form.size ≡ c → option_or c b.form.size ≡ Some z
      at_left (Some v) e = ap (λ (u : Size). Some u) (ha.one v z h e)
      at_left None e = at_right b.form.size refl e

  right_in : (p : Place) → Operates o x y p → IsRight t p
  right_in p (arithmetic e n d hx hy) =
      let ra = ha.right p hx in
      let rb = hb.right p hy in
      in_group group.Arith p e
      (no_bool_so p at (b.wrong (right_of group.Arith (takes_carry o (want_of p) && b.form.truth) None (want_of p)) ++ a.wrong (left_of group.Arith o both_inline None (want_of p))) n
      (joined (b.wrong (right_of group.Arith (takes_carry o (want_of p) && b.form.truth) None (want_of p))) (a.wrong (left_of group.Arith o both_inline None (want_of p)))
      (ap (λ w. b.wrong w) (if_false (takes_carry o (want_of p) && b.form.truth) want.Truth (want_of p) (and_right (takes_carry o (want_of p)) b.form.truth (vb.number p n rb))) ∙ rb)
      (plain_left (want_of p) (admits d) ra)))
  right_in p (carry s c hx hy) =
      let ra = ha.right p hx in
      let rb = hb.right truth hy in
      in_group group.Arith p (sum_group o s)
      (no_bool_so p at (b.wrong (right_of group.Arith (takes_carry o (want_of p) && b.form.truth) None (want_of p)) ++ a.wrong (left_of group.Arith o both_inline None (want_of p))) (carry_number p c)
      (joined (b.wrong (right_of group.Arith (takes_carry o (want_of p) && b.form.truth) None (want_of p))) (a.wrong (left_of group.Arith o both_inline None (want_of p)))
      (ap (λ w. b.wrong w) (if_true (takes_carry o (want_of p) && b.form.truth) want.Truth (want_of p) (and_from (takes_carry o (want_of p)) b.form.truth (sum_takes o p s c) (vb.bool rb))) ∙ rb)
      (plain_left (want_of p) (and_left (is_of_words o) both_inline (sum_words o s)) ra)))
  right_in p (shift e n d hx hy) =
      in_group group.Shift p e
      (no_bool_so p at (b.wrong (count_want (want_of p)) ++ a.wrong (word_or (is_of_words o && both_inline) (want_of p))) n
      (joined (b.wrong (count_want (want_of p))) (a.wrong (word_or (is_of_words o && both_inline) (want_of p))) (ap (λ w. b.wrong w) (count_is p n) ∙ hb.right (count_place p) hy) (plain_left (want_of p) (admits d) (ha.right p hx))))
  right_in p (integers e d hx hy) =
      let ra = ha.right integer hx in
      let rb = hb.right integer hy in
      in_group group.Compare truth e
      (subst (λ s. b.wrong (sized_want false s) ++ a.wrong (sized_want (is_of_words o && both_inline) s) ≡ []) (sym (no_sizes a.form.size b.form.size (ha.whole ra) (hb.whole rb)))
      (joined (b.wrong want.Int) (a.wrong (word_or (is_of_words o && both_inline) want.Int)) rb (plain_left want.Int (admits d) ra)))
  right_in p (words z e s hx hy) =
      let ra = ha.right (word z) hx in
      let rb = hb.right (word z) hy in
      in_group group.Compare truth e
      (subst (λ s. b.wrong (sized_want false s) ++ a.wrong (sized_want (is_of_words o && both_inline) s) ≡ []) (sym (one_size z s ra rb))
      (joined (b.wrong (want.Word z)) (a.wrong (want.Word z)) rb ra))
  right_in p (logic e hx hy) = in_group group.Logic truth e (joined (b.wrong want.Truth) (a.wrong want.Truth) (hb.right truth hy) (ha.right truth hx))

  -- ---- sizes
  says_in : (g : Group) → group_of o ≡ g → (z : Size) → group_size g a.form.size b.form.size ≡ Some z → OperandSays o x y z
  says_in group.Logic e z h = absurd (none_not z h)
  says_in group.Compare e z h = absurd (none_not z h)
  says_in group.Shift e z h = shifted e (ha.says z h)
  says_in group.Arith e z h = at_left a.form.size refl h
    where
      at_left : (s : Option Size) → a.form.size ≡ s → option_or s b.form.size ≡ Some z → OperandSays o x y z
      at_left None k h = second e (hb.says z h)
      at_left (Some v) k h = first e (ha.says z (k ∙ h))

  some_or : (s r : Option Size) → is_some s ≡ true → is_some (option_or s r) ≡ true
  some_or None r h = absurd (false≢true h)
  some_or (Some v) r h = refl

  or_some : (s r : Option Size) → is_some r ≡ true → is_some (option_or s r) ≡ true
  or_some None r h = h
  or_some (Some v) r h = refl

  said_in : (z : Size) → OperandSays o x y z → is_some t.form.size ≡ true
  said_in z (first e s) = ap (λ g. is_some (group_size g a.form.size b.form.size)) e ∙ some_or a.form.size b.form.size (ha.said z s)
  said_in z (second e s) = ap (λ g. is_some (group_size g a.form.size b.form.size)) e ∙ or_some a.form.size b.form.size (hb.said z s)
  said_in z (shifted e s) = ap (λ g. is_some (group_size g a.form.size b.form.size)) e ∙ ha.said z s

  one_in : (g : Group) (v z : Size) → wrong_in g (want.Word z) ≡ [] → group_size g a.form.size b.form.size ≡ Some v → v ≡ z
  one_in group.Logic v z h k = absurd (none_not v k)
  one_in group.Compare v z h k = absurd (none_not v k)
  one_in group.Shift v z h k =
      let operands = both (b.wrong (want.Word sizes.S8)) (a.wrong (word_or (is_of_words o && both_inline) (want.Word z))) h in
      ha.one v z (left_plain (want.Word z) operands.1).1 k
  one_in group.Arith v z h k = at_left a.form.size refl k
    where
      operands : (b.wrong (right_of group.Arith (takes_carry o (want.Word z) && b.form.truth) None (want.Word z)) ≡ []) × (a.wrong (left_of group.Arith o both_inline None (want.Word z)) ≡ [])
      operands = both (b.wrong (right_of group.Arith (takes_carry o (want.Word z) && b.form.truth) None (want.Word z))) (a.wrong (left_of group.Arith o both_inline None (want.Word z))) h

      at_test : (c : Bool) → (takes_carry o (want.Word z) && b.form.truth) ≡ c → b.wrong (if c then want.Truth else want.Word z) ≡ [] → b.form.size ≡ Some v → v ≡ z
      at_test true c m n = absurd (none_not v (sym (vb.size (and_parts _ _ c).1) ∙ n))
      at_test false c m n = hb.one v z m n

      at_left : (s : Option Size) → a.form.size ≡ s → option_or s b.form.size ≡ Some v → v ≡ z
      at_left None m n = at_test (takes_carry o (want.Word z) && b.form.truth) refl operands.0 n
      at_left (Some u) m n = ha.one v z (left_plain (want.Word z) operands.1).1 (m ∙ n)

  stated_in : (g : Group) (v z : Size) → wrong_in g (want.Sized z) ≡ [] → group_size g a.form.size b.form.size ≡ Some v → v ≡ z
  stated_in group.Logic v z h k = absurd (none_not v k)
  stated_in group.Compare v z h k = absurd (none_not v k)
  stated_in group.Shift v z h k =
      let operands = both (b.wrong (want.Word sizes.S8)) (a.wrong (word_or (is_of_words o && both_inline) (want.Sized z))) h in
      ha.stated v z (left_plain (want.Sized z) operands.1).1 k
  stated_in group.Arith v z h k = at_left a.form.size refl k
    where
      operands : (b.wrong (right_of group.Arith (takes_carry o (want.Sized z) && b.form.truth) None (want.Sized z)) ≡ []) × (a.wrong (left_of group.Arith o both_inline None (want.Sized z)) ≡ [])
      operands = both (b.wrong (right_of group.Arith (takes_carry o (want.Sized z) && b.form.truth) None (want.Sized z))) (a.wrong (left_of group.Arith o both_inline None (want.Sized z))) h

      at_test : (c : Bool) → (takes_carry o (want.Sized z) && b.form.truth) ≡ c → b.wrong (if c then want.Truth else want.Sized z) ≡ [] → b.form.size ≡ Some v → v ≡ z
      at_test true c m n = absurd (none_not v (sym (vb.size (and_parts _ _ c).1) ∙ n))
      at_test false c m n = hb.stated v z m n

      at_left : (s : Option Size) → a.form.size ≡ s → option_or s b.form.size ≡ Some v → v ≡ z
      at_left None m n = at_test (takes_carry o (want.Sized z) && b.form.truth) refl operands.0 n
      at_left (Some u) m n = ha.stated v z (left_plain (want.Sized z) operands.1).1 (m ∙ n)

  whole_in : (g : Group) → wrong_in g want.Int ≡ [] → group_size g a.form.size b.form.size ≡ None
  whole_in group.Logic h = refl
  whole_in group.Compare h = refl
  whole_in group.Shift h = ha.whole (left_plain want.Int (both (b.wrong want.Int) (a.wrong (word_or (is_of_words o && both_inline) want.Int)) h).1).1
  whole_in group.Arith h = no_sizes a.form.size b.form.size (ha.whole (left_plain want.Int operands.1).1) (at_test (takes_carry o want.Int && b.form.truth) refl operands.0)
    where
      operands : (b.wrong (right_of group.Arith (takes_carry o want.Int && b.form.truth) None want.Int) ≡ []) × (a.wrong (left_of group.Arith o both_inline None want.Int) ≡ [])
      operands = both (b.wrong (right_of group.Arith (takes_carry o want.Int && b.form.truth) None want.Int)) (a.wrong (left_of group.Arith o both_inline None want.Int)) h

      at_test : (c : Bool) → (takes_carry o want.Int && b.form.truth) ≡ c → b.wrong (if c then want.Truth else want.Int) ≡ [] → b.form.size ≡ None
      at_test true c m = vb.size (and_parts _ _ c).1
      at_test false c m = hb.whole m

  free_in : (g : Group) → wrong_in g want.Unsized ≡ [] → group_size g a.form.size b.form.size ≡ None
  free_in group.Logic h = refl
  free_in group.Compare h = refl
  free_in group.Shift h = ha.free (left_plain want.Unsized (both (b.wrong (want.Word sizes.S8)) (a.wrong (word_or (is_of_words o && both_inline) want.Unsized)) h).1).1
  free_in group.Arith h = no_sizes a.form.size b.form.size (ha.free (left_plain want.Unsized operands.1).1) (at_test (takes_carry o want.Unsized && b.form.truth) refl operands.0)
    where
      operands : (b.wrong (right_of group.Arith (takes_carry o want.Unsized && b.form.truth) None want.Unsized) ≡ []) × (a.wrong (left_of group.Arith o both_inline None want.Unsized) ≡ [])
      operands = both (b.wrong (right_of group.Arith (takes_carry o want.Unsized && b.form.truth) None want.Unsized)) (a.wrong (left_of group.Arith o both_inline None want.Unsized)) h

      at_test : (c : Bool) → (takes_carry o want.Unsized && b.form.truth) ≡ c → b.wrong (if c then want.Truth else want.Unsized) ≡ [] → b.form.size ≡ None
      at_test true c m = vb.size (and_parts _ _ c).1
      at_test false c m = hb.free m

  -- ---- what is known
  no_word_in : (g : Group) → both_inline ≡ true → wrong_in g want.AnyWord ≡ [] → ⊥
  no_word_in group.Logic i h = one_not at _ h
  no_word_in group.Compare i h = one_not at _ h
  no_word_in group.Shift i h =
      let operands = both (b.wrong (want.Word sizes.S8)) (a.wrong (word_or (is_of_words o && both_inline) want.AnyWord)) h in
      ha.no_word (and_parts b.form.inline a.form.inline i).1 (left_plain want.AnyWord operands.1).1
  no_word_in group.Arith i h =
      let operands = both (b.wrong (right_of group.Arith (takes_carry o want.AnyWord && b.form.truth) None want.AnyWord)) (a.wrong (left_of group.Arith o both_inline None want.AnyWord)) h in
      ha.no_word (and_parts b.form.inline a.form.inline i).1 (left_plain want.AnyWord operands.1).1

  no_size_in : (g : Group) → both_inline ≡ true → group_size g a.form.size b.form.size ≡ None
  no_size_in group.Logic i = refl
  no_size_in group.Compare i = refl
  no_size_in group.Shift i = ha.no_size (and_parts b.form.inline a.form.inline i).1
  no_size_in group.Arith i = no_sizes a.form.size b.form.size (ha.no_size (and_parts b.form.inline a.form.inline i).1) (hb.no_size (and_parts b.form.inline a.form.inline i).0)

  -- ---- bools
  bool_in : (g : Group) → wrong_in g want.Truth ≡ [] → is_test g ≡ true
  bool_in group.Logic h = refl
  bool_in group.Compare h = refl
  bool_in group.Shift h = absurd (one_not at [] h)
  bool_in group.Arith h = absurd (one_not at [] h)

  test_size : (g : Group) → is_test g ≡ true → group_size g a.form.size b.form.size ≡ None
  test_size group.Logic h = refl
  test_size group.Compare h = refl
  test_size group.Shift h = absurd (false≢true h)
  test_size group.Arith h = absurd (false≢true h)

  number_in : (g : Group) (p : Place) → TakesNumber p → wrong_in g (want_of p) ≡ [] → is_test g ≡ false
  number_in group.Logic p n h = absurd (subst (λ q. TakesNumber q) (is_truth p (a_bool p at (b.wrong want.Truth ++ a.wrong want.Truth) h).0) n)
  number_in group.Compare p n h =
      let s = option_or a.form.size b.form.size in
      absurd (subst (λ q. TakesNumber q) (is_truth p (a_bool p at (b.wrong (sized_want false s) ++ a.wrong (sized_want (is_of_words o && both_inline) s)) h).0) n)
  number_in group.Shift p n h = refl
  number_in group.Arith p n h = refl

  any_in : SaysItself a → (g : Group) → group_size g a.form.size b.form.size ≡ None → wrong_in g want.AnyWord ≡ [] → ⊥
  any_in says group.Logic e h = one_not at _ h
  any_in says group.Compare e h = one_not at _ h
  any_in says group.Shift e h =
      let operands = both (b.wrong (want.Word sizes.S8)) (a.wrong (word_or (is_of_words o && both_inline) want.AnyWord)) h in
      says e (left_plain want.AnyWord operands.1).1
  any_in says group.Arith e h =
      let operands = both (b.wrong (right_of group.Arith (takes_carry o want.AnyWord && b.form.truth) None want.AnyWord)) (a.wrong (left_of group.Arith o both_inline None want.AnyWord)) h in
      says (neither_size a.form.size b.form.size e).0 (left_plain want.AnyWord operands.1).1

  -- ---- together
  pub operation_agrees : Agrees (bin_typing o a b at) (Operates o x y) (OperandSays o x y) (is_known y && is_known x)
  operation_agrees = record {
    holds = λ p r. holds_in (group_of o) refl p r;
    right = right_in;
    says = λ z h. says_in (group_of o) refl z h;
    said = said_in;
    inline = same_known;
    one = λ v z h k. one_in (group_of o) v z h k;
    stated = λ v z h k. stated_in (group_of o) v z h k;
    whole = λ h. whole_in (group_of o) h;
    free = λ h. free_in (group_of o) h;
    no_word = λ i h. no_word_in (group_of o) i h;
    no_size = λ i. no_size_in (group_of o) i;
  }

  pub operation_apart : IsApart (bin_typing o a b at)
  operation_apart = record {
    bool = λ h. bool_in (group_of o) h;
    size = λ h. test_size (group_of o) h;
    number = λ p n h. number_in (group_of o) p n h;
  }

  pub operation_says : SaysItself a → SaysItself (bin_typing o a b at)
  operation_says says e h = any_in says (group_of o) e h
