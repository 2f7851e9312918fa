-- Behind both arms.
use Rattle.std.proofs.Common.{◌≡◌, ◌⊎◌, inl, inr, ◌<◌, ◌≤◌, ℕ, Bool, true, false, ◌&&◌, Option, Some, None, if◌then◌else◌, refl, sym, ap, ◌∙◌, arith}
use Rattle.std.specs.Prelude.{◌||◌, ◌==◌, is_some}
use Rattle.std.proofs.lemmas.Bool.{false≢true}
use Rattle.std.proofs.lemmas.Bool.Decides.{nat_tests}
use Rattle.jz_meaning.specs.States.{Key}
use Rattle.jz_layers.specs.Spots.{Spot, entry_in, or_below}
use Rattle.jz_layers.specs.Layered.{seen}
use Rattle.jz_drawing.specs.Drawings.{next, IsBounded}
use Rattle.jz_drawn_labels.specs.declared.drawing.Drawing.{Drawing}
use Rattle.jz_drawn_labels.specs.Kept.{view_of, nodes_of, nodes_by, standing, whole, IsLow}
use Rattle.jz_drawn_labels.specs.Drew.{IsDrawn, HasRisen}
use Rattle.jz_drawn_labels.proofs.Tables.{all_fall}
use Rattle.jz_drawn_arms.specs.declared.arms.Arm.{Arm}
use Rattle.jz_drawn_arms.specs.Meetings.{behind_arm, met_floor, HasEnded, Met, MeetsFor, AreMet}
use Rattle.jz_drawn_arms.proofs.Meets.{none_met}
use Rattle.jz_drawn_arms.proofs.MeetingLabels.{then_for}

no_entry : {A : Type 0} (o : Option A) → is_some o ≡ false → o ≡ None
no_entry None h = refl
no_entry (Some x) h = absurd (false≢true (sym h))

-- a table that does not have it: the arm goes on with what was before, or no path does
unset_arm : (a : Arm) (f : Spot → Option ℕ) (k : Key) → is_some (entry_in a.layer (whole k)) ≡ false → behind_arm a f k ≡ nodes_by a.floor f k
unset_arm a f k e = ap (λ (o : Option ℕ). standing a.floor (or_below o (f (whole k)))) (no_entry (entry_in a.layer (whole k)) e)

is_false : (c : Bool) → (c ≡ true → ⊥) → c ≡ false
is_false true f = absurd (f refl)
is_false false f = refl

both_of : (x y z : Bool) → x ≡ y → x ≡ z → x ≡ (y && z)
both_of true y z p q = by y z (sym p) (sym q)
  where
    by : (y z : Bool) → y ≡ true → z ≡ true → true ≡ (y && z)
    by true true p q = refl
    by false z p q = absurd (false≢true p)
    by true false p q = absurd (false≢true q)
both_of false true z p q = absurd (false≢true p)
both_of false false z p q = refl

-- one arm gives true
second_of : (x y z : Bool) → y ≡ true → x ≡ z → x ≡ (y && z)
second_of x true z p q = q
second_of x false z p q = absurd (false≢true p)

first_of : (x y z : Bool) → z ≡ true → x ≡ y → x ≡ (y && z)
first_of true true true p q = refl
first_of false false z p q = refl
first_of x y false p q = absurd (false≢true p)
first_of true false true p q = absurd (false≢true (sym q))
first_of false true true p q = absurd (false≢true q)

-- how the floor where arms meet comes about
data Floors (f a b start floor : ℕ) : Type 0 where
  one_goes : floor ≡ f → (a ≡ f) ⊎ (b ≡ f) → Floors f a b start floor
  none_goes : floor ≡ start → (a ≡ f → ⊥) → (b ≡ f → ⊥) → Floors f a b start floor

floor_cases : (f a b start : ℕ) → Floors f a b start (met_floor f a b start)
floor_cases f a b start = by (a == f) refl (b == f) refl
  where
    same : (x y : ℕ) → (x == y) ≡ true → x ≡ y
    same x y e = grind (arith, nat_tests, e)

    other : (x y : ℕ) → (x == y) ≡ false → x ≡ y → ⊥
    other x y e h = absurd (grind (arith, nat_tests, e, h))

    by : (x : Bool) → (a == f) ≡ x → (y : Bool) → (b == f) ≡ y → Floors f a b start (if x then f else (if y then f else start))
    by true e y h = one_goes refl (inl (same a f e))
    by false e true h = one_goes refl (inr (same b f h))
    by false e false h = none_goes refl (other a f e) (other b f h)

module _ (a b : Arm) (old : Drawing) (drawn : IsDrawn old) (first : HasEnded a old) (second : HasEnded b old) (n floor : ℕ) (start : n ≡ next (view_of old)) (is : floor ≡ met_floor old.table.floor a.floor b.floor n) where
  abbrev f : Spot → Option ℕ
  f = seen old.table.layers

  abbrev base : Key → ℕ
  base = nodes_by floor f

  abbrev raised : Drawing
  raised = record old { table = record old.table { floor = floor } }

  how : Floors old.table.floor a.floor b.floor n floor
  how = by floor is
    where
      by : (g : ℕ) → g ≡ met_floor old.table.floor a.floor b.floor n → Floors old.table.floor a.floor b.floor n g
      by g e = again (floor_cases old.table.floor a.floor b.floor n)
        where
          again : Floors old.table.floor a.floor b.floor n (met_floor old.table.floor a.floor b.floor n) → Floors old.table.floor a.floor b.floor n g
          again (one_goes p q) = one_goes (e ∙ p) q
          again (none_goes p q r) = none_goes (e ∙ p) q r

  fallen : floor ≡ n → (k : Key) → base k ≡ 0
  fallen e k = all_fall old.table.floor floor f (view_of old) refl drawn.bounded drawn.low (omega (arith, e, start)) k

  kept : floor ≡ old.table.floor → (k : Key) → base k ≡ nodes_of old.table k
  kept e k = ap (λ (g : ℕ). nodes_by g f k) e

  base_of : (k : Key) → (base k ≡ 0) ⊎ (base k ≡ nodes_of old.table k)
  base_of k = by how
    where
      by : Floors old.table.floor a.floor b.floor n floor → (base k ≡ 0) ⊎ (base k ≡ nodes_of old.table k)
      by (one_goes e h) = inr (kept e k)
      by (none_goes e g h) = inl (fallen e k)

  risen_is : HasRisen old floor
  risen_is = by how
    where
      by : Floors old.table.floor a.floor b.floor n floor → HasRisen old floor
      by (one_goes e h) = inl e
      by (none_goes e g h) = inr (omega (arith, e, start))

  pub raised_low : IsLow raised
  raised_low = by how
    where
      low : old.table.floor ≤ next (view_of old)
      low = drawn.low

      by : Floors old.table.floor a.floor b.floor n floor → floor ≤ next (view_of old)
      by (one_goes e h) = omega (arith, e, low)
      by (none_goes e g h) = omega (arith, e, start)

  raised_bounded : IsBounded (view_of raised)
  raised_bounded = record { nodes = λ k. by k (base_of k); arrows = drawn.bounded.arrows; asked = drawn.bounded.asked }
    where
      by : (k : Key) → (base k ≡ 0) ⊎ (base k ≡ nodes_of old.table k) → base k < next (view_of old)
      by k (inl e) = omega (arith, e)
      by k (inr e) = let x : nodes_of old.table k < next (view_of old) = drawn.bounded.nodes k in omega (arith, e, x)

  -- an arm that has no label of its own for a scalar
  arm_else : (x : Arm) → HasEnded x old → (k : Key) → is_some (entry_in x.layer (whole k)) ≡ false → ((x.floor ≡ old.table.floor) × (behind_arm x f k ≡ nodes_of old.table k)) ⊎ (behind_arm x f k ≡ 0)
  arm_else x (inl e) k h = inl (e, unset_arm x f k h ∙ ap (λ (g : ℕ). nodes_by g f k) e)
  arm_else x (inr e) k h = inr (unset_arm x f k h ∙ e k)

  else_of : (k : Key) → is_some (entry_in a.layer (whole k)) ≡ false → is_some (entry_in b.layer (whole k)) ≡ false → (t : ℕ → Bool) → t 0 ≡ true → t (base k) ≡ (t (behind_arm a f k) && t (behind_arm b f k))
  else_of k p q t z = by how (arm_else a first k p) (arm_else b second k q)
    where
      low_first : a.floor ≡ old.table.floor → behind_arm a f k ≡ nodes_of old.table k
      low_first e = unset_arm a f k p ∙ ap (λ (g : ℕ). nodes_by g f k) e

      low_second : b.floor ≡ old.table.floor → behind_arm b f k ≡ nodes_of old.table k
      low_second e = unset_arm b f k q ∙ ap (λ (g : ℕ). nodes_by g f k) e

      zero_of : (i : ℕ) → i ≡ 0 → t i ≡ true
      zero_of i e = ap t e ∙ z

      -- the first goes on
      with_first : base k ≡ nodes_of old.table k → behind_arm a f k ≡ nodes_of old.table k → ((b.floor ≡ old.table.floor) × (behind_arm b f k ≡ nodes_of old.table k)) ⊎ (behind_arm b f k ≡ 0) → t (base k) ≡ (t (behind_arm a f k) && t (behind_arm b f k))
      with_first e g (inl h) = both_of (t (base k)) (t (behind_arm a f k)) (t (behind_arm b f k)) (ap t (e ∙ sym g)) (ap t (e ∙ sym h.1))
      with_first e g (inr h) = first_of (t (base k)) (t (behind_arm a f k)) (t (behind_arm b f k)) (zero_of (behind_arm b f k) h) (ap t (e ∙ sym g))

      with_second : base k ≡ nodes_of old.table k → behind_arm b f k ≡ nodes_of old.table k → ((a.floor ≡ old.table.floor) × (behind_arm a f k ≡ nodes_of old.table k)) ⊎ (behind_arm a f k ≡ 0) → t (base k) ≡ (t (behind_arm a f k) && t (behind_arm b f k))
      with_second e g (inl h) = both_of (t (base k)) (t (behind_arm a f k)) (t (behind_arm b f k)) (ap t (e ∙ sym h.1)) (ap t (e ∙ sym g))
      with_second e g (inr h) = second_of (t (base k)) (t (behind_arm a f k)) (t (behind_arm b f k)) (zero_of (behind_arm a f k) h) (ap t (e ∙ sym g))

      by : Floors old.table.floor a.floor b.floor n floor → ((a.floor ≡ old.table.floor) × (behind_arm a f k ≡ nodes_of old.table k)) ⊎ (behind_arm a f k ≡ 0)
          → ((b.floor ≡ old.table.floor) × (behind_arm b f k ≡ nodes_of old.table k)) ⊎ (behind_arm b f k ≡ 0) → t (base k) ≡ (t (behind_arm a f k) && t (behind_arm b f k))
      by (one_goes e (inl g)) x y = with_first (kept e k) (low_first g) y
      by (one_goes e (inr g)) x y = with_second (kept e k) (low_second g) x
      by (none_goes e g h) (inl x) y = absurd (g x.0)
      by (none_goes e g h) (inr x) (inl y) = absurd (h y.0)
      by (none_goes e g h) (inr x) (inr y) = zero_of (base k) (fallen e k) ∙ sym (both_true (t (behind_arm a f k)) (t (behind_arm b f k)) (zero_of (behind_arm a f k) x) (zero_of (behind_arm b f k) y))
        where
          both_true : (c d : Bool) → c ≡ true → d ≡ true → (c && d) ≡ true
          both_true true d i j = j
          both_true false d i j = absurd (false≢true i)

  module _ (middle new : Drawing) (one : MeetsFor a b n (λ k. is_some (entry_in a.layer (whole k))) raised middle) (other : MeetsFor a b n (λ k. is_some (entry_in b.layer (whole k))) middle new) where
    abbrev given : Key → Bool
    given k = is_some (entry_in b.layer (whole k)) || is_some (entry_in a.layer (whole k))

    whole_meets : MeetsFor a b n given raised new
    whole_meets = then_for a b n (λ k. is_some (entry_in a.layer (whole k))) (λ k. is_some (entry_in b.layer (whole k))) given raised middle new (λ k e. e) one other

    met : Met a b (view_of raised) f new (λ k. given k || false)
    met = whole_meets.meets (view_of raised) f (λ k. false) start raised_bounded (none_met (behind_arm a f) (behind_arm b f) (view_of raised) f)

    left_given : (k : Key) → is_some (entry_in a.layer (whole k)) ≡ true → (given k || false) ≡ true
    left_given k e = by (is_some (entry_in b.layer (whole k))) (is_some (entry_in a.layer (whole k))) e
      where
        by : (x y : Bool) → y ≡ true → ((x || y) || false) ≡ true
        by true y h = refl
        by false true h = refl
        by false false h = absurd (false≢true h)

    right_given : (k : Key) → is_some (entry_in b.layer (whole k)) ≡ true → (given k || false) ≡ true
    right_given k e = by (is_some (entry_in b.layer (whole k))) (is_some (entry_in a.layer (whole k))) e
      where
        by : (x y : Bool) → x ≡ true → ((x || y) || false) ≡ true
        by true y h = refl
        by false y h = absurd (false≢true h)

    not_given : (k : Key) (c : Bool) → met.is_new k ≡ false → (c ≡ true → (given k || false) ≡ true) → c ≡ false
    not_given k c e g = is_false c (λ h. false≢true (sym e ∙ met.given_is k (g h)))

    pub are_met : AreMet a b old new
    are_met = record {
      low = other.low;
      below = other.below ∙ one.below;
      risen = by risen_is;
      is_new = met.is_new;
      base = base;
      renews = met.renews;
      base_is = base_of;
      else_is = λ k e. else_of k (not_given k (is_some (entry_in a.layer (whole k))) e (left_given k)) (not_given k (is_some (entry_in b.layer (whole k))) e (right_given k));
    }
      where
        same_floor : new.table.floor ≡ floor
        same_floor = other.floor ∙ one.floor

        by : HasRisen old floor → HasRisen old new.table.floor
        by (inl e) = inl (same_floor ∙ e)
        by (inr l) = inr (omega (arith, l, same_floor))
