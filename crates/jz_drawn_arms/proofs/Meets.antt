-- Where arms meet.
use Rattle.std.proofs.Common.{◌≡◌, ◌⊎◌, inl, inr, ◌<◌, ◌≤◌, ℕ, Bool, true, false, Option, Some, None, if◌then◌else◌, refl, sym, ap, ◌∙◌, arith}
use Rattle.std.specs.Prelude.{◌||◌}
use Rattle.std.proofs.lemmas.Bool.{false≢true}
use Rattle.jz_meaning.specs.States.{Key, same_key}
use Rattle.jz_labels.proofs.Keys.{keys_same}
use Rattle.jz_layers.specs.Spots.{Spot, same_spot, put_in}
use Rattle.jz_layers.proofs.SpotLemmas.{same_spot-true}
use Rattle.jz_drawing.specs.Drawings.{View, next, IsBounded}
use Rattle.jz_drawing.specs.Laws.{renewed_at}
use Rattle.jz_drawing.proofs.Renewing.{nothing_renewed, one_renewed}
use Rattle.jz_drawn_labels.specs.Kept.{whole}
use Rattle.jz_drawn_labels.proofs.Tables.{spot_key}
use Rattle.jz_drawn_arms.specs.Meetings.{two, Meeting}

either : (a b : Bool) → (a || b) ≡ true → (a ≡ true) ⊎ (b ≡ true)
either true b e = inl refl
either false b e = inr e

cell_clash : (s : Spot) (k : Key) (i : ℕ) → s.index ≡ Some i → same_spot s (whole k) ≡ true → ⊥
cell_clash s k i e h = some_none (sym e ∙ ap (λ (x : Spot). x.index) (same_spot-true s (whole k) h))
  where
    some_none : {n : ℕ} → Some n ≡ None → ⊥
    some_none e = cc e

module _ (a b : Key → ℕ) (start : View) (before : Spot → Option ℕ) where
  pub none_met : Meeting a b start before start before (λ k. false)
  none_met = record { is_new = λ k. false; renews = nothing_renewed (two a b) start; stays = λ k e. refl; given_is = λ k e. absurd (false≢true e) }

  module _ (w : View) (now : Spot → Option ℕ) (given : Key → Bool) (m : Meeting a b start before w now given) (bound : IsBounded start) where
    -- whether a scalar has been given a label is seen by its number
    pub met_new : (k : Key) → next start ≤ w.nodes k → m.is_new k ≡ true
    met_new k l = by (m.is_new k) refl
      where
        by : (c : Bool) → m.is_new k ≡ c → c ≡ true
        by true e = refl
        by false e = let x = m.renews.kept k e in let y = bound.nodes k in absurd (omega (arith, x, y, l))

    pub met_old : (k : Key) → w.nodes k < next start → m.is_new k ≡ false
    met_old k l = by (m.is_new k) refl
      where
        by : (c : Bool) → m.is_new k ≡ c → c ≡ false
        by false e = refl
        by true e = let x = m.renews.fresh k e in absurd (omega (arith, x.0, l))

    -- a cell of an array is passed over
    pub cell_met : (s : Spot) (i : ℕ) → s.index ≡ Some i → Meeting a b start before w now (λ k. same_spot s (whole k) || given k)
    cell_met s i e = record { is_new = m.is_new; renews = m.renews; stays = m.stays; given_is = λ k h. by k (either (same_spot s (whole k)) (given k) h) }
      where
        never : (k : Key) → same_spot s (whole k) ≡ true → ⊥
        never k h = cell_clash s k i e h

        by : (k : Key) → (same_spot s (whole k) ≡ true) ⊎ (given k ≡ true) → m.is_new k ≡ true
        by k (inl h) = absurd (never k h)
        by k (inr h) = m.given_is k h

    -- one that has been given a label
    pub again_met : (s : Spot) → s.index ≡ None → next start ≤ w.nodes s.of → Meeting a b start before w now (λ k. same_spot s (whole k) || given k)
    again_met s e l = record { is_new = m.is_new; renews = m.renews; stays = m.stays; given_is = λ k h. by k (either (same_spot s (whole k)) (given k) h) }
      where
        by : (k : Key) → (same_spot s (whole k) ≡ true) ⊎ (given k ≡ true) → m.is_new k ≡ true
        by k (inl h) = ap m.is_new (keys_same k s.of (sym (spot_key s k e) ∙ h)) ∙ met_new s.of l
        by k (inr h) = m.given_is k h

    -- one that is given a label
    pub now_met : (s : Spot) (n : ℕ) (behind : Spot → Option ℕ) → s.index ≡ None → w.nodes s.of < next start → behind ≡ put_in now s n
        → Meeting a b start before (renewed_at s.of (two a b s.of) w) behind (λ k. same_spot s (whole k) || given k)
    now_met s n behind e l p = record {
      is_new = λ k. same_key k s.of || m.is_new k;
      renews = one_renewed (two a b) m.is_new start w m.renews s.of (met_old s.of l);
      stays = stays;
      given_is = λ k h. by k (either (same_spot s (whole k)) (given k) h);
    }
      where
        stays : (k : Key) → (same_key k s.of || m.is_new k) ≡ false → behind (whole k) ≡ before (whole k)
        stays k h = ap (λ (f : Spot → Option ℕ). f (whole k)) p ∙ other (same_key k s.of) refl h
          where
            other : (c : Bool) → same_key k s.of ≡ c → (c || m.is_new k) ≡ false → put_in now s n (whole k) ≡ before (whole k)
            other true i j = absurd (false≢true (sym j))
            other false i j = ap (λ (d : Bool). if d then Some n else now (whole k)) (spot_key s k e ∙ i) ∙ m.stays k j

        by : (k : Key) → (same_spot s (whole k) ≡ true) ⊎ (given k ≡ true) → (same_key k s.of || m.is_new k) ≡ true
        by k (inl h) = ap (λ (c : Bool). c || m.is_new k) (sym (spot_key s k e) ∙ h)
        by k (inr h) = right (same_key k s.of) (m.is_new k) (m.given_is k h)
          where
            right : (c d : Bool) → d ≡ true → (c || d) ≡ true
            right true d i = refl
            right false d i = i

    -- fewer of which it is said
    pub given_less : (fewer : Key → Bool) → ((k : Key) → fewer k ≡ true → given k ≡ true) → Meeting a b start before w now fewer
    given_less fewer f = record { is_new = m.is_new; renews = m.renews; stays = m.stays; given_is = λ k h. m.given_is k (f k h) }
