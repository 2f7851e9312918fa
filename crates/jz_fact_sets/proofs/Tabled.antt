-- What is known by two tables over a set, spot by spot.
use Rattle.std.proofs.Common.{◌≡◌, ℕ, ◌+◌, ◌<◌, ◌≤◌, ◌^◌, length, Option, Some, None, Bool, true, false, refl, ap, sym, ◌∙◌, subst, arith, if◌then◌else◌}
use Rattle.std.specs.Prelude.{◌||◌, is_some, slice_get, IfSome}
use Rattle.std.specs.Bool.{MatchBool}
use Rattle.std.proofs.Math.Path.{fun_ext}
use Rattle.indexmap.specs.IndexMap.{IndexMap}
use Rattle.jz_layers.specs.declared.named.Named.{Named}
use Rattle.jz_layers.specs.Spots.{Spot, same_spot, spot_of, entry_in, nowhere, or_below, over}
use Rattle.jz_layers.proofs.SpotLemmas.{same_spot-true, same_spot-refl, same_spot-back}
use Rattle.jz_layers.proofs.Covering.{covers, cover_none, cover_next, covers_all, Covered}
use Rattle.jz_fact_sets.specs.declared.knowledge.Knowledge.{Knowledge}
use Rattle.jz_fact_sets.specs.Knowing.{meet}
use Rattle.jz_fact_sets.specs.Kept.{known_or}
use Rattle.jz_fact_sets.specs.Renewing.{known_if}
use Rattle.jz_fact_sets.specs.Meeting.{or_known, over_known, met_at, with_met, IsMet, narrowed, narrowed_at, amount, Falls}
use Rattle.jz_fact_sets.proofs.KnowledgeLemmas.{meet_again, amount_within, amount_falls}

module _ {S : Type 0} (a b m : IndexMap Named Knowledge S) (know : Spot → Knowledge) where
  -- all of a table
  pub all_met : (old : Spot → Option Knowledge) (i : ℕ) (h : Spot → Option Knowledge) → length m.entries ≤ i → Covered (λ k. Some (met_at a b know k)) old m.entries i h → h ≡ with_met a b m know old
  all_met old i h l c = fun_ext (λ k. c k ∙ ap (λ t. if t then Some (met_at a b know k) else old k) (covers_all m.entries i k l))

module _ {S : Type 0} (a b out : IndexMap Named Knowledge S) (f : Spot → Option Knowledge) (first : Spot → Option Knowledge) where
  abbrev know : Spot → Knowledge
  know k = known_or (f k)

  pub is_met : (new : Spot → Knowledge) → first ≡ with_met a b a know nowhere → entry_in out ≡ with_met a b b know first → ((k : Spot) → new k ≡ known_or (over out f k)) → IsMet a b know new
  is_met new e h n k =
      n k
      ∙ ap (λ o. known_or (or_below o (f k))) (ap (λ g. g k) h ∙ ap (λ o. if is_some (entry_in b k) then Some (met_at a b know k) else o) (ap (λ g. g k) e))
      ∙ by (is_some (entry_in b k)) (is_some (entry_in a k))
    where
      by : (y x : Bool) → known_or (or_below (if y then Some (met_at a b know k) else if x then Some (met_at a b know k) else None) (f k)) ≡ known_if (y || x) (met_at a b know k) (know k)
      by true x = refl
      by false true = refl
      by false false = refl

-- ---- less and less

module _ {S : Type 0} (m : IndexMap Named Knowledge S) (old : Spot → Knowledge) where
  -- as far as its first i entries
  abbrev pub NarrowedTo : ℕ → (Spot → Knowledge) → Type 0
  NarrowedTo i now = (k : Spot) → now k ≡ known_if (covers m.entries i k) (meet (old k) (over_known m old k)) (old k)

  pub narrowed_none : NarrowedTo 0 old
  narrowed_none k = sym (ap (λ c. known_if c (meet (old k) (over_known m old k)) (old k)) (cover_none m.entries k))

  pub narrowed_more : (i : ℕ) (now new : Spot → Knowledge) (n : Named) (v : Knowledge) → slice_get m.entries i ≡ Some (n, v) → entry_in m (spot_of n) ≡ Some v → new ≡ narrowed_at (spot_of n) v now
      → NarrowedTo i now → NarrowedTo (i + 1) new
  narrowed_more i now new n v at is e h k =
      ap (λ f. f k) e
      ∙ by (same_spot (spot_of n) k) refl (covers m.entries i k) (h k)
      ∙ sym (ap (λ c. known_if c (meet (old k) (over_known m old k)) (old k)) (cover_next m.entries i n v k at ∙ ap (λ c. covers m.entries i k || c) (same_spot-back (spot_of n) k (same_spot (spot_of n) k) refl)))
    where
      here : same_spot (spot_of n) k ≡ true → over_known m old k ≡ v
      here p = ap (or_known (old k)) (sym (ap (entry_in m) (same_spot-true (spot_of n) k p)) ∙ is)

      by : (s : Bool) → same_spot (spot_of n) k ≡ s → (c : Bool) → now k ≡ known_if c (meet (old k) (over_known m old k)) (old k)
          → known_if s (meet (now k) v) (now k) ≡ known_if (c || s) (meet (old k) (over_known m old k)) (old k)
      by true p true q = ap (λ x. meet x v) (q ∙ ap (meet (old k)) (here p)) ∙ meet_again (old k) v ∙ sym (ap (meet (old k)) (here p))
      by true p false q = ap (λ x. meet x v) q ∙ sym (ap (meet (old k)) (here p))
      by false p true q = q
      by false p false q = q

  pub narrowed_all : (i : ℕ) (now : Spot → Knowledge) → length m.entries ≤ i → NarrowedTo i now → now ≡ narrowed m old
  narrowed_all i now l h = fun_ext (λ k. h k ∙ ap (λ c. known_if c (meet (old k) (over_known m old k)) (old k)) (covers_all m.entries i k l))

pub narrowed_put : (n : Spot) (x : Knowledge) (know : Spot → Knowledge) (k : Spot) → known_if (same_spot n k) (meet (know n) x) (know k) ≡ narrowed_at n x know k
narrowed_put n x know k = by (same_spot n k) refl
  where
    by : (b : Bool) → same_spot n k ≡ b → known_if b (meet (know n) x) (know k) ≡ known_if b (meet (know k) x) (know k)
    by true p = ap (λ q. meet (know q) x) (same_spot-true n k p)
    by false p = refl

pub narrowed_same : (n : Spot) (x : Knowledge) (know : Spot → Knowledge) → meet (know n) x ≡ know n → know ≡ narrowed_at n x know
narrowed_same n x know e = fun_ext (λ k. by k (same_spot n k) refl)
  where
    by : (k : Spot) → (b : Bool) → same_spot n k ≡ b → know k ≡ known_if b (meet (know k) x) (know k)
    by k true p = sym (subst (λ q. meet (know q) x ≡ know q) (same_spot-true n k p) e)
    by k false p = refl

pub falls_at : (n : Spot) (x : Knowledge) (old new : Spot → Knowledge) → new ≡ narrowed_at n x old → ((i : ℕ) → (meet (old n) x).most ≡ Some i → i < 2 ^ 64) → (meet (old n) x ≡ old n → ⊥) → Falls old new
falls_at n x old new e small differs = record {
  at = n;
  less = subst (λ y. amount y < amount (old n)) (sym (ap (λ f. f n) e ∙ ap (λ c. known_if c (meet (old n) x) (old n)) (same_spot-refl n))) (amount_falls (old n) x small differs);
  nowhere_more = λ k. subst (λ y. amount y ≤ amount (old k)) (sym (ap (λ f. f k) e)) (by k (same_spot n k));
}
  where
    by : (k : Spot) → (b : Bool) → amount (known_if b (meet (old k) x) (old k)) ≤ amount (old k)
    by k true = amount_within (old k) x
    by k false = omega arith

pub falls_on : (a b c : Spot → Knowledge) → Falls a b → Falls b c → Falls a c
falls_on a b c f h =
    let l = f.less in
    let m = h.nowhere_more f.at in
    let less : amount (c f.at) < amount (a f.at) = omega (arith, l, m) in
    record {
      at = f.at;
      less = less;
      nowhere_more = λ k. on k (f.nowhere_more k) (h.nowhere_more k);
    }
  where
    on : (k : Spot) → amount (b k) ≤ amount (a k) → amount (c k) ≤ amount (b k) → amount (c k) ≤ amount (a k)
    on k p q = omega (arith, p, q)

-- one part after another
abbrev pub SameIf : Bool → (Spot → Knowledge) → (Spot → Knowledge) → Type 0
SameIf fell old new = fell ≡ false → new ≡ old

abbrev pub FallsIf : Bool → (Spot → Knowledge) → (Spot → Knowledge) → Type 0
FallsIf fell old new = fell ≡ true → Falls old new

pub same_on : (x y : Bool) (a b c : Spot → Knowledge) → SameIf x a b → SameIf y b c → SameIf (x || y) a c
same_on true y a b c f h e = absurd (cc e)
same_on false y a b c f h e = h e ∙ f refl

pub falls_next : (x y : Bool) (a b c : Spot → Knowledge) → SameIf x a b → FallsIf x a b → SameIf y b c → FallsIf y b c → FallsIf (x || y) a c
falls_next true true a b c s f t h e = falls_on a b c (f refl) (h refl)
falls_next true false a b c s f t h e = subst (λ z. Falls a z) (sym (t refl)) (f refl)
falls_next false true a b c s f t h e = subst (λ z. Falls z c) (s refl) (h refl)
falls_next false false a b c s f t h e = absurd (cc e)

-- by an answer
pub yes_of : (P Q : Type 0) (b : Bool) → MatchBool b P Q → b ≡ true → P
yes_of P Q true h e = h
yes_of P Q false h e = absurd (cc e)

pub no_of : (P Q : Type 0) (b : Bool) → MatchBool b P Q → b ≡ false → Q
no_of P Q true h e = absurd (cc e)
no_of P Q false h e = h

if_some : {A : Type 0} (P : A → Type 0) (o : Option A) → IfSome o P → (a : A) → o ≡ Some a → P a
if_some P None h a e = absurd (cc e)
if_some P (Some b) h a e = subst P (ap (λ o. some_or b o) e) h
  where
    some_or : {A : Type 0} → A → Option A → A
    some_or d None = d
    some_or d (Some x) = x

module _ (n : Spot) (know : Spot → Knowledge) (turn old new : Knowledge) (was : old ≡ know n) (is : new ≡ meet old turn) where
  meets : meet (know n) turn ≡ new
  meets = ap (λ k. meet k turn) (sym was) ∙ sym is

  pub stays : new ≡ old → know ≡ narrowed_at n turn know
  stays e = narrowed_same n turn know (meets ∙ e ∙ was)

  pub puts : (k : Spot) → known_if (same_spot n k) new (know k) ≡ narrowed_at n turn know k
  puts k = ap (λ x. known_if (same_spot n k) x (know k)) (sym meets) ∙ narrowed_put n turn know k

  pub falls : (after : Spot → Knowledge) → after ≡ narrowed_at n turn know → IfSome new.most (λ i. i < 2 ^ 64) → (new ≡ old → ⊥) → Falls know after
  falls after e small differs =
      falls_at n turn know after e (λ i h. if_some (λ j. j < 2 ^ 64) new.most small i (ap (λ (k : Knowledge). k.most) (sym meets) ∙ h)) (λ h. differs (sym meets ∙ h ∙ sym was))
