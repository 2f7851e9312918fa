-- One pass after another keeps what both keep.
use Rattle.std.proofs.Common.{◌≡◌, ℕ, ◌⊎◌, inl, inr, sym, subst}
use Rattle.jz_leak.specs.RunLeaks.{Leak}
use Rattle.jz_runs.specs.Trees.{Tree}
use Rattle.jz_runs.specs.Rules.{Parts, Outcome, End, Cut, Stuck, Goes}
use Rattle.jz_runs.proofs.Steady.{one_outcome, has_outcome}
use Rattle.jz_change.specs.Changes.{Change, map_of}
use Rattle.jz_change.specs.Fitting.{LeakFits}
use Rattle.jz_change.specs.Composing.{Composes}
use Rattle.jz_pass.specs.Laws.{Runs, Relating, Follows, has_ended, was_cut, was_stuck, Carries, both}

-- ---- one pass, then another

module _ {I J K V V2 V3 W W2 W3 : Type 0} (R : Relating I J V V2 W W2) (Q : Relating J K V2 V3 W2 W3) (a b c : Change) (h : Composes a b c) where
  end_twice : {Comes : Outcome V3 W3 Leak → Type 0} {m : ℕ} {l : Leak} (v : V) (v2 : V2) → R.Ends v v2 → LeakFits l a → Follows Q b Comes (End v2 m (map_of a l)) → Follows (both R Q) c Comes (End v m l)
  end_twice {Comes} {m} {l} v v2 e f (has_ended v3 e2 f2 g) = has_ended v3 (v2, e, e2) (h.fits l f f2) (subst (λ z. Comes (End v3 m z)) (sym (h.maps l f f2)) g)

  cut_twice : {Comes : Outcome V3 W3 Leak → Type 0} {l : Leak} → LeakFits l a → Follows Q b Comes (Cut (map_of a l)) → Follows (both R Q) c Comes (Cut l)
  cut_twice {Comes} {l} f (was_cut f2 g) = was_cut (h.fits l f f2) (subst (λ z. Comes (Cut z)) (sym (h.maps l f f2)) g)

  abbrev Shown : Type 0 → (W2 → W3 → Type 0) → (Outcome V3 W3 Leak → Type 0) → W2 → Type 0
  Shown Exact Fails Comes w2 = Exact → (w3 : W3) × Fails w2 w3 × Comes (Stuck w3)

  shown : {Comes : Outcome V3 W3 Leak → Type 0} {w2 : W2} → Follows Q b Comes (Stuck w2) → Shown Q.Exact Q.Fails Comes w2
  shown (was_stuck s) = s

  twice : (Between : Outcome V2 W2 Leak → Type 0) (Comes : Outcome V3 W3 Leak → Type 0) → ((o : Outcome V2 W2 Leak) → Between o → Follows Q b Comes o) → (o : Outcome V W Leak) → Follows R a Between o → Follows (both R Q) c Comes o
  twice Between Comes go (End v m l) (has_ended v2 e f g) = end_twice v v2 e f (go (End v2 m (map_of a l)) g)
  twice Between Comes go (Cut l) (was_cut f g) = cut_twice f (go (Cut (map_of a l)) g)
  twice Between Comes go (Stuck w) (was_stuck s) = was_stuck (λ x. let z = s x.0 in let y = shown (go (Stuck z.0) z.2) x.1 in (y.0, (z.0, z.1, y.1), y.2))

  pub carries_both : (From : Runs I V W) (Between : Runs J V2 W2) (To : Runs K V3 W3) → Carries R From Between a → Carries Q Between To b → Carries (both R Q) From To c
  carries_both From Between To f g = record {
    forth = λ i k n o s run. twice (Between s.0 n) (To k n) (λ p between. g.forth s.0 k n p s.2 between) o (f.forth i s.0 n o s.1 run);
    back = λ i k n w3 s run. let y = g.back s.0 k n w3 s.2 run in let z = f.back i s.0 n y.0 s.1 y.2 in (z.0, (y.0, z.1, y.1), z.2);
  }

-- ---- what is stuck, from what is carried forth

-- some outcome for each n, and one at most, are enough
module _ {I J V V2 W W2 : Type 0} (R : Relating I J V V2 W W2) (k : Change) (settles : (w : W) (w2 : W2) → R.Exact ⊎ R.Fails w w2) where
  at_stuck : (Comes : Outcome V2 W2 Leak → Type 0) → ((o p : Outcome V2 W2 Leak) → Comes o → Comes p → o ≡ p) → (w2 : W2) → Comes (Stuck w2) → (w : W) → (R.Exact → (w3 : W2) × R.Fails w w3 × Comes (Stuck w3)) → R.Exact ⊎ R.Fails w w2 → R.Fails w w2
  at_stuck Comes one w2 run w s (inl x) = let z = s x in let e : z.0 ≡ w2 = (let q = one (Stuck z.0) (Stuck w2) z.2 run in cc) in subst (R.Fails w) e z.1
  at_stuck Comes one w2 run w s (inr f) = f

  stuck_before : (From : Outcome V W Leak → Type 0) (Comes : Outcome V2 W2 Leak → Type 0) → ((o p : Outcome V2 W2 Leak) → Comes o → Comes p → o ≡ p) → (w2 : W2) → Comes (Stuck w2) → (o : Outcome V W Leak) → From o → Follows R k Comes o →
      (w : W) × R.Fails w w2 × From (Stuck w)
  stuck_before From Comes one w2 run (End v m l) from (has_ended v2 e f g) = absurd (let q = one (End v2 m (map_of k l)) (Stuck w2) g run in cc)
  stuck_before From Comes one w2 run (Cut l) from (was_cut f g) = absurd (let q = one (Cut (map_of k l)) (Stuck w2) g run in cc)
  stuck_before From Comes one w2 run (Stuck w) from (was_stuck s) = (w, at_stuck Comes one w2 run w s (settles w w2), from)

  pub both_ways : (From : Runs I V W) (To : Runs J V2 W2) → ((i : I) (j : J) (n : ℕ) → R.Starts i j → (o : Outcome V W Leak) × From i n o) → ((j : J) (n : ℕ) (o p : Outcome V2 W2 Leak) → To j n o → To j n p → o ≡ p) →
      ((i : I) (j : J) (n : ℕ) (o : Outcome V W Leak) → R.Starts i j → From i n o → Follows R k (To j n) o) → Carries R From To k
  both_ways From To some one forth = record {
    forth = forth;
    back = λ i j n w2 s run. let z = some i j n s in stuck_before (From i n) (To j n) (one j n) w2 run z.0 z.1 (forth i j n z.0 s z.1);
  }

-- of bodies
pub body_both_ways : {O T F C S W O2 T2 F2 C2 U W2 : Type 0} (M : Parts O T F C S W) (N : Parts O2 T2 F2 C2 U W2) (R : Relating S U S U W W2) (k : Change) (t : Tree O T F C) (u : Tree O2 T2 F2 C2) → ((w : W) (w2 : W2) → R.Exact ⊎ R.Fails w w2) →
    ((s : S) (v : U) (n : ℕ) (o : Outcome S W Leak) → R.Starts s v → Goes M t n s o → Follows R k (Goes N u n v) o) → Carries R (λ s n. Goes M t n s) (λ v n. Goes N u n v) k
body_both_ways M N R k t u settles forth = both_ways R k settles (λ s n. Goes M t n s) (λ v n. Goes N u n v) (λ s v n start. has_outcome M t n s) (λ v n o p. one_outcome N) forth
