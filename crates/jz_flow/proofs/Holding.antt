-- The facts hold of runs, and where each condition is given no run is stuck.
use Rattle.std.proofs.Common.{◌≡◌, ℕ, Bool, true, false, if◌then◌else◌, List, None, sym, subst}
use Rattle.jz_runs.specs.Trees.{Tree}
use Rattle.jz_leak.specs.RunLeaks.{Leak, Turns}
use Rattle.jz_runs.specs.Rules.{went, Parts, Outcome, End, Cut, Stuck, after, Goes, finished, did, did_not, quieted, chosen, chosen_cut, chosen_stuck, chose_not, loop_left, loop_cut, loop_stuck, counted, counted_cut, counted_stuck, counted_not, call_ended, call_cut, call_stuck, entered_not, left_not, Loops, in_prologue, prologue_stuck, tested_not, leaves_loop, no_turn, in_body, body_stuck, more_turns}
use Rattle.jz_flow.specs.Sets.{Facts, Below, common}
use Rattle.jz_flow.specs.Flow.{Steps}
use Rattle.jz_flow.specs.Alarms.{Asks, Meets}
use Rattle.jz_flow.specs.Soundness.{Fine, AllAre, Sound}
use Rattle.jz_flow.proofs.Ordering.{common_left, common_right}

fine_after : {S W L M : Type 0} (Holds : S → Type 0) (f : L → M) (z : Outcome S W L) → Fine Holds z → Fine Holds (after f z)
fine_after Holds f (End s n l) h = h
fine_after Holds f (Cut l) h = h
fine_after Holds f (Stuck w) h = h

module _ {O T F N C S V W : Type 0} (IsFine : O → Type 0) (IsFineTest : T → Type 0) (R : Steps O T F) (A : Asks O T F V) (M : Parts O T N C S W) (Holds : Facts F → S → Type 0) where
  module _ (H : Sound IsFine IsFineTest R A M Holds) where
    branch : {L : Type 0} (z : Bool) (a b : Tree O T N C) (s : S) (o : Outcome S W L) (c : T) (x y d : Facts F) (ns : List ℕ)
        → IsFineTest c → AllAre IsFine IsFineTest a → AllAre IsFine IsFineTest b → Holds d s → M.tests c s ≡ went ns z → Meets R A a (R.tests c true d) x → Meets R A b (R.tests c false d) y
        → ((v v' : Facts F) → AllAre IsFine IsFineTest (if z then a else b) → Holds v (M.settled c s) → Meets R A (if z then a else b) v v' → Fine (Holds v') o)
        → Fine (Holds (if z then x else y)) o
    branch true a b s o c x y d ns f fa fb h q k l go = go _ _ fa (H.tests c true d s ns f h q) k
    branch false a b s o c x y d ns f fa fb h q k l go = go _ _ fb (H.tests c false d s ns f h q) l

    joined : (z : Bool) (x y : Facts F) (s : S) → Holds (if z then x else y) s → Holds (common x y) s
    joined true x y s h = H.less (common x y) x s (common_left x y) h
    joined false x y s h = H.less (common x y) y s (common_right x y) h

    mutual
      pub sound : {t : Tree O T N C} {n : ℕ} {s : S} {z : Outcome S W Leak} → Goes M t n s z → (x x' : Facts F) → AllAre IsFine IsFineTest t → Holds x s → Meets R A t x x' → Fine (Holds x') z
      sound {s} finished x x' f h e = subst (λ y. Holds y s) (sym e) h
      sound {s} (did {o} {s1} {ns} {w} q g) x x' f h e = fine_after (Holds x') _ w (sound g (R.does o x) x' f.1 (H.does o x s s1 ns f.0 h q) e.1)
      sound {s} (did_not {o} {w} q) x x' f h e = absurd (H.runs o x s w f.0 h e.0 q)
      sound {s} (quieted {o} g) x x' f h e = sound g (R.quiets o x) x' f.1 (H.quiets o x s f.0 h) e
      sound {s} (chosen {c} {a} {b} {n} {m} {s1} {ns} {z} {l} {w} q g k) x x' f h e =
          let i = branch z a b s (End s1 m l) c e.0 e.1 x ns f.0 f.1 f.2 h q e.3 e.4 (λ v v' fv hv av. sound g v v' fv hv av) in
          fine_after (Holds x') _ w (sound k (common e.0 e.1) x' f.3 (joined z e.0 e.1 s1 i) e.5)
      sound (chosen_cut q g) x x' f h e = tt
      sound {s} (chosen_stuck {c} {a} {b} {ns} {z} {w} q g) x x' f h e =
          branch {L = Leak} z a b s (Stuck w) c e.0 e.1 x ns f.0 f.1 f.2 h q e.3 e.4 (λ v v' fv hv av. sound g v v' fv hv av)
      sound {s} (chose_not {c} {w} q) x x' f h e = absurd (H.answers c x s w f.0 h e.2 q)
      sound {s} (loop_left {c} {s1} {ts} {w} g k) x x' f h e =
          let i = sound_loop g e.0 e.1 e.2 f.0 f.1 f.2 (H.less e.0 x s e.3 h) e.4 e.5 e.6 e.7 in
          fine_after (Holds x') _ w (sound k (R.leaves c e.0 e.1) x' f.3 i e.8)
      sound (loop_cut g) x x' f h e = tt
      sound {s} (loop_stuck {c} g) x x' f h e = sound_loop g e.0 e.1 e.2 f.0 f.1 f.2 (H.less e.0 x s e.3 h) e.4 e.5 e.6 e.7
      sound (counted q g k) x x' f h e = absurd e
      sound (counted_cut q g) x x' f h e = absurd e
      sound (counted_stuck q g) x x' f h e = absurd e
      sound (counted_not q) x x' f h e = absurd e
      sound (call_ended p q r k) x x' f h e = absurd e
      sound (call_cut q g) x x' f h e = absurd e
      sound (call_stuck q g) x x' f h e = absurd e
      sound (entered_not q) x x' f h e = absurd e
      sound (left_not p q r) x x' f h e = absurd e

      pub sound_loop : {p : Tree O T N C} {c : T} {b : Tree O T N C} {n : ℕ} {s : S} {z : Outcome S W Turns} → Loops M p c b n s z → (h q y : Facts F) → IsFineTest c → AllAre IsFine IsFineTest p → AllAre IsFine IsFineTest b → Holds h s → Meets R A p h q → A.test c q ≡ None → Meets R A b (R.tests c true q) y → Below h y → Fine (Holds (R.leaves c h q)) z
      sound_loop (in_prologue g) h q y f fp fb hs mp mt mb up = tt
      sound_loop (prologue_stuck g) h q y f fp fb hs mp mt mb up = absurd (sound g h q fp hs mp)
      sound_loop (tested_not {c} {s1} {w} g e) h q y f fp fb hs mp mt mb up = absurd (H.answers c q s1 w f (sound g h q fp hs mp) mt e)
      sound_loop (leaves_loop {c} {s1} {ns} g e) h q y f fp fb hs mp mt mb up = H.leaves c h q s1 ns f (sound g h q fp hs mp) e
      sound_loop (no_turn g e) h q y f fp fb hs mp mt mb up = tt
      sound_loop (in_body g e k) h q y f fp fb hs mp mt mb up = tt
      sound_loop (body_stuck {c} {s1} {ns} g e k) h q y f fp fb hs mp mt mb up = sound k (R.tests c true q) y fb (H.tests c true q s1 ns f (sound g h q fp hs mp) e) mb
      sound_loop (more_turns {c} {s1} {s2} {ns} {w} g e k l) h q y f fp fb hs mp mt mb up =
          fine_after (Holds (R.leaves c h q)) _ w (sound_loop l h q y f fp fb (H.less h y s2 up (sound k (R.tests c true q) y fb (H.tests c true q s1 ns f (sound g h q fp hs mp) e) mb)) mp mt mb up)
