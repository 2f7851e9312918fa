-- A body and its placed form, where what is live agrees at each place between operations.
use Rattle.std.proofs.Common.{◌≡◌, ℕ, Bool, true, false, List, Option, Some, refl, sym, ap, subst, if◌then◌else◌}
use Rattle.jz_leak.specs.RunLeaks as leak
use Rattle.jz_leak.specs.RunLeaks.{Leak, Turns}
use Rattle.jz_runs.specs.Trees.{Tree, done, op, quiet, choose, loop, each, call}
use Rattle.jz_runs.specs.Rules.{went, Parts, Outcome, End, Cut, after, Goes, finished, did, did_not, quieted, chosen, chosen_cut, chosen_stuck, chose_not, loop_left, loop_cut, loop_stuck, counted, counted_cut, counted_stuck, counted_not, call_ended, call_cut, call_stuck, entered_not, left_not, Loops, in_prologue, prologue_stuck, tested_not, leaves_loop, no_turn, in_body, body_stuck, more_turns}
use Rattle.jz_ir.specs.declared.code.Op.{Op}
use Rattle.jz_ir.specs.Paths.{among}
use Rattle.jz_ir.specs.Tree as ir
use Rattle.jz_live.specs.Lives.{transfer, live_before, test_before}
use Rattle.jz_live.proofs.Nodes.{head_is}
use Rattle.jz_placing.specs.Flow.{asked_op, flow}
use Rattle.jz_placing.specs.Renumbering.{on_turns, renumbered}
use Rattle.jz_placing.specs.Following.{Follows, ended, was_cut, was_stuck}

-- ---- outcomes that follow, as more is put before them
with_more : {S S' W W' L L' K K' : Type 0} {R : Outcome S' W' L' → Type 0} {Q : Outcome S' W' K' → Type 0} {A : S → S' → Type 0} {maps : L → L'} {more : K → K'} (f : L → K) (f' : L' → K') → ((l : L) → more (f l) ≡ f' (maps l))
    → ((o : Outcome S' W' L') → R o → Q (after f' o)) → {o : Outcome S W L} → Follows R A maps o → Follows Q A more (after f o)
with_more {Q} f f' e g (ended {n} {l} s' r a) = ended s' (subst (λ k. Q (End s' n k)) (sym (e l)) (g _ r)) a
with_more {Q} f f' e g (was_cut {l} r) = was_cut (subst (λ k. Q (Cut k)) (sym (e l)) (g _ r))
with_more f f' e g was_stuck = was_stuck

on_end : {S S' W W' L L' X : Type 0} {R : Outcome S' W' L' → Type 0} {A : S → S' → Type 0} {maps : L → L'} {s : S} {n : ℕ} {l : L}
    → Follows {W = W} R A maps (End s n l) → ((s' : S') → R (End s' n (maps l)) → A s s' → X) → X
on_end (ended s' r a) f = f s' r a

on_cut : {S S' W W' L L' : Type 0} {R : Outcome S' W' L' → Type 0} {A : S → S' → Type 0} {maps : L → L'} {l : L} → Follows {W = W} R A maps (Cut l) → R (Cut (maps l))
on_cut (was_cut r) = r

module _ {O T O' T' S S' W W' : Type 0} (M : Parts O T ⊥ ⊥ S W) (N : Parts O' T' ⊥ ⊥ S' W') (operation : O → Op) (test_of : T → Option Op) (put_op : O → O') (put_test : T → T')
    (numbers : O → List ℕ → List ℕ) (test_numbers : T → List ℕ → List ℕ) (Agree : (ℕ → Bool) → S → S' → Type 0) where
  -- ---- what is asked of an operation and a test, by what is live after it
  pub record OneOp (o : O) (behind : ℕ → Bool) : Type 0 where
    pub goes : (s s1 : S) (s' : S') (ns : List ℕ) → Agree (λ v. transfer (among (operation o).reads v) (among (operation o).writes v) (behind v)) s s' → M.does o s ≡ went ns s1
        → (s1' : S') × (N.does (put_op o) s' ≡ went (numbers o ns) s1') × Agree behind s1 s1'

  -- x is its operation, which may be seen as one that is not there
  pub record OneTest (x : Option Op) (c : T) (on off : ℕ → Bool) : Type 0 where
    pub goes : (s : S) (s' : S') (ns : List ℕ) (z : Bool) → Agree (λ v. test_before v x (on v) (off v)) s s' → M.tests c s ≡ went ns z
        → (N.tests (put_test c) s' ≡ went (test_numbers c ns) z) × Agree (λ v. if z then on v else off v) (M.settled c s) (N.settled (put_test c) s')

  -- of a body, and what follows it; `behind` is what is live behind that
  abbrev pub IsFollowed : Tree O T ⊥ ⊥ → ir.Tree → (ℕ → Bool) → Type 0
  IsFollowed done rest behind = Unit {0}
  IsFollowed (op o r) rest behind = OneOp o (λ v. live_before v (flow operation test_of r rest) (behind v)) × IsFollowed r rest behind
  IsFollowed (quiet o r) rest behind = ((A : ℕ → Bool) (s : S) (s' : S') → Agree A s s' → Agree A (M.quiets o s) s') × IsFollowed r rest behind
  IsFollowed (choose c a b r) rest behind =
      let B : ℕ → Bool = λ v. live_before v (flow operation test_of r rest) (behind v) in
      OneTest (Some (asked_op (test_of c))) c (λ v. live_before v (flow operation test_of a ir.done) (B v)) (λ v. live_before v (flow operation test_of b ir.done) (B v))
      × IsFollowed a ir.done B × IsFollowed b ir.done B × IsFollowed r rest behind
  IsFollowed (loop q p c b r) rest behind =
      let B : ℕ → Bool = λ v. live_before v (flow operation test_of r rest) (behind v) in
      let H : ℕ → Bool = λ v. live_before v (flow operation test_of p ir.done) (test_before v (test_of c) (live_before v (flow operation test_of b ir.done) false) (B v)) in
      IsFollowed p ir.done (λ v. test_before v (test_of c) (live_before v (flow operation test_of b ir.done) (H v)) (B v))
      × OneTest (test_of c) c (λ v. live_before v (flow operation test_of b ir.done) (H v)) B
      × IsFollowed b ir.done H × IsFollowed r rest behind
  IsFollowed (each f b r) rest behind = absurd f
  IsFollowed (call c b r) rest behind = absurd c

  -- the same body with each operation and test in its place; what only unsets variables is left out
  abbrev pub put : Tree O T ⊥ ⊥ → Tree O' T' ⊥ ⊥
  put done = done
  put (op o r) = op (put_op o) (put r)
  put (quiet o r) = put r
  put (choose c a b r) = choose (put_test c) (put a) (put b) (put r)
  put (loop q p c b r) = loop q (put p) (put_test c) (put b) (put r)
  put (each f b r) = absurd f
  put (call c b r) = absurd c

  abbrev pub maps : Tree O T ⊥ ⊥ → Leak → Leak
  maps = renumbered numbers test_numbers

  abbrev pub turn_maps : Tree O T ⊥ ⊥ → T → Tree O T ⊥ ⊥ → Turns → Turns
  turn_maps p c b = on_turns (test_numbers c) (maps p) (maps b)

  abbrev live : Tree O T ⊥ ⊥ → ir.Tree → (ℕ → Bool) → ℕ → Bool
  live t rest behind v = live_before v (flow operation test_of t rest) (behind v)

  -- ---- arms
  arm_followed : (z : Bool) (a b : Tree O T ⊥ ⊥) (B : ℕ → Bool) → IsFollowed a ir.done B → IsFollowed b ir.done B → IsFollowed (if z then a else b) ir.done B
  arm_followed true a b B x y = x
  arm_followed false a b B x y = y

  arm_agrees : (z : Bool) (a b : Tree O T ⊥ ⊥) (B : ℕ → Bool) (s : S) (s' : S') → Agree (λ v. if z then live a ir.done B v else live b ir.done B v) s s' → Agree (live (if z then a else b) ir.done B) s s'
  arm_agrees true a b B s s' x = x
  arm_agrees false a b B s s' x = x

  arm_goes : (z : Bool) (a b : Tree O T ⊥ ⊥) {n : ℕ} {s' : S'} {o : Outcome S' W' Leak} → Goes N (put (if z then a else b)) n s' o → Goes N (if z then put a else put b) n s' o
  arm_goes true a b g = g
  arm_goes false a b g = g

  arm_maps : (z : Bool) (a b : Tree O T ⊥ ⊥) (l : Leak) → (if z then maps a l else maps b l) ≡ maps (if z then a else b) l
  arm_maps true a b l = refl
  arm_maps false a b l = refl

  -- ---- what is live at the head of a loop, by what is live behind it
  abbrev head : Tree O T ⊥ ⊥ → T → Tree O T ⊥ ⊥ → (ℕ → Bool) → ℕ → Bool
  head p c b B v = live p ir.done (λ w. test_before w (test_of c) (live_before w (flow operation test_of b ir.done) false) (B w)) v

  head_same : (p : Tree O T ⊥ ⊥) (c : T) (b : Tree O T ⊥ ⊥) (B : ℕ → Bool) (v : ℕ) → head p c b B v ≡ live p ir.done (λ w. test_before w (test_of c) (live b ir.done (head p c b B) w) (B w)) v
  head_same p c b B v = sym (head_is v (flow operation test_of p ir.done) (test_of c) (flow operation test_of b ir.done) (B v) (head p c b B v) refl)

  module _ (same : (A B : ℕ → Bool) (s : S) (s' : S') → ((v : ℕ) → A v ≡ B v) → Agree A s s' → Agree B s s') where
    mutual
      pub follow : {t : Tree O T ⊥ ⊥} {n : ℕ} {s : S} {o : Outcome S W Leak} → Goes M t n s o → (rest : ir.Tree) (behind : ℕ → Bool) → IsFollowed t rest behind → (s' : S') → Agree (live t rest behind) s s'
          → Follows (Goes N (put t) n s') (Agree (λ v. live_before v rest (behind v))) (maps t) o
      follow finished rest k x s' a = ended s' finished a
      follow {s} (did {o} {s1} {ns} q g) rest k x s' a = let y = x.0.goes s s1 s' ns a q in with_more (leak.ran ns) (leak.ran (numbers o ns)) (λ l. refl) (λ o h. did y.1 h) (follow g rest k x.1 y.0 y.2)
      follow (did_not q) rest k x s' a = was_stuck
      follow {s} (quieted {r} g) rest k x s' a = follow g rest k x.1 s' (x.0 (live r rest k) s s' a)
      follow {s} (chosen {c} {a} {b} {r} {ns} {z} {l} q g h) rest k x s' d =
          let y = x.0.goes s s' ns z d q in
          on_end (follow g ir.done (live r rest k) (arm_followed z a b (live r rest k) x.1 x.2) (N.settled (put_test c) s') (arm_agrees z a b (live r rest k) (M.settled c s) (N.settled (put_test c) s') y.1))
          (λ s1' g' e. with_more (leak.chose ns z l) (leak.chose (test_numbers c ns) z (maps (if z then a else b) l)) (λ m. ap (λ u. leak.chose (test_numbers c ns) z u (maps r m)) (arm_maps z a b l))
          (λ o h'. chosen y.0 (arm_goes z a b g') h') (follow h rest k x.3 s1' e))
      follow {n} {s} (chosen_cut {c} {a} {b} {r} {ns} {z} {l} q g) rest k x s' d =
          let y = x.0.goes s s' ns z d q in
          let g' = on_cut (follow g ir.done (live r rest k) (arm_followed z a b (live r rest k) x.1 x.2) (N.settled (put_test c) s') (arm_agrees z a b (live r rest k) (M.settled c s) (N.settled (put_test c) s') y.1)) in
          was_cut (subst (λ u. Goes N (put (choose c a b r)) n s' (Cut (leak.chose_cut (test_numbers c ns) z u))) (sym (arm_maps z a b l)) (chosen_cut y.0 (arm_goes z a b g')))
      follow (chosen_stuck q g) rest k x s' d = was_stuck
      follow (chose_not q) rest k x s' d = was_stuck
      follow (loop_left {p} {c} {b} {r} {ts} g h) rest k x s' d =
          on_end (follow_loop g (live r rest k) (head p c b (live r rest k)) (head_same p c b (live r rest k)) x.0 x.1 x.2 s' d)
          (λ s1' g' e. with_more (leak.looped ts) (leak.looped (turn_maps p c b ts)) (λ l. refl) (λ o h'. loop_left g' h') (follow h rest k x.3 s1' e))
      follow (loop_cut {p} {c} {b} {r} g) rest k x s' d = was_cut (loop_cut (on_cut (follow_loop g (live r rest k) (head p c b (live r rest k)) (head_same p c b (live r rest k)) x.0 x.1 x.2 s' d)))
      follow (loop_stuck g) rest k x s' d = was_stuck
      follow (counted {f} q g h) rest k x s' d = absurd f
      follow (counted_cut {f} q g) rest k x s' d = absurd f
      follow (counted_stuck {f} q g) rest k x s' d = absurd f
      follow (counted_not {f} q) rest k x s' d = absurd f
      follow (call_ended {c} q g e h) rest k x s' d = absurd c
      follow (call_cut {c} q g) rest k x s' d = absurd c
      follow (call_stuck {c} q g) rest k x s' d = absurd c
      follow (entered_not {c} q) rest k x s' d = absurd c
      follow (left_not {c} q g e) rest k x s' d = absurd c

      -- the turns of a loop: H is live at its head, B behind it
      follow_loop : {p : Tree O T ⊥ ⊥} {c : T} {b : Tree O T ⊥ ⊥} {n : ℕ} {s : S} {o : Outcome S W Turns} → Loops M p c b n s o → (B H : ℕ → Bool)
          → ((v : ℕ) → H v ≡ live p ir.done (λ w. test_before w (test_of c) (live b ir.done H w) (B w)) v)
          → IsFollowed p ir.done (λ v. test_before v (test_of c) (live b ir.done H v) (B v)) → OneTest (test_of c) c (live b ir.done H) B → IsFollowed b ir.done H → (s' : S') → Agree H s s'
          → Follows (Loops N (put p) (put_test c) (put b) n s') (Agree B) (turn_maps p c b) o
      follow_loop {p} {c} {b} {s} (in_prologue g) B H e xp xt xb s' a = was_cut (in_prologue (on_cut (follow g ir.done (λ v. test_before v (test_of c) (live b ir.done H v) (B v)) xp s' (same _ _ s s' e a))))
      follow_loop (prologue_stuck g) B H e xp xt xb s' a = was_stuck
      follow_loop (tested_not g q) B H e xp xt xb s' a = was_stuck
      follow_loop {p} {c} {b} {s} (leaves_loop {s1} {ns} g q) B H e xp xt xb s' a =
          on_end (follow g ir.done (λ v. test_before v (test_of c) (live b ir.done H v) (B v)) xp s' (same _ _ s s' e a))
          (λ s1' g' d. let y = xt.goes s1 s1' ns false d q in ended (N.settled (put_test c) s1') (leaves_loop g' y.0) y.1)
      follow_loop {p} {c} {b} {s} (no_turn {s1} {ns} g q) B H e xp xt xb s' a =
          on_end (follow g ir.done (λ v. test_before v (test_of c) (live b ir.done H v) (B v)) xp s' (same _ _ s s' e a))
          (λ s1' g' d. was_cut (no_turn g' (xt.goes s1 s1' ns true d q).0))
      follow_loop {p} {c} {b} {s} (in_body {s1} {ns} g q h) B H e xp xt xb s' a =
          on_end (follow g ir.done (λ v. test_before v (test_of c) (live b ir.done H v) (B v)) xp s' (same _ _ s s' e a))
          (λ s1' g' d. let y = xt.goes s1 s1' ns true d q in was_cut (in_body g' y.0 (on_cut (follow h ir.done H xb (N.settled (put_test c) s1') y.1))))
      follow_loop (body_stuck g q h) B H e xp xt xb s' a = was_stuck
      follow_loop {p} {c} {b} {s} (more_turns {s1} {ns} {l} {lb} g q h j) B H e xp xt xb s' a =
          on_end (follow g ir.done (λ v. test_before v (test_of c) (live b ir.done H v) (B v)) xp s' (same _ _ s s' e a))
          (λ s1' g' d. let y = xt.goes s1 s1' ns true d q in
          on_end (follow h ir.done H xb (N.settled (put_test c) s1') y.1)
          (λ s2' h' f. with_more (leak.turn l ns lb) (leak.turn (maps p l) (test_numbers c ns) (maps b lb)) (λ ts. refl) (λ o j'. more_turns g' y.0 h' j') (follow_loop j B H e xp xt xb s2' f)))
