-- Two runs of one body leak the same, by what is known of one operation and of one test.
use Rattle.std.proofs.Common.{◌≡◌, ℕ, zero, suc, ◌<◌, Bool, true, false, if◌then◌else◌, List, None, refl, sym, ap, subst, ◌∙◌, arith}
use Rattle.jz_runs.specs.Trees.{Tree, done, op, quiet, choose, loop, each, call}
use Rattle.jz_leak.specs.RunLeaks as leak
use Rattle.jz_leak.specs.RunLeaks.{Leak, Turns}
use Rattle.jz_runs.specs.Rules.{Attempt, stuck, went, Parts, Outcome, End, Cut, Stuck, after, Goes, loop_left, loop_cut, loop_stuck, Loops, in_prologue, prologue_stuck, tested_not, leaves_loop, no_turn, in_body, body_stuck, more_turns}
use Rattle.jz_runs.proofs.Steady.{run, ran_so, not_more, has_outcome}
use Rattle.jz_flow.specs.Sets.{Facts, Below, common}
use Rattle.jz_flow.specs.Flow.{Steps}
use Rattle.jz_flow.specs.Alarms.{Asks, Meets}
use Rattle.jz_flow.specs.Soundness.{AllAre}
use Rattle.jz_flow.proofs.Ordering.{common_left, common_right}
use Rattle.jz_equal_leaks.specs.TwoRuns.{BothGive, Same, KeepsAgreeing}

-- ---- outcomes as they are put together

abbrev bind : {S W L N : Type 0} → Outcome S W L → (L → N) → (ℕ → S → L → Outcome S W N) → Outcome S W N
bind (End s n l) last go = go n s l
bind (Cut l) last go = Cut (last l)
bind (Stuck w) last go = Stuck w

abbrev on : {S W A L : Type 0} → Attempt W A → (List ℕ → A → Outcome S W L) → Outcome S W L
on (stuck w) go = Stuck w
on (went ns v) go = go ns v

same_stuck : {S W L : Type 0} (Q : S → S → Type 0) (u : Outcome S W L) (w : W) → Same Q u (Stuck w)
same_stuck Q (End s n l) w = tt
same_stuck Q (Cut l) w = tt
same_stuck Q (Stuck v) w = tt

stuck_same : {S W L : Type 0} (Q : S → S → Type 0) (u : Outcome S W L) (w : W) → Same Q (Stuck w) u
stuck_same Q (End s n l) w = tt
stuck_same Q (Cut l) w = tt
stuck_same Q (Stuck v) w = tt

after_same : {S W L M : Type 0} (Q : S → S → Type 0) (f : L → M) (u v : Outcome S W L) → Same Q u v → Same Q (after f u) (after f v)
after_same Q f (End s n l) (End t m k) h = (h.0, ap f h.1, h.2)
after_same Q f (End s n l) (Cut k) h = h
after_same Q f (End s n l) (Stuck v) h = tt
after_same Q f (Cut l) (End t m k) h = h
after_same Q f (Cut l) (Cut k) h = ap f h
after_same Q f (Cut l) (Stuck v) h = tt
after_same Q f (Stuck w) (End t m k) h = tt
after_same Q f (Stuck w) (Cut k) h = tt
after_same Q f (Stuck w) (Stuck v) h = tt

-- what holds of more states
same_less : {S W L : Type 0} (Q P : S → S → Type 0) (u v : Outcome S W L) → ((s t : S) → Q s t → P s t) → Same Q u v → Same P u v
same_less Q P (End s n l) (End t m k) f h = (h.0, h.1, f s t h.2)
same_less Q P (End s n l) (Cut k) f h = h
same_less Q P (End s n l) (Stuck v) f h = tt
same_less Q P (Cut l) (End t m k) f h = h
same_less Q P (Cut l) (Cut k) f h = h
same_less Q P (Cut l) (Stuck v) f h = tt
same_less Q P (Stuck w) (End t m k) f h = tt
same_less Q P (Stuck w) (Cut k) f h = tt
same_less Q P (Stuck w) (Stuck v) f h = tt

bind_same : {S W L N : Type 0} (Q P : S → S → Type 0) (u v : Outcome S W L) (f : L → N) (go goes : ℕ → S → L → Outcome S W N) → Same Q u v
    → ((n : ℕ) (s t : S) (l : L) → Q s t → Same P (go n s l) (goes n t l)) → Same P (bind u f go) (bind v f goes)
bind_same Q P (End s n l) (End t m k) f go goes h i = subst (λ (j : ℕ). Same P (go n s l) (goes j t k)) h.0 (subst (λ (x : _). Same P (go n s l) (goes n t x)) h.1 (i n s t l h.2))
bind_same Q P (End s n l) (Cut k) f go goes h i = absurd h
bind_same Q P (End s n l) (Stuck v) f go goes h i = same_stuck P (go n s l) v
bind_same Q P (Cut l) (End t m k) f go goes h i = absurd h
bind_same Q P (Cut l) (Cut k) f go goes h i = ap f h
bind_same Q P (Cut l) (Stuck v) f go goes h i = tt
bind_same Q P (Stuck w) v f go goes h i = stuck_same P (bind v f goes) w

on_same : {S W A L : Type 0} (Q : A → A → Type 0) (P : S → S → Type 0) (x y : Attempt W A) (go goes : List ℕ → A → Outcome S W L) → BothGive Q x y
    → ((ns : List ℕ) (a b : A) → x ≡ went ns a → y ≡ went ns b → Q a b → Same P (go ns a) (goes ns b)) → Same P (on x go) (on y goes)
on_same Q P (went ns a) (went ms b) go goes h i = subst (λ (k : List ℕ). Same P (go ns a) (goes k b)) h.0 (i ns a b refl (ap (λ (k : List ℕ). went k b) (sym h.0)) h.1)
on_same Q P (went ns a) (stuck v) go goes h i = same_stuck P (go ns a) v
on_same Q P (stuck w) (went ms b) go goes h i = stuck_same P (goes ms b) w
on_same Q P (stuck w) (stuck v) go goes h i = tt

-- ---- turns

abbrev take_turn : {S W : Type 0} → Leak → List ℕ → ℕ → (ℕ → Outcome S W Turns) → Outcome S W Turns
take_turn lp ns zero go = Cut (leak.wanted lp ns)
take_turn lp ns (suc m) go = go m

take_same : {S W : Type 0} (P : S → S → Type 0) (lp : Leak) (ns : List ℕ) (m : ℕ) (go goes : ℕ → Outcome S W Turns) → ((k : ℕ) → Same P (go k) (goes k)) → Same P (take_turn lp ns m go) (take_turn lp ns m goes)
take_same P lp ns zero go goes h = refl
take_same P lp ns (suc m) go goes h = h m

-- the turns of a `while` as a function of those that may still be asked
module _ {O T N C S W : Type 0} (M : Parts O T N C S W) (c : T) where
  abbrev turns_of : (ℕ → S → Outcome S W Leak) → (ℕ → S → Outcome S W Leak) → ℕ → ℕ → S → Outcome S W Turns
  turns_of p b zero n s = Cut (leak.prologue_cut leak.over)
  turns_of p b (suc k) n s =
      bind (p n s) leak.prologue_cut
      (λ m s1 lp. on (M.tests c s1)
      (λ ns z. if z
      then (take_turn lp ns m (λ m1. bind (b m1 (M.settled c s1)) (leak.body_cut lp ns) (λ m2 s2 lb. after (leak.turn lp ns lb) (turns_of p b k m2 s2))))
      else End (M.settled c s1) m (leak.left lp ns)))

  looped_so : {p b : Tree O T N C} (k : ℕ) {n : ℕ} {s : S} {o : Outcome S W Turns} → Loops M p c b n s o → n < k → turns_of (run M p) (run M b) k n s ≡ o
  looped_so zero g lt = absurd (omega arith)
  looped_so (suc k) (in_prologue g) lt = let e = ran_so M g in rw e
  looped_so (suc k) (prologue_stuck g) lt = let e = ran_so M g in rw e
  looped_so (suc k) (tested_not g q) lt = let e = ran_so M g in rw (e, q)
  looped_so (suc k) (leaves_loop g q) lt = let e = ran_so M g in rw (e, q)
  looped_so (suc k) (no_turn g q) lt = let e = ran_so M g in rw (e, q)
  looped_so (suc k) (in_body g q h) lt = let e = ran_so M g in let f = ran_so M h in rw (e, q, f)
  looped_so (suc k) (body_stuck g q h) lt = let e = ran_so M g in let f = ran_so M h in rw (e, q, f)
  looped_so (suc k) (more_turns g q h i) lt = let e = ran_so M g in let f = ran_so M h in let j = looped_so k i (omega (arith, not_more M g, not_more M h)) in rw (e, q, f, j)

  abbrev looping : Tree O T N C → Tree O T N C → Tree O T N C → ℕ → S → Outcome S W Leak
  looping p b r n s = bind (turns_of (run M p) (run M b) (suc n) n s) leak.looped_cut (λ m s1 ts. after (leak.looped ts) (run M r m s1))

  loop_so : {w : Bool} {p b r : Tree O T N C} {n : ℕ} {s : S} {o : Outcome S W Leak} → Goes M (loop w p c b r) n s o → looping p b r n s ≡ o
  loop_so {r} {n} (loop_left g h) = let f = ran_so M h in ap (λ x. bind x leak.looped_cut (λ m s1 ts. after (leak.looped ts) (run M r m s1))) (looped_so (suc n) g (omega arith)) ∙ rw f
  loop_so {r} {n} (loop_cut g) = ap (λ x. bind x leak.looped_cut (λ m s1 ts. after (leak.looped ts) (run M r m s1))) (looped_so (suc n) g (omega arith))
  loop_so {r} {n} (loop_stuck g) = ap (λ x. bind x leak.looped_cut (λ m s1 ts. after (leak.looped ts) (run M r m s1))) (looped_so (suc n) g (omega arith))

  loop_is : (w : Bool) (p b r : Tree O T N C) (n : ℕ) (s : S) → looping p b r n s ≡ run M (loop w p c b r) n s
  loop_is w p b r n s = let g = has_outcome M (loop w p c b r) n s in loop_so g.1 ∙ sym (ran_so M g.1)

module _ {O T F N C S V W : Type 0} (IsFine : O → Type 0) (IsFineTest : T → Type 0) (R : Steps O T F) (A : Asks O T F V) (M : Parts O T N C S W) (Agree : Facts F → S → S → Type 0) where
  -- what a piece does from two states that agree
  abbrev Alike : {L : Type 0} → Facts F → Facts F → (ℕ → S → Outcome S W L) → Type 0
  Alike a b f = (n : ℕ) (s t : S) → Agree a s t → Same (Agree b) (f n s) (f n t)

  module _ (H : KeepsAgreeing IsFine IsFineTest R A M Agree) where
    module _ (p : ℕ → S → Outcome S W Leak) (c : T) (b : ℕ → S → Outcome S W Leak) (h q y : Facts F) (f : IsFineTest c) (mt : A.test c q ≡ None) (up : Below h y) (sp : Alike h q p) (sb : Alike (R.tests c true q) y b) where
      abbrev ts : ℕ → ℕ → S → Outcome S W Turns
      ts = turns_of M c p b

      tested : (k m : ℕ) (s1 t1 : S) (lp : Leak) (ns : List ℕ) (z : Bool) → Agree q s1 t1 → M.tests c s1 ≡ went ns z → M.tests c t1 ≡ went ns z → Alike h (R.leaves c h q) (ts k)
          → Same (Agree (R.leaves c h q))
          (if z then (take_turn lp ns m (λ m1. bind (b m1 (M.settled c s1)) (leak.body_cut lp ns) (λ m2 s2 lb. after (leak.turn lp ns lb) (ts k m2 s2)))) else End (M.settled c s1) m (leak.left lp ns))
          (if z then (take_turn lp ns m (λ m1. bind (b m1 (M.settled c t1)) (leak.body_cut lp ns) (λ m2 s2 lb. after (leak.turn lp ns lb) (ts k m2 s2)))) else End (M.settled c t1) m (leak.left lp ns))
      tested k m s1 t1 lp ns true g e d more =
          take_same (Agree (R.leaves c h q)) lp ns m _ _
          (λ m1. bind_same (Agree y) (Agree (R.leaves c h q)) (b m1 (M.settled c s1)) (b m1 (M.settled c t1)) (leak.body_cut lp ns) _ _
          (sb m1 (M.settled c s1) (M.settled c t1) (H.tests c true q s1 t1 ns ns f g e d))
          (λ m2 s2 t2 lb i. after_same (Agree (R.leaves c h q)) (leak.turn lp ns lb) (ts k m2 s2) (ts k m2 t2) (more m2 s2 t2 (H.less h y s2 t2 up i))))
      tested k m s1 t1 lp ns false g e d more = (refl, refl, H.leaves c h q s1 t1 ns ns f g e d)

      turns_same : (k : ℕ) → Alike h (R.leaves c h q) (ts k)
      turns_same zero n s t g = refl
      turns_same (suc k) n s t g =
          bind_same (Agree q) (Agree (R.leaves c h q)) (p n s) (p n t) leak.prologue_cut _ _ (sp n s t g)
          (λ m s1 t1 lp i. on_same (λ x z. x ≡ z) (Agree (R.leaves c h q)) (M.tests c s1) (M.tests c t1) _ _ (H.answers c q s1 t1 f i mt)
          (λ ns x z e d r. subst (λ (v : Bool). Same (Agree (R.leaves c h q))
          (if x then (take_turn lp ns m (λ m1. bind (b m1 (M.settled c s1)) (leak.body_cut lp ns) (λ m2 s2 lb. after (leak.turn lp ns lb) (ts k m2 s2)))) else End (M.settled c s1) m (leak.left lp ns))
          (if v then (take_turn lp ns m (λ m1. bind (b m1 (M.settled c t1)) (leak.body_cut lp ns) (λ m2 s2 lb. after (leak.turn lp ns lb) (ts k m2 s2)))) else End (M.settled c t1) m (leak.left lp ns))) r
          (tested k m s1 t1 lp ns x i e (d ∙ ap (went ns) (sym r)) (turns_same k))))

    -- an arm
    branch : (z : Bool) (a b : ℕ → S → Outcome S W Leak) (c : T) (d x y : Facts F) (n : ℕ) (s t : S) (ns : List ℕ) → IsFineTest c → Agree d s t → M.tests c s ≡ went ns z → M.tests c t ≡ went ns z
        → Alike (R.tests c true d) x a → Alike (R.tests c false d) y b
        → Same (Agree (common x y)) (if z then a n (M.settled c s) else b n (M.settled c s)) (if z then a n (M.settled c t) else b n (M.settled c t))
    branch true a b c d x y n s t ns f g e h sa sb =
        same_less (Agree x) (Agree (common x y)) (a n (M.settled c s)) (a n (M.settled c t)) (λ u v. H.less (common x y) x u v (common_left x y))
        (sa n (M.settled c s) (M.settled c t) (H.tests c true d s t ns ns f g e h))
    branch false a b c d x y n s t ns f g e h sa sb =
        same_less (Agree y) (Agree (common x y)) (b n (M.settled c s)) (b n (M.settled c t)) (λ u v. H.less (common x y) y u v (common_right x y))
        (sb n (M.settled c s) (M.settled c t) (H.tests c false d s t ns ns f g e h))

    chosen_same : (z : Bool) (a b : ℕ → S → Outcome S W Leak) (go : ℕ → S → Outcome S W Leak) (c : T) (d x y x' : Facts F) (n : ℕ) (s t : S) (ns : List ℕ) → IsFineTest c → Agree d s t → M.tests c s ≡ went ns z → M.tests c t ≡ went ns z
        → Alike (R.tests c true d) x a → Alike (R.tests c false d) y b → Alike (common x y) x' go
        → Same (Agree x')
        (bind (if z then a n (M.settled c s) else b n (M.settled c s)) (leak.chose_cut ns z) (λ m s1 l. after (leak.chose ns z l) (go m s1)))
        (bind (if z then a n (M.settled c t) else b n (M.settled c t)) (leak.chose_cut ns z) (λ m t1 l. after (leak.chose ns z l) (go m t1)))
    chosen_same z a b go c d x y x' n s t ns f g e h sa sb sr =
        bind_same (Agree (common x y)) (Agree x') (if z then a n (M.settled c s) else b n (M.settled c s)) (if z then a n (M.settled c t) else b n (M.settled c t)) (leak.chose_cut ns z) _ _
        (branch z a b c d x y n s t ns f g e h sa sb)
        (λ m s1 t1 l i. after_same (Agree x') (leak.chose ns z l) (go m s1) (go m t1) (sr m s1 t1 i))

    pub bodies_same : (z : Tree O T N C) (x x' : Facts F) → AllAre IsFine IsFineTest z → Meets R A z x x' → Alike x x' (run M z)
    bodies_same done x x' f m n s t g = (refl, refl, subst (λ (a : Facts F). Agree a s t) (sym m) g)
    bodies_same (op o r) x x' f m n s t g =
        on_same (Agree (R.does o x)) (Agree x') (M.does o s) (M.does o t) _ _ (H.does o x s t f.0 g m.0)
        (λ ns a b e d i. after_same (Agree x') (leak.ran ns) (run M r n a) (run M r n b) (bodies_same r (R.does o x) x' f.1 m.1 n a b i))
    bodies_same (quiet o r) x x' f m n s t g = bodies_same r (R.quiets o x) x' f.1 m n (M.quiets o s) (M.quiets o t) (H.quiets o x s t f.0 g)
    bodies_same (choose c a b r) x x' f m n s t g =
        on_same (λ y z. y ≡ z) (Agree x') (M.tests c s) (M.tests c t) _ _ (H.answers c x s t f.0 g m.2)
        (λ ns z v e d i. subst (λ (q : Bool). Same (Agree x')
        (bind (if z then run M a n (M.settled c s) else run M b n (M.settled c s)) (leak.chose_cut ns z) (λ k s1 l. after (leak.chose ns z l) (run M r k s1)))
        (bind (if q then run M a n (M.settled c t) else run M b n (M.settled c t)) (leak.chose_cut ns q) (λ k t1 l. after (leak.chose ns q l) (run M r k t1)))) i
        (chosen_same z (run M a) (run M b) (run M r) c x m.0 m.1 x' n s t ns f.0 g e (d ∙ ap (went ns) (sym i))
        (bodies_same a (R.tests c true x) m.0 f.1 m.3) (bodies_same b (R.tests c false x) m.1 f.2 m.4) (bodies_same r (common m.0 m.1) x' f.3 m.5)))
    bodies_same (loop w p c b r) x x' f m n s t g =
        subst (λ (o : Outcome S W Leak). Same (Agree x') o (run M (loop w p c b r) n t)) (loop_is M c w p b r n s)
        (subst (λ (o : Outcome S W Leak). Same (Agree x') (looping M c p b r n s) o) (loop_is M c w p b r n t)
        (bind_same (Agree (R.leaves c m.0 m.1)) (Agree x') (turns_of M c (run M p) (run M b) (suc n) n s) (turns_of M c (run M p) (run M b) (suc n) n t) leak.looped_cut _ _
        (turns_same (run M p) c (run M b) m.0 m.1 m.2 f.0 m.5 m.7 (bodies_same p m.0 m.1 f.1 m.4) (bodies_same b (R.tests c true m.1) m.2 f.2 m.6) (suc n) n s t (H.less m.0 x s t m.3 g))
        (λ k s1 t1 ts i. after_same (Agree x') (leak.looped ts) (run M r k s1) (run M r k t1) (bodies_same r (R.leaves c m.0 m.1) x' f.3 m.8 k s1 t1 i))))
    bodies_same (each h b r) x x' f m n s t g = absurd m
    bodies_same (call c b r) x x' f m n s t g = absurd m

    -- two runs of a body whose conditions are given
    pub runs_same : (z : Tree O T N C) (x x' : Facts F) → AllAre IsFine IsFineTest z → Meets R A z x x' → (n : ℕ) (s t : S) → Agree x s t → (u v : Outcome S W Leak) → Goes M z n s u → Goes M z n t v → Same (Agree x') u v
    runs_same z x x' f m n s t g u v h i =
        subst (λ (o : Outcome S W Leak). Same (Agree x') o v) (ran_so M h) (subst (λ (o : Outcome S W Leak). Same (Agree x') (run M z n s) o) (ran_so M i) (bodies_same z x x' f m n s t g))
