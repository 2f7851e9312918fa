-- Statements of which each becomes others keep the runs: unrolling, pruning, rewriting.
use Rattle.std.proofs.Common.{◌≡◌, ℕ, Bool, true, false, List, [], ℤ, refl, sym, ◌∙◌, subst, if◌then◌else◌}
use Rattle.jz_leak.specs.RunLeaks.{Leak, over, ran, chose, chose_cut, looped, looped_cut, each as each_leak, each_cut, Turns, left, prologue_cut, Rounds, round}
use Rattle.jz_leak.specs.Applying.{is_cut, is_cut_in_rounds}
use Rattle.jz_runs.specs.Trees.{Tree, done, quiet, choose, loop}
use Rattle.jz_runs.specs.Rules.{Parts, stuck, went, Outcome, End, Cut, Stuck, after, Goes, finished, did, did_not, quieted, chosen, chosen_cut, chosen_stuck, chose_not, loop_left, loop_cut, loop_stuck, counted, counted_cut, counted_stuck, counted_not, call_ended, call_cut, call_stuck, entered_not, left_not, Loops, in_prologue, prologue_stuck, tested_not, leaves_loop, no_turn, in_body, body_stuck, more_turns, Counts, no_count, more_counts, count_cut, count_stuck}
use Rattle.jz_change.specs.declared.change.Numbers.{Numbers}
use Rattle.jz_change.specs.Changes.{numbers_in, Change, stays_if, stays_while, once, unrolled, Changes, more, operations, map_before, map_turns, map_rounds}
use Rattle.jz_change.specs.Fitting.{HasThese, LeakFits, fits_over, fits_ran, fits_if, fits_if_cut, fits_arm, fits_arm_cut, fits_while, fits_while_cut, fits_once, fits_once_cut, fits_unrolled, fits_unrolled_cut, turns_left, turns_prologue_cut, turns_wanted, turns_body_cut, once_left, once_cut, LeakRoundsFit, own_none, own_round, own_cut}
use Rattle.jz_pass.specs.Operations.{in_turn, DoAll}
use Rattle.jz_pass.specs.Unrolling.{Knowing, Unrolls, u_done, u_op, u_quiet, u_if, u_arm, u_while, u_once, u_for, UnrollsEach, u_none, u_more, IsKnown}
use Rattle.jz_pass.proofs.Stretches.{after_twice, after_none, none_there, all_there, ops_lead, ops_stop, test_stops, loop_stops, LoopMatches, l_end, l_cut, l_stuck, one_turn}

-- what is owed where something is stuck
abbrev pub Shown : {W W2 : Type 0} → Type 0 → (W → W2 → Type 0) → (W2 → Type 0) → W → Type 0
Shown {W2} Exact Fails Comes w = Exact → (w2 : W2) × Fails w w2 × Comes w2

pub shown_by : {W W2 : Type 0} (Exact : Type 0) (Fails : W → W2 → Type 0) (Comes More : W2 → Type 0) (w : W) → ((e : W2) → Comes e → More e) → Shown Exact Fails Comes w → Shown Exact Fails More w
shown_by Exact Fails Comes More w go s x = let z = s x in (z.0, z.1, go z.0 z.2)

module _ {S U W W2 O2 T2 F2 C2 : Type 0} (N : Parts O2 T2 F2 C2 U W2) (Exact : Type 0) (Fails : W → W2 → Type 0) where
  -- u, which ends with rest, does what has this outcome, with the leak that the change makes of it; P: where it ends
  pub data Passes (rest u : Tree O2 T2 F2 C2) (n : ℕ) (t : U) (k : Change) (P : S → U → Type 0) : Outcome S W Leak → Type 0 where
    p_end : {x : S} {m : ℕ} {l : Leak} (t1 : U) → P x t1 → LeakFits l k → is_cut l ≡ false → ((w : Outcome U W2 Leak) → Goes N rest m t1 w → Goes N u n t (after (map_before l k) w)) → Passes rest u n t k P (End x m l)
    p_cut : {l : Leak} → LeakFits l k → is_cut l ≡ true → Goes N u n t (Cut (map_before l k over)) → Passes rest u n t k P (Cut l)
    p_stuck : {w : W} → Shown Exact Fails (λ e. Goes N u n t (Stuck e)) w → Passes rest u n t k P (Stuck w)

  pub record Ended (rest u : Tree O2 T2 F2 C2) (n : ℕ) (t : U) (k : Change) (P : S → U → Type 0) (x : S) (m : ℕ) (l : Leak) : Type 0 where
    pub at : U
    pub relates : P x at
    pub fits : LeakFits l k
    pub whole : is_cut l ≡ false
    pub on : (w : Outcome U W2 Leak) → Goes N rest m at w → Goes N u n t (after (map_before l k) w)

  pub ended : {rest u : Tree O2 T2 F2 C2} {n m : ℕ} {t : U} {k : Change} {P : S → U → Type 0} {x : S} {l : Leak} → Passes rest u n t k P (End x m l) → Ended rest u n t k P x m l
  ended (p_end t1 p f w h) = record { at = t1; relates = p; fits = f; whole = w; on = h }

  pub cut_so : {rest u : Tree O2 T2 F2 C2} {n : ℕ} {t : U} {k : Change} {P : S → U → Type 0} {l : Leak} → Passes rest u n t k P (Cut l) → LeakFits l k × (is_cut l ≡ true) × Goes N u n t (Cut (map_before l k over))
  cut_so (p_cut f w h) = (f, w, h)

  pub stuck_so : {rest u : Tree O2 T2 F2 C2} {n : ℕ} {t : U} {k : Change} {P : S → U → Type 0} {w : W} → Passes rest u n t k P (Stuck w) → Shown Exact Fails (λ e. Goes N u n t (Stuck e)) w
  stuck_so (p_stuck h) = h

  pub through : {mid rest u : Tree O2 T2 F2 C2} {n m : ℕ} {t t1 : U} {k k2 : Change} {P : S → U → Type 0} {w : Outcome S W Leak} (A f : Leak → Leak) → ((v : Outcome U W2 Leak) → Goes N mid m t1 v → Goes N u n t (after A v)) →
      ((l next : Leak) → map_before (f l) k2 next ≡ A (map_before l k next)) → ((l : Leak) → LeakFits l k → LeakFits (f l) k2) → ((l : Leak) → is_cut (f l) ≡ is_cut l) → Passes rest mid m t1 k P w → Passes rest u n t k2 P (after f w)
  through {u} {n} {t} {k} {k2} A f go eq fit keep (p_end {l} t2 p ft wh run) =
      p_end t2 p (fit l ft) (keep l ∙ wh)
      (λ w r. subst (λ B. Goes N u n t (after B w)) (let q : (λ next. A (map_before l k next)) ≡ map_before (f l) k2 = (λ i next. sym (eq l next) i) in q) (subst (Goes N u n t) (after_twice A (map_before l k) w) (go _ (run w r))))
  through {u} {n} {t} A f go eq fit keep (p_cut {l} ft wh run) = p_cut (fit l ft) (keep l ∙ wh) (subst (λ z. Goes N u n t (Cut z)) (sym (eq l over)) (go _ run))
  through A f go eq fit keep (p_stuck run) = p_stuck (λ x. let z = run x in (z.0, z.1, go (Stuck z.0) z.2))

module _ {O T F C S W E O2 T2 F2 C2 U W2 : Type 0} (M : Parts O T F C S W) (N : Parts O2 T2 F2 C2 U W2) (K : Knowing O T F E O2 T2) (L : IsKnown M N K) where
  abbrev Made : Type 0
  Made = Tree O2 T2 F2 C2

  -- of what is stuck, what it becomes
  abbrev Shows : (W2 → Type 0) → W → Type 0
  Shows Comes w = Shown L.Exact L.Fails Comes w

  abbrev Does : Made → Made → ℕ → U → Change → (S → U → Type 0) → Outcome S W Leak → Type 0
  Does rest u n t k P w = Passes N L.Exact L.Fails rest u n t k P w

  -- the turns of a loop of which the prologue is left
  data OncePasses (rest u : Made) (n : ℕ) (t : U) (k : Change) (P : S → U → Type 0) : Outcome S W Turns → Type 0 where
    o_end : {x : S} {m : ℕ} {l : Leak} {ns : List ℕ} (t1 : U) → P x t1 → LeakFits l k → is_cut l ≡ false → ((w : Outcome U W2 Leak) → Goes N rest m t1 w → Goes N u n t (after (map_before l k) w)) → OncePasses rest u n t k P (End x m (left l ns))
    o_cut : {l : Leak} → LeakFits l k → is_cut l ≡ true → Goes N u n t (Cut (map_before l k over)) → OncePasses rest u n t k P (Cut (prologue_cut l))
    o_stuck : {w : W} → Shows (λ e. Goes N u n t (Stuck e)) w → OncePasses rest u n t k P (Stuck w)

  data RoundsPass (rest u : Made) (n : ℕ) (t : U) (ts : Changes) (P : S → U → Type 0) : Outcome S W Rounds → Type 0 where
    rp_end : {x : S} {m : ℕ} {rs : Rounds} (t1 : U) → P x t1 → LeakRoundsFit rs ts → is_cut_in_rounds rs ≡ false → ((w : Outcome U W2 Leak) → Goes N rest m t1 w → Goes N u n t (after (map_rounds rs ts) w)) → RoundsPass rest u n t ts P (End x m rs)
    rp_cut : {rs : Rounds} → LeakRoundsFit rs ts → is_cut_in_rounds rs ≡ true → Goes N u n t (Cut (map_rounds rs ts over)) → RoundsPass rest u n t ts P (Cut rs)
    rp_stuck : {w : W} → Shows (λ e. Goes N u n t (Stuck e)) w → RoundsPass rest u n t ts P (Stuck w)

  one_round : {mid rest u : Made} {n m : ℕ} {t t1 : U} {k : Change} {ts : Changes} {P : S → U → Type 0} {w : Outcome S W Rounds} (l : Leak) → LeakFits l k → is_cut l ≡ false → ((v : Outcome U W2 Leak) → Goes N mid m t1 v → Goes N u n t (after (map_before l k) v)) →
      RoundsPass rest mid m t1 ts P w → RoundsPass rest u n t (more k ts) P (after (round l) w)
  one_round {u} {n} {t} {k} {ts} l ft wh go (rp_end {rs} t2 p fts whs run) = rp_end t2 p (own_round wh ft fts) whs (λ w r. subst (Goes N u n t) (after_twice (map_before l k) (map_rounds rs ts) w) (go _ (run w r)))
  one_round l ft wh go (rp_cut fts whs run) = rp_cut (own_round wh ft fts) whs (go _ run)
  one_round l ft wh go (rp_stuck run) = rp_stuck (λ x. let z = run x in (z.0, z.1, go (Stuck z.0) z.2))

  clash : {ns : List ℕ} {z y : Bool} (p : T) (s : S) → M.tests p s ≡ went ns z → M.tests p s ≡ went [] y → z ≡ y
  clash {ns} {z} {y} p s a b = let e : went ns z ≡ went [] y = sym a ∙ b in cc

  -- an answer is no failure
  not_stuck : {w : W} {z : Bool} (p : T) (s : S) → M.tests p s ≡ stuck w → M.tests p s ≡ went [] z → ⊥
  not_stuck {w} {z} p s a b = let e : stuck w ≡ went [] z = sym a ∙ b in cc

  same_values : {ns : List ℕ} {is js : List ℤ} (f : F) (e : E) (s : S) (t : U) → K.Values f e is → L.Relates e s t → M.counts f s ≡ went ns js → js ≡ is
  same_values {ns} {is} {js} f e s t x a q = let b : went ns js ≡ went [] is = sym q ∙ L.values_so f e is s t x a in cc

  -- behind the prologue of a loop stand the operations of its test
  behind_ops : {q : Made} {os : List O2} {is : List Numbers} {n m : ℕ} {t t1 t2 : U} {ns : List ℕ} (tq : Change) (l : Leak) → ((v : Outcome U W2 Leak) → Goes N (in_turn os done) m t1 v → Goes N q n t (after (map_before l tq) v)) → DoAll N ns os is t1 t2 →
      Goes N q n t (End t2 m (map_before l tq (operations is ns over)))
  behind_ops {is} {m} {t2} {ns} tq l go d = go (End t2 m (operations is ns over)) (ops_lead N d done (End t2 m over) finished)

  -- an `if` that stays one, by its arm: that went through, is cut, is stuck
  if_through : {os : List O2} {is : List Numbers} {p2 : T2} {i : Numbers} {rest : Made} {n m : ℕ} {t t1 : U} {ta tb k : Change} {ns : List ℕ} {l : Leak} {P Q : S → U → Type 0} {x : S} {w : Outcome S W Leak} (z : Bool) (a2 b2 u : Made) →
      DoAll N ns os is t t1 → HasThese ns i → N.tests p2 t1 ≡ went (numbers_in i ns) z → Does done (if z then a2 else b2) n (N.settled p2 t1) (if z then ta else tb) P (End x m l) →
      ((t2 : U) → P x t2 → Does rest u m t2 k Q w) → Does rest (in_turn os (choose p2 a2 b2 u)) n t (stays_if is i ta tb k) Q (after (chose ns z l) w)
  if_through {os} {is} {p2} {i} {n} {t} {ta} {tb} {ns} {l} z a2 b2 u d these test j h =
      let e = ended N L.Exact L.Fails j in
      through N L.Exact L.Fails (λ next. operations is ns (chose (numbers_in i ns) z (map_before l (if z then ta else tb) over) next)) (chose ns z l)
      (λ v run. subst (Goes N (in_turn os (choose p2 a2 b2 u)) n t) (after_twice (operations is ns) (chose (numbers_in i ns) z (map_before l (if z then ta else tb) over)) v) (ops_lead N d (choose p2 a2 b2 u) _ (chosen test (e.on _ finished) run)))
      (λ m2 next. refl) (λ m2 f. fits_if (all_there N d) these e.whole e.fits f) (λ m2. refl) (h e.at e.relates)

  if_cut : {os : List O2} {is : List Numbers} {p2 : T2} {i : Numbers} {rest : Made} {n : ℕ} {t t1 : U} {ta tb k : Change} {ns : List ℕ} {l : Leak} {P Q : S → U → Type 0} (z : Bool) (a2 b2 u : Made) →
      DoAll N ns os is t t1 → HasThese ns i → N.tests p2 t1 ≡ went (numbers_in i ns) z → Does done (if z then a2 else b2) n (N.settled p2 t1) (if z then ta else tb) P (Cut l) →
      Does rest (in_turn os (choose p2 a2 b2 u)) n t (stays_if is i ta tb k) Q (Cut (chose_cut ns z l))
  if_cut {is} {p2} {i} {ta} {tb} {ns} {l} z a2 b2 u d these test j =
      let e = cut_so N L.Exact L.Fails j in
      p_cut (fits_if_cut (all_there N d) these e.1 e.0) refl (ops_lead N d (choose p2 a2 b2 u) (Cut (chose_cut (numbers_in i ns) z (map_before l (if z then ta else tb) over))) (chosen_cut test e.2))

  if_stuck : {os : List O2} {is : List Numbers} {p2 : T2} {i : Numbers} {rest : Made} {n : ℕ} {t t1 : U} {ta tb k : Change} {ns : List ℕ} {o : W} {P Q : S → U → Type 0} (z : Bool) (a2 b2 u : Made) →
      DoAll N ns os is t t1 → N.tests p2 t1 ≡ went (numbers_in i ns) z → Does done (if z then a2 else b2) n (N.settled p2 t1) (if z then ta else tb) P (Stuck o) →
      Does rest (in_turn os (choose p2 a2 b2 u)) n t (stays_if is i ta tb k) Q (Stuck o)
  if_stuck {p2} z a2 b2 u d test j = p_stuck (λ x. let y = stuck_so N L.Exact L.Fails j x in (y.0, y.1, ops_lead N d (choose p2 a2 b2 u) (Stuck y.0) (chosen_stuck test y.2)))

  mutual
    pub passes : {b : Tree O T F C} {n : ℕ} {s : S} {w : Outcome S W Leak} → Goes M b n s w → {e e1 : E} {rest u : Made} {k : Change} → Unrolls K b e rest u e1 k → (t : U) → L.Relates e s t → Does rest u n t k (L.Relates e1) w
    passes {n} finished {rest} u_done t a = p_end t a fits_over refl (λ w run. subst (Goes N rest n t) (sym (after_none w)) run)
    passes {s} (did {o} {s1} {ns} q g) {e} (u_op {e1} {u} {os} {is} {k} h i) t a =
        let z = L.op_went o e e1 os is s s1 t ns h a q in
        through N L.Exact L.Fails (operations is ns) (ran ns) (λ w run. ops_lead N z.1 u w run) (λ l next. refl) (λ l f. fits_ran (all_there N z.1) f) (λ l. refl) (passes g i z.0 z.2)
    passes {s} (did_not {o} {w} q) {e} (u_op {e1} {u} {os} {is} h i) t a = p_stuck (λ x. let z = L.op_stuck o e e1 os is s t w x h a q in (z.0, z.1, ops_stop N z.2 u))
    passes {n} {s} (quieted {o} g) {e} (u_quiet {e1} {o2} h i) t a = quietly n (passes g i (N.quiets o2 t) (L.quiet_so o e e1 o2 s t h a))
      where
        quietly : {rest u : Made} {k : Change} {P : S → U → Type 0} {w : Outcome S W Leak} {o2 : O2} {t : U} (n : ℕ) → Does rest u n (N.quiets o2 t) k P w → Does rest (quiet o2 u) n t k P w
        quietly n (p_end t1 p f wh run) = p_end t1 p f wh (λ w r. quieted (run w r))
        quietly n (p_cut f wh run) = p_cut f wh (quieted run)
        quietly n (p_stuck run) = p_stuck (λ x. let z = run x in (z.0, z.1, quieted z.2))
    passes {s} (chosen {c = p} {ns} {z = true} {l} q g h) {e} (u_if {ea} {e0} {u} {a2} {b2} {os} {is} {p2} {i = it} {ta} {tb} x ia ib la lb i) t a =
        let y = L.test_went p e os is p2 it s t ns true x a q in
        if_through true a2 b2 u y.1 y.2 y.3 (passes g ia (N.settled p2 y.0) y.4) (λ t2 r. passes h i t2 (L.less_so e0 ea _ t2 la r))
    passes {s} (chosen {c = p} {ns} {z = false} {l} q g h) {e} (u_if {eb} {e0} {u} {a2} {b2} {os} {is} {p2} {i = it} {ta} {tb} x ia ib la lb i) t a =
        let y = L.test_went p e os is p2 it s t ns false x a q in
        if_through false a2 b2 u y.1 y.2 y.3 (passes g ib (N.settled p2 y.0) y.4) (λ t2 r. passes h i t2 (L.less_so e0 eb _ t2 lb r))
    passes {s} (chosen_cut {c = p} {ns} {z = true} q g) {e} (u_if {u} {a2} {b2} {os} {is} {p2} {i = it} x ia ib la lb i) t a =
        let y = L.test_went p e os is p2 it s t ns true x a q in if_cut true a2 b2 u y.1 y.2 y.3 (passes g ia (N.settled p2 y.0) y.4)
    passes {s} (chosen_cut {c = p} {ns} {z = false} q g) {e} (u_if {u} {a2} {b2} {os} {is} {p2} {i = it} x ia ib la lb i) t a =
        let y = L.test_went p e os is p2 it s t ns false x a q in if_cut false a2 b2 u y.1 y.2 y.3 (passes g ib (N.settled p2 y.0) y.4)
    passes {s} (chosen_stuck {c = p} {ns} {z = true} q g) {e} (u_if {u} {a2} {b2} {os} {is} {p2} {i = it} x ia ib la lb i) t a =
        let y = L.test_went p e os is p2 it s t ns true x a q in if_stuck true a2 b2 u y.1 y.3 (passes g ia (N.settled p2 y.0) y.4)
    passes {s} (chosen_stuck {c = p} {ns} {z = false} q g) {e} (u_if {u} {a2} {b2} {os} {is} {p2} {i = it} x ia ib la lb i) t a =
        let y = L.test_went p e os is p2 it s t ns false x a q in if_stuck false a2 b2 u y.1 y.3 (passes g ib (N.settled p2 y.0) y.4)
    passes {s} (chose_not {c = p} {w} q) {e} (u_if {u} {a2} {b2} {os} {is} {p2} {i = it} x ia ib la lb i) t a = p_stuck (λ d. let y = L.test_stuck p e os is p2 it s t w d x a q in (y.0, y.1, test_stops N _ _ _ y.2))
    passes {s} (chosen {c = p} {ns} {z = true} {l} q g h) {e} (u_arm {z = true} {ta} x ia i) t a =
        let j = ended N L.Exact L.Fails (passes g ia t (L.constant_so p e true s t x a).1) in through N L.Exact L.Fails (map_before l ta) (chose ns true l) j.on (λ m next. refl) (λ m f. fits_arm (none_there ns) j.whole j.fits f) (λ m. refl) (passes h i j.at j.relates)
    passes {s} (chosen {c = p} {ns} {z = false} {l} q g h) {e} (u_arm {z = false} {ta} x ia i) t a =
        let j = ended N L.Exact L.Fails (passes g ia t (L.constant_so p e false s t x a).1) in through N L.Exact L.Fails (map_before l ta) (chose ns false l) j.on (λ m next. refl) (λ m f. fits_arm (none_there ns) j.whole j.fits f) (λ m. refl) (passes h i j.at j.relates)
    passes {s} (chosen {c = p} {z = true} q g h) {e} (u_arm {z = false} x ia i) t a = absurd (let b = clash p s q (L.constant_so p e false s t x a).0 in cc)
    passes {s} (chosen {c = p} {z = false} q g h) {e} (u_arm {z = true} x ia i) t a = absurd (let b = clash p s q (L.constant_so p e true s t x a).0 in cc)
    passes {s} (chosen_cut {c = p} {ns} {z = true} q g) {e} (u_arm {z = true} x ia i) t a = let j = cut_so N L.Exact L.Fails (passes g ia t (L.constant_so p e true s t x a).1) in p_cut (fits_arm_cut (none_there ns) j.1 j.0) refl j.2
    passes {s} (chosen_cut {c = p} {ns} {z = false} q g) {e} (u_arm {z = false} x ia i) t a = let j = cut_so N L.Exact L.Fails (passes g ia t (L.constant_so p e false s t x a).1) in p_cut (fits_arm_cut (none_there ns) j.1 j.0) refl j.2
    passes {s} (chosen_cut {c = p} {z = true} q g) {e} (u_arm {z = false} x ia i) t a = absurd (let b = clash p s q (L.constant_so p e false s t x a).0 in cc)
    passes {s} (chosen_cut {c = p} {z = false} q g) {e} (u_arm {z = true} x ia i) t a = absurd (let b = clash p s q (L.constant_so p e true s t x a).0 in cc)
    passes {s} (chosen_stuck {c = p} {z = true} q g) {e} (u_arm {z = true} x ia i) t a = p_stuck (stuck_so N L.Exact L.Fails (passes g ia t (L.constant_so p e true s t x a).1))
    passes {s} (chosen_stuck {c = p} {z = false} q g) {e} (u_arm {z = false} x ia i) t a = p_stuck (stuck_so N L.Exact L.Fails (passes g ia t (L.constant_so p e false s t x a).1))
    passes {s} (chosen_stuck {c = p} {z = true} q g) {e} (u_arm {z = false} x ia i) t a = absurd (let b = clash p s q (L.constant_so p e false s t x a).0 in cc)
    passes {s} (chosen_stuck {c = p} {z = false} q g) {e} (u_arm {z = true} x ia i) t a = absurd (let b = clash p s q (L.constant_so p e true s t x a).0 in cc)
    passes {s} (chose_not {c = p} {w} q) {e} (u_arm {z} x ia i) t a = absurd (not_stuck p s q (L.constant_so p e z s t x a).0)
    passes {s} (loop_left {q = h0} {ts} g h) {e} (u_while {e0} {eq} {e3} {is} {tq} {tb} le x iq ib lb lr i) t a = looped_on h0 (loops g x iq ib lb t (L.less_so e0 e s t le a)) (λ t1 a1. passes h i t1 (L.less_so e3 eq _ t1 lr a1))
      where
        looped_on : {q2 b2 rest u : Made} {p2 : T2} {n m : ℕ} {t : U} {tq tb k : Change} {is : List Numbers} {it : Numbers} {ts : Turns} {s1 : S} {P Q : S → U → Type 0} {Fate : W → Type 0} {w : Outcome S W Leak} (h0 : Bool) → LoopMatches N q2 p2 b2 n t tq is it tb P Fate (End s1 m ts) →
            ((t1 : U) → P s1 t1 → Does rest u m t1 k Q w) → Does rest (loop h0 q2 p2 b2 u) n t (stays_while tq is it tb k) Q (after (looped ts) w)
        looped_on {tq} {tb} {is} {it} {ts} h0 (l_end t1 r ft wh run) f = through N L.Exact L.Fails (looped (map_turns ts tq is it tb)) (looped ts) (λ w y. loop_left run y) (λ l next. refl) (λ l ff. fits_while wh ft ff) (λ l. refl) (f t1 r)
    passes {s} (loop_cut g) {e} (u_while {e0} le x iq ib lb lr i) t a = halted (loops g x iq ib lb t (L.less_so e0 e s t le a))
      where
        halted : {q2 b2 rest u : Made} {h0 : Bool} {p2 : T2} {n : ℕ} {t : U} {tq tb k : Change} {is : List Numbers} {it : Numbers} {ts : Turns} {P Q : S → U → Type 0} {Fate : W → Type 0} → LoopMatches N q2 p2 b2 n t tq is it tb P Fate (Cut ts) → Does rest (loop h0 q2 p2 b2 u) n t (stays_while tq is it tb k) Q (Cut (looped_cut ts))
        halted (l_cut ft wh run) = p_cut (fits_while_cut wh ft) refl (loop_cut run)
    passes {s} (loop_stuck g) {e} (u_while {e0} le x iq ib lb lr i) t a = failed (loops g x iq ib lb t (L.less_so e0 e s t le a))
      where
        failed : {q2 b2 rest u : Made} {h0 : Bool} {p2 : T2} {n : ℕ} {t : U} {tq tb k : Change} {is : List Numbers} {it : Numbers} {o : W} {P Q : S → U → Type 0} → LoopMatches N q2 p2 b2 n t tq is it tb P (Shows (λ e. Loops N q2 p2 b2 n t (Stuck e))) (Stuck o) → Does rest (loop h0 q2 p2 b2 u) n t (stays_while tq is it tb k) Q (Stuck o)
        failed (l_stuck run) = p_stuck (λ x. let z = run x in (z.0, z.1, loop_stuck z.2))
    passes (loop_left {ts} g h) (u_once {tq} iq x i) t a = gone (once_passes g iq x t a) (λ t1 a1. passes h i t1 a1)
      where
        gone : {rest mid v : Made} {n m : ℕ} {t : U} {tq k : Change} {ts : Turns} {s1 : S} {P Q : S → U → Type 0} {w : Outcome S W Leak} → OncePasses mid v n t tq P (End s1 m ts) → ((t1 : U) → P s1 t1 → Does rest mid m t1 k Q w) → Does rest v n t (once tq [] k) Q (after (looped ts) w)
        gone {tq} (o_end {l} {ns} t1 r ft wh run) f = through N L.Exact L.Fails (map_before l tq) (looped (left l ns)) run (λ m next. refl) (λ m ff. fits_once refl (once_left (none_there ns) wh ft) ff) (λ m. refl) (f t1 r)
    passes (loop_cut g) (u_once iq x i) t a = cut_in (once_passes g iq x t a)
      where
        cut_in : {rest mid v : Made} {n : ℕ} {t : U} {tq k : Change} {ts : Turns} {P Q : S → U → Type 0} → OncePasses mid v n t tq P (Cut ts) → Does rest v n t (once tq [] k) Q (Cut (looped_cut ts))
        cut_in (o_cut ft wh run) = p_cut (fits_once_cut refl (once_cut wh ft)) refl run
    passes (loop_stuck g) (u_once iq x i) t a = stuck_in (once_passes g iq x t a)
      where
        stuck_in : {rest mid v : Made} {n : ℕ} {t : U} {tq k : Change} {e : W} {P Q : S → U → Type 0} → OncePasses mid v n t tq P (Stuck e) → Does rest v n t (once tq [] k) Q (Stuck e)
        stuck_in (o_stuck run) = p_stuck run
    passes {s} (counted {f} {b} {s1} {ls} q g h) {e} (u_for {e1} {u} {v} {ts} x ir i) t a =
        all_rounds (rounds g x (subst (λ z. UnrollsEach K f b z e u v e1 ts) (sym (same_values f e s t x a q)) ir) t a) (λ t1 a1. passes h i t1 (L.restore_so f e e1 _ s s1 t t1 x a a1))
      where
        all_rounds : {rest mid v : Made} {n m : ℕ} {t : U} {ts : Changes} {k : Change} {rs : Rounds} {s1 : S} {P Q : S → U → Type 0} {w : Outcome S W Leak} → RoundsPass mid v n t ts P (End s1 m rs) → ((t1 : U) → P s1 t1 → Does rest mid m t1 k Q w) → Does rest v n t (unrolled ts k) Q (after (each_leak rs) w)
        all_rounds {ts} {rs} (rp_end t1 r ft wh run) f = through N L.Exact L.Fails (map_rounds rs ts) (each_leak rs) run (λ m next. refl) (λ m ff. fits_unrolled wh ft ff) (λ m. refl) (f t1 r)
    passes {s} (counted_cut {f} {b} {ls} q g) {e} (u_for {e1} {u} {v} {ts} x ir i) t a = rounds_cut (rounds g x (subst (λ z. UnrollsEach K f b z e u v e1 ts) (sym (same_values f e s t x a q)) ir) t a)
      where
        rounds_cut : {rest mid v : Made} {n : ℕ} {t : U} {ts : Changes} {k : Change} {rs : Rounds} {P Q : S → U → Type 0} → RoundsPass mid v n t ts P (Cut rs) → Does rest v n t (unrolled ts k) Q (Cut (each_cut rs))
        rounds_cut (rp_cut ft wh run) = p_cut (fits_unrolled_cut wh ft) refl run
    passes {s} (counted_stuck {f} {b} {w} q g) {e} (u_for {e1} {u} {v} {ts} x ir i) t a = rounds_stuck (rounds g x (subst (λ z. UnrollsEach K f b z e u v e1 ts) (sym (same_values f e s t x a q)) ir) t a)
      where
        rounds_stuck : {rest mid v : Made} {n : ℕ} {t : U} {ts : Changes} {k : Change} {e : W} {P Q : S → U → Type 0} → RoundsPass mid v n t ts P (Stuck e) → Does rest v n t (unrolled ts k) Q (Stuck e)
        rounds_stuck (rp_stuck run) = p_stuck run
    passes {s} (counted_not {f} {w} q) {e} (u_for {is} x ir i) t a = absurd (let b : stuck w ≡ went [] is = sym q ∙ L.values_so f e is s t x a in cc)
    passes (call_ended q g k h) i t a = elim i [ ]
    passes (call_cut q g) i t a = elim i [ ]
    passes (call_stuck q g) i t a = elim i [ ]
    passes (entered_not q) i t a = elim i [ ]
    passes (left_not q g k) i t a = elim i [ ]

    loops : {q b : Tree O T F C} {p : T} {n : ℕ} {s : S} {w : Outcome S W Turns} → Loops M q p b n s w → {e0 e eb : E} {q2 b2 : Made} {os : List O2} {is : List Numbers} {p2 : T2} {it : Numbers} {tq tb : Change} → K.LoopTest p e os is p2 it → Unrolls K q e0 (in_turn os done) q2 e tq → Unrolls K b e done b2 eb tb → K.Less e0 eb → (t : U) → L.Relates e0 s t →
        LoopMatches N q2 p2 b2 n t tq is it tb (L.Relates e) (Shows (λ o. Loops N q2 p2 b2 n t (Stuck o))) w
    loops (in_prologue g) x iq ib lb t a = let j = cut_so N L.Exact L.Fails (passes g iq t a) in l_cut (turns_prologue_cut j.1 j.0) refl (in_prologue j.2)
    loops (prologue_stuck g) x iq ib lb t a = let j = stuck_so N L.Exact L.Fails (passes g iq t a) in l_stuck (λ d. let z = j d in (z.0, z.1, prologue_stuck z.2))
    loops {p} (tested_not {s1} {l} {w} g q) {e} {os} {is} {p2} {it} {tq} x iq ib lb t a =
        let j = ended N L.Exact L.Fails (passes g iq t a) in
        l_stuck (λ d. let y = L.loop_test_stuck p e os is p2 it s1 j.at w d x j.relates q in (y.0, y.1, loop_stops N (map_before l tq) y.2 j.on))
    loops {p} (leaves_loop {s1} {ns} {l} g q) {e} {os} {is} {p2} {it} {tq} x iq ib lb t a =
        let j = ended N L.Exact L.Fails (passes g iq t a) in
        let y = L.loop_test_went p e os is p2 it s1 j.at ns false x j.relates q in
        l_end (N.settled p2 y.0) y.4 (turns_left (all_there N y.1) y.2 j.whole j.fits) refl (leaves_loop (behind_ops tq l j.on y.1) y.3)
    loops {p} (no_turn {s1} {ns} {l} g q) {e} {os} {is} {p2} {it} {tq} x iq ib lb t a =
        let j = ended N L.Exact L.Fails (passes g iq t a) in
        let y = L.loop_test_went p e os is p2 it s1 j.at ns true x j.relates q in
        l_cut (turns_wanted (all_there N y.1) y.2 j.whole j.fits) refl (no_turn (behind_ops tq l j.on y.1) y.3)
    loops {p} (in_body {s1} {ns} {l} g q h) {e} {os} {is} {p2} {it} {tq} x iq ib lb t a =
        let j = ended N L.Exact L.Fails (passes g iq t a) in
        let y = L.loop_test_went p e os is p2 it s1 j.at ns true x j.relates q in
        let k = cut_so N L.Exact L.Fails (passes h ib (N.settled p2 y.0) y.4) in
        l_cut (turns_body_cut (all_there N y.1) y.2 j.whole j.fits k.1 k.0) refl (in_body (behind_ops tq l j.on y.1) y.3 k.2)
    loops {p} (body_stuck {s1} {ns} {l} g q h) {e} {os} {is} {p2} {it} {tq} x iq ib lb t a =
        let j = ended N L.Exact L.Fails (passes g iq t a) in
        let y = L.loop_test_went p e os is p2 it s1 j.at ns true x j.relates q in
        let k = stuck_so N L.Exact L.Fails (passes h ib (N.settled p2 y.0) y.4) in
        l_stuck (λ d. let z = k d in (z.0, z.1, body_stuck (behind_ops tq l j.on y.1) y.3 z.2))
    loops {p} (more_turns {s1} {s2} {ns} {l} {lb = l2} g q h k) {e0} {e} {eb} {os} {is} {p2} {it} {tq} x iq ib lb t a =
        let j = ended N L.Exact L.Fails (passes g iq t a) in
        let y = L.loop_test_went p e os is p2 it s1 j.at ns true x j.relates q in
        let i = ended N L.Exact L.Fails (passes h ib (N.settled p2 y.0) y.4) in
        let first = behind_ops tq l j.on y.1 in let second = i.on _ finished in
        one_turn N ns l l2 (all_there N y.1) y.2 j.fits j.whole i.fits i.whole first y.3 second (λ v z r. r) (λ o s d. let z = s d in (z.0, z.1, more_turns first y.3 second z.2)) (loops k x iq ib lb i.at (L.less_so e0 eb s2 i.at lb i.relates))

    once_passes : {q b : Tree O T F C} {p : T} {n : ℕ} {s : S} {w : Outcome S W Turns} → Loops M q p b n s w → {e e1 : E} {mid v : Made} {tq : Change} → Unrolls K q e mid v e1 tq → K.Constant p e1 false → (t : U) → L.Relates e s t → OncePasses mid v n t tq (L.Relates e1) w
    once_passes (in_prologue g) iq x t a = let j = cut_so N L.Exact L.Fails (passes g iq t a) in o_cut j.0 j.1 j.2
    once_passes (prologue_stuck g) iq x t a = o_stuck (stuck_so N L.Exact L.Fails (passes g iq t a))
    once_passes {p} (tested_not {s1} {w} g q) {e1} iq x t a = let j = ended N L.Exact L.Fails (passes g iq t a) in absurd (not_stuck p s1 q (L.constant_so p e1 false s1 j.at x j.relates).0)
    once_passes {p} (leaves_loop {s1} g q) {e1} iq x t a = let j = ended N L.Exact L.Fails (passes g iq t a) in o_end j.at (L.constant_so p e1 false s1 j.at x j.relates).1 j.fits j.whole j.on
    once_passes {p} (no_turn {s1} g q) {e1} iq x t a = let j = ended N L.Exact L.Fails (passes g iq t a) in absurd (let b = clash p s1 q (L.constant_so p e1 false s1 j.at x j.relates).0 in cc)
    once_passes {p} (in_body {s1} g q h) {e1} iq x t a = let j = ended N L.Exact L.Fails (passes g iq t a) in absurd (let b = clash p s1 q (L.constant_so p e1 false s1 j.at x j.relates).0 in cc)
    once_passes {p} (body_stuck {s1} g q h) {e1} iq x t a = let j = ended N L.Exact L.Fails (passes g iq t a) in absurd (let b = clash p s1 q (L.constant_so p e1 false s1 j.at x j.relates).0 in cc)
    once_passes {p} (more_turns {s1} g q h k) {e1} iq x t a = let j = ended N L.Exact L.Fails (passes g iq t a) in absurd (let b = clash p s1 q (L.constant_so p e1 false s1 j.at x j.relates).0 in cc)

    rounds : {f : F} {b : Tree O T F C} {is : List ℤ} {n : ℕ} {s : S} {w : Outcome S W Rounds} → Counts M f b is n s w → {e0 : E} {js : List ℤ} → K.Values f e0 js → {e e1 : E} {mid v : Made} {ts : Changes} → UnrollsEach K f b is e mid v e1 ts → (t : U) → L.Relates e s t → RoundsPass mid v n t ts (L.Relates e1) w
    rounds {n} no_count x {mid} u_none t a = rp_end t a own_none refl (λ w run. subst (Goes N mid n t) (sym (after_none w)) run)
    rounds {f} {s} (more_counts {i} {l} g h) {e0} {js} x {e} (u_more ib ir) t a = let j = ended N L.Exact L.Fails (passes g ib t (L.set_so f i e0 e js s t x a)) in one_round l j.fits j.whole j.on (rounds h x ir j.at j.relates)
    rounds {f} {s} (count_cut {i} g) {e0} {js} x {e} (u_more ib ir) t a = let j = cut_so N L.Exact L.Fails (passes g ib t (L.set_so f i e0 e js s t x a)) in rp_cut (own_cut j.1 j.0) refl j.2
    rounds {f} {s} (count_stuck {i} g) {e0} {js} x {e} (u_more ib ir) t a = rp_stuck (stuck_so N L.Exact L.Fails (passes g ib t (L.set_so f i e0 e js s t x a)))
