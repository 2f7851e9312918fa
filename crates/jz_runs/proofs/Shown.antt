-- The rules of runs with what is shown of the leak, from the first statement on.
use Rattle.std.proofs.Common.{◌≡◌, ℕ, zero, suc, ◌≤◌, Bool, true, false, List, [], ◌∷◌, ◌++◌, ℤ, refl, sym, ap, ◌∙◌, subst, arith, append_assoc, append-nil, if◌then◌else◌}
use Rattle.jz_leak.specs.RunLeaks as leak
use Rattle.jz_leak.specs.RunLeaks.{Leak, Turns, Rounds}
use Rattle.jz_runs.specs.Trees.{Tree, done, op, quiet, choose, loop, each, call}
use Rattle.jz_runs.specs.Rules.{Attempt, stuck, went, Parts, Outcome, End, Cut, Stuck, after, Goes, finished, did, did_not, quieted, chosen, chosen_cut, chosen_stuck, chose_not, loop_left, loop_cut, loop_stuck, counted, counted_cut, counted_stuck, counted_not, call_ended, call_cut, call_stuck, entered_not, left_not, Loops, in_prologue, prologue_stuck, tested_not, leaves_loop, no_turn, in_body, body_stuck, more_turns, Counts, no_count, more_counts, count_cut, count_stuck}
use Rattle.jz_runs.specs.Views.{View, leak_view, turns_view, rounds_view}
use Rattle.jz_runs.specs.ShownRuns.{before, finished_outcome, call_left_outcome, call_outcome, Runs, RunsTurns, RunsRounds, Leads, TurnOutcome, last, more, cut, stuck_in, IsTurn, IsTested, Passed, Turned, Counted}
use Rattle.jz_runs.proofs.Steady.{not_more}

-- a statement more is its list in front of what is shown
shown_after : {S W L X : Type 0} (show : L → List X) (f : L → L) (xs : List X) → ((l : L) → show (f l) ≡ xs ++ show l) → (o : Outcome S W L) (o' : Outcome S W (List X)) → after show o ≡ o' → after show (after f o) ≡ before xs o'
shown_after show f xs h (End s n l) o' e = ap (End s n) (h l) ∙ ap (before xs) e
shown_after show f xs h (Cut l) o' e = ap Cut (h l) ∙ ap (before xs) e
shown_after show f xs h (Stuck w) o' e = ap (before xs) e

pub before_twice : {S W X : Type 0} (xs ys : List X) (o : Outcome S W (List X)) → before xs (before ys o) ≡ before (xs ++ ys) o
before_twice xs ys (End s n l) = ap (End s n) (sym (append_assoc xs ys l))
before_twice xs ys (Cut l) = ap Cut (sym (append_assoc xs ys l))
before_twice xs ys (Stuck w) = refl

pub before_none : {S W X : Type 0} (o : Outcome S W (List X)) → before [] o ≡ o
before_none (End s n l) = refl
before_none (Cut l) = refl
before_none (Stuck w) = refl

-- ---- what a run that is shown as an end, a cut or stuck was

pub ended : {S W L X : Type 0} (show : L → List X) (out : Outcome S W L) (s : S) (m : ℕ) (xs : List X) → after show out ≡ End s m xs → (l : L) × (out ≡ End s m l) × (show l ≡ xs)
ended show (End s1 m1 l) s m xs e = (l, cc, cc)
ended show (Cut l) s m xs e = absurd cc
ended show (Stuck w) s m xs e = absurd cc

pub was_cut : {S W L X : Type 0} (show : L → List X) (out : Outcome S W L) (xs : List X) → after show out ≡ Cut xs → (l : L) × (out ≡ Cut l) × (show l ≡ xs)
was_cut show (End s1 m1 l) xs e = absurd cc
was_cut show (Cut l) xs e = (l, cc, cc)
was_cut show (Stuck w) xs e = absurd cc

pub was_stuck : {S W L X : Type 0} (show : L → List X) (out : Outcome S W L) (w : W) → after show out ≡ Stuck w → out ≡ Stuck w
was_stuck show (End s1 m1 l) w e = absurd cc
was_stuck show (Cut l) w e = absurd cc
was_stuck show (Stuck v) w e = cc

module _ {O T F C S W X Y Z : Type 0} (V : View X Y Z) (M : Parts O T F C S W) where
  pub goes_end : {t : Tree O T F C} {n m : ℕ} {s s1 : S} {xs : List X} → Runs V M t n s (End s1 m xs) → (l : Leak) × (leak_view V l ≡ xs) × Goes M t n s (End s1 m l)
  goes_end {t} {n} {m} {s} {s1} {xs} h = let x = ended (leak_view V) h.out s1 m xs h.is in (x.0, x.2, subst (Goes M t n s) x.1 h.goes)

  pub goes_cut : {t : Tree O T F C} {n : ℕ} {s : S} {xs : List X} → Runs V M t n s (Cut xs) → (l : Leak) × (leak_view V l ≡ xs) × Goes M t n s (Cut l)
  goes_cut {t} {n} {s} {xs} h = let x = was_cut (leak_view V) h.out xs h.is in (x.0, x.2, subst (Goes M t n s) x.1 h.goes)

  pub goes_stuck : {t : Tree O T F C} {n : ℕ} {s : S} {w : W} → Runs V M t n s (Stuck w) → Goes M t n s (Stuck w)
  goes_stuck {t} {n} {s} {w} h = subst (Goes M t n s) (was_stuck (leak_view V) h.out w h.is) h.goes

-- ---- statements

module _ {O T F C S W X Y Z : Type 0} (V : View X Y Z) (M : Parts O T F C S W) where
  pub runs_done : (n : ℕ) (s : S) → Runs V M done n s (End s n [])
  runs_done n s = record { out = End s n leak.over; goes = finished; is = refl }

  pub op_leads : {o : O} {n : ℕ} {s s1 : S} {ns : List ℕ} → M.does o s ≡ went ns s1 → Leads V M (op o) n s (End s1 n (V.operation ns))
  op_leads {ns} q = λ r o h. record { out = after (leak.ran ns) h.out; goes = did q h.goes; is = shown_after (leak_view V) (leak.ran ns) (V.operation ns) (λ l. refl) h.out o h.is }

  pub op_stuck : {o : O} {n : ℕ} {s : S} {w : W} → M.does o s ≡ stuck w → Leads V M (op o) n s (Stuck w)
  op_stuck {w} q = λ r. record { out = Stuck w; goes = did_not q; is = refl }

  pub quiet_leads : (x : O) (n : ℕ) (s : S) → Leads V M (quiet x) n s (End (M.quiets x s) n [])
  quiet_leads x n s = λ r o h. record { out = h.out; goes = quieted h.goes; is = h.is ∙ sym (before_none o) }

  -- a whole body, once nothing follows
  pub runs_whole : (piece : Tree O T F C → Tree O T F C) (n : ℕ) (s : S) (o : Outcome S W (List X)) → Leads V M piece n s o → Runs V M (piece done) n s o
  runs_whole piece n s (End s1 m xs) h = subst (λ x. Runs V M (piece done) n s (End s1 m x)) (append-nil xs) (h done (End s1 m []) (runs_done m s1))
  runs_whole piece n s (Cut xs) h = h done
  runs_whole piece n s (Stuck w) h = h done

  pub runs_not_more : (t : Tree O T F C) (n m : ℕ) (s s1 : S) (xs : List X) → Runs V M t n s (End s1 m xs) → m ≤ n
  runs_not_more t n m s s1 xs h = not_more M (goes_end V M h).2

  -- an arm that ran, inside its statement
  if_out : {c : T} (a b : Tree O T F C) {n : ℕ} {s : S} {ns : List ℕ} {z : Bool} → M.tests c s ≡ went ns z → (out : Outcome S W Leak) → Goes M (if z then a else b) n (M.settled c s) out → Leads V M (choose c a b) n s (finished_outcome (λ t. t) (V.choice ns z) (V.cut_choice ns z) (after (leak_view V) out))
  if_out a b {ns} {z} q (End s1 m l) g = λ r o h. record { out = after (leak.chose ns z l) h.out; goes = chosen q g h.goes; is = shown_after (leak_view V) (leak.chose ns z l) (V.choice ns z (leak_view V l)) (λ k. refl) h.out o h.is }
  if_out a b {ns} {z} q (Cut l) g = λ r. record { out = Cut (leak.chose_cut ns z l); goes = chosen_cut q g; is = refl }
  if_out a b q (Stuck w) g = λ r. record { out = Stuck w; goes = chosen_stuck q g; is = refl }

  pub if_leads : {c : T} (a b : Tree O T F C) {n : ℕ} {s : S} {ns : List ℕ} {z : Bool} {o : Outcome S W (List X)} → M.tests c s ≡ went ns z → Runs V M (if z then a else b) n (M.settled c s) o → Leads V M (choose c a b) n s (finished_outcome (λ t. t) (V.choice ns z) (V.cut_choice ns z) o)
  if_leads {c} a b {n} {s} {ns} {z} q h = subst (λ x. Leads V M (choose c a b) n s (finished_outcome (λ t. t) (V.choice ns z) (V.cut_choice ns z) x)) h.is (if_out a b q h.out h.goes)

  pub if_stuck : {c : T} {a b : Tree O T F C} {n : ℕ} {s : S} {w : W} → M.tests c s ≡ stuck w → Leads V M (choose c a b) n s (Stuck w)
  if_stuck {w} q = λ r. record { out = Stuck w; goes = chose_not q; is = refl }

  loop_out : (q : Bool) {p : Tree O T F C} {c : T} {b : Tree O T F C} {n : ℕ} {s : S} (out : Outcome S W Turns) → Loops M p c b n s out → Leads V M (loop q p c b) n s (finished_outcome (λ t. t) V.turns V.cut_turns (after (turns_view V) out))
  loop_out q (End s1 m ts) g = λ r o h. record { out = after (leak.looped ts) h.out; goes = loop_left g h.goes; is = shown_after (leak_view V) (leak.looped ts) (V.turns (turns_view V ts)) (λ k. refl) h.out o h.is }
  loop_out q (Cut ts) g = λ r. record { out = Cut (leak.looped_cut ts); goes = loop_cut g; is = refl }
  loop_out q (Stuck w) g = λ r. record { out = Stuck w; goes = loop_stuck g; is = refl }

  pub loop_leads : (q : Bool) {p : Tree O T F C} {c : T} {b : Tree O T F C} {n : ℕ} {s : S} {o : Outcome S W (List Y)} → RunsTurns V M p c b n s o → Leads V M (loop q p c b) n s (finished_outcome (λ t. t) V.turns V.cut_turns o)
  loop_leads q {p} {c} {b} {n} {s} h = subst (λ x. Leads V M (loop q p c b) n s (finished_outcome (λ t. t) V.turns V.cut_turns x)) h.is (loop_out q h.out h.goes)

  each_out : {f : F} {b : Tree O T F C} {n : ℕ} {s : S} {ns : List ℕ} {js : List ℤ} → M.counts f s ≡ went ns js → (out : Outcome S W Rounds) → Counts M f b js n s out → Leads V M (each f b) n s (finished_outcome (M.restores f s) V.rounds V.cut_rounds (after (rounds_view V) out))
  each_out q (End s1 m ls) g = λ r o h. record { out = after (leak.each ls) h.out; goes = counted q g h.goes; is = shown_after (leak_view V) (leak.each ls) (V.rounds (rounds_view V ls)) (λ k. refl) h.out o h.is }
  each_out q (Cut ls) g = λ r. record { out = Cut (leak.each_cut ls); goes = counted_cut q g; is = refl }
  each_out q (Stuck w) g = λ r. record { out = Stuck w; goes = counted_stuck q g; is = refl }

  pub each_leads : {f : F} {b : Tree O T F C} {n : ℕ} {s : S} {ns : List ℕ} {js : List ℤ} {o : Outcome S W (List Z)} → M.counts f s ≡ went ns js → RunsRounds V M f b js n s o → Leads V M (each f b) n s (finished_outcome (M.restores f s) V.rounds V.cut_rounds o)
  each_leads {f} {b} {n} {s} q h = subst (λ x. Leads V M (each f b) n s (finished_outcome (M.restores f s) V.rounds V.cut_rounds x)) h.is (each_out q h.out h.goes)

  pub each_stuck : {f : F} {b : Tree O T F C} {n : ℕ} {s : S} {w : W} → M.counts f s ≡ stuck w → Leads V M (each f b) n s (Stuck w)
  each_stuck {w} q = λ r. record { out = Stuck w; goes = counted_not q; is = refl }

  call_left : {c : C} {b : Tree O T F C} {n m : ℕ} {s s1 s2 : S} {ns : List ℕ} {l : Leak} → M.enters c s ≡ went ns s1 → Goes M b n s1 (End s2 m l) → (x : Attempt W S) → M.leaves c s s2 ≡ x → Leads V M (call c b) n s (call_left_outcome V ns m (leak_view V l) x)
  call_left {ns} {l} q g (went ms s3) k = λ r o h. record { out = after (leak.called ns l ms) h.out; goes = call_ended q g k h.goes; is = shown_after (leak_view V) (leak.called ns l ms) (V.call ns (leak_view V l) ms) (λ k. refl) h.out o h.is }
  call_left q g (stuck w) k = λ r. record { out = Stuck w; goes = left_not q g k; is = refl }

  call_out : {c : C} {b : Tree O T F C} {n : ℕ} {s s1 : S} {ns : List ℕ} → M.enters c s ≡ went ns s1 → (out : Outcome S W Leak) → Goes M b n s1 out → Leads V M (call c b) n s (call_outcome V (M.leaves c s) ns (after (leak_view V) out))
  call_out {c} {s} q (End s2 m l) g = call_left q g (M.leaves c s s2) refl
  call_out {ns} q (Cut l) g = λ r. record { out = Cut (leak.called_cut ns l); goes = call_cut q g; is = refl }
  call_out q (Stuck w) g = λ r. record { out = Stuck w; goes = call_stuck q g; is = refl }

  pub call_leads : {c : C} {b : Tree O T F C} {n : ℕ} {s s1 : S} {ns : List ℕ} {o : Outcome S W (List X)} → M.enters c s ≡ went ns s1 → Runs V M b n s1 o → Leads V M (call c b) n s (call_outcome V (M.leaves c s) ns o)
  call_leads {c} {b} {n} {s} {ns} q h = subst (λ x. Leads V M (call c b) n s (call_outcome V (M.leaves c s) ns x)) h.is (call_out q h.out h.goes)

  pub enter_stuck : {c : C} {b : Tree O T F C} {n : ℕ} {s : S} {w : W} → M.enters c s ≡ stuck w → Leads V M (call c b) n s (Stuck w)
  enter_stuck {w} q = λ r. record { out = Stuck w; goes = entered_not q; is = refl }

-- ---- one turn of a `while`

module _ {O T F C S W X Y Z : Type 0} (V : View X Y Z) (M : Parts O T F C S W) (p : Tree O T F C) (c : T) (b : Tree O T F C) where
  pub prologue_is_stuck : {n : ℕ} {s : S} {w : W} → Runs V M p n s (Stuck w) → IsTurn V M p c b n s (stuck_in w)
  prologue_is_stuck {w} g = record { out = Stuck w; goes = prologue_stuck (goes_stuck V M g); is = refl }

  pub prologue_is_cut : {n : ℕ} {s : S} {xs : List X} → Runs V M p n s (Cut xs) → IsTurn V M p c b n s (cut (V.cut_prologue xs))
  prologue_is_cut g = let y = goes_cut V M g in record { out = Cut (leak.prologue_cut y.0); goes = in_prologue y.2; is = ap (λ x. Cut (V.cut_prologue x)) y.1 }

module _ {O T F C S W X Y Z : Type 0} (V : View X Y Z) (M : Parts O T F C S W) (c : T) (b : Tree O T F C) (xs : List X) (m : ℕ) (t : S) where
  pub test_is_stuck : {w : W} → M.tests c t ≡ stuck w → IsTested V M c b xs m t (stuck_in w)
  test_is_stuck {w} q = record { so = λ p n s g. record { out = Stuck w; goes = tested_not (goes_end V M g).2 q; is = refl } }

  pub test_is_false : {ns : List ℕ} → M.tests c t ≡ went ns false → IsTested V M c b xs m t (last (M.settled c t) m (V.last_turn xs ns))
  test_is_false {ns} q = record { so = λ p n s g. let y = goes_end V M g in record { out = End (M.settled c t) m (leak.left y.0 ns); goes = leaves_loop y.2 q; is = ap (λ x. End (M.settled c t) m (V.last_turn x ns)) y.1 } }

module _ {O T F C S W X Y Z : Type 0} (V : View X Y Z) (M : Parts O T F C S W) (c : T) (b : Tree O T F C) (xs : List X) (t : S) {ns : List ℕ} (q : M.tests c t ≡ went ns true) where
  pub turn_is_wanted : IsTested V M c b xs zero t (cut (V.wanted_turn xs ns))
  turn_is_wanted = record { so = λ p n s g. let y = goes_end V M g in record { out = Cut (leak.wanted y.0 ns); goes = no_turn y.2 q; is = ap (λ x. Cut (V.wanted_turn x ns)) y.1 } }

  pub body_is_stuck : {m : ℕ} {w : W} → Runs V M b m (M.settled c t) (Stuck w) → IsTested V M c b xs (suc m) t (stuck_in w)
  body_is_stuck {w} i = record { so = λ p n s g. record { out = Stuck w; goes = body_stuck (goes_end V M g).2 q (goes_stuck V M i); is = refl } }

  pub body_is_cut : {m : ℕ} {ys : List X} → Runs V M b m (M.settled c t) (Cut ys) → IsTested V M c b xs (suc m) t (cut (V.cut_turn xs ns ys))
  body_is_cut i = record {
    so = λ p n s g.
        let y = goes_end V M g in let z = goes_cut V M i in
        record { out = Cut (leak.body_cut y.0 ns z.0); goes = in_body y.2 q z.2; is = ap (λ x. Cut (V.cut_turn x ns (leak_view V z.0))) y.1 ∙ ap (λ x. Cut (V.cut_turn xs ns x)) z.1 };
  }

  first_turn : {m n k : ℕ} {p : Tree O T F C} {s u : S} (lp lb : Leak) (ys : List X) → leak_view V lp ≡ xs → leak_view V lb ≡ ys → Goes M p n s (End t (suc m) lp) → Goes M b m (M.settled c t) (End u k lb) → (o : Outcome S W (List Y)) → RunsTurns V M p c b k u o → RunsTurns V M p c b n s (before (V.whole_turn xs ns ys) o)
  first_turn lp lb ys e f g h o x = record {
    out = after (leak.turn lp ns lb) x.out;
    goes = more_turns g q h x.goes;
    is = shown_after (turns_view V) (leak.turn lp ns lb) (V.whole_turn xs ns ys) (λ ts. ap (λ y. V.whole_turn y ns (leak_view V lb) ++ turns_view V ts) e ∙ ap (λ y. V.whole_turn xs ns y ++ turns_view V ts) f) x.out o x.is;
  }

  pub body_is_over : {m k : ℕ} {u : S} {ys : List X} → Runs V M b m (M.settled c t) (End u k ys) → IsTested V M c b xs (suc m) t (more u k (V.whole_turn xs ns ys))
  body_is_over {m} {k} {u} {ys} i = record {
    so = λ p n s g.
        let y = goes_end V M g in let z = goes_end V M i in
        let a = runs_not_more V M p n (suc m) s t xs g in let d = runs_not_more V M b m k (M.settled c t) u ys i in
        (omega (arith, a, d), λ o x. first_turn y.0 z.0 ys y.1 z.1 y.2 z.2 o x);
  }

-- ---- the turns of a `while`, from the first one on

module _ {O T F C S W X Y Z : Type 0} (V : View X Y Z) (M : Parts O T F C S W) (p : Tree O T F C) (c : T) (b : Tree O T F C) where
  pub no_turns : (n : ℕ) (s : S) → Turned V M p c b n s [] n s
  no_turns n s = record { so = λ o h. subst (RunsTurns V M p c b n s) (sym (before_none o)) h }

  module _ {n n0 : ℕ} {s0 s : S} {seen : List Y} (h : Turned V M p c b n0 s0 seen n s) where
    pub next_turn : (u : S) (k : ℕ) (ys : List Y) → IsTurn V M p c b n s (more u k ys) → Turned V M p c b n0 s0 (seen ++ ys) k u
    next_turn u k ys g = record { so = λ o y. subst (RunsTurns V M p c b n0 s0) (before_twice seen ys o) (h.so (before ys o) (g.1 o y)) }

    pub last_turn : (u : S) (k : ℕ) (ys : List Y) → IsTurn V M p c b n s (last u k ys) → RunsTurns V M p c b n0 s0 (End u k (seen ++ ys))
    last_turn u k ys g = h.so (End u k ys) g

    pub cut_turn : (ys : List Y) → IsTurn V M p c b n s (cut ys) → RunsTurns V M p c b n0 s0 (Cut (seen ++ ys))
    cut_turn ys g = h.so (Cut ys) g

    pub stuck_turn : (w : W) → IsTurn V M p c b n s (stuck_in w) → RunsTurns V M p c b n0 s0 (Stuck w)
    stuck_turn w g = h.so (Stuck w) g

-- ---- the rounds of a `for`

module _ {O T F C S W X Y Z : Type 0} (V : View X Y Z) (M : Parts O T F C S W) (f : F) (b : Tree O T F C) where
  pub none_counted : (js : List ℤ) (n : ℕ) (s : S) → Counted V M f b js n s [] js n s
  none_counted js n s = record { so = λ o h. subst (RunsRounds V M f b js n s) (sym (before_none o)) h }

  module _ {n n0 : ℕ} {s0 s : S} {seen : List Z} {js : List ℤ} where
    pub counted_all : Counted V M f b js n0 s0 seen [] n s → RunsRounds V M f b js n0 s0 (End s n seen)
    counted_all h = subst (λ x. RunsRounds V M f b js n0 s0 (End s n x)) (append-nil seen) (h.so (End s n []) (record { out = End s n leak.no_round; goes = no_count; is = refl }))

    module _ {ks : List ℤ} {j : ℤ} (h : Counted V M f b js n0 s0 seen (j ∷ ks) n s) where
      pub next_count : {m : ℕ} {s1 : S} {xs : List X} → Runs V M b n (M.begins f j s) (End s1 m xs) → Counted V M f b js n0 s0 (seen ++ V.whole_round xs) ks m s1
      next_count {xs} g = record {
        so = λ o x.
            let y = goes_end V M g in
            subst (RunsRounds V M f b js n0 s0) (before_twice seen (V.whole_round xs) o)
            (h.so (before (V.whole_round xs) o) (record {
              out = after (leak.round y.0) x.out;
              goes = more_counts y.2 x.goes;
              is = shown_after (rounds_view V) (leak.round y.0) (V.whole_round xs) (λ ls. ap (λ z. V.whole_round z ++ rounds_view V ls) y.1) x.out o x.is;
            }));
      }

      pub cut_in_count : {xs : List X} → Runs V M b n (M.begins f j s) (Cut xs) → RunsRounds V M f b js n0 s0 (Cut (seen ++ V.cut_round xs))
      cut_in_count {xs} g = let y = goes_cut V M g in h.so (Cut (V.cut_round xs)) (record { out = Cut (leak.round_cut y.0); goes = count_cut y.2; is = ap (λ x. Cut (V.cut_round x)) y.1 })

      pub stuck_in_count : {w : W} → Runs V M b n (M.begins f j s) (Stuck w) → RunsRounds V M f b js n0 s0 (Stuck w)
      stuck_in_count {w} g = h.so (Stuck w) (record { out = Stuck w; goes = count_stuck (goes_stuck V M g); is = refl })

-- ---- the statements of a body

module _ {O T F C S W X Y Z : Type 0} (V : View X Y Z) (M : Parts O T F C S W) (whole : Tree O T F C → Tree O T F C) (n : ℕ) (s : S) where
  pub none_passed : Passed V M whole whole n s [] n s
  none_passed = record { so = λ r o h. subst (Runs V M (whole r) n s) (sym (before_none o)) h }

  pub whole_passed : {seen : List X} {m : ℕ} {t : S} → Passed V M whole (λ r. r) n s seen m t → Leads V M whole n s (End t m seen)
  whole_passed h = h.so

  module _ {seen : List X} {m : ℕ} {t : S} (f g : Tree O T F C → Tree O T F C) (h : Passed V M whole (λ r. f (g r)) n s seen m t) where
    pub next_passed : (xs : List X) {m1 : ℕ} {t1 : S} → Leads V M f m t (End t1 m1 xs) → Passed V M whole g n s (seen ++ xs) m1 t1
    next_passed xs i = record { so = λ r o x. subst (Runs V M (whole r) n s) (before_twice seen xs o) (h.so r (before xs o) (i (g r) o x)) }

    pub cut_passed : (xs : List X) → Leads V M f m t (Cut xs) → Leads V M whole n s (Cut (seen ++ xs))
    cut_passed xs i = λ r. h.so r (Cut xs) (i (g r))

    pub stuck_passed : (w : W) → Leads V M f m t (Stuck w) → Leads V M whole n s (Stuck w)
    stuck_passed w i = λ r. h.so r (Stuck w) (i (g r))
