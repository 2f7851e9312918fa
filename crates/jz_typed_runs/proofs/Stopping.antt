-- A run that is stuck comes to a part that is.
use Rattle.std.proofs.Common.{◌≡◌, inl, inr, ℕ, List, refl, subst}
use Rattle.std.specs.Prelude.{ℤ, ◌⊎◌}
use Rattle.jz_tree.specs.Memory.{Memory}
use Rattle.jz_tree.specs.declared.program.Fun.{Fun}
use Rattle.jz_tree.specs.declared.program.Program.{Program}
use Rattle.jz_meaning.specs.RunLeaks as leak
use Rattle.jz_meaning.specs.RunLeaks.{Leak, Turns, Rounds}
use Rattle.jz_meaning.specs.Trees.{Tree, quiet}
use Rattle.jz_meaning.specs.Rules.{Parts, stuck, went, Outcome, End, Cut, Stuck, after, Goes, finished, did, did_not, quieted, chosen, chosen_cut, chosen_stuck, chose_not, loop_left, loop_cut, loop_stuck, counted, counted_cut, counted_stuck, counted_not, call_ended, call_cut, call_stuck, entered_not, left_not, Loops, prologue_stuck, tested_not, leaves_loop, no_turn, body_stuck, more_turns, Counts, no_count, more_counts, count_cut, count_stuck}
use Rattle.jz_meaning.specs.Rules as rules
use Rattle.jz_meaning.specs.declared.value.Stuck as code
use Rattle.jz_meaning.specs.Attempts.{Evaluation}
use Rattle.jz_meaning.specs.States.{Value, State}
use Rattle.jz_meaning.specs.Statements.{Call, source}
use Rattle.jz_meaning.specs.Runs.{FunOutcome, IsInput, result_words, outcome_of_words, outcome_of_body, entry_state, body_of}
use Rattle.jz_run_laws.specs.Kinds.{HoldsBytes}
use Rattle.jz_typed_runs.specs.Reached.{Part, operation, test, bounds, arguments, results, Comes, ComesInTurns, ComesInRounds}
use Rattle.jz_typed_runs.specs.Reached as reached
use Rattle.jz_typed_runs.specs.Stuck.{IsStuckAt, StopsAt, StopsBehind, StuckLaw}

abbrev IfStuck : {S W L : Type 0} → (W → Type 0) → Outcome S W L → Type 0
IfStuck P (End s n l) = Unit {0}
IfStuck P (Cut l) = Unit {0}
IfStuck P (Stuck w) = P w

passed_on : {S W L M : Type 0} (P Q : W → Type 0) (f : L → M) (o : Outcome S W L) → ((w : W) → P w → Q w) → IfStuck P o → IfStuck Q (after f o)
passed_on P Q f (End s n l) g h = tt
passed_on P Q f (Cut l) g h = tt
passed_on P Q f (Stuck w) g h = g w h

module _ {K O T F C S W : Type 0} (M : Parts O T F C S W) (into : C → K) where
  record Stops (k : K) (t : Tree O T F C) (n : ℕ) (s : S) (w : W) : Type 0 where
    pub where_in : K
    pub part : Part O T F C S
    pub state : S
    pub comes : Comes M into k t n s where_in part state
    pub here : IsStuckAt M part state w

  record StopsInTurns (k : K) (g : Tree O T F C) (c : T) (b : Tree O T F C) (n : ℕ) (s : S) (w : W) : Type 0 where
    pub where_in : K
    pub part : Part O T F C S
    pub state : S
    pub comes : ComesInTurns M into k g c b n s where_in part state
    pub here : IsStuckAt M part state w

  record StopsInRounds (k : K) (f : F) (b : Tree O T F C) (is : List ℤ) (n : ℕ) (s : S) (w : W) : Type 0 where
    pub where_in : K
    pub part : Part O T F C S
    pub state : S
    pub comes : ComesInRounds M into k f b is n s where_in part state
    pub here : IsStuckAt M part state w

  mutual
    stops : {t : Tree O T F C} {n : ℕ} {s : S} {o : Outcome S W Leak} (k : K) → Goes M t n s o → IfStuck (Stops k t n s) o
    stops k finished = tt
    stops k (did {o} {r} {n} {s} {s1} {ns} {w} e g) =
        passed_on (Stops k r n s1) _ (leak.ran ns) w (λ x h. record { where_in = h.where_in; part = h.part; state = h.state; comes = reached.past e h.comes; here = h.here }) (stops k g)
    stops k (did_not {o} {s = s} e) = record { where_in = k; part = operation o; state = s; comes = reached.does; here = e }
    stops k (quieted {o} {r} {n} {s} {w} g) = quiet_on w (stops k g)
      where
        quiet_on : (w : Outcome S W Leak) → IfStuck (Stops k r n (M.quiets o s)) w → IfStuck (Stops k (quiet o r) n s) w
        quiet_on (End s n l) h = tt
        quiet_on (Cut l) h = tt
        quiet_on (Stuck w) h = record { where_in = h.where_in; part = h.part; state = h.state; comes = reached.past_quiet h.comes; here = h.here }
    stops k (chosen {r = r} {m = m} {s1 = s1} {ns = ns} {z = z} {l = l} {w = w} e g r') =
        passed_on (Stops k r m s1) _ (leak.chose ns z l) w (λ x h. record { where_in = h.where_in; part = h.part; state = h.state; comes = reached.past_arm e g h.comes; here = h.here }) (stops k r')
    stops k (chosen_cut e g) = tt
    stops k (chosen_stuck e g) = let h = stops k g in record { where_in = h.where_in; part = h.part; state = h.state; comes = reached.in_arm e h.comes; here = h.here }
    stops k (chose_not {c} {s = s} e) = record { where_in = k; part = test c; state = s; comes = reached.asks; here = e }
    stops k (loop_left {r = r} {m = m} {s1 = s1} {ts = ts} {w = w} g r') =
        passed_on (Stops k r m s1) _ (leak.looped ts) w (λ x h. record { where_in = h.where_in; part = h.part; state = h.state; comes = reached.past_turns g h.comes; here = h.here }) (stops k r')
    stops k (loop_cut g) = tt
    stops k (loop_stuck g) = let h = stops_turns k g in record { where_in = h.where_in; part = h.part; state = h.state; comes = reached.in_turns h.comes; here = h.here }
    stops k (counted {f = f} {r = r} {m = m} {s = s} {s1 = s1} {ls = ls} {w = w} e g r') =
        passed_on (Stops k r m (M.restores f s s1)) _ (leak.each ls) w (λ x h. record { where_in = h.where_in; part = h.part; state = h.state; comes = reached.past_rounds e g h.comes; here = h.here }) (stops k r')
    stops k (counted_cut e g) = tt
    stops k (counted_stuck e g) = let h = stops_rounds k g in record { where_in = h.where_in; part = h.part; state = h.state; comes = reached.in_rounds e h.comes; here = h.here }
    stops k (counted_not {f} {s = s} e) = record { where_in = k; part = bounds f; state = s; comes = reached.counts; here = e }
    stops k (call_ended {r = r} {m = m} {s3 = s3} {ns = ns} {ms = ms} {l = l} {w = w} e g v r') =
        passed_on (Stops k r m s3) _ (leak.called ns l ms) w (λ x h. record { where_in = h.where_in; part = h.part; state = h.state; comes = reached.past_call e g v h.comes; here = h.here }) (stops k r')
    stops k (call_cut e g) = tt
    stops k (call_stuck {c} e g) = let h = stops (into c) g in record { where_in = h.where_in; part = h.part; state = h.state; comes = reached.in_call e h.comes; here = h.here }
    stops k (entered_not {c} {s = s} e) = record { where_in = k; part = arguments c; state = s; comes = reached.enters; here = e }
    stops k (left_not {c} {s = s} {s2 = s2} e g v) = record { where_in = k; part = results c s2; state = s; comes = reached.leaves e g; here = v }

    stops_turns : {g : Tree O T F C} {c : T} {b : Tree O T F C} {n : ℕ} {s : S} {o : Outcome S W Turns} (k : K) → Loops M g c b n s o → IfStuck (StopsInTurns k g c b n s) o
    stops_turns k (rules.in_prologue g) = tt
    stops_turns k (prologue_stuck g) = let h = stops k g in record { where_in = h.where_in; part = h.part; state = h.state; comes = reached.in_prologue h.comes; here = h.here }
    stops_turns k (tested_not {c = c} {s1 = s1} g e) = record { where_in = k; part = test c; state = s1; comes = reached.asks_turn g; here = e }
    stops_turns k (leaves_loop g e) = tt
    stops_turns k (no_turn g e) = tt
    stops_turns k (rules.in_body g e r) = tt
    stops_turns k (body_stuck g e r) = let h = stops k r in record { where_in = h.where_in; part = h.part; state = h.state; comes = reached.in_body g e h.comes; here = h.here }
    stops_turns k (more_turns {p} {c} {b} {m2 = m2} {s2 = s2} {ns = ns} {l = l} {lb = lb} {w = w} g e r i) =
        passed_on (StopsInTurns k p c b m2 s2) _ (leak.turn l ns lb) w (λ x h. record { where_in = h.where_in; part = h.part; state = h.state; comes = reached.next_turn g e r h.comes; here = h.here }) (stops_turns k i)

    stops_rounds : {f : F} {b : Tree O T F C} {is : List ℤ} {n : ℕ} {s : S} {o : Outcome S W Rounds} (k : K) → Counts M f b is n s o → IfStuck (StopsInRounds k f b is n s) o
    stops_rounds k no_count = tt
    stops_rounds k (more_counts {f} {b} {is = is} {m = m} {s1 = s1} {l = l} {w = w} g r) =
        passed_on (StopsInRounds k f b is m s1) _ (leak.round l) w (λ x h. record { where_in = h.where_in; part = h.part; state = h.state; comes = reached.next_round g h.comes; here = h.here }) (stops_rounds k r)
    stops_rounds k (count_cut g) = tt
    stops_rounds k (count_stuck g) = let h = stops k g in record { where_in = h.where_in; part = h.part; state = h.state; comes = reached.in_round h.comes; here = h.here }

-- ---- functions
module _ (q : Program) (f : Fun) (words : List Value) (memory : Memory) (n : ℕ) (input : IsInput q f words) (bytes : HoldsBytes memory) where
  abbrev Said : code.Stuck → Type 0
  Said w = StopsAt q f words memory n w ⊎ StopsBehind q f words memory n w

  abbrev IfSaid : FunOutcome → Type 0
  IfSaid (End r m l) = Unit {0}
  IfSaid (Cut l) = Unit {0}
  IfSaid (Stuck w) = Said w

  returned : (s : State) (m : ℕ) (l : Leak) (g : Evaluation (List Value)) → Goes source (body_of q f) n (entry_state f words memory) (End s m l) → result_words f.result s.store ≡ g → IfSaid (outcome_of_words s.memory m l g)
  returned s m l (went ns vs) g e = tt
  returned s m l (stuck w) g e = inr (record { state = s; left = m; leak = l; goes = g; is_stuck = e })

  body_stops : (o : Outcome State code.Stuck Leak) → Goes source (body_of q f) n (entry_state f words memory) o → IfSaid (outcome_of_body f.result o)
  body_stops (End s m l) g = returned s m l (result_words f.result s.store) g refl
  body_stops (Cut l) g = tt
  body_stops (Stuck w) g =
      let h = stops source (λ (c : Call). c.callee) f g in
      inl (record { fun = h.where_in; part = h.part; state = h.state; comes = record { input = input; bytes = bytes; comes = h.comes }; is_stuck = h.here })

pub stuck_law : StuckLaw
stuck_law q f words memory n w bytes run = subst (IfSaid q f words memory n run.input bytes) run.gives (body_stops q f words memory n run.input bytes run.out run.goes)
