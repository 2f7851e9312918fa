-- From equal leaks of the expansion to equal events of the bytes.
use Rattle.std.proofs.Common.{◌≡◌, ◌≤◌, ◌<◌, ◌⊎◌, inl, inr, ℕ, ◌+◌, ◌-◌, true, List, ◌++◌, append-nil, sym, ap, ◌∙◌, refl, subst, arith}
use Rattle.std.proofs.lemmas.Bool.{cases_lt, true≢false}
use Rattle.jz_words.specs.Memory.{Memory}
use Rattle.jz_leak.specs.RunLeaks.{Leak}
use Rattle.jz_leak.specs.Applying.{apply_of}
use Rattle.jz_leak.specs.declared.event.Event.{Event}
use Rattle.jz_tree.specs.declared.program.Fun.{Fun}
use Rattle.jz_tree.specs.declared.program.Param.{Param}
use Rattle.jz_tree.specs.declared.program.Program.{Program}
use Rattle.jz_runs.specs.Rules.{went, Outcome, End, Cut, Stuck, Goes}
use Rattle.jz_meaning.specs.declared.value.Stuck.{Stuck as Reason}
use Rattle.jz_meaning.specs.States as source
use Rattle.jz_meaning.specs.Statements as statements
use Rattle.jz_meaning.specs.Runs.{Returned, FunOutcome, entry_state, result_words, outcome_of_body}
use Rattle.jz_meaning.proofs.RunLaws.{block_some}
use Rattle.jz_preconditions.specs.Meeting.{MeetsPreconditions}
use Rattle.jz_placing.specs.Variables.{variables}
use Rattle.jz_change.specs.Changes.{map_of}
use Rattle.jz_pass.specs.Laws.{Follows, has_ended, was_cut}
use Rattle.jz_function_runs.specs.FunctionRuns.{plain_body}
use Rattle.jz_place.specs.Bodies as ir
use Rattle.jz_every_row.specs.Bodies.{beside}
use Rattle.jz_lowered.specs.Functions.{ArePassed}
use Rattle.jz_listing.specs.declared.compiled.Compiled.{Compiled}
use Rattle.x64_machine.specs.Steps.{Config, Ran, at_entry, steps_of}
use Rattle.x64_machine.proofs.MachineRunning.{steps_both, end_stays}
use Rattle.x64_same_events.specs.SameEvents.{ReturnsFromEntry, Begins}
use Rattle.x64_same_events.proofs.BothRuns.{same_events}
use Rattle.jz_correct.specs.Registers.{result_registers}
use Rattle.jz_correct.specs.Starts.{IsStart}
use Rattle.jz_correct.specs.Agreement.{NeverFaults}
use Rattle.jz_stack.specs.Laying.{frame_of}
use Rattle.jz_compiled.specs.Matching.{values_of}
use Rattle.jz_constant_leaks.specs.Making.{IsMade}
use Rattle.jz_constant_leaks.proofs.Joining as joined
use Rattle.jz_constant_leaks.proofs.Joining.{EndsSo, body_end, body_cut}
use Rattle.jz_constant_leaks.proofs.Returning.{all_given}
use Rattle.jz_labels.specs.ConstantTime.{IsConstantTime}
use Rattle.jz_equal_leaks.specs.Laws.{AreEqualAtPublic, IsFixedFunction, LeakTheSame}
use Rattle.jz_equal_leaks.proofs.Entry.{leaks_same}
use Rattle.jz_constant_time.specs.Shown.{StartsOn}

-- ---- behind the end a run shows no more

module _ (code : List ℕ) (base : ℕ) (s : Config) (i k : ℕ) (ended : (steps_of code base s i).after.ended ≡ true) where
  after_end : i ≤ k → (steps_of code base s k).events ≡ (steps_of code base s i).events
  after_end le =
      let split : k ≡ i + (k - i) = omega (arith, le) in
      ap (λ (j : ℕ). (steps_of code base s j).events) split
      ∙ ap (λ (r : Ran). r.events) (steps_both code base i (k - i) s)
      ∙ ap (λ (r : Ran). (steps_of code base s i).events ++ r.events) (end_stays code base (k - i) (steps_of code base s i).after ended)
      ∙ append-nil (steps_of code base s i).events

  ended_later : i ≤ k → (steps_of code base s k).after.ended ≡ true
  ended_later le =
      let split : k ≡ i + (k - i) = omega (arith, le) in
      ap (λ (j : ℕ). (steps_of code base s j).after.ended) split
      ∙ ap (λ (r : Ran). r.after.ended) (steps_both code base i (k - i) s)
      ∙ ap (λ (r : Ran). r.after.ended) (end_stays code base (k - i) (steps_of code base s i).after ended)
      ∙ ended

-- nor comes to a return
returns_later : (code : List ℕ) (base : ℕ) (s : Config) (i k : ℕ) → (steps_of code base s i).after.ended ≡ true → ReturnsFromEntry code base s i → ReturnsFromEntry code base s k
returns_later code base s i k ended ret j len lt running is = by (cases_lt j i)
  where
    by : (j < i) ⊎ (i ≤ j) → at_entry (steps_of code base s j).after ≡ true
    by (inl l) = ret j len l running is
    by (inr le) = absurd (true≢false (sym (ended_later code base s i j ended le) ∙ running))

-- ---- one input and one start

module _ (p : Program) (f : Fun) (c : Compiled) (made : IsMade p f c) where
  abbrev g : Fun
  g = made.expanded

  -- what is shown of a leak of the expansion
  abbrev shown_of : Leak → ℕ → List Event
  shown_of l rsp0 = apply_of made.code.transformer (map_of made.second l) rsp0

  -- after that many steps at least that is what was shown
  pub record Seen (rsp0 base : ℕ) (s : Config) (k : ℕ) (l : Leak) : Type 0 where
    pub steps : ℕ
    pub enough : k ≤ steps
    pub shown : (steps_of c.code base s steps).events ≡ shown_of l rsp0
    pub no_fault : NeverFaults c.code base s
    pub returns : ReturnsFromEntry c.code base s k

  module _ (words : List ℕ) (memory : Memory) (meets : MeetsPreconditions f words memory) (rsp0 base : ℕ) (s : Config) (started : IsStart c words memory rsp0 base s) (k : ℕ) where
    -- with as many turns more as there are instructions
    abbrev n : ℕ
    n = k + c.insns

    abbrev start : source.State
    start = joined.start p f c made words memory n meets

    kept : (l : Leak) (steps : ℕ) → (steps_of c.code base s steps).after.ended ≡ true → (steps_of c.code base s steps).events ≡ shown_of l rsp0 → NeverFaults c.code base s → ReturnsFromEntry c.code base s steps → (steps < k) ⊎ (k ≤ steps) → Seen rsp0 base s k l
    kept l steps ended shown nf ret (inl lt) = record {
      steps = k;
      enough = omega arith;
      shown = after_end c.code base s steps k ended (omega (arith, lt)) ∙ shown;
      no_fault = nf;
      returns = returns_later c.code base s steps k ended ret;
    }
    kept l steps ended shown nf ret (inr le) = record { steps = steps; enough = le; shown = shown; no_fault = nf; returns = λ j len lt. ret j len (omega (arith, lt, le)) }

    at_end : (m : ℕ) (r : Returned) (l : Leak) → EndsSo g (plain_body g) (joined.given p f c made words memory n meets) n m r l → Seen rsp0 base s k l
    at_end m r l e = from (made.lowering.carries.forth start (joined.begun p f c made words memory n meets) n (End e.last m l) (joined.related p f c made words memory n meets) e.goes)
      where
        from : Follows (beside made.home) made.second (λ o. Goes (variables (frame_of made.stack)) (ir.body_of made.body.body) n (joined.begun p f c made words memory n meets) o) (End e.last m l) → Seen rsp0 base s k l
        from (has_ended τ rel two go) =
            let results = subst (λ xs. result_words xs e.last.store ≡ went e.numbers r.words) made.expansion.result e.given_back in
            let returned = subst (λ xs. ArePassed made.home result_registers xs made.body.results) made.expansion.result made.lowering.made.returned in
            let given = all_given made.home e.last τ rel result_registers f.result made.body.results f.rets c.rets e.numbers r.words returned made.listed.rets made.results results in
            let d = (joined.does p f c made words memory n meets).ends words memory (joined.begun p f c made words memory n meets) (joined.as_listed p f c made words memory n meets) (joined.entry p f c made words memory n meets) (joined.never p f c made words memory n meets) rsp0 base s started n m τ (map_of made.second l) given.words go given.results in
            kept l d.steps d.ends.ends.ended d.ends.shown d.ends.no_fault d.returns (cases_lt d.steps k)

    at_cut : (l : Leak) → Goes statements.source (plain_body g) n start (Cut l) → Seen rsp0 base s k l
    at_cut l goes = from (made.lowering.carries.forth start (joined.begun p f c made words memory n meets) n (Cut l) (joined.related p f c made words memory n meets) goes)
      where
        from : Follows (beside made.home) made.second (λ o. Goes (variables (frame_of made.stack)) (ir.body_of made.body.body) n (joined.begun p f c made words memory n meets) o) (Cut l) → Seen rsp0 base s k l
        from (was_cut two go) =
            let d = (joined.does p f c made words memory n meets).goes_on words memory (joined.begun p f c made words memory n meets) (joined.as_listed p f c made words memory n meets) (joined.entry p f c made words memory n meets) (joined.never p f c made words memory n meets) rsp0 base s started n (map_of made.second l) go in
            let le : k ≤ d.steps = omega (arith, d.enough) in
            record { steps = d.steps; enough = le; shown = d.shown; no_fault = d.no_fault; returns = λ j len lt. d.returns j len (omega (arith, lt, le)) }

    abbrev IsSeen : FunOutcome → Type 0
    IsSeen (End r m l) = Seen rsp0 base s k l
    IsSeen (Cut l) = Seen rsp0 base s k l
    IsSeen (Stuck w) = ⊥

    pub seen : (o : FunOutcome) (out : Outcome source.State Reason Leak) → Goes statements.source (plain_body g) n start out → outcome_of_body g.result out ≡ o → IsSeen o
    seen (End r m l) out goes e = at_end m r l (body_end g (plain_body g) (joined.given p f c made words memory n meets) n m r l out goes e)
    seen (Cut l) out goes e = at_cut l (body_cut g (plain_body g) (joined.given p f c made words memory n meets) n l out goes e)
    seen (Stuck w) out goes e = made.safe words memory n w meets (record { out = out; goes = goes; gives = e })

  -- ---- two of them

  pub shows_nothing_secret : IsFixedFunction g (plain_body g) → IsConstantTime g.params (plain_body g)
      → (words others : List ℕ) (memory other : Memory) (rsp0 base place : ℕ) (s t : Config) → StartsOn f c words memory rsp0 base s → StartsOn f c others other rsp0 place t
      → AreEqualAtPublic f.params (values_of c.args words) (values_of c.args others)
      → (k : ℕ) → (steps_of c.code base s k).events ≡ (steps_of c.code place t k).events
  shows_nothing_secret fixed ct words others memory other rsp0 base place s t a b same k =
      both (outcome_of_body g.result first.0) (outcome_of_body g.result second.0)
      (leaks_same g (plain_body g) fixed ct (values_of c.args words) (values_of c.args others) (subst (λ (ps : List Param). AreEqualAtPublic ps (values_of c.args words) (values_of c.args others)) (sym made.expansion.params) same) memory other (k + c.insns) first.0 second.0 first.1 second.1)
      (seen words memory a.meets rsp0 base s a.start k (outcome_of_body g.result first.0) first.0 first.1 refl)
      (seen others other b.meets rsp0 place t b.start k (outcome_of_body g.result second.0) second.0 second.1 refl)
    where
      first : (o : Outcome source.State Reason Leak) × Goes statements.source (plain_body g) (k + c.insns) (entry_state g (values_of c.args words) memory) o
      first = block_some (plain_body g) (k + c.insns) (entry_state g (values_of c.args words) memory)

      second : (o : Outcome source.State Reason Leak) × Goes statements.source (plain_body g) (k + c.insns) (entry_state g (values_of c.args others) other) o
      second = block_some (plain_body g) (k + c.insns) (entry_state g (values_of c.args others) other)

      begins_so : (words : List ℕ) (memory : Memory) (base : ℕ) (s : Config) → StartsOn f c words memory rsp0 base s → NeverFaults c.code base s → Begins c.code base s
      begins_so words memory base s h nf = record { entry = h.start.entry; fits = h.start.code_fits; running = h.start.running; no_fault = nf }

      of_leaks : (l r : Leak) → l ≡ r → Seen rsp0 base s k l → Seen rsp0 place t k r → (steps_of c.code base s k).events ≡ (steps_of c.code place t k).events
      of_leaks l r e x y =
          same_events c.code base place s t (begins_so words memory base s a x.no_fault) (begins_so others other place t b y.no_fault) x.steps y.steps k x.enough y.enough x.returns y.returns
          (x.shown ∙ ap (λ (i : Leak). shown_of i rsp0) e ∙ sym y.shown)

      both : (o q : FunOutcome) → LeakTheSame {V = Returned} o q → IsSeen words memory a.meets rsp0 base s a.start k o → IsSeen others other b.meets rsp0 place t b.start k q → (steps_of c.code base s k).events ≡ (steps_of c.code place t k).events
      both (End r m l) (End v j i) h x y = of_leaks l i h.1 x y
      both (End r m l) (Cut i) h x y = absurd h
      both (End r m l) (Stuck w) h x y = absurd y
      both (Cut l) (End v j i) h x y = absurd h
      both (Cut l) (Cut i) h x y = of_leaks l i h x y
      both (Cut l) (Stuck w) h x y = absurd y
      both (Stuck w) q h x y = absurd x
