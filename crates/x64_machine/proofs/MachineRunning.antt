-- Runs: an end stays, and a fault repeats.
use Rattle.std.proofs.Common.{◌≡◌, ℕ, zero, suc, ◌+◌, ◌-◌, ◌<◌, List, [], ◌++◌, append_assoc, Bool, true, false, refl, sym, ap, ◌∙◌, subst, arith, if◌then◌else◌}
use Rattle.std.specs.Prelude.{Result, Ok, Err}
use Rattle.x64_insn.specs.declared.types.FaultKind.{FaultKind}
use Rattle.x64_insn.specs.Rows.{After, no_event}
use Rattle.x64_decode.specs.declared.Decoded.{Decoded}
use Rattle.x64_decode.specs.declared.Decoded.TheVariants as decoded
use Rattle.x64_machine.specs.declared.step.Step.{Step}
use Rattle.x64_machine.specs.declared.step.Step.TheVariants.{Running, Ended, Fault}
use Rattle.jz_leak.specs.declared.event.Event.{Event}
use Rattle.x64_machine.specs.Steps.{Config, Moved, Ran, insn_at, moved, by_insn, fault_move, events_of, step_of, steps_of}
use Rattle.x64_machine.specs.MachineRuns.{first_answer, last_answer, followed}

abbrev stopped : Config → Moved
stopped c = record { answer = Ended; leak = no_event; after = c }

-- what an answer that stops says of the configuration after it
abbrev pub Stays : Config → Step → Config → Type 0
Stays c Running after = Unit {0}
Stays c Ended after = after.ended ≡ true
Stays c (Fault f) after = after ≡ c

moved_stays : (c : Config) (ends : Bool) (r : Result After FaultKind) → Stays c (moved c ends r).answer (moved c ends r).after
moved_stays c true (Ok a) = refl
moved_stays c false (Ok a) = tt
moved_stays c ends (Err f) = refl

insn_stays : (c : Config) (d : Decoded) → Stays c (by_insn c d).answer (by_insn c d).after
insn_stays c decoded.Unknown = refl
insn_stays c decoded.Truncated = refl
insn_stays c (decoded.Insn i len) = moved_stays c _ _

by_flag : (code : List ℕ) (base : ℕ) (c : Config) (b : Bool) → c.ended ≡ b
    → let m = (if b then stopped c else by_insn c (insn_at code base c.state.rip)) in Stays c m.answer m.after
by_flag code base c true e = e
by_flag code base c false e = insn_stays c (insn_at code base c.state.rip)

-- where k steps lead
abbrev pub after_steps : List ℕ → ℕ → Config → ℕ → Config
after_steps code base c k = (steps_of code base c k).after

module _ (code : List ℕ) (base : ℕ) where
  ended_step : (c : Config) → c.ended ≡ true → step_of code base c ≡ record { answer = Ended; leak = no_event; after = c }
  unfolding step_of
  ended_step c h = rw h refl

  step_stays : (c : Config) → Stays c (step_of code base c).answer (step_of code base c).after
  unfolding step_of
  step_stays c = by_flag code base c c.ended refl

  pub none_made : (c : Config) → after_steps code base c zero ≡ c
  unfolding steps_of
  none_made c = refl

  first_made : (c : Config) (k : ℕ) → after_steps code base c (suc k) ≡ after_steps code base (step_of code base c).after k
  unfolding steps_of
  first_made c k = refl

  -- one step more
  pub last_made : (k : ℕ) (c : Config) → after_steps code base c (suc k) ≡ (step_of code base (after_steps code base c k)).after
  last_made zero c = first_made c zero ∙ none_made (step_of code base c).after ∙ ap (λ d. (step_of code base d).after) (sym (none_made c))
  last_made (suc k) c =
      first_made c (suc k) ∙ last_made k (step_of code base c).after
      ∙ ap (λ d. (step_of code base d).after) (sym (first_made c k))

  -- steps after steps
  both_made : (i r : ℕ) (c : Config) → after_steps code base c (i + r) ≡ after_steps code base (after_steps code base c i) r
  both_made zero r c =
      let e : zero + r ≡ r = omega arith
      in ap (after_steps code base c) e ∙ ap (λ d. after_steps code base d r) (sym (none_made c))
  both_made (suc i) r c =
      let e : suc i + r ≡ suc (i + r) = omega arith
      in ap (after_steps code base c) e ∙ first_made c (i + r) ∙ both_made i r (step_of code base c).after
      ∙ ap (λ d. after_steps code base d r) (sym (first_made c i))

  -- a step that leaves all as it was leaves it so however often it is made
  still : (c : Config) → (step_of code base c).after ≡ c → (k : ℕ) → after_steps code base c k ≡ c
  still c h zero = none_made c
  still c h (suc k) = first_made c k ∙ ap (λ d. after_steps code base d k) h ∙ still c h k

  -- after an end or a fault nothing changes any more
  pub record Stopped (c : Config) (answer : Step) (k : ℕ) : Type 0 where
    pub stands : after_steps code base c (suc k) ≡ (step_of code base c).after
    pub repeats : (step_of code base (after_steps code base c k)).answer ≡ answer

  ended_still : (d : Config) → d.ended ≡ true → (k : ℕ) → after_steps code base d k ≡ d
  ended_still d h k = still d (ap (λ (m : Moved). m.after) (ended_step d h)) k

  ended_more : (c : Config) (k : ℕ) → (step_of code base c).answer ≡ Ended → (step_of code base c).after.ended ≡ true → Stopped c Ended k
  ended_more c zero a h = record {
    stands = first_made c zero ∙ none_made (step_of code base c).after;
    repeats = ap (λ d. (step_of code base d).answer) (none_made c) ∙ a;
  }
  ended_more c (suc k) a h = record {
    stands = first_made c (suc k) ∙ ended_still (step_of code base c).after h (suc k);
    repeats = ap (λ d. (step_of code base d).answer) (first_made c k ∙ ended_still (step_of code base c).after h k)
        ∙ ap (λ (m : Moved). m.answer) (ended_step (step_of code base c).after h);
  }

  fault_more : (c : Config) (k : ℕ) (f : FaultKind) → (step_of code base c).answer ≡ Fault f → (step_of code base c).after ≡ c → Stopped c (Fault f) k
  fault_more c k f a h = record {
    stands = still c h (suc k) ∙ sym h;
    repeats = ap (λ d. (step_of code base d).answer) (still c h k) ∙ a;
  }

  stopped_by : (c : Config) (k : ℕ) (a : Step) → (step_of code base c).answer ≡ a → Stays c a (step_of code base c).after → (a ≡ Running → ⊥)
      → Stopped c a k
  stopped_by c k Running e s no_run = absurd (no_run refl)
  stopped_by c k Ended e s no_run = ended_more c k e s
  stopped_by c k (Fault f) e s no_run = fault_more c k f e s

  pub stops : (c : Config) (k : ℕ) (a : Step) → (step_of code base c).answer ≡ a → (a ≡ Running → ⊥) → Stopped c a k
  stops c k a e no_run = stopped_by c k a e (subst (λ x. Stays c x (step_of code base c).after) e (step_stays c)) no_run

  last_of : (c : Config) (k : ℕ) → last_answer code base c (suc k) ≡ (step_of code base (after_steps code base c k)).answer
  unfolding last_answer
  last_of c k = refl

  none_answered : (c : Config) → last_answer code base c zero ≡ first_answer c
  unfolding last_answer
  none_answered c = refl

  -- an ended machine answers so, and stays
  pub record Whole (c now : Config) (answer : Step) (count : ℕ) : Type 0 where
    pub answers : answer ≡ last_answer code base c count
    pub stands : now ≡ after_steps code base c count

  pub ended_first : (count : ℕ) (c : Config) → c.ended ≡ true → Whole c c Ended count
  ended_first zero c h = record { answers = ap (λ b. if b then Ended else Running) (sym h) ∙ sym (none_answered c); stands = sym (none_made c) }
  ended_first (suc k) c h = record {
    answers = ap (λ (m : Moved). m.answer) (sym (ended_step c h)) ∙ ap (λ d. (step_of code base d).answer) (sym (ended_still c h k)) ∙ sym (last_of c k);
    stands = sym (ended_still c h (suc k));
  }

  -- the machine stops at a step
  pub stops_at : (count i : ℕ) (c d now : Config) (a : Step) → i < count → d ≡ after_steps code base c i → (step_of code base d).answer ≡ a
      → now ≡ (step_of code base d).after → (a ≡ Running → ⊥) → Whole c now a count
  stops_at count i c d now a lt at answer is no_run =
      let r : ℕ = count - (i + 1)
      in let e : count ≡ suc (i + (count - (i + 1))) = omega arith
      in let f : count ≡ i + suc (count - (i + 1)) = omega arith
      in let s : Stopped d a (count - (i + 1)) = stops d (count - (i + 1)) a answer no_run
      in let there : after_steps code base c (i + (count - (i + 1))) ≡ after_steps code base d (count - (i + 1)) =
      both_made i (count - (i + 1)) c ∙ ap (λ x. after_steps code base x (count - (i + 1))) (sym at)
      in let beyond : after_steps code base c (i + suc (count - (i + 1))) ≡ after_steps code base d (suc (count - (i + 1))) =
      both_made i (suc (count - (i + 1))) c ∙ ap (λ x. after_steps code base x (suc (count - (i + 1)))) (sym at)
      in record {
        answers = sym s.repeats ∙ ap (λ x. (step_of code base x).answer) (sym there) ∙ sym (last_of c (i + (count - (i + 1)))) ∙ ap (last_answer code base c) (sym e);
        stands = is ∙ sym s.stands ∙ sym beyond ∙ ap (after_steps code base c) (sym f);
      }

  -- each of the steps so far goes on
  pub goes_on : (i : ℕ) (c d now : Config) → d ≡ after_steps code base c i → (step_of code base d).answer ≡ Running
      → now ≡ (step_of code base d).after
      → (now ≡ after_steps code base c (i + 1)) × (last_answer code base c (i + 1) ≡ Running)
  goes_on i c d now at answer is =
      let e : i + 1 ≡ suc i = omega arith
      in (
        is ∙ ap (λ x. (step_of code base x).after) at ∙ sym (last_made i c) ∙ ap (after_steps code base c) (sym e),
        ap (last_answer code base c) e ∙ last_of c i ∙ ap (λ x. (step_of code base x).answer) (sym at) ∙ answer,
      )

pub same_step : (x y : List ℕ) (p q : ℕ) (c : Config) → x ≡ y → p ≡ q → step_of x p c ≡ step_of y q c
same_step x y p q c h k = cc

pub none_answered_running : (code : List ℕ) (base : ℕ) (c : Config) → c.ended ≡ false → last_answer code base c 0 ≡ Running
unfolding last_answer
none_answered_running code base c h = ap (λ b. if b then Ended else Running) h

-- ---- laws of steps, whatever the code

fault_same : (f g : FaultKind) → Fault f ≡ Fault g → f ≡ g
fault_same f g h = cc

fault_moved : (c : Config) (ends : Bool) (r : Result After FaultKind) (f : FaultKind) → (moved c ends r).answer ≡ Fault f → moved c ends r ≡ fault_move c f
fault_moved c true (Ok a) f h = cc
fault_moved c false (Ok a) f h = cc
fault_moved c ends (Err e) f h = ap (fault_move c) (fault_same e f h)

fault_insn : (c : Config) (d : Decoded) (f : FaultKind) → (by_insn c d).answer ≡ Fault f → by_insn c d ≡ fault_move c f
fault_insn c decoded.Unknown f h = ap (fault_move c) (fault_same _ f h)
fault_insn c decoded.Truncated f h = ap (fault_move c) (fault_same _ f h)
fault_insn c (decoded.Insn i len) f h = fault_moved c _ _ f h

fault_flag : (code : List ℕ) (base : ℕ) (c : Config) (f : FaultKind) (b : Bool)
    → (if b then stopped c else by_insn c (insn_at code base c.state.rip)).answer ≡ Fault f
    → (if b then stopped c else by_insn c (insn_at code base c.state.rip)) ≡ fault_move c f
fault_flag code base c f true h = cc
fault_flag code base c f false h = fault_insn c (insn_at code base c.state.rip) f h

pub fault_step : (code : List ℕ) (base : ℕ) (c : Config) (f : FaultKind) → (step_of code base c).answer ≡ Fault f → step_of code base c ≡ fault_move c f
unfolding step_of
fault_step code base c f h = fault_flag code base c f c.ended h

-- the entry's stack pointer and return address
abbrev pub SameEntry : Config → Config → Type 0
SameEntry c d = (d.entry_rsp ≡ c.entry_rsp) × (d.entry_return ≡ c.entry_return)

entry_moved : (c : Config) (ends : Bool) (r : Result After FaultKind) → SameEntry c (moved c ends r).after
entry_moved c ends (Ok a) = (refl, refl)
entry_moved c ends (Err e) = (refl, refl)

entry_insn : (c : Config) (d : Decoded) → SameEntry c (by_insn c d).after
entry_insn c decoded.Unknown = (refl, refl)
entry_insn c decoded.Truncated = (refl, refl)
entry_insn c (decoded.Insn i len) = entry_moved c _ _

entry_flag : (code : List ℕ) (base : ℕ) (c : Config) (b : Bool) → SameEntry c (if b then stopped c else by_insn c (insn_at code base c.state.rip)).after
entry_flag code base c true = (refl, refl)
entry_flag code base c false = entry_insn c (insn_at code base c.state.rip)

entry_step : (code : List ℕ) (base : ℕ) (c : Config) → SameEntry c (step_of code base c).after
unfolding step_of
entry_step code base c = entry_flag code base c c.ended

pub entry_steps : (code : List ℕ) (base k : ℕ) (c : Config) → SameEntry c (after_steps code base c k)
unfolding steps_of
entry_steps code base zero c = (refl, refl)
entry_steps code base (suc k) c =
    let now = entry_step code base c
    in let later = entry_steps code base k (step_of code base c).after
    in (later.0 ∙ now.0, later.1 ∙ now.1)

pub end_stays : (code : List ℕ) (base k : ℕ) (c : Config) → c.ended ≡ true → steps_of code base c k ≡ record { after = c; events = [] }
unfolding steps_of
end_stays code base zero c h = refl
end_stays code base (suc k) c h =
    let none : step_of code base c ≡ stopped c = ended_step code base c h
    in ap (λ (m : Moved). record { after = (steps_of code base m.after k).after; events = events_of m.leak ++ (steps_of code base m.after k).events }) none
    ∙ end_stays code base k c h

first_ran : (code : List ℕ) (base k : ℕ) (c : Config)
    → steps_of code base c (suc k)
    ≡ record { after = (steps_of code base (step_of code base c).after k).after; events = events_of (step_of code base c).leak ++ (steps_of code base (step_of code base c).after k).events }
unfolding steps_of
first_ran code base k c = refl

regrouped : (front : List Event) (r s : Ran)
    → ◌≡◌ {A = Ran} (record { after = (followed r s).after; events = front ++ (followed r s).events })
    (followed (record { after = r.after; events = front ++ r.events }) s)
regrouped front r s = ap (λ es. record { after = s.after; events = es }) (sym (append_assoc front r.events s.events))

pub steps_both : (code : List ℕ) (base i j : ℕ) (c : Config)
    → steps_of code base c (i + j) ≡ followed (steps_of code base c i) (steps_of code base (steps_of code base c i).after j)
unfolding steps_of
steps_both code base zero j c = let e : zero + j ≡ j = omega arith in ap (steps_of code base c) e
steps_both code base (suc i) j c =
    let e : suc i + j ≡ suc (i + j) = omega arith
    in let next : Config = (step_of code base c).after
    in ap (steps_of code base c) e ∙ first_ran code base (i + j) c
    ∙ ap (λ (r : Ran). record { after = r.after; events = events_of (step_of code base c).leak ++ r.events }) (steps_both code base i j (step_of code base c).after)
    ∙ regrouped (events_of (step_of code base c).leak) (steps_of code base (step_of code base c).after i)
    (steps_of code base (steps_of code base (step_of code base c).after i).after j)
