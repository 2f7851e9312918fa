-- What the bytes of a tree do, at every n.
use Rattle.std.proofs.Common.{◌≡◌, ◌≢◌, ℕ, zero, suc, ◌+◌, ◌-◌, ◌*◌, ◌^◌, ◌<◌, ◌≤◌, ◌⊎◌, inl, inr, ⊎_elim, true, false, List, [], ◌∷◌, ◌++◌, length, refl, sym, ap, ◌∙◌, subst, arith, length-append, append-nil}
use Rattle.std.specs.Prelude.{Option, Some, map, slice_index}
use Rattle.std.proofs.Math.Nat.{mul-le-mul_left}
use Rattle.std.proofs.lemmas.Bool.{cases_lt}
use Rattle.x64_insn.specs.declared.types.Insn.TheVariants as insn
use Rattle.x64_insn.specs.declared.types.FaultKind.{FaultKind}
use Rattle.jz_leak.specs.declared.event.Event.{Event}
use Rattle.jz_leak.specs.declared.event.Event.TheVariants as event
use Rattle.jz_leak.specs.RunLeaks.{Leak}
use Rattle.jz_leak.specs.Applying.{body_events}
use Rattle.jz_runs.specs.Rules.{Outcome, End, Cut, Stuck, Goes}
use Rattle.jz_runs.proofs.Steady.{exact, one_outcome, has_outcome}
use Rattle.x64_machine.specs.declared.step.Step.{Step}
use Rattle.x64_machine.specs.declared.step.Step.TheVariants.{Running, Ended, Fault}
use Rattle.x64_decode.specs.declared.Decoded.TheVariants as decoded
use Rattle.x64_machine.specs.Steps.{Config, Moved, Ran, at_entry, insn_at, step_of, events_of, steps_of}
use Rattle.x64_machine.specs.MachineRuns.{followed}
use Rattle.x64_machine.proofs.MachineRunning.{end_stays, steps_both}
use Rattle.jz_linear.specs.declared.line.Line.{Line}
use Rattle.jz_linear.specs.declared.line.Line.TheVariants as line
use Rattle.jz_placing.specs.Instructions.{Machine, Code, instructions}
use Rattle.jz_linear.specs.Plain.{IsPlainCode}
use Rattle.jz_linear.specs.Lines.{lines_of, linear_of, cases_of}
use Rattle.jz_linear.specs.LineRuns.{at_place, instructions_in, place_of, Runs}
use Rattle.jz_linear.proofs.Places.{count, count_both, in_both, HasAt, has_front, has_back, has_all, linear_once}
use Rattle.jz_linear.proofs.Moves.{Went, Follows, went_on, halted, stays_stuck}
use Rattle.jz_linear.proofs.Follow.{follow}
use Rattle.x64_assemble.specs.Assembling.{Wide, line_of, insns_of, assembled, AreSpellable}
use Rattle.x64_assemble.proofs.LineSteps.{made, IsLabel, NoLabels, lines_in, config_in}
use Rattle.x64_assemble.specs.CodeRuns.{Going, EndsAt, NeverFaults}
use Rattle.x64_assemble.proofs.LineRunsOn.{run_on, no_step, returned, CanReturn, going, return_step}

-- ---- what a run of the machine comes to
answers_ended : (code : List ℕ) (base : ℕ) (c : Config) → c.ended ≡ true → (step_of code base c).answer ≡ Ended
unfolding step_of
answers_ended code base c e = rw e refl

module _ (code : List ℕ) (base : ℕ) (c : Config) where
  -- a run that goes on, and then a step that ends it
  then_ends : {k : ℕ} {es : List Event} {d : Config} (m : Moved) → Going code base k c es d → step_of code base d ≡ m → m.after.ended ≡ true → m.answer ≡ Ended → at_entry d ≡ true → EndsAt code base (k + 1) c (es ++ events_of m.leak) m.after
  then_ends {k} {es} {d} m g step ended answer entry =
      let one : steps_of code base d 1 ≡ record { after = m.after; events = events_of m.leak } =
      run_on code base d m 0 step ∙ ap (λ (r : Ran). record { after = r.after; events = events_of m.leak ++ r.events }) (no_step code base m.after) ∙ ap (λ x. record { after = m.after; events = x }) (append-nil (events_of m.leak)) in
      record {
        is = steps_both code base k 1 c ∙ ap (λ (r : Ran). followed r (steps_of code base r.after 1)) g.is ∙ ap (λ (r : Ran). followed (record { after = d; events = es }) r) one;
        ended = ended;
        before = λ j lt. g.opens j (omega (arith, lt));
        answers = λ j lt. g.answers j (omega (arith, lt));
        last = λ j e. let same : k ≡ j = omega (arith, e) in
            ap (λ i. (step_of code base (steps_of code base c i).after).answer) (sym same) ∙ ap (λ (r : Ran). (step_of code base r.after).answer) g.is ∙ ap (λ (x : Moved). x.answer) step ∙ answer;
        returns = λ j len lt e i. return_so j len e i (cases_lt j k) lt;
      }
    where
      return_so : (j len : ℕ) → (steps_of code base c j).after.ended ≡ false → insn_at code base (steps_of code base c j).after.state.rip ≡ decoded.Insn insn.Ret len → (j < k) ⊎ (k ≤ j) → j < k + 1 → at_entry (steps_of code base c j).after ≡ true
      return_so j len e i (inl lt) below = g.returns j len lt e i
      return_so j len e i (inr le) below = let same : k ≡ j = omega (arith, le, below) in ap (λ n. at_entry (steps_of code base c n).after) (sym same) ∙ ap (λ (r : Ran). at_entry r.after) g.is ∙ entry

  running : (s : Step) (f : FaultKind) → s ≡ Running → s ≡ Fault f → ⊥
  running s f a b = cc

  was_ended : (s : Step) (f : FaultKind) → s ≡ Ended → s ≡ Fault f → ⊥
  was_ended s f a b = cc

  past_end : {k : ℕ} {es : List Event} {d : Config} → EndsAt code base k c es d → (j : ℕ) → k ≤ j → (steps_of code base c j).after.ended ≡ true
  past_end {k} {es} {d} e j le =
      let split : k + (j - k) ≡ j = omega (arith, le) in
      let there : (steps_of code base c k).after.ended ≡ true = ap (λ (r : Ran). r.after.ended) e.is ∙ e.ended in
      ap (λ i. (steps_of code base c i).after.ended) (sym split)
      ∙ ap (λ (r : Ran). r.after.ended) (steps_both code base k (j - k) c) ∙ ap (λ (r : Ran). r.after.ended) (end_stays code base (j - k) (steps_of code base c k).after there) ∙ there

  no_fault_ended : {k : ℕ} {es : List Event} {d : Config} → EndsAt code base k c es d → (j : ℕ) (f : FaultKind) → (step_of code base (steps_of code base c j).after).answer ≢ Fault f
  no_fault_ended {k} e j f is = by_order (cases_lt (suc j) k)
    where
      at_or_past : k ≤ suc j → (suc j ≡ k) ⊎ (k ≤ j)
      at_or_past le = ⊎_elim (λ lt. inr (omega (arith, lt))) (λ ge. inl (omega (arith, le, ge))) (cases_lt k (suc j))

      by_order : (suc j < k) ⊎ (k ≤ suc j) → ⊥
      by_order o = ⊎_elim (λ lt. running _ f (e.answers j lt) is)
          (λ le. ⊎_elim (λ same. was_ended _ f (e.last j same) is) (λ past. was_ended _ f (answers_ended code base (steps_of code base c j).after (past_end e j past)) is) (at_or_past le)) o

  no_fault_before : {k : ℕ} {es : List Event} {d : Config} → Going code base k c es d → (j : ℕ) → j < k → (f : FaultKind) → (step_of code base (steps_of code base c j).after).answer ≢ Fault f
  no_fault_before g j lt f is = running _ f (g.answers j lt) is

-- ---- lines of a tree
at_end : {A : Type 0} (xs : List A) (y : A) (k : ℕ) (x : A) → at_place (xs ++ y ∷ []) k ≡ Some x → (suc k < length (xs ++ y ∷ [])) ⊎ (x ≡ y)
at_end [] y zero x e = inr cc
at_end [] y (suc k) x e = absurd cc
at_end (z ∷ xs) y zero x e = inl (omega (arith, length-append xs (y ∷ [])))
at_end (z ∷ xs) y (suc k) x e = ⊎_elim (λ lt. inl (omega (arith, lt))) (λ s. inr s) (at_end xs y k x e)

same_length : (ws : List Wide) → length (map line_of ws) ≡ length ws
same_length [] = refl
same_length (w ∷ ws) = ap suc (same_length ws)

abbrev NoneLabels : List Line → Type 0
NoneLabels [] = Unit {0}
NoneLabels (x ∷ xs) = (IsLabel x → ⊥) × NoneLabels xs

none_labels : (ls : List Line) → NoneLabels (instructions_in ls)
none_labels [] = tt
none_labels (line.Label l ∷ ls) = none_labels ls
none_labels (line.Insn i ∷ ls) = ((λ h. h), none_labels ls)
none_labels (line.Jcc c l ∷ ls) = ((λ h. h), none_labels ls)
none_labels (line.Jmp l ∷ ls) = ((λ h. h), none_labels ls)
none_labels (line.Call l ∷ ls) = ((λ h. h), none_labels ls)

no_labels : (ws : List Wide) → NoneLabels (map line_of ws) → NoLabels ws
no_labels [] h = tt
no_labels (w ∷ ws) h = (h.0, no_labels ws h.1)

-- Bytes of a tree's lines, by any widths for which the displacements have room: s0 is the state in which they are entered.
module _ (t : Code) (ok : IsPlainCode t) (ws : List Wide) (widths : map line_of ws ≡ instructions_in (linear_of t)) (are : AreSpellable (insns_of ws (place_of (linear_of t)))) (base : ℕ) (code : List ℕ)
    (is : code ≡ assembled (insns_of ws (place_of (linear_of t)))) (fits : base + length code ≤ 2 ^ 64) (rsp0 entry_rsp : ℕ) (entry_return : Option ℕ) (s0 : Machine) where
  abbrev place : ℕ → ℕ
  place = place_of (linear_of t)

  abbrev size : ℕ
  size = length ws

  abbrev len : ℕ
  len = count (lines_of t 0)

  abbrev at : ℕ → Machine → Config
  at pc s = config_in ws base entry_rsp entry_return pc s

  size_is : size ≡ len + 1
  size_is = omega (arith, same_length ws, ap length widths, count_both (lines_of t 0) (line.Insn insn.Ret ∷ []))

  nl : NoLabels ws
  nl = no_labels ws (subst NoneLabels (sym widths) (none_labels (linear_of t)))

  last : (k : ℕ) (x : Line) → at_place (map line_of ws) k ≡ Some x → (suc k < length ws) ⊎ (x ≡ line.Insn insn.Ret)
  last k x e =
      let all : map line_of ws ≡ instructions_in (lines_of t 0) ++ line.Insn insn.Ret ∷ [] = widths ∙ in_both (lines_of t 0) (line.Insn insn.Ret ∷ []) in
      let n : length (instructions_in (lines_of t 0) ++ line.Insn insn.Ret ∷ []) ≡ length ws = ap length (sym all) ∙ same_length ws in
      ⊎_elim (λ lt. inl (omega (arith, lt, n))) (λ s. inr s) (at_end (instructions_in (lines_of t 0)) (line.Insn insn.Ret) k x (ap (λ ls. at_place ls k) (sym all) ∙ e))

  has : HasAt (lines_in ws place) 0 (linear_of t)
  has = subst (λ ls. HasAt (record { code = ls; place = place }) 0 (linear_of t)) (sym widths) (has_all (linear_of t) (linear_once t))

  abbrev Follow : ℕ → Outcome Machine FaultKind Leak → Type 0
  Follow n o = Follows (lines_in ws place) size 0 (0 + len) n s0 (λ l. body_events l rsp0 (cases_of t)) o

  all : {n : ℕ} {o : Outcome Machine FaultKind Leak} → Goes instructions t n s0 o → Follow n o
  all g = follow (lines_in ws place) size rsp0 g 0 0 ok (has_front (lines_in ws place) 0 (lines_of t 0) (line.Insn insn.Ret ∷ []) has) (omega (arith, size_is))

  ret_there : at_place (map line_of ws) (0 + len) ≡ Some (line.Insn insn.Ret)
  ret_there = (has_back (lines_in ws place) 0 (lines_of t 0) (line.Insn insn.Ret ∷ []) has).0

  machine : {k pc pc1 : ℕ} {s s1 : Machine} {es : List Event} → Runs (lines_in ws place) k pc s es pc1 s1 → pc1 < size → Going code base k (at pc s) es (at pc1 s1)
  machine g lt = going ws place nl are base code is fits last entry_rsp entry_return g lt

  -- the tree ends: the bytes end within the bound, and show its events and the slot of the return
  pub record Ends (n : ℕ) (s1 : Machine) (l : Leak) : Type 0 where
    pub k : ℕ
    pub within : k ≤ size * (n + 1)
    pub target : ℕ
    pub same : entry_return ≡ Some target
    pub ends : EndsAt code base k (at 0 s0) (body_events l rsp0 (cases_of t) ++ event.Addr (slice_index s1.regs 4) ∷ []) (made (at len s1) true (returned (at len s1) target)).after

  -- the tree wants one more turn: after some steps, at most as many short of n as there are instructions, its events are there
  pub record Halts (n : ℕ) (l : Leak) : Type 0 where
    pub k : ℕ
    pub enough : n ≤ k + size
    pub within : k ≤ size * (n + 1)
    pub there : Config
    pub going_on : Going code base k (at 0 s0) (body_events l rsp0 (cases_of t)) there

  ends_by : (n left : ℕ) (s1 : Machine) (es : List Event) → (w : Went (lines_in ws place) size 0 (0 + len) n s0 es s1 left) → (can : CanReturn entry_rsp entry_return s1)
      → (target : ℕ) × (entry_return ≡ Some target) × EndsAt code base (w.moves.k + 1) (at 0 s0) (es ++ event.Addr (slice_index s1.regs 4) ∷ []) (made (at len s1) true (returned (at len s1) target)).after
  ends_by n left s1 es w can =
      let zero_on : 0 + len ≡ len = omega arith in
      let g : Going code base w.moves.k (at 0 s0) es (at len s1) = subst (λ p. Going code base w.moves.k (at 0 s0) es (at p s1)) zero_on (machine w.moves.goes (omega (arith, size_is))) in
      let r = return_step ws place nl are base code is fits last entry_rsp entry_return len s1 (subst (λ p. at_place (map line_of ws) p ≡ Some (line.Insn insn.Ret)) zero_on ret_there) can in
      (r.target, r.return, then_ends code base (at 0 s0) _ g r.step refl refl r.entry)

  ends_of : (n left : ℕ) (s1 : Machine) (l : Leak) → CanReturn entry_rsp entry_return s1 → Follow n (End s1 left l) → Ends n s1 l
  ends_of n left s1 l can (went_on w) =
      let e = ends_by n left s1 (body_events l rsp0 (cases_of t)) w can in
      let le : w.t ≤ n = omega (arith, w.spent) in
      record { k = w.moves.k + 1; within = omega (arith, size_is, w.moves.most, mul-le-mul_left size le); target = e.0; same = e.1; ends = e.2 }

  halts_of : (n : ℕ) (l : Leak) → Follow n (Cut l) → Halts n l
  halts_of n l (halted h) = record {
    k = h.k;
    enough = omega (arith, size_is, h.least);
    within = omega (arith, size_is, h.most);
    there = at h.pc1 h.s1;
    going_on = machine h.goes (omega (arith, size_is, h.inside));
  }

  pub ends : (n left : ℕ) (s1 : Machine) (l : Leak) → CanReturn entry_rsp entry_return s1 → Goes instructions t n s0 (End s1 left l) → Ends n s1 l
  ends n left s1 l can g = ends_of n left s1 l can (all g)

  pub halts : (n : ℕ) (l : Leak) → Goes instructions t n s0 (Cut l) → Halts n l
  halts n l g = halts_of n l (all g)

  -- ---- where the tree is never stuck, and can return from each state in which it ends
  module _ (safe : (n : ℕ) (w : FaultKind) → Goes instructions t n s0 (Stuck w) → ⊥) (can : (n left : ℕ) (s1 : Machine) (l : Leak) → Goes instructions t n s0 (End s1 left l) → CanReturn entry_rsp entry_return s1) where
    -- with as many turns more as there are instructions
    still_of : (n : ℕ) (l : Leak) → Goes instructions t n s0 (Cut l) → (o : Outcome Machine FaultKind Leak) → Goes instructions t (n + size) s0 o → Follow (n + size) o → (steps_of code base (at 0 s0) n).after.ended ≡ false
    still_of n l e o q (halted h) = (machine h.goes (omega (arith, size_is, h.inside))).opens n (omega (arith, size_is, h.least))
    still_of n l e o q stays_stuck = absurd (safe _ _ q)
    still_of n l e o q (went_on {s'} {left} {l = l1} w) = (machine w.moves.goes (omega (arith, size_is))).opens n (omega (arith, later (exact instructions q)))
      where
        later : (u : ℕ) × (n + size ≡ left + u) × ((m' : ℕ) → Goes instructions t (m' + u) s0 (End s' m' l1)) → n ≤ w.moves.k
        later x = ⊎_elim (λ lt. omega (arith, w.moves.least, w.spent, x.1, lt)) (λ le. absurd (short le)) (cases_lt n x.0)
          where
            cut_is : {a : Leak} {b : Machine} {k : ℕ} {d : Leak} → ◌≡◌ {A = Outcome Machine FaultKind Leak} (Cut a) (End b k d) → ⊥
            cut_is e = cc

            short : x.0 ≤ n → ⊥
            short le =
                let back : n - x.0 + x.0 ≡ n = omega (arith, le) in
                cut_is (one_outcome instructions e (subst (λ k. Goes instructions t k s0 (End s' (n - x.0) l1)) back (x.2 (n - x.0))))

    pub still : (n : ℕ) (l : Leak) → Goes instructions t n s0 (Cut l) → (steps_of code base (at 0 s0) n).after.ended ≡ false
    still n l e = let g = has_outcome instructions t (n + size) s0 in still_of n l e g.0 g.1 (all g.1)

    no_fault_of : (j : ℕ) (f : FaultKind) (o : Outcome Machine FaultKind Leak) → Goes instructions t (j + 1 + size) s0 o → Follow (j + 1 + size) o → (step_of code base (steps_of code base (at 0 s0) j).after).answer ≢ Fault f
    no_fault_of j f o q (halted h) = no_fault_before code base (at 0 s0) (machine h.goes (omega (arith, size_is, h.inside))) j (omega (arith, size_is, h.least)) f
    no_fault_of j f o q stays_stuck = absurd (safe _ _ q)
    no_fault_of j f o q (went_on {s'} {left} {l} w) = no_fault_ended code base (at 0 s0) (ends_by (j + 1 + size) left s' (body_events l rsp0 (cases_of t)) w (can _ _ s' l q)).2 j f

    pub no_fault : NeverFaults code base (at 0 s0)
    no_fault j f = let g = has_outcome instructions t (j + 1 + size) s0 in no_fault_of j f g.0 g.1 (all g.1)
