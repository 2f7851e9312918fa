-- The transformer of a body, of what a run leaks that isn't stuck.
use Rattle.std.proofs.Common.{◌≡◌, ℕ, ◌-◌, ◌≤◌, Bool, List, [], ◌++◌, refl, sym, ap, ◌∙◌, if◌then◌else◌}
use Rattle.x64_insn.specs.declared.types.Place.{Place}
use Rattle.x64_insn.specs.declared.types.Reg.{Reg}
use Rattle.jz_leak.specs.RunLeaks.{Leak}
use Rattle.jz_leak.specs.Applying.{events_for, body_events, last_events, CasesFit}
use Rattle.jz_runs.specs.Rules.{Outcome, End, Cut, Stuck, Goes}
use Rattle.jz_operations.specs.Values.{State}
use Rattle.jz_operations.specs.Rows.{Frame}
use Rattle.jz_placing.specs.Variables.{Body, variables}
use Rattle.jz_placing.specs.Placing.{code_of, numbers, test_numbers, leak_of}
use Rattle.jz_linear.specs.Lines.{cases_of}
use Rattle.jz_stack.specs.Framed.{slot_outs}
use Rattle.jz_stack.proofs.WholeRuns.{slots_fit, last_fits}
use Rattle.jz_events.specs.Cases.{cases_over, transformer_over}
use Rattle.jz_events.specs.Laws.{OfLeak, LeakIsFor, ShowsTheSame}
use Rattle.jz_events.proofs.Showing.{Told, shows}
use Rattle.jz_events.proofs.Fitting.{fits, cut_stays}

module _ (frame : Frame) (slots : ℕ → ℕ) (size at : ℕ) (saved : List Reg) (t : Body) where
  fit : (l : Leak) → CasesFit l (cases_over slots size t) → LeakIsFor slots size at saved t l
  fit l h = record { before = slots_fit size at saved; body = h; after = last_fits _ (slots_fit size at saved) size at saved refl }

  fit_by : (o : Outcome State (Unit {0}) Leak) → Told (λ l. CasesFit l (cases_over slots size t)) o → OfLeak (LeakIsFor slots size at saved t) o
  fit_by (End s n l) h = fit l h
  fit_by (Cut l) h = fit l h
  fit_by (Stuck w) h = tt

  pub all_fit : (n : ℕ) (σ : State) (o : Outcome State (Unit {0}) Leak) → Goes (variables frame) t n σ o → OfLeak (LeakIsFor slots size at saved t) o
  all_fit n σ o g = fit_by o (fits slots size frame g)

  module _ (places : ℕ → Place) where
    abbrev Shown : ℕ → Leak → Type 0
    Shown rsp0 l = body_events l rsp0 (cases_over slots size t) ≡ body_events (leak_of slots (rsp0 - size) t l) rsp0 (cases_of (code_of places slots t))

    whole : (l : Leak) (rsp0 : ℕ) → Shown rsp0 l
        → events_for [] rsp0 (slot_outs size at saved) ++ body_events l rsp0 (cases_over slots size t) ++ last_events l rsp0 (transformer_over slots size at saved t).after
        ≡ events_for [] rsp0 (slot_outs size at saved) ++ body_events (leak_of slots (rsp0 - size) t l) rsp0 (cases_of (code_of places slots t)) ++ last_events (leak_of slots (rsp0 - size) t l) rsp0 (transformer_over slots size at saved t).after
    whole l rsp0 h =
        let before = events_for [] rsp0 (slot_outs size at saved) in
        let after = events_for [] rsp0 (transformer_over slots size at saved t).after in
        let k = leak_of slots (rsp0 - size) t l in
        ap (λ es. before ++ es ++ last_events l rsp0 (transformer_over slots size at saved t).after) h
        ∙ ap (λ (b : Bool). before ++ body_events k rsp0 (cases_of (code_of places slots t)) ++ (if b then [] else after)) (sym (cut_stays (numbers slots (rsp0 - size)) (test_numbers slots (rsp0 - size)) t l))

    show_by : (o : Outcome State (Unit {0}) Leak) → ((rsp0 : ℕ) → size ≤ rsp0 → Told (Shown rsp0) o) → OfLeak (ShowsTheSame slots size at saved t places) o
    show_by (End s n l) h = λ rsp0 le. whole l rsp0 (h rsp0 le)
    show_by (Cut l) h = λ rsp0 le. whole l rsp0 (h rsp0 le)
    show_by (Stuck w) h = tt

    pub all_show : (n : ℕ) (σ : State) (o : Outcome State (Unit {0}) Leak) → Goes (variables frame) t n σ o → OfLeak (ShowsTheSame slots size at saved t places) o
    all_show n σ o g = show_by o (λ rsp0 le. shows frame places slots size rsp0 le g)
