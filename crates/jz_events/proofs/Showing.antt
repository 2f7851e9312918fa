-- The cases of a body give the events that the cases of its instructions give, where cells leak their addresses.
use Rattle.std.proofs.Common.{◌≡◌, ℕ, ◌-◌, ◌≤◌, Bool, true, false, List, ◌++◌, refl, sym, ap, ◌∙◌, if◌then◌else◌}
use Rattle.std.specs.Prelude.{not, ⊤, Some, None}
use Rattle.x64_insn.specs.declared.types.Place.{Place}
use Rattle.jz_leak.specs.declared.event.Event.{Event}
use Rattle.jz_leak.specs.declared.transformer.Case.{Case}
use Rattle.jz_leak.specs.declared.transformer.Case.TheOpen.{Case-F}
use Rattle.jz_leak.specs.declared.transformer.Case.TheViews.{out-Case}
use Rattle.jz_leak.specs.declared.transformer.Case.TheVariants as case
use Rattle.jz_leak.specs.RunLeaks as leak
use Rattle.jz_leak.specs.RunLeaks.{Leak, Turns}
use Rattle.jz_leak.specs.Applying.{Loop, events_for, if_events, while_events, body_events, turns_events}
use Rattle.jz_runs.specs.Trees.{op, quiet, choose, loop}
use Rattle.jz_runs.specs.Rules.{Outcome, End, Cut, Stuck, after, Goes, finished, did, did_not, quieted, chosen, chosen_cut, chosen_stuck, chose_not, loop_left, loop_cut, loop_stuck, counted, counted_cut, counted_stuck, counted_not, call_ended, call_cut, call_stuck, entered_not, left_not, Loops, in_prologue, prologue_stuck, tested_not, leaves_loop, no_turn, in_body, body_stuck, more_turns}
use Rattle.jz_operations.specs.Values.{State}
use Rattle.jz_operations.specs.Rows.{Frame}
use Rattle.jz_placing.specs.Instructions.{Code}
use Rattle.jz_placing.specs.Variables.{Asked, always, asks, Body, variables}
use Rattle.jz_placing.specs.Placing.{test_for, code_of, test_numbers, leak_of}
use Rattle.jz_placing.specs.Renumbering.{on_turns}
use Rattle.jz_linear.specs.Lines as lines
use Rattle.jz_linear.specs.Lines.{cases_of, test_outs}
use Rattle.jz_linear.proofs.Cases.{parts, out_if, out_while}
use Rattle.jz_events.specs.Outs.{asked_outs}
use Rattle.jz_events.specs.Cases.{jump_outs, if_case, while_case, cases_over}
use Rattle.jz_events.proofs.Forms.{operation_shows, test_shows}

abbrev pub Told : {L S W : Type 0} → (L → Type 0) → Outcome S W L → Type 0
Told P (End s n l) = P l
Told P (Cut l) = P l
Told P (Stuck w) = ⊤

pub told_after : {L M S W : Type 0} (f : L → M) (P : L → Type 0) (Q : M → Type 0) → ((l : L) → P l → Q (f l)) → (o : Outcome S W L) → Told P o → Told Q (after f o)
told_after f P Q go (End s n l) h = go l h
told_after f P Q go (Cut l) h = go l h
told_after f P Q go (Stuck w) h = tt

both : {a b c d : List Event} → a ≡ b → c ≡ d → a ++ c ≡ b ++ d
both {b} {c} e f = ap (λ x. x ++ c) e ∙ ap (λ x. b ++ x) f

-- the parts of the case of a `while`
abbrev pub parts_over : (slots : ℕ → ℕ) (size : ℕ) → Body → Asked → Bool → Body → Loop
parts_over slots size p c q b = record {
  prologue = record { cases = cases_over slots size p };
  test = asked_outs slots size c;
  more_outs = jump_outs c q;
  body = record { cases = cases_over slots size b };
  leave_outs = jump_outs c (not q);
}

module _ (frame : Frame) (places : ℕ → Place) (slots : ℕ → ℕ) (size rsp0 : ℕ) (le : size ≤ rsp0) where
  abbrev low : ℕ
  low = rsp0 - size

  abbrev over : Body → List Case
  over = cases_over slots size

  abbrev put : Body → Code
  put = code_of places slots

  abbrev maps : Body → Leak → Leak
  maps = leak_of slots low

  abbrev turn_maps : Body → Asked → Body → Turns → Turns
  turn_maps p c b = on_turns (test_numbers slots low c) (maps p) (maps b)

  -- the jump's event needs no number
  jump_same : (c : Asked) (z : Bool) (ns ms : List ℕ) → events_for ns rsp0 (jump_outs c z) ≡ events_for ms rsp0 (lines.jump_outs (test_for places slots c) z)
  jump_same always z ns ms = refl
  jump_same (asks None k) z ns ms = refl
  jump_same (asks (Some o) k) z ns ms = refl

  same_test : (c : Asked) (ns : List ℕ) → events_for ns rsp0 (asked_outs slots size c) ≡ events_for (test_numbers slots low c ns) rsp0 (test_outs (test_for places slots c))
  same_test c ns = test_shows slots size rsp0 le places c ns

  abbrev SameShown : Body → Leak → Type 0
  SameShown t l = body_events l rsp0 (over t) ≡ body_events (maps t l) rsp0 (cases_of (put t))

  abbrev SameTurns : Body → Asked → Bool → Body → Turns → Type 0
  SameTurns p c q b ts = turns_events ts rsp0 (parts_over slots size p c q b) ≡ turns_events (turn_maps p c b ts) rsp0 (parts (put p) (test_for places slots c) q (put b))

  -- ---- what an `if` shows
  abbrev if_put : Asked → Body → Body → Case
  if_put c a b =
      case.If (test_outs (test_for places slots c)) (lines.jump_outs (test_for places slots c) false) (record { cases = cases_of (put a) }) (lines.jump_outs (test_for places slots c) true) (record { cases = cases_of (put b) })

  if_shows : (c : Asked) (a b : Body) (ns : List ℕ) (z : Bool) (x : Leak) → SameShown (if z then a else b) x
      → if_events rsp0 ns z (body_events x rsp0) (out-Case (if_case slots size c (over a) (over b))) ≡ if_events rsp0 (test_numbers slots low c ns) z (body_events (if z then maps a x else maps b x) rsp0) (out-Case (if_put c a b))
  if_shows c a b ns z x h =
      let ms = test_numbers slots low c ns in
      let t = test_for places slots c in
      ap (if_events rsp0 ns z (body_events x rsp0)) (out_if (asked_outs slots size c) (jump_outs c false) (jump_outs c true) (record { cases = over a }) (record { cases = over b }))
      ∙ by_side z h
      ∙ sym (ap (if_events rsp0 ms z (body_events (if z then maps a x else maps b x) rsp0)) (out_if (test_outs t) (lines.jump_outs t false) (lines.jump_outs t true) (record { cases = cases_of (put a) }) (record { cases = cases_of (put b) })))
    where
      by_side : (z : Bool) → SameShown (if z then a else b) x
          → if_events rsp0 ns z (body_events x rsp0) (Case-F.If (asked_outs slots size c) (jump_outs c false) (record { cases = over a }) (jump_outs c true) (record { cases = over b }))
          ≡ if_events rsp0 (test_numbers slots low c ns) z (body_events (if z then maps a x else maps b x) rsp0)
          (Case-F.If (test_outs (test_for places slots c)) (lines.jump_outs (test_for places slots c) false) (record { cases = cases_of (put a) }) (lines.jump_outs (test_for places slots c) true) (record { cases = cases_of (put b) }))
      by_side true h = both (same_test c ns) (both (jump_same c false ns (test_numbers slots low c ns)) h)
      by_side false h = both (same_test c ns) (both (jump_same c true ns (test_numbers slots low c ns)) h)

  -- ---- what a `while` shows
  abbrev while_put : Body → Asked → Bool → Body → Case
  while_put p c q b =
      case.While (record { cases = cases_of (put p) }) (test_outs (test_for places slots c)) (lines.jump_outs (test_for places slots c) q) (record { cases = cases_of (put b) }) (lines.jump_outs (test_for places slots c) (not q))

  while_shows : (p : Body) (c : Asked) (q : Bool) (b : Body) (ts : Turns) → SameTurns p c q b ts
      → while_events (turns_events ts rsp0) (out-Case (while_case slots size q (over p) c (over b))) ≡ while_events (turns_events (turn_maps p c b ts) rsp0) (out-Case (while_put p c q b))
  while_shows p c q b ts h =
      let t = test_for places slots c in
      ap (while_events (turns_events ts rsp0)) (out_while (record { cases = over p }) (record { cases = over b }) (asked_outs slots size c) (jump_outs c q) (jump_outs c (not q)))
      ∙ h
      ∙ sym (ap (while_events (turns_events (turn_maps p c b ts) rsp0)) (out_while (record { cases = cases_of (put p) }) (record { cases = cases_of (put b) }) (test_outs t) (lines.jump_outs t q) (lines.jump_outs t (not q))))

  -- ---- runs
  abbrev Runs : Body → ℕ → State → Outcome State (Unit {0}) Leak → Type 0
  Runs t n σ o = Goes (variables frame) t n σ o

  mutual
    pub shows : {t : Body} {n : ℕ} {s : State} {o : Outcome State (Unit {0}) Leak} → Goes (variables frame) t n s o → Told (SameShown t) o
    shows finished = refl
    shows (did {o} {r} {ns} {w} q g) = told_after (leak.ran ns) (SameShown r) (SameShown (op o r)) (λ l h. both (operation_shows slots size rsp0 le places o ns) h) w (shows g)
    shows (did_not q) = tt
    shows {t = quiet o r} (quieted {w} g) = shows g
    shows (chosen {c} {a} {b} {r} {ns} {z} {l} {w} q g h) =
        told_after (leak.chose ns z l) (SameShown r) (SameShown (choose c a b r)) (λ k e. both (if_shows c a b ns z l (shows g)) e) w (shows h)
    shows (chosen_cut {c} {a} {b} {ns} {z} {l} q g) = if_shows c a b ns z l (shows g)
    shows (chosen_stuck q g) = tt
    shows (chose_not q) = tt
    shows (loop_left {q} {p} {c} {b} {r} {ts} {w} g h) =
        told_after (leak.looped ts) (SameShown r) (SameShown (loop q p c b r)) (λ k e. both (while_shows p c q b ts (shows_turns g q)) e) w (shows h)
    shows (loop_cut {q} {p} {c} {b} {ts} g) = while_shows p c q b ts (shows_turns g q)
    shows (loop_stuck g) = tt
    shows (counted {f} q g h) = absurd f
    shows (counted_cut {f} q g) = absurd f
    shows (counted_stuck {f} q g) = absurd f
    shows (counted_not {f} q) = absurd f
    shows (call_ended {c} q g k h) = absurd c
    shows (call_cut {c} q g) = absurd c
    shows (call_stuck {c} q g) = absurd c
    shows (entered_not {c} q) = absurd c
    shows (left_not {c} q g k) = absurd c

    shows_turns : {p : Body} {c : Asked} {b : Body} {n : ℕ} {s : State} {o : Outcome State (Unit {0}) Turns} → Loops (variables frame) p c b n s o → (q : Bool) → Told (SameTurns p c q b) o
    shows_turns (in_prologue g) q = shows g
    shows_turns (prologue_stuck g) q = tt
    shows_turns (tested_not g e) q = tt
    shows_turns {c} (leaves_loop {ns} g e) q = both (both (shows g) (same_test c ns)) (jump_same c (not q) ns (test_numbers slots low c ns))
    shows_turns {c} (no_turn {ns} g e) q = both (both (shows g) (same_test c ns)) (jump_same c q ns (test_numbers slots low c ns))
    shows_turns {c} (in_body {ns} g e k) q = both (both (both (shows g) (same_test c ns)) (jump_same c q ns (test_numbers slots low c ns))) (shows k)
    shows_turns (body_stuck g e k) q = tt
    shows_turns {p} {c} {b} (more_turns {ns} {l} {lb} {w} g e k i) q =
        told_after (leak.turn l ns lb) (SameTurns p c q b) (SameTurns p c q b) (λ ts h. both (both (both (both (shows g) (same_test c ns)) (jump_same c q ns (test_numbers slots low c ns))) (shows k)) h) w (shows_turns i q)
