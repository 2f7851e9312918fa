-- What a body with its frame shows: the slots, the body's events, the slots again.
use Rattle.std.proofs.Common.{◌≡◌, ℕ, ◌+◌, ◌-◌, ◌*◌, ◌^◌, ◌<◌, ◌≤◌, true, false, List, [], ◌∷◌, ◌++◌, length, refl, sym, ap, ◌∙◌, arith, if◌then◌else◌, ◌==◌, append_assoc, append-nil, pos, ◌+ℤ◌, ◌-ℤ◌}
use Rattle.std.specs.Prelude.{not}
use Rattle.std.proofs.lemmas.Int.{ints}
use Rattle.jz_words.specs.declared.size.Size.TheVariants.{S64}
use Rattle.jz_words.specs.Words.{residue}
use Rattle.x64_insn.specs.declared.types.Reg.{Reg}
use Rattle.jz_leak.specs.declared.event.Event.{Event}
use Rattle.jz_leak.specs.declared.event.Event.TheVariants as event
use Rattle.jz_leak.specs.declared.transformer.Form.TheVariants as form
use Rattle.jz_leak.specs.declared.transformer.Out.{Out}
use Rattle.jz_leak.specs.declared.transformer.Out.TheVariants as out
use Rattle.jz_leak.specs.declared.transformer.Case.{Case}
use Rattle.jz_leak.specs.RunLeaks as leak
use Rattle.jz_leak.specs.RunLeaks.{Leak}
use Rattle.jz_leak.specs.declared.transformer.Case.TheVariants as case
use Rattle.jz_leak.specs.declared.transformer.Case.TheViews.{out-Case}
use Rattle.jz_leak.specs.Applying.{is_cut, event_of, op_events, if_events, while_events, for_events, call_events, turns_events, rounds_events, events_for, body_events, last_events, apply_of, CasesFit}
use Rattle.jz_runs.specs.Trees.{done, op, quiet, choose, loop, each, call}
use Rattle.jz_placing.specs.Instructions.{Code}
use Rattle.jz_linear.specs.Lines.{outs_of, test_outs, jump_outs, cases_of}
use Rattle.jz_stack.specs.Framed.{then_tree, join, saves, loads, down, up, framed, slot_outs, framed_tr}
use Rattle.jz_stack.proofs.Joined.{join_events}
use Rattle.jz_stack.proofs.Prologue.{slots_leak}

-- the events of the slots
abbrev pub slot_events : ℕ → ℕ → List Reg → List Event
slot_events low at [] = []
slot_events low at (r ∷ rs) = event.Addr (low + at) ∷ slot_events low (at + 8) rs

-- a form that counts from the entry gives the slot's address
slot_number : (rsp0 size at : ℕ) → size ≤ rsp0 → rsp0 < 2 ^ 64 → at < size → residue S64 (pos rsp0 +ℤ (pos at -ℤ pos size)) ≡ rsp0 - size + at
slot_number rsp0 size at le lt in' =
    let e : pos rsp0 +ℤ (pos at -ℤ pos size) ≡ pos (rsp0 - size + at) = omega (arith, ints, le) in
    ap (residue S64) e ∙ omega (arith, le, lt, in')

pub slots_shown : (rs : List Reg) (rsp0 size at : ℕ) → size ≤ rsp0 → rsp0 < 2 ^ 64 → at + 8 * length rs ≤ size → events_for [] rsp0 (slot_outs size at rs) ≡ slot_events (rsp0 - size) at rs
slots_shown [] rsp0 size at le lt room = refl
slots_shown (r ∷ rs) rsp0 size at le lt room =
    ap (λ a. event.Addr a ∷ events_for [] rsp0 (slot_outs size (at + 8) rs)) (slot_number rsp0 size at le lt (omega (arith, room)))
    ∙ ap (λ es. event.Addr (rsp0 - size + at) ∷ es) (slots_shown rs rsp0 size (at + 8) le lt (omega (arith, room)))

-- ---- accesses of the prologue and of the epilogue
saves_shown : (rs : List Reg) (low at : ℕ) (t : Code) (l : Leak) (rsp0 : ℕ) → body_events (slots_leak low at rs l) rsp0 (cases_of (saves at rs t)) ≡ slot_events low at rs ++ body_events l rsp0 (cases_of t)
saves_shown [] low at t l rsp0 = refl
saves_shown (r ∷ rs) low at t l rsp0 = ap (λ es. event.Addr (low + at) ∷ es) (saves_shown rs low (at + 8) t l rsp0)

loads_shown : (rs : List Reg) (low at : ℕ) (t : Code) (l : Leak) (rsp0 : ℕ) → body_events (slots_leak low at rs l) rsp0 (cases_of (loads at rs t)) ≡ slot_events low at rs ++ body_events l rsp0 (cases_of t)
loads_shown [] low at t l rsp0 = refl
loads_shown (r ∷ rs) low at t l rsp0 = ap (λ es. event.Addr (low + at) ∷ es) (loads_shown rs low (at + 8) t l rsp0)

pub cases_both : (a b : Code) → cases_of (then_tree a b) ≡ cases_of a ++ cases_of b
cases_both done b = refl
cases_both (op i r) b = ap (λ cs. case.Op (outs_of i) ∷ cs) (cases_both r b)
cases_both (quiet i r) b = cases_both r b
cases_both (choose c x y r) b =
    ap (λ cs. case.If (test_outs c) (jump_outs c false) (record { cases = cases_of x }) (jump_outs c true) (record { cases = cases_of y }) ∷ cs) (cases_both r b)
cases_both (loop q p c y r) b =
    ap (λ cs. case.While (record { cases = cases_of p }) (test_outs c) (jump_outs c q) (record { cases = cases_of y }) (jump_outs c (not q)) ∷ cs) (cases_both r b)
cases_both (each f y r) b = absurd f
cases_both (call c y r) b = absurd c

-- a cut leak does not reach what stands behind
cut_events : (l : Leak) (rsp0 : ℕ) (cs ds : List Case) → is_cut l ≡ true → CasesFit l cs → body_events l rsp0 (cs ++ ds) ≡ body_events l rsp0 cs
cut_events leak.over rsp0 cs ds u f = absurd cc
cut_events (leak.ran ns a) rsp0 (c ∷ cs) ds u f = ap (λ x. op_events rsp0 ns c ++ x) (cut_events a rsp0 cs ds u f.1)
cut_events (leak.chose ns z b a) rsp0 (c ∷ cs) ds u f = ap (λ x. if_events rsp0 ns z (body_events b rsp0) (out-Case c) ++ x) (cut_events a rsp0 cs ds u f.2)
cut_events (leak.chose_cut ns z b) rsp0 (c ∷ cs) ds u f = refl
cut_events (leak.looped ts a) rsp0 (c ∷ cs) ds u f = ap (λ x. while_events (turns_events ts rsp0) (out-Case c) ++ x) (cut_events a rsp0 cs ds u f.2)
cut_events (leak.looped_cut ts) rsp0 (c ∷ cs) ds u f = refl
cut_events (leak.each rs a) rsp0 (c ∷ cs) ds u f = ap (λ x. for_events (rounds_events rs rsp0) (out-Case c) ++ x) (cut_events a rsp0 cs ds u f.2)
cut_events (leak.each_cut rs) rsp0 (c ∷ cs) ds u f = refl
cut_events (leak.called ns b ms a) rsp0 (c ∷ cs) ds u f = ap (λ x. call_events rsp0 ns ms (body_events b rsp0) (out-Case c) ++ x) (cut_events a rsp0 cs ds u f.2)
cut_events (leak.called_cut ns b) rsp0 (c ∷ cs) ds u f = refl
cut_events (leak.ran ns a) rsp0 [] ds u f = absurd f
cut_events (leak.chose ns z b a) rsp0 [] ds u f = absurd f
cut_events (leak.chose_cut ns z b) rsp0 [] ds u f = absurd f
cut_events (leak.looped ts a) rsp0 [] ds u f = absurd f
cut_events (leak.looped_cut ts) rsp0 [] ds u f = absurd f
cut_events (leak.each rs a) rsp0 [] ds u f = absurd f
cut_events (leak.each_cut rs) rsp0 [] ds u f = absurd f
cut_events (leak.called ns b ms a) rsp0 [] ds u f = absurd f
cut_events (leak.called_cut ns b) rsp0 [] ds u f = absurd f

module _ (size at : ℕ) (saved : List Reg) (rsp0 : ℕ) (some : (size == 0) ≡ false) (le : size ≤ rsp0) (lt : rsp0 < 2 ^ 64) (room : at + 8 * length saved ≤ size) (body : Code) where
  abbrev low : ℕ
  low = rsp0 - size

  abbrev epilogue : Code
  epilogue = loads at saved (op (up size) done)

  abbrev slots : List Event
  slots = slot_events low at saved

  framed_cases : cases_of (framed size at saved body) ≡ cases_of (op (down size) (saves at saved (then_tree body epilogue)))
  framed_cases = ap (λ b. cases_of (if b then body else op (down size) (saves at saved (then_tree body epilogue)))) some

  prologue_shown : (l : Leak) → body_events (leak.ran [] (slots_leak low at saved l)) rsp0 (cases_of (framed size at saved body)) ≡ slots ++ body_events l rsp0 (cases_of body ++ cases_of epilogue)
  prologue_shown l =
      ap (body_events (leak.ran [] (slots_leak low at saved l)) rsp0) framed_cases ∙ saves_shown saved low at (then_tree body epilogue) l rsp0
      ∙ ap (λ cs. slots ++ body_events l rsp0 cs) (cases_both body epilogue)

  tail_shown : body_events (slots_leak low at saved (leak.ran [] leak.over)) rsp0 (cases_of epilogue) ≡ slots
  tail_shown = loads_shown saved low at (op (up size) done) (leak.ran [] leak.over) rsp0 ∙ append-nil slots

  entry_number : residue S64 (pos rsp0 +ℤ pos 0) ≡ rsp0
  entry_number = omega (arith, lt)

  last_shown : (l : Leak) → is_cut l ≡ false → last_events l rsp0 (slot_outs size at saved ++ out.Addr (form.Frame (pos 0)) ∷ []) ≡ slots ++ event.Addr rsp0 ∷ []
  last_shown l u =
      ap (λ b. if b then [] else events_for [] rsp0 (slot_outs size at saved ++ out.Addr (form.Frame (pos 0)) ∷ [])) u
      ∙ both (slot_outs size at saved) ∙ ap (λ es. es ++ event.Addr (residue S64 (pos rsp0 +ℤ pos 0)) ∷ []) (slots_shown saved rsp0 size at le lt room) ∙ ap (λ a. slots ++ event.Addr a ∷ []) entry_number
    where
      both : (os : List Out) → events_for [] rsp0 (os ++ out.Addr (form.Frame (pos 0)) ∷ []) ≡ events_for [] rsp0 os ++ event.Addr (residue S64 (pos rsp0 +ℤ pos 0)) ∷ []
      both [] = refl
      both (o ∷ os) = ap (λ es. event_of [] rsp0 o ∷ es) (both os)

  -- the body ends: the transformer of the framed function gives what its code shows, and the slot of the return
  pub end_shown : (l : Leak) → is_cut l ≡ false → CasesFit l (cases_of body)
      → body_events (leak.ran [] (slots_leak low at saved (join l (slots_leak low at saved (leak.ran [] leak.over))))) rsp0 (cases_of (framed size at saved body)) ++ event.Addr rsp0 ∷ [] ≡ apply_of (framed_tr size at saved (cases_of body)) l rsp0
  end_shown l u f =
      let inner = join_events l (slots_leak low at saved (leak.ran [] leak.over)) rsp0 (cases_of body) (cases_of epilogue) u f ∙ ap (λ es. body_events l rsp0 (cases_of body) ++ es) tail_shown in
      let first = slots_shown saved rsp0 size at le lt room in
      ap (λ es. es ++ event.Addr rsp0 ∷ []) (prologue_shown (join l (slots_leak low at saved (leak.ran [] leak.over))) ∙ ap (λ es. slots ++ es) inner)
      ∙ order slots (body_events l rsp0 (cases_of body)) slots (event.Addr rsp0 ∷ [])
      ∙ ap (λ es. slots ++ body_events l rsp0 (cases_of body) ++ es) (sym (last_shown l u))
      ∙ ap (λ es. es ++ body_events l rsp0 (cases_of body) ++ last_events l rsp0 (slot_outs size at saved ++ out.Addr (form.Frame (pos 0)) ∷ [])) (sym first)
    where
      order : (a b d e : List Event) → (a ++ (b ++ d)) ++ e ≡ a ++ b ++ (d ++ e)
      order a b d e = ap (λ x. x ++ e) (sym (append_assoc a b d)) ∙ append_assoc (a ++ b) d e

  -- the body is cut
  pub cut_shown : (l : Leak) → is_cut l ≡ true → CasesFit l (cases_of body)
      → body_events (leak.ran [] (slots_leak low at saved l)) rsp0 (cases_of (framed size at saved body)) ≡ apply_of (framed_tr size at saved (cases_of body)) l rsp0
  cut_shown l u f =
      let first = slots_shown saved rsp0 size at le lt room in
      prologue_shown l ∙ ap (λ es. slots ++ es) (cut_events l rsp0 (cases_of body) (cases_of epilogue) u f)
      ∙ sym (append-nil (slots ++ body_events l rsp0 (cases_of body)))
      ∙ ap (λ b. slots ++ body_events l rsp0 (cases_of body) ++ (if b then [] else events_for [] rsp0 (slot_outs size at saved ++ out.Addr (form.Frame (pos 0)) ∷ []))) (sym u)
      ∙ ap (λ es. es ++ body_events l rsp0 (cases_of body) ++ last_events l rsp0 (slot_outs size at saved ++ out.Addr (form.Frame (pos 0)) ∷ [])) (sym first)
