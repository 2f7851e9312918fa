-- The lines follow the tree, by induction on the run.
use Rattle.std.proofs.Common.{◌≡◌, ℕ, suc, ◌+◌, ◌<◌, ◌≤◌, Bool, true, false, List, [], ◌∷◌, ◌++◌, refl, sym, ap, ◌∙◌, subst, arith, append_assoc, append-nil, if◌then◌else◌}
use Rattle.std.specs.Prelude.{Option, Some, None, Result, Ok, Err, not}
use Rattle.x64_insn.specs.declared.types.Insn.{Insn}
use Rattle.x64_insn.specs.declared.types.Cond.{Cond}
use Rattle.x64_insn.specs.declared.types.FaultKind.{FaultKind}
use Rattle.x64_insn.specs.Rows.{After, effect_of, holds, of_one}
use Rattle.jz_leak.specs.declared.event.Event.{Event}
use Rattle.jz_leak.specs.declared.event.Event.TheVariants as event
use Rattle.jz_leak.specs.declared.transformer.Out.{Out}
use Rattle.jz_leak.specs.declared.transformer.Case.TheViews.{out-Case}
use Rattle.jz_leak.specs.declared.transformer.Case.TheVariants as case
use Rattle.jz_leak.specs.RunLeaks as leak
use Rattle.jz_leak.specs.RunLeaks.{Leak, Turns}
use Rattle.jz_leak.specs.Applying.{events_for, body_events, turns_events, if_events, while_events}
use Rattle.jz_runs.specs.Trees.{done, op, quiet, choose, loop, each, call}
use Rattle.jz_runs.specs.Rules.{Attempt, stuck, went, Outcome, End, Cut, Goes, finished, did, did_not, quieted, chosen, chosen_cut, chosen_stuck, chose_not, loop_left, loop_cut, loop_stuck, counted, counted_cut, counted_stuck, counted_not, call_ended, call_cut, call_stuck, entered_not, left_not, Loops, in_prologue, prologue_stuck, tested_not, leaves_loop, no_turn, in_body, body_stuck, more_turns}
use Rattle.jz_linear.specs.declared.line.Line.{Line}
use Rattle.jz_linear.specs.declared.line.Line.TheVariants as line
use Rattle.jz_placing.specs.Instructions.{Machine, machine_of, numbers_of, by_effect, does, Test, always, if_holds, answer, answer_behind, tests, state_behind, settled, Code, instructions}
use Rattle.jz_linear.specs.Plain.{state_at, IsPlain, IsPlainTest, HasForm, IsPlainCode}
use Rattle.jz_linear.specs.Lines.{negated, labels_in, is_empty, test_lines, choice_lines, loop_lines, lines_of, outs_of, compared_outs, test_outs, jump_outs, cases_of}
use Rattle.jz_linear.specs.LineRuns.{at_place, Resolved, executed, jumped, taken, passed, Runs, stops, runs}
use Rattle.jz_linear.proofs.PlainInsns.{negated_holds, shown_by}
use Rattle.jz_linear.proofs.Cases.{parts, out_if, out_while}
use Rattle.jz_linear.proofs.Places.{count, count_both, HasAt, has_front, has_back}
use Rattle.jz_linear.proofs.Moves.{runs_both, Moves, rest_here, forward, backward, moves_both, moves_as, Halted, Follows, went_on, halted, stays_stuck, went_of, halted_of, ends_at, lead_halted, lead_follows}

-- ---- what an attempt says
pub did_so : (r : Result After FaultKind) (ns : List ℕ) (s1 : Machine) → by_effect r ≡ went ns s1 → (a : After) × (r ≡ Ok a) × (numbers_of a.leak ≡ ns) × (machine_of a ≡ s1)
did_so (Ok a) ns s1 e = (a, refl, cc, cc)
did_so (Err f) ns s1 e = absurd cc

told_so : (ms ns : List ℕ) (o : Option Bool) (z : Bool) → answer ms o ≡ went ns z → (o ≡ Some z) × (ms ≡ ns)
told_so ms ns None z e = absurd cc
told_so ms ns (Some b) z e = (cc, cc)

pub answered_so : (k : Cond) (x : Attempt FaultKind Machine) (ns : List ℕ) (z : Bool) → answer_behind k x ≡ went ns z → (s1 : Machine) × (x ≡ went ns s1) × (holds k (state_at s1 0) ≡ Some z)
answered_so k (stuck f) ns z e = absurd cc
answered_so k (went ms s) ns z e = let t = told_so ms ns (holds k (state_at s 0)) z e in (s, ap (λ n. went n s) t.1, t.0)

module _ (c : Resolved) (size rsp0 : ℕ) where
  abbrev shown : List ℕ → List Out → List Event
  shown ns outs = events_for ns rsp0 outs

  pub insn_moves : (i : Insn) (s s1 : Machine) (ns : List ℕ) (pc : ℕ) → IsPlain i → at_place c.code pc ≡ Some (line.Insn i) → does i s ≡ went ns s1 → Moves c size 0 pc s (shown ns (outs_of i)) (pc + 1) s1
  insn_moves i s s1 ns pc plain at e =
      let d = did_so (effect_of i 0 (state_at s 0) s.memory) ns s1 e in
      let m : Moves c size 0 pc s _ (pc + 1) (machine_of d.0) = forward (executed i d.0 at plain.0 d.1) (omega arith) in
      let es = (shown_by i 0 (state_at s 0) s.memory d.0 plain.0 d.1).events rsp0 ∙ ap (λ n. shown n (outs_of i)) d.2 in
      subst (λ t. Moves c size 0 pc s (shown ns (outs_of i)) (pc + 1) t) d.3 (moves_as m refl es refl)

  -- the instruction of a test, and the answer behind it
  record Compared (i : Option Insn) (k : Cond) (s : Machine) (ns : List ℕ) (z : Bool) (pc : ℕ) : Type 0 where
    moves : Moves c size 0 pc s (shown ns (compared_outs i)) (pc + count (test_lines i)) (settled (if_holds i k) s)
    answer : holds k (state_at (settled (if_holds i k) s) 0) ≡ Some z

  test_moves : (i : Option Insn) (k : Cond) (s : Machine) (ns : List ℕ) (z : Bool) (pc : ℕ) → IsPlainTest (if_holds i k) → HasAt c pc (test_lines i) → tests (if_holds i k) s ≡ went ns z → Compared i k s ns z pc
  test_moves None k s ns z pc is has e = let t = told_so [] ns (holds k (state_at s 0)) z e in record { moves = moves_as (rest_here pc s) refl refl (omega arith); answer = t.0 }
  test_moves (Some i) k s ns z pc is has e =
      let t = answered_so k (does i s) ns z e in
      let same : t.0 ≡ state_behind s (does i s) = sym (ap (state_behind s) t.1) in
      record {
        moves = subst (λ x. Moves c size 0 pc s (shown ns (outs_of i)) (pc + 1) x) same (insn_moves i s t.0 ns pc is has.0 t.1);
        answer = subst (λ x. holds k (state_at x 0) ≡ Some z) same t.2;
      }

  turned : (k : Cond) (s : Machine) (z : Bool) → holds k (state_at s 0) ≡ Some z → holds (negated k) (state_at s 0) ≡ Some (not z)
  turned k s z e = negated_holds k (state_at s 0) ∙ ap (of_one not) e

  -- ---- a loop
  -- how its body is entered: at its place, or, where there is none, at the loop's start again
  data Entry (pc pe end : ℕ) (t : Test) (q : Bool) (nb : ℕ) : Code → Type 0 where
    body_at : {b : Code} (pb : ℕ) → HasAt c pb (lines_of b nb) → pb + count (lines_of b nb) < size → pb + count (lines_of b nb) ≤ end → pe + count (lines_of b nb) + 1 ≤ end →
        ((s : Machine) (ns : List ℕ) → tests t s ≡ went ns true → Moves c size 0 pe s (shown ns (test_outs t) ++ shown ns (jump_outs t q)) pb (settled t s)) →
        ((s : Machine) → Moves c size 1 (pb + count (lines_of b nb)) s [] pc s) → Entry pc pe end t q nb b
    direct :
        ((s : Machine) (ns : List ℕ) → tests t s ≡ went ns true → Moves c size 1 pe s (shown ns (test_outs t) ++ shown ns (jump_outs t q)) pc (settled t s)) → Entry pc pe end t q nb done

  -- a loop's code from pc to end
  record LoopAt (pc end : ℕ) (p : Code) (np : ℕ) (t : Test) (q : Bool) (b : Code) (nb : ℕ) : Type 0 where
    prologue : HasAt c pc (lines_of p np)
    within : pc + count (lines_of p np) < size
    till : pc + count (lines_of p np) < end
    leave : (s : Machine) (ns : List ℕ) → tests t s ≡ went ns false → Moves c size 0 (pc + count (lines_of p np)) s (shown ns (test_outs t) ++ shown ns (jump_outs t (not q))) end (settled t s)
    halt : (s : Machine) (ns : List ℕ) → tests t s ≡ went ns true → Halted c size (pc + count (lines_of p np)) end 0 s (shown ns (test_outs t) ++ shown ns (jump_outs t q))
    entry : Entry pc (pc + count (lines_of p np)) end t q nb b

  -- a stretch alone, where no turn is left
  halts : {pc pc1 pc' : ℕ} {s s1 : Machine} {es : List Event} → Moves c size 0 pc s es pc1 s1 → pc1 < pc' → pc ≤ pc' → Halted c size pc pc' 0 s es
  halts m lt le = record { k = m.k; pc1 = _; s1 = _; goes = m.goes; most = omega (arith, m.most, lt); least = omega (arith, le); inside = lt }

  always_at : (p : Code) (np : ℕ) (q : Bool) (b : Code) (nb n pc : ℕ) → HasAt c pc (loop_lines q always n (lines_of p np) (lines_of b nb)) → pc + count (lines_of p np) + count (lines_of b nb) < size
      → LoopAt pc (pc + count (lines_of p np) + count (lines_of b nb) + 1) p np always q b nb
  always_at p np q b nb n pc has lt =
      let lp = lines_of p np in
      let lb = lines_of b nb in
      let pe = pc + count lp in
      let rest = has_back c pc lp (lb ++ line.Jmp n ∷ []) has.1 in
      let back = has_back c pe lb (line.Jmp n ∷ []) rest in
      let head : c.place n ≡ pc = has.0 in
      record {
        prologue = has_front c pc lp (lb ++ line.Jmp n ∷ []) has.1;
        within = omega (arith, lt);
        till = omega arith;
        leave = λ s ns e. absurd (cc);
        halt = λ s ns e. halts (rest_here pe s) (omega arith) (omega arith);
        entry = body_at pe (has_front c pe lb (line.Jmp n ∷ []) rest) lt (omega arith) (omega arith) (λ s ns e. rest_here pe s)
            (λ s. subst (λ x. Moves c size 1 (pe + count lb) s [] x s) head (backward (jumped n back.0) lt));
      }

  body_form_at : (p : Code) (np : ℕ) (i : Option Insn) (k : Cond) (b : Code) (nb n pc : ℕ) → IsPlainTest (if_holds i k) → HasAt c pc (loop_lines false (if_holds i k) n (lines_of p np) (lines_of b nb))
      → pc + count (lines_of p np) + count (test_lines i) + 1 + count (lines_of b nb) < size
      → LoopAt pc (pc + count (lines_of p np) + count (test_lines i) + 1 + count (lines_of b nb) + 1) p np (if_holds i k) false b nb
  body_form_at p np i k b nb n pc is has lt =
      let lp = lines_of p np in
      let lb = lines_of b nb in
      let pe = pc + count lp in
      let pt = pe + count (test_lines i) in
      let tail = line.Jcc (negated k) (n + 1) ∷ (lb ++ line.Jmp n ∷ line.Label (n + 1) ∷ []) in
      let rest = has_back c pc lp (test_lines i ++ tail) has.1 in
      let test_here = has_front c pe (test_lines i) tail rest in
      let jump = has_back c pe (test_lines i) tail rest in
      let back = has_back c (pt + 1) lb (line.Jmp n ∷ line.Label (n + 1) ∷ []) jump.1 in
      let head : c.place n ≡ pc = has.0 in
      let exit : c.place (n + 1) ≡ pt + 1 + count lb + 1 = back.1.0 in
      let enter : (s : Machine) (ns : List ℕ) → tests (if_holds i k) s ≡ went ns true → Moves c size 0 pe s (shown ns (compared_outs i) ++ event.Branch false ∷ []) (pt + 1) (settled (if_holds i k) s) =
      (λ s ns e. let t = test_moves i k s ns true pe is test_here e in
      moves_both t.moves (forward (passed (negated k) (n + 1) jump.0 (turned k (settled (if_holds i k) s) true t.answer)) (omega arith))) in
      record {
        prologue = has_front c pc lp (test_lines i ++ tail) has.1;
        within = omega (arith, lt);
        till = omega arith;
        leave = λ s ns e. let t = test_moves i k s ns false pe is test_here e in
            moves_as (moves_both t.moves (forward (taken (negated k) (n + 1) jump.0 (turned k (settled (if_holds i k) s) false t.answer)) (omega (arith, exit)))) refl refl exit;
        halt = λ s ns e. halts (enter s ns e) (omega arith) (omega arith);
        entry = body_at (pt + 1) (has_front c (pt + 1) lb (line.Jmp n ∷ line.Label (n + 1) ∷ []) jump.1) lt (omega arith) (omega arith) enter
            (λ s. subst (λ x. Moves c size 1 (pt + 1 + count lb) s [] x s) head (backward (jumped n back.0) lt));
      }

  third_form_at : (p : Code) (np : ℕ) (i : Option Insn) (k : Cond) (nb n pc : ℕ) → IsPlainTest (if_holds i k) → HasAt c pc (loop_lines true (if_holds i k) n (lines_of p np) [])
      → pc + count (lines_of p np) + count (test_lines i) < size
      → LoopAt pc (pc + count (lines_of p np) + count (test_lines i) + 1) p np (if_holds i k) true done nb
  third_form_at p np i k nb n pc is has lt =
      let lp = lines_of p np in
      let pe = pc + count lp in
      let pt = pe + count (test_lines i) in
      let tail = line.Jcc k n ∷ [] in
      let rest = has_back c pc lp (test_lines i ++ tail) has.1 in
      let test_here = has_front c pe (test_lines i) tail rest in
      let jump = has_back c pe (test_lines i) tail rest in
      let head : c.place n ≡ pc = has.0 in
      let enter : (s : Machine) (ns : List ℕ) → tests (if_holds i k) s ≡ went ns true → Moves c size 1 pe s (shown ns (compared_outs i) ++ event.Branch true ∷ []) pc (settled (if_holds i k) s) =
      (λ s ns e. let t = test_moves i k s ns true pe is test_here e in
      moves_as (moves_both t.moves (backward (taken k n jump.0 t.answer) lt)) (omega arith) refl head) in
      record {
        prologue = has_front c pc lp (test_lines i ++ tail) has.1;
        within = omega (arith, lt);
        till = omega arith;
        leave = λ s ns e. let t = test_moves i k s ns false pe is test_here e in
            moves_both t.moves (forward (passed k n jump.0 t.answer) (omega arith));
        halt = λ s ns e. let t = test_moves i k s ns true pe is test_here e in record {
          k = t.moves.k + 1;
          pc1 = pc;
          s1 = settled (if_holds i k) s;
          goes = subst (λ x. Runs c (t.moves.k + 1) pe s (shown ns (compared_outs i) ++ event.Branch true ∷ []) x (settled (if_holds i k) s)) head (runs_both t.moves.goes (runs (taken k n jump.0 t.answer) stops));
          most = omega (arith, t.moves.most);
          least = omega arith;
          inside = omega arith;
        };
        entry = direct enter;
      }

  loop_at : (q : Bool) (p : Code) (np : ℕ) (t : Test) (b : Code) (nb n pc : ℕ) → IsPlainTest t → HasForm q b → HasAt c pc (loop_lines q t n (lines_of p np) (lines_of b nb))
      → pc + count (loop_lines q t n (lines_of p np) (lines_of b nb)) < size
      → LoopAt pc (pc + count (loop_lines q t n (lines_of p np) (lines_of b nb))) p np t q b nb
  loop_at q p np always b nb n pc is form has lt =
      let lp = lines_of p np in
      let lb = lines_of b nb in
      let len : pc + count lp + count lb + 1 ≡ pc + count (loop_lines q always n lp lb) = omega (arith, count_both lp (lb ++ line.Jmp n ∷ []), count_both lb (line.Jmp n ∷ [])) in
      subst (λ e. LoopAt pc e p np always q b nb) len (always_at p np q b nb n pc has (omega (arith, lt, len)))
  loop_at false p np (if_holds i k) b nb n pc is form has lt =
      let lp = lines_of p np in
      let lb = lines_of b nb in
      let back = line.Jmp n ∷ line.Label (n + 1) ∷ [] in
      let tail = line.Jcc (negated k) (n + 1) ∷ (lb ++ back) in
      let len : pc + count lp + count (test_lines i) + 1 + count lb + 1 ≡ pc + count (loop_lines false (if_holds i k) n lp lb) = omega (arith, count_both lp (test_lines i ++ tail), count_both (test_lines i) tail, count_both lb back) in
      subst (λ e. LoopAt pc e p np (if_holds i k) false b nb) len (body_form_at p np i k b nb n pc is has (omega (arith, lt, len)))
  loop_at true p np (if_holds i k) done nb n pc is form has lt =
      let lp = lines_of p np in
      let tail = line.Jcc k n ∷ [] in
      let len : pc + count lp + count (test_lines i) + 1 ≡ pc + count (loop_lines true (if_holds i k) n lp []) = omega (arith, count_both lp (test_lines i ++ tail), count_both (test_lines i) tail) in
      subst (λ e. LoopAt pc e p np (if_holds i k) true done nb) len (third_form_at p np i k nb n pc is has (omega (arith, lt, len)))
  loop_at true p np (if_holds i k) _ nb n pc is form has lt = absurd form

  -- ---- a choice
  -- the side that is taken: where it stands
  record Side (i : Option Insn) (k : Cond) (arm : Code) (m pc : ℕ) (s : Machine) (ns : List ℕ) (jumps : Bool) (next : ℕ) : Type 0 where
    from : ℕ
    room : pc + (from + count (lines_of arm m)) ≤ from + next
    le : pc ≤ from
    till : from + count (lines_of arm m) ≤ next
    enter : Moves c size 0 pc s (shown ns (compared_outs i) ++ event.Branch jumps ∷ []) from (settled (if_holds i k) s)
    has : HasAt c from (lines_of arm m)
    leave : (s1 : Machine) → Moves c size 0 (from + count (lines_of arm m)) s1 [] next s1

  empty_count : (b : Code) (n : ℕ) → is_empty b ≡ true → count (lines_of b n) ≡ 0
  empty_count done n e = refl
  empty_count (quiet i r) n e = empty_count r n e
  empty_count (op i r) n e = absurd cc
  empty_count (choose t a b r) n e = absurd cc
  empty_count (loop q p t b r) n e = absurd cc
  empty_count (each f b r) n e = absurd cc
  empty_count (call f b r) n e = absurd cc

  choice_count : (i : Option Insn) (k : Cond) (n : ℕ) (e : Bool) (la lb : List Line) → count (choice_lines (if_holds i k) n e la lb) ≡ count (test_lines i) + 1 + count la + (if e then 0 else 1) + count lb
  choice_count i k n true la lb = omega (arith, count_both (test_lines i) (line.Jcc (negated k) n ∷ (la ++ line.Label n ∷ lb)), count_both la (line.Label n ∷ lb))
  choice_count i k n false la lb =
      omega (arith, count_both (test_lines i) (line.Jcc (negated k) n ∷ (la ++ line.Jmp (n + 1) ∷ line.Label n ∷ (lb ++ line.Label (n + 1) ∷ []))), count_both la (line.Jmp (n + 1) ∷ line.Label n ∷ (lb ++ line.Label (n + 1) ∷ [])), count_both lb (line.Label (n + 1) ∷ []))

  side : (i : Option Insn) (k : Cond) (n : ℕ) (a : Code) (na : ℕ) (b : Code) (nb pc : ℕ) (s : Machine) (ns : List ℕ) (z e : Bool) → is_empty b ≡ e → IsPlainTest (if_holds i k)
      → HasAt c pc (choice_lines (if_holds i k) n e (lines_of a na) (lines_of b nb)) → tests (if_holds i k) s ≡ went ns z
      → Side i k (if z then a else b) (if z then na else nb) pc s ns (not z) (pc + count (choice_lines (if_holds i k) n e (lines_of a na) (lines_of b nb)))
  side i k n a na b nb pc s ns true true empty is has e =
      let la = lines_of a na in
      let lb = lines_of b nb in
      let tail = line.Jcc (negated k) n ∷ (la ++ line.Label n ∷ lb) in
      let pt = pc + count (test_lines i) in
      let t = test_moves i k s ns true pc is (has_front c pc (test_lines i) tail has) e in
      let jump = has_back c pc (test_lines i) tail has in
      let len = choice_count i k n true la lb in
      let none = empty_count b nb empty in
      record {
        from = pt + 1;
        room = omega (arith, len);
        le = omega arith;
        till = omega (arith, len);
        enter = moves_both t.moves (forward (passed (negated k) n jump.0 (turned k (settled (if_holds i k) s) true t.answer)) (omega arith));
        has = has_front c (pt + 1) la (line.Label n ∷ lb) jump.1;
        leave = λ s1. moves_as (rest_here (pt + 1 + count la) s1) refl refl (omega (arith, len, none));
      }
  side i k n a na b nb pc s ns true false empty is has e =
      let la = lines_of a na in
      let lb = lines_of b nb in
      let back = line.Jmp (n + 1) ∷ line.Label n ∷ (lb ++ line.Label (n + 1) ∷ []) in
      let tail = line.Jcc (negated k) n ∷ (la ++ back) in
      let pt = pc + count (test_lines i) in
      let t = test_moves i k s ns true pc is (has_front c pc (test_lines i) tail has) e in
      let jump = has_back c pc (test_lines i) tail has in
      let over = has_back c (pt + 1) la back jump.1 in
      let exit = has_back c (pt + 1 + count la + 1) lb (line.Label (n + 1) ∷ []) over.1.1 in
      let len = choice_count i k n false la lb in
      let there : c.place (n + 1) ≡ pc + count (choice_lines (if_holds i k) n false la lb) = omega (arith, exit.0, len) in
      record {
        from = pt + 1;
        room = omega (arith, len);
        le = omega arith;
        till = omega (arith, len);
        enter = moves_both t.moves (forward (passed (negated k) n jump.0 (turned k (settled (if_holds i k) s) true t.answer)) (omega arith));
        has = has_front c (pt + 1) la back jump.1;
        leave = λ s1. moves_as (forward (jumped (n + 1) over.0) (omega (arith, exit.0))) refl refl there;
      }
  side i k n a na b nb pc s ns false true empty is has e =
      let la = lines_of a na in
      let lb = lines_of b nb in
      let tail = line.Jcc (negated k) n ∷ (la ++ line.Label n ∷ lb) in
      let pt = pc + count (test_lines i) in
      let t = test_moves i k s ns false pc is (has_front c pc (test_lines i) tail has) e in
      let jump = has_back c pc (test_lines i) tail has in
      let over = has_back c (pt + 1) la (line.Label n ∷ lb) jump.1 in
      let len = choice_count i k n true la lb in
      let there : c.place n ≡ pt + 1 + count la = over.0 in
      record {
        from = pt + 1 + count la;
        room = omega (arith, len);
        le = omega arith;
        till = omega (arith, len);
        enter = moves_as (moves_both t.moves (forward (taken (negated k) n jump.0 (turned k (settled (if_holds i k) s) false t.answer)) (omega (arith, there)))) refl refl there;
        has = over.1;
        leave = λ s1. moves_as (rest_here (pt + 1 + count la + count lb) s1) refl refl (omega (arith, len));
      }
  side i k n a na b nb pc s ns false false empty is has e =
      let la = lines_of a na in
      let lb = lines_of b nb in
      let back = line.Jmp (n + 1) ∷ line.Label n ∷ (lb ++ line.Label (n + 1) ∷ []) in
      let tail = line.Jcc (negated k) n ∷ (la ++ back) in
      let pt = pc + count (test_lines i) in
      let t = test_moves i k s ns false pc is (has_front c pc (test_lines i) tail has) e in
      let jump = has_back c pc (test_lines i) tail has in
      let over = has_back c (pt + 1) la back jump.1 in
      let len = choice_count i k n false la lb in
      let there : c.place n ≡ pt + 1 + count la + 1 = over.1.0 in
      record {
        from = pt + 1 + count la + 1;
        room = omega (arith, len);
        le = omega arith;
        till = omega (arith, len);
        enter = moves_as (moves_both t.moves (forward (taken (negated k) n jump.0 (turned k (settled (if_holds i k) s) false t.answer)) (omega (arith, there)))) refl refl there;
        has = has_front c (pt + 1 + count la + 1) lb (line.Label (n + 1) ∷ []) over.1.1;
        leave = λ s1. moves_as (rest_here (pt + 1 + count la + 1 + count lb) s1) refl refl (omega (arith, len));
      }

  -- ---- what the cases say
  -- an `if` shows the test's events, the jump's, and the arm's
  arm_shown : (i : Option Insn) (k : Cond) (a b : Code) (ns : List ℕ) (z : Bool) (l : Leak) →
      if_events rsp0 ns z (body_events l rsp0) (out-Case (case.If (test_outs (if_holds i k)) (jump_outs (if_holds i k) false) (record { cases = cases_of a }) (jump_outs (if_holds i k) true) (record { cases = cases_of b })))
      ≡ (shown ns (compared_outs i) ++ event.Branch (not z) ∷ []) ++ body_events l rsp0 (cases_of (if z then a else b))
  arm_shown i k a b ns true l = ap (if_events rsp0 ns true (body_events l rsp0)) (out_if _ _ _ _ _) ∙ sym (append_assoc (shown ns (compared_outs i)) (event.Branch false ∷ []) (body_events l rsp0 (cases_of a)))
  arm_shown i k a b ns false l = ap (if_events rsp0 ns false (body_events l rsp0)) (out_if _ _ _ _ _) ∙ sym (append_assoc (shown ns (compared_outs i)) (event.Branch true ∷ []) (body_events l rsp0 (cases_of b)))

  turns_shown : (p : Code) (t : Test) (q : Bool) (b : Code) (ts : Turns) →
      while_events (turns_events ts rsp0) (out-Case (case.While (record { cases = cases_of p }) (test_outs t) (jump_outs t q) (record { cases = cases_of b }) (jump_outs t (not q)))) ≡ turns_events ts rsp0 (parts p t q b)
  turns_shown p t q b ts = ap (while_events (turns_events ts rsp0)) (out_while _ _ _ _ _)

  arm_plain : (z : Bool) (a b : Code) → IsPlainCode a → IsPlainCode b → IsPlainCode (if z then a else b)
  arm_plain true a b h g = h
  arm_plain false a b h g = g

  -- ---- the body of a loop
  -- what a body does, wherever it stands
  abbrev Body : Code → ℕ → ℕ → Machine → Outcome Machine FaultKind Leak → Type 0
  Body b nb m s o = (pc : ℕ) → HasAt c pc (lines_of b nb) → pc + count (lines_of b nb) < size → Follows c size pc (pc + count (lines_of b nb)) m s (λ l. body_events l rsp0 (cases_of b)) o

  abbrev test_shown : Test → Bool → List ℕ → List Event
  test_shown t q ns = shown ns (test_outs t) ++ shown ns (jump_outs t q)

  record Turned (pc pe m m2 : ℕ) (s s2 : Machine) (es : List Event) : Type 0 where
    u : ℕ
    moves : Moves c size (u + 1) pe s es pc s2
    spent : m ≡ m2 + u

  body_turn : {pc pe end m m2 nb : ℕ} {t : Test} {q : Bool} {b : Code} {s s2 : Machine} {lb : Leak} (ns : List ℕ) → Entry pc pe end t q nb b → tests t s ≡ went ns true → Goes instructions b m (settled t s) (End s2 m2 lb) → Body b nb m (settled t s) (End s2 m2 lb)
      → Turned pc pe m m2 s s2 (test_shown t q ns ++ body_events lb rsp0 (cases_of b))
  body_turn {s} ns (body_at pb has lt till room enter back) e g k =
      let w = went_of (k pb has lt) in
      record { u = w.t; moves = moves_as (moves_both (moves_both (enter s ns e) w.moves) (back _)) (omega arith) (append-nil _) refl; spent = w.spent }
  body_turn {s} ns (direct enter) e finished k = record { u = 0; moves = moves_as (enter s ns e) (omega arith) (sym (append-nil _)) refl; spent = omega arith }

  body_halt : {pc pe end m nb : ℕ} {t : Test} {q : Bool} {b : Code} {s : Machine} {lb : Leak} (ns : List ℕ) → Entry pc pe end t q nb b → tests t s ≡ went ns true → Goes instructions b m (settled t s) (Cut lb) → Body b nb m (settled t s) (Cut lb)
      → Halted c size pe end (suc m) s (test_shown t q ns ++ body_events lb rsp0 (cases_of b))
  body_halt {s} ns (body_at pb has lt till room enter back) e g k = lead_halted 1 (enter s ns e) (omega (arith, room)) till (omega arith) refl (halted_of (k pb has lt))
  body_halt ns (direct enter) e g k = elim g [ ]

  -- the events of a turn, in the order of the definition and in that of the run
  body_order : (a b d f : List Event) → a ++ b ++ d ++ f ≡ a ++ (b ++ d ++ f)
  body_order a b d f = ap (λ y. y ++ f) (append_assoc a b d) ∙ append_assoc a (b ++ d) f

  whole_turn : (a b d f x : List Event) → a ++ b ++ d ++ f ++ x ≡ (a ++ (b ++ d ++ f)) ++ x
  whole_turn a b d f x = ap (λ y. y ++ x) (body_order a b d f)

  mutual
    pub follow : {t : Code} {n : ℕ} {s : Machine} {o : Outcome Machine FaultKind Leak} → Goes instructions t n s o → (pc m : ℕ) → IsPlainCode t → HasAt c pc (lines_of t m) → pc + count (lines_of t m) < size
        → Follows c size pc (pc + count (lines_of t m)) n s (λ l. body_events l rsp0 (cases_of t)) o
    follow {n} {s} finished pc m is has lt = went_on (record { t = 0; spent = omega arith; moves = moves_as (rest_here pc s) refl refl (omega arith) })
    follow {s} (did {o} {r} {s1} {ns} q g) pc m is has lt =
        let len : pc + 1 + count (lines_of r m) ≡ pc + suc (count (lines_of r m)) = omega arith in
        ends_at len (lead_follows (leak.ran ns) _ (insn_moves o s s1 ns pc is.0 has.0 q) (omega arith) (omega arith) (λ l. refl) (follow g (pc + 1) m is.1 has.1 (omega (arith, lt))))
    follow (did_not q) pc m is has lt = stays_stuck
    follow (quieted g) pc m is has lt = follow g pc m is has lt
    follow {s} (chosen {c = always} q g h) pc m is has lt = absurd is.1
    follow {s} (chosen {c = if_holds i k} {a} {b} {r} {ns} {z} {l} q g h) pc m is has lt =
        let ma = m + 2 in
        let mb = m + 2 + labels_in a in
        let mr = m + 2 + labels_in a + labels_in b in
        let here = choice_lines (if_holds i k) m (is_empty b) (lines_of a ma) (lines_of b mb) in
        let len : pc + count here + count (lines_of r mr) ≡ pc + count (lines_of (choose (if_holds i k) a b r) m) = omega (arith, count_both here (lines_of r mr)) in
        let d = side i k m a ma b mb pc s ns z (is_empty b) refl is.0 (has_front c pc here (lines_of r mr) has) q in
        let w = went_of (follow g d.from (if z then ma else mb) (arm_plain z a b is.2 is.3) d.has (omega (arith, d.till, lt, len))) in
        let all = moves_as (moves_both (moves_both d.enter w.moves) (d.leave _)) refl (append-nil _) refl in
        ends_at len (lead_follows (leak.chose ns z l) _ all (omega arith) (omega (arith, w.spent))
        (λ l1. ap (λ x. x ++ body_events l1 rsp0 (cases_of r)) (arm_shown i k a b ns z l))
        (follow h (pc + count here) mr is.4 (has_back c pc here (lines_of r mr) has) (omega (arith, lt, len))))
    follow {s} (chosen_cut {c = always} q g) pc m is has lt = absurd is.1
    follow {s} (chosen_cut {c = if_holds i k} {a} {b} {r} {ns} {z} {l} q g) pc m is has lt =
        let ma = m + 2 in
        let mb = m + 2 + labels_in a in
        let mr = m + 2 + labels_in a + labels_in b in
        let here = choice_lines (if_holds i k) m (is_empty b) (lines_of a ma) (lines_of b mb) in
        let len : pc + count here + count (lines_of r mr) ≡ pc + count (lines_of (choose (if_holds i k) a b r) m) = omega (arith, count_both here (lines_of r mr)) in
        let d = side i k m a ma b mb pc s ns z (is_empty b) refl is.0 (has_front c pc here (lines_of r mr) has) q in
        halted (lead_halted 0 d.enter (omega (arith, d.room, len)) (omega (arith, d.till, len)) (omega arith) (arm_shown i k a b ns z l)
        (halted_of (follow g d.from (if z then ma else mb) (arm_plain z a b is.2 is.3) d.has (omega (arith, d.till, lt, len)))))
    follow (chosen_stuck q g) pc m is has lt = stays_stuck
    follow (chose_not q) pc m is has lt = stays_stuck
    follow (loop_left {q} {p} {c = t} {b} {r} {ts} g h) pc m is has lt =
        let mp = m + 2 in
        let mb = m + 2 + labels_in p in
        let mr = m + 2 + labels_in p + labels_in b in
        let here = loop_lines q t m (lines_of p mp) (lines_of b mb) in
        let len : pc + count here + count (lines_of r mr) ≡ pc + count (lines_of (loop q p t b r) m) = omega (arith, count_both here (lines_of r mr)) in
        let w = went_of (follow_loop g pc (pc + count here) mp q mb (loop_at q p mp t b mb m pc is.0 is.1 (has_front c pc here (lines_of r mr) has) (omega (arith, lt, len))) is.2 is.3) in
        ends_at len (lead_follows (leak.looped ts) _ w.moves (omega arith) w.spent (λ l. ap (λ x. x ++ body_events l rsp0 (cases_of r)) (turns_shown p t q b ts))
        (follow h (pc + count here) mr is.4 (has_back c pc here (lines_of r mr) has) (omega (arith, lt, len))))
    follow {s} (loop_cut {q} {p} {c = t} {b} {r} {ts} g) pc m is has lt =
        let mp = m + 2 in
        let mb = m + 2 + labels_in p in
        let mr = m + 2 + labels_in p + labels_in b in
        let here = loop_lines q t m (lines_of p mp) (lines_of b mb) in
        let len : pc + count here + count (lines_of r mr) ≡ pc + count (lines_of (loop q p t b r) m) = omega (arith, count_both here (lines_of r mr)) in
        halted (lead_halted 0 (rest_here pc s) (omega (arith, len)) (omega (arith, len)) (omega arith) (turns_shown p t q b ts)
        (halted_of (follow_loop g pc (pc + count here) mp q mb (loop_at q p mp t b mb m pc is.0 is.1 (has_front c pc here (lines_of r mr) has) (omega (arith, lt, len))) is.2 is.3)))
    follow (loop_stuck g) pc m is has lt = stays_stuck
    follow (counted {f} q g h) pc m is has lt = absurd f
    follow (counted_cut {f} q g) pc m is has lt = absurd f
    follow (counted_stuck {f} q g) pc m is has lt = absurd f
    follow (counted_not {f} q) pc m is has lt = absurd f
    follow (call_ended {c = f} q g k h) pc m is has lt = absurd f
    follow (call_cut {c = f} q g) pc m is has lt = absurd f
    follow (call_stuck {c = f} q g) pc m is has lt = absurd f
    follow (entered_not {c = f} q) pc m is has lt = absurd f
    follow (left_not {c = f} q g k) pc m is has lt = absurd f

    follow_loop : {p : Code} {t : Test} {b : Code} {n : ℕ} {s : Machine} {o : Outcome Machine FaultKind Turns} → Loops instructions p t b n s o → (pc end np : ℕ) (q : Bool) (nb : ℕ) → LoopAt pc end p np t q b nb → IsPlainCode p → IsPlainCode b
        → Follows c size pc end n s (λ ts. turns_events ts rsp0 (parts p t q b)) o
    follow_loop {s} (in_prologue g) pc end np q nb h ip ib =
        halted (lead_halted 0 (rest_here pc s) (omega (arith, h.till)) (omega (arith, h.till)) (omega arith) refl (halted_of (follow g pc np ip h.prologue h.within)))
    follow_loop (prologue_stuck g) pc end np q nb h ip ib = stays_stuck
    follow_loop (tested_not g e) pc end np q nb h ip ib = stays_stuck
    follow_loop {p} {t} {b} (leaves_loop {s1} {ns} {l} g e) pc end np q nb h ip ib =
        let w = went_of (follow g pc np ip h.prologue h.within) in
        went_on (record { t = w.t; spent = w.spent; moves = moves_as (moves_both w.moves (h.leave s1 ns e)) (omega arith) (sym (append_assoc (body_events l rsp0 (cases_of p)) (shown ns (test_outs t)) (shown ns (jump_outs t (not q))))) refl })
    follow_loop {p} {t} {b} (no_turn {s1} {ns} {l} g e) pc end np q nb h ip ib =
        let w = went_of (follow g pc np ip h.prologue h.within) in
        halted (lead_halted 0 w.moves (omega (arith, h.till)) (omega arith) (omega (arith, w.spent)) (append_assoc (body_events l rsp0 (cases_of p)) (shown ns (test_outs t)) (shown ns (jump_outs t q))) (h.halt s1 ns e))
    follow_loop {p} {t} {b} (in_body {s1} {ns} {l} {lb} g e k) pc end np q nb h ip ib =
        let w = went_of (follow g pc np ip h.prologue h.within) in
        halted (lead_halted 0 w.moves (omega (arith, h.till)) (omega arith) (omega (arith, w.spent))
        (body_order (body_events l rsp0 (cases_of p)) (shown ns (test_outs t)) (shown ns (jump_outs t q)) (body_events lb rsp0 (cases_of b)))
        (body_halt ns h.entry e k (λ pb has lt. follow k pb nb ib has lt)))
    follow_loop (body_stuck g e k) pc end np q nb h ip ib = stays_stuck
    follow_loop {p} {t} {b} (more_turns {s1} {ns} {l} {lb} g e k i) pc end np q nb h ip ib =
        let w = went_of (follow g pc np ip h.prologue h.within) in
        let x = body_turn ns h.entry e k (λ pb has lt. follow k pb nb ib has lt) in
        lead_follows {A = λ ts. turns_events ts rsp0 (parts p t q b)} (leak.turn l ns lb) _ (moves_both w.moves x.moves) (omega arith) (omega (arith, w.spent, x.spent))
        (λ ts. whole_turn (body_events l rsp0 (cases_of p)) (shown ns (test_outs t)) (shown ns (jump_outs t q)) (body_events lb rsp0 (cases_of b)) (turns_events ts rsp0 (parts p t q b)))
        (follow_loop i pc end np q nb h ip ib)
