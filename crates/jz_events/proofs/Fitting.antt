-- The leaks of a body fit its cases; and a leak whose cells have their addresses is cut where it was.
use Rattle.std.proofs.Common.{◌≡◌, ℕ, ◌<◌, ◌≤◌, Bool, true, false, List, [], ◌∷◌, ◌++◌, length, refl, sym, ap, subst, arith, if◌then◌else◌}
use Rattle.std.specs.Prelude.{not, Option, Some, None}
use Rattle.std.proofs.lemmas.List.{length-append}
use Rattle.std.proofs.lemmas.List.Elements.{All-nil, All-cons}
use Rattle.jz_words.specs.declared.size.Size.{Size}
use Rattle.x64_insn.specs.declared.types.Wide.TheVariants as wide
use Rattle.x64_insn.specs.declared.products.DoubleAnswer.{DoubleAnswer}
use Rattle.jz_leak.specs.declared.transformer.Out.TheVariants as out
use Rattle.jz_leak.specs.declared.transformer.Case.{Case}
use Rattle.jz_leak.specs.declared.transformer.Case.TheViews.{out-Case}
use Rattle.jz_leak.specs.RunLeaks as leak
use Rattle.jz_leak.specs.RunLeaks.{Leak, Turns}
use Rattle.jz_leak.specs.Applying.{is_cut, OutFits, OutsFit, IfFits, WhileFits, CasesFit, TurnsFit}
use Rattle.jz_runs.specs.Trees.{Tree, done, op, quiet, choose, loop, each, call}
use Rattle.jz_runs.specs.Rules.{Attempt, stuck, went, Outcome, Goes, finished, did, did_not, quieted, chosen, chosen_cut, chosen_stuck, chose_not, loop_left, loop_cut, loop_stuck, counted, counted_cut, counted_stuck, counted_not, call_ended, call_cut, call_stuck, entered_not, left_not, Loops, in_prologue, prologue_stuck, tested_not, leaves_loop, no_turn, in_body, body_stuck, more_turns}
use Rattle.jz_operations.specs.declared.operation.Arg.TheVariants as arg
use Rattle.jz_operations.specs.declared.operation.Action.{Action}
use Rattle.jz_operations.specs.declared.operation.Action.TheVariants as action
use Rattle.jz_operations.specs.declared.operation.Condition.{Condition}
use Rattle.jz_operations.specs.declared.operation.Operation.{Operation}
use Rattle.jz_operations.specs.Values.{State}
use Rattle.jz_operations.specs.Rows.{Frame, Output, if_some, address_in, cell_in, cell_numbers, inputs, accesses, access_numbers, asked, inputs_in, Computed, computed, both_words, outputs, put_all, Done, step, holds_in}
use Rattle.jz_operations.specs.Standing.{division_of}
use Rattle.jz_operations.proofs.Somes.{some_then, same_some}
use Rattle.jz_placing.specs.Instructions.{division_numbers}
use Rattle.jz_placing.specs.Variables.{Asked, always, asks, Body, by_step, does, tests, answer, answer_behind, variables}
use Rattle.jz_placing.specs.Renumbering.{on_ran, on_chose, on_looped, renumbered}
use Rattle.jz_placing.proofs.Machine.{shown_is}
use Rattle.jz_linear.proofs.Cases.{out_if, out_while}
use Rattle.jz_linear.proofs.Fitting.{told, told_turns}
use Rattle.jz_events.specs.Outs.{division_outs, access_outs, divides, cell_form, first_form, operation_outs, asked_outs}
use Rattle.jz_events.specs.Cases.{jump_outs, if_case, while_case, cases_over}
use Rattle.jz_events.proofs.Showing.{Told, told_after, parts_over}

-- ---- the numbers of an operation
division_fits : (d leaks : Bool) (ns : List ℕ) → (d ≡ true → (if leaks then 4 else 3) ≤ length ns) → OutsFit ns (division_outs d leaks)
division_fits false leaks ns h = All-nil (OutFits ns)
division_fits true false ns h =
    let le : 3 ≤ length ns = h refl in
    All-cons (OutFits ns) _ [] ((omega (arith, le)), (omega (arith, le)), (omega (arith, le))) (All-nil (OutFits ns))
division_fits true true ns h =
    let le : 4 ≤ length ns = h refl in
    All-cons (OutFits ns) _ [] ((omega (arith, le)), (omega (arith, le)), (omega (arith, le))) (All-nil (OutFits ns))

memory_numbers : (x : Option ℕ) (rest : Option (List ℕ)) (xs : List ℕ) → if_some (if_some x (λ a. Some (a ∷ []))) (λ ns. if_some rest (λ ms. Some (ns ++ ms))) ≡ Some xs → 0 < length xs
memory_numbers None rest xs e = absurd cc
memory_numbers (Some a) None xs e = absurd cc
memory_numbers (Some a) (Some ms) xs e = let k : a ∷ ms ≡ xs = same_some _ xs e in subst (λ (ys : List ℕ). 0 < length ys) k (omega arith)

index_numbers : (v : ℕ) (x : Option ℕ) (rest : Option (List ℕ)) (xs : List ℕ) → if_some (if_some x (λ n. Some (cell_numbers (Some v) n))) (λ ns. if_some rest (λ ms. Some (ns ++ ms))) ≡ Some xs → 0 < length xs
index_numbers v None rest xs e = absurd cc
index_numbers v (Some a) None xs e = absurd cc
index_numbers v (Some a) (Some ms) xs e = let k : a ∷ ms ≡ xs = same_some _ xs e in subst (λ (ys : List ℕ). 0 < length ys) k (omega arith)

skip : (r : Option (List ℕ)) (xs : List ℕ) → if_some r (λ ms. Some ms) ≡ Some xs → r ≡ Some xs
skip None xs e = cc
skip (Some y) xs e = e

module _ (slots : ℕ → ℕ) (size : ℕ) where
  behind : (d : Bool) (xs div : List ℕ) → 0 < length xs → (d ≡ true → 3 ≤ length div) → OutsFit (xs ++ div) (division_outs d true)
  behind d xs div some h = division_fits d true (xs ++ div) (λ e. let le = h e in omega (arith, length-append xs div, some, le))

  cell_fits : (d : Bool) (s : Size) (c : _) (i : Option ℕ) (x : Option ℕ) (rest : Option (List ℕ)) (xs div : List ℕ) → if_some (if_some x (λ n. Some (cell_numbers i n))) (λ ns. if_some rest (λ ms. Some (ns ++ ms))) ≡ Some xs
      → (d ≡ true → 3 ≤ length div) → OutsFit (xs ++ div) (access_outs d (Some (cell_form slots size s c i)))
  cell_fits d s c None x rest xs div e h =
      All-cons (OutFits (xs ++ div)) _ (division_outs d false) tt (division_fits d false (xs ++ div) (λ t. let le = h t in omega (arith, length-append xs div, le)))
  cell_fits d s c (Some v) x rest xs div e h =
      let some = index_numbers v x rest xs e in
      let there : 0 < length (xs ++ div) = omega (arith, length-append xs div, some) in
      All-cons (OutFits (xs ++ div)) _ (division_outs d true) there (behind d xs div some h)

  list_fits : (σ : State) (d : Bool) (os : List Output) (xs div : List ℕ) → access_numbers os σ ≡ Some xs → (d ≡ true → 3 ≤ length div) → OutsFit (xs ++ div) (access_outs d (first_form slots size os))
  list_fits σ d [] xs div e h = division_fits d false (xs ++ div) (λ t. let le = h t in omega (arith, length-append xs div, le))
  list_fits σ d ((s, arg.Mem a) ∷ os) xs div e h =
      let some = memory_numbers (address_in a σ) (access_numbers os σ) xs e in
      let there : 0 < length (xs ++ div) = omega (arith, length-append xs div, some) in
      All-cons (OutFits (xs ++ div)) _ (division_outs d true) there (behind d xs div some h)
  list_fits σ d ((s, arg.Cell c) ∷ os) xs div e h = cell_fits d s c c.index (cell_in c σ) (access_numbers os σ) xs div e h
  list_fits σ d ((s, arg.Var v) ∷ os) xs div e h = list_fits σ d os xs div (skip (access_numbers os σ) xs e) h
  list_fits σ d ((s, arg.Imm v) ∷ os) xs div e h = list_fits σ d os xs div (skip (access_numbers os σ) xs e) h
  list_fits σ d ((s, arg.At r p) ∷ os) xs div e h = list_fits σ d os xs div (skip (access_numbers os σ) xs e) h

-- ---- a division leaks three
both_three : (d : List ℕ) (x : Option DoubleAnswer) (c : Computed) → if_some x (both_words d) ≡ Some c → c.division ≡ d
both_three d None c e = absurd cc
both_three d (Some r) c e = let k = same_some _ c e in ap (λ (y : Computed). y.division) (sym k)

three_of : (h l b : ℕ) (ds : List ℕ) → ds ≡ h ∷ l ∷ b ∷ [] → 3 ≤ length (division_numbers (division_of ds))
three_of h l b ds e = subst (λ xs. 3 ≤ length (division_numbers (division_of xs))) (sym e) (omega arith)

computed_three : (a : Action) (k : Bool) (ns : List ℕ) (c : Computed) → divides a ≡ true → computed a k ns ≡ Some c → 3 ≤ length (division_numbers (division_of c.division))
computed_three (action.Wide wide.Div s l h rm) k (b ∷ low ∷ high ∷ []) c e f = three_of high low b c.division (both_three (high ∷ low ∷ b ∷ []) _ c f)
computed_three (action.Wide wide.Idiv s l h rm) k (b ∷ low ∷ high ∷ []) c e f = three_of high low b c.division (both_three (high ∷ low ∷ b ∷ []) _ c f)
computed_three (action.Wide wide.Div s l h rm) k [] c e f = absurd cc
computed_three (action.Wide wide.Div s l h rm) k (b ∷ []) c e f = absurd cc
computed_three (action.Wide wide.Div s l h rm) k (b ∷ low ∷ []) c e f = absurd cc
computed_three (action.Wide wide.Div s l h rm) k (b ∷ low ∷ high ∷ x ∷ xs) c e f = absurd cc
computed_three (action.Wide wide.Idiv s l h rm) k [] c e f = absurd cc
computed_three (action.Wide wide.Idiv s l h rm) k (b ∷ []) c e f = absurd cc
computed_three (action.Wide wide.Idiv s l h rm) k (b ∷ low ∷ []) c e f = absurd cc
computed_three (action.Wide wide.Idiv s l h rm) k (b ∷ low ∷ high ∷ x ∷ xs) c e f = absurd cc
computed_three (action.Wide wide.Mul s l h rm) k ns c e f = absurd cc
computed_three (action.Wide wide.Imul s l h rm) k ns c e f = absurd cc
computed_three (action.Alu o s to from p) k ns c e f = absurd cc
computed_three (action.Mov s to from) k ns c e f = absurd cc
computed_three (action.Extend sign to from v rm) k ns c e f = absurd cc
computed_three (action.Lea v a) k ns c e f = absurd cc
computed_three (action.One o s rm) k ns c e f = absurd cc
computed_three (action.Imul s v rm) k ns c e f = absurd cc
computed_three (action.ImulBy s v rm i) k ns c e f = absurd cc
computed_three (action.Shift kind s rm n) k ns c e f = absurd cc
computed_three (action.ShiftBy kind s rm p) k ns c e f = absurd cc
computed_three (action.Bswap s v) k ns c e f = absurd cc
computed_three (action.Sign s l h) k ns c e f = absurd cc
computed_three (action.Set z rm) k ns c e f = absurd cc
computed_three (action.Cmov z s v rm) k ns c e f = absurd cc

division_three : (frame : Frame) (o : Operation) (σ : State) (d : Done) → step frame o σ ≡ Some d → divides o.action ≡ true → 3 ≤ length (division_numbers (division_of d.division))
division_three frame o σ d e t =
    let a = some_then (asked o.action σ) _ d e in
    let i = some_then (inputs_in frame (inputs o.action) σ) _ d a.2 in
    let c = some_then (computed o.action a.0 i.0) _ d i.2 in
    let s = some_then (access_numbers (accesses o.action) σ) _ d c.2 in
    let w = some_then (put_all frame (outputs o.action) c.0.words σ) _ d s.2 in
    let same : c.0.division ≡ d.division = ap (λ (x : Done). x.division) (same_some _ d w.2) in
    subst (λ ds. 3 ≤ length (division_numbers (division_of ds))) same (computed_three o.action a.0 i.0 c.0 t c.1)

-- ---- operations and tests
by_fits : (slots : ℕ → ℕ) (size : ℕ) (frame : Frame) (o : Operation) (σ τ : State) (ns : List ℕ) (x : Option Done) → step frame o σ ≡ x → by_step x ≡ went ns τ → OutsFit ns (operation_outs slots size o.action)
by_fits slots size frame o σ τ ns None is e = absurd cc
by_fits slots size frame o σ τ ns (Some d) is e =
    let same : d.shown ++ division_numbers (division_of d.division) ≡ ns = cc in
    subst (λ ms. OutsFit ms (operation_outs slots size o.action)) same
    (list_fits slots size σ (divides o.action) (accesses o.action) d.shown (division_numbers (division_of d.division)) (shown_is frame o σ d is) (division_three frame o σ d is))

module _ (slots : ℕ → ℕ) (size : ℕ) (frame : Frame) where
  operation_fits : (o : Operation) (σ τ : State) (ns : List ℕ) → does frame o σ ≡ went ns τ → OutsFit ns (operation_outs slots size o.action)
  operation_fits o σ τ ns e = by_fits slots size frame o σ τ ns (step frame o σ) refl e

  answer_so : (ns ms : List ℕ) (z : Bool) (x : Option Bool) → answer ns x ≡ went ms z → ns ≡ ms
  answer_so ns ms z None e = absurd cc
  answer_so ns ms z (Some b) e = cc

  asked_so : (k : Condition) (x : Attempt (Unit {0}) State) (ms : List ℕ) (z : Bool) → answer_behind k x ≡ went ms z → (τ : State) × (x ≡ went ms τ)
  asked_so k (stuck w) ms z e = absurd cc
  asked_so k (went ns τ) ms z e = (τ, ap (λ l. went l τ) (answer_so ns ms z (holds_in k τ) e))

  test_fits : (c : Asked) (σ : State) (ns : List ℕ) (z : Bool) → tests frame c σ ≡ went ns z → OutsFit ns (asked_outs slots size c)
  test_fits always σ ns z e = All-nil (OutFits ns)
  test_fits (asks None k) σ ns z e = All-nil (OutFits ns)
  test_fits (asks (Some o) k) σ ns z e = let a = asked_so k (does frame o σ) ns z e in operation_fits o σ a.0 ns a.1

  jump_fits : (c : Asked) (taken : Bool) (ns : List ℕ) → OutsFit ns (jump_outs c taken)
  jump_fits always taken ns = All-nil (OutFits ns)
  jump_fits (asks o k) taken ns = All-cons (OutFits ns) (out.Branch taken) [] tt (All-nil (OutFits ns))

  abbrev over : Body → List Case
  over = cases_over slots size

  if_fits : (c : Asked) (a b : Body) (σ : State) (ns : List ℕ) (z : Bool) (l : Leak) → tests frame c σ ≡ went ns z → CasesFit l (over (if z then a else b))
      → IfFits ns z (CasesFit l) (out-Case (if_case slots size c (over a) (over b)))
  if_fits c a b σ ns z l e h =
      subst (IfFits ns z (CasesFit l)) (sym (out_if (asked_outs slots size c) (jump_outs c false) (jump_outs c true) (record { cases = over a }) (record { cases = over b })))
      (test_fits c σ ns z e, jump_fits c false ns, jump_fits c true ns, by_side z h)
    where
      by_side : (z : Bool) → CasesFit l (over (if z then a else b)) → CasesFit l (if z then over a else over b)
      by_side true h = h
      by_side false h = h

  while_fits : (p : Body) (c : Asked) (q : Bool) (b : Body) (ts : Turns) → TurnsFit ts (parts_over slots size p c q b) → WhileFits (TurnsFit ts) (out-Case (while_case slots size q (over p) c (over b)))
  while_fits p c q b ts h = subst (WhileFits (TurnsFit ts)) (sym (out_while (record { cases = over p }) (record { cases = over b }) (asked_outs slots size c) (jump_outs c q) (jump_outs c (not q)))) h

  mutual
    pub fits : {t : Body} {n : ℕ} {σ : State} {o : Outcome State (Unit {0}) Leak} → Goes (variables frame) t n σ o → Told (λ l. CasesFit l (over t)) o
    fits finished = tt
    fits {σ} (did {o} {r} {s1} {ns} {w} q g) = told_after (leak.ran ns) (λ l. CasesFit l (over r)) (λ l. CasesFit l (over (op o r))) (λ l h. (operation_fits o σ s1 ns q, h)) w (fits g)
    fits (did_not q) = tt
    fits (quieted g) = fits g
    fits {σ} (chosen {c} {a} {b} {r} {ns} {z} {l} {w} q g h) =
        told_after (leak.chose ns z l) (λ x. CasesFit x (over r)) (λ x. CasesFit x (over (choose c a b r)))
        (λ x y. (told (variables frame) g, if_fits c a b σ ns z l q (fits g), y)) w (fits h)
    fits {σ} (chosen_cut {c} {a} {b} {r} {ns} {z} {l} q g) = (told (variables frame) g, if_fits c a b σ ns z l q (fits g))
    fits (chosen_stuck q g) = tt
    fits (chose_not q) = tt
    fits (loop_left {q} {p} {c} {b} {r} {ts} {w} g h) =
        told_after (leak.looped ts) (λ x. CasesFit x (over r)) (λ x. CasesFit x (over (loop q p c b r)))
        (λ x y. (told_turns (variables frame) g, while_fits p c q b ts (turns_fit g q), y)) w (fits h)
    fits (loop_cut {q} {p} {c} {b} {ts} g) = (told_turns (variables frame) g, while_fits p c q b ts (turns_fit g q))
    fits (loop_stuck g) = tt
    fits (counted {f} q g h) = absurd f
    fits (counted_cut {f} q g) = absurd f
    fits (counted_stuck {f} q g) = absurd f
    fits (counted_not {f} q) = absurd f
    fits (call_ended {c = f} q g k h) = absurd f
    fits (call_cut {c = f} q g) = absurd f
    fits (call_stuck {c = f} q g) = absurd f
    fits (entered_not {c = f} q) = absurd f
    fits (left_not {c = f} q g k) = absurd f

    turns_fit : {p : Body} {c : Asked} {b : Body} {n : ℕ} {σ : State} {o : Outcome State (Unit {0}) Turns} → Loops (variables frame) p c b n σ o → (q : Bool) → Told (λ ts. TurnsFit ts (parts_over slots size p c q b)) o
    turns_fit (in_prologue g) q = (told (variables frame) g, fits g)
    turns_fit (prologue_stuck g) q = tt
    turns_fit (tested_not g e) q = tt
    turns_fit {c} (leaves_loop {s1} {ns} g e) q = (told (variables frame) g, (fits g, test_fits c s1 ns false e, jump_fits c q ns, jump_fits c (not q) ns))
    turns_fit {c} (no_turn {s1} {ns} g e) q = (told (variables frame) g, (fits g, test_fits c s1 ns true e, jump_fits c q ns, jump_fits c (not q) ns))
    turns_fit {c} (in_body {s1} {ns} g e k) q = (told (variables frame) g, (fits g, test_fits c s1 ns true e, jump_fits c q ns, jump_fits c (not q) ns), told (variables frame) k, fits k)
    turns_fit (body_stuck g e k) q = tt
    turns_fit {p} {c} {b} (more_turns {s1} {ns} {l} {lb} {w} g e k i) q =
        told_after (leak.turn l ns lb) (λ ts. TurnsFit ts (parts_over slots size p c q b)) (λ ts. TurnsFit ts (parts_over slots size p c q b))
        (λ ts y. (told (variables frame) g, (fits g, test_fits c s1 ns true e, jump_fits c q ns, jump_fits c (not q) ns), told (variables frame) k, fits k, y)) w (turns_fit i q)

-- ---- cuts
ran_cut : (f : List ℕ → List ℕ) (g : Leak → Leak) → ((k : Leak) → is_cut (g k) ≡ is_cut k) → (l : Leak) → is_cut (on_ran f g l) ≡ is_cut l
ran_cut f g h leak.over = refl
ran_cut f g h (leak.ran ns l) = h l
ran_cut f g h (leak.chose ns z a l) = refl
ran_cut f g h (leak.chose_cut ns z a) = refl
ran_cut f g h (leak.looped ts l) = refl
ran_cut f g h (leak.looped_cut ts) = refl
ran_cut f g h (leak.each rs l) = refl
ran_cut f g h (leak.each_cut rs) = refl
ran_cut f g h (leak.called ns b ms l) = refl
ran_cut f g h (leak.called_cut ns b) = refl

chose_cut_so : (f : List ℕ → List ℕ) (a b g : Leak → Leak) → ((k : Leak) → is_cut (g k) ≡ is_cut k) → (l : Leak) → is_cut (on_chose f a b g l) ≡ is_cut l
chose_cut_so f a b g h leak.over = refl
chose_cut_so f a b g h (leak.ran ns l) = refl
chose_cut_so f a b g h (leak.chose ns z x l) = h l
chose_cut_so f a b g h (leak.chose_cut ns z x) = refl
chose_cut_so f a b g h (leak.looped ts l) = refl
chose_cut_so f a b g h (leak.looped_cut ts) = refl
chose_cut_so f a b g h (leak.each rs l) = refl
chose_cut_so f a b g h (leak.each_cut rs) = refl
chose_cut_so f a b g h (leak.called ns y ms l) = refl
chose_cut_so f a b g h (leak.called_cut ns y) = refl

looped_cut_so : (f : Turns → Turns) (g : Leak → Leak) → ((k : Leak) → is_cut (g k) ≡ is_cut k) → (l : Leak) → is_cut (on_looped f g l) ≡ is_cut l
looped_cut_so f g h leak.over = refl
looped_cut_so f g h (leak.ran ns l) = refl
looped_cut_so f g h (leak.chose ns z x l) = refl
looped_cut_so f g h (leak.chose_cut ns z x) = refl
looped_cut_so f g h (leak.looped ts l) = h l
looped_cut_so f g h (leak.looped_cut ts) = refl
looped_cut_so f g h (leak.each rs l) = refl
looped_cut_so f g h (leak.each_cut rs) = refl
looped_cut_so f g h (leak.called ns b ms l) = refl
looped_cut_so f g h (leak.called_cut ns b) = refl

pub cut_stays : {O T F C : Type 0} (numbers : O → List ℕ → List ℕ) (test_numbers : T → List ℕ → List ℕ) (t : Tree O T F C) (l : Leak) → is_cut (renumbered numbers test_numbers t l) ≡ is_cut l
cut_stays numbers test_numbers done l = refl
cut_stays numbers test_numbers (op o r) l = ran_cut _ _ (cut_stays numbers test_numbers r) l
cut_stays numbers test_numbers (quiet o r) l = cut_stays numbers test_numbers r l
cut_stays numbers test_numbers (choose c a b r) l = chose_cut_so _ _ _ _ (cut_stays numbers test_numbers r) l
cut_stays numbers test_numbers (loop q p c b r) l = looped_cut_so _ _ (cut_stays numbers test_numbers r) l
cut_stays numbers test_numbers (each f b r) l = refl
cut_stays numbers test_numbers (call c b r) l = refl
