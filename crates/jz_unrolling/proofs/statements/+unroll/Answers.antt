use Rattle.std.proofs.Common.{◌≡◌, ◌+◌, ◌∙◌, ◌∷◌, [], take, None, Some, true, false, refl, ap, sym, subst, arith, rules, to_z, of_z}
use Rattle.std.specs.Prelude.{not, is_some}
use Rattle.std.specs.Int.{w128}
use Rattle.std.proofs.lemmas.Int.{to_z-of_z}
use Rattle.jz_interp.specs.InnerParts.{body_piece}
use Rattle.jz_tree.specs.declared.stmt.StmtKind.TheVariants as kind
use Rattle.jz_meaning.specs.Runs.{block, assign_tree, statement_tree}
use Rattle.jz_meaning.specs.Trees.{quiet, choose, each, done}
use Rattle.jz_meaning.specs.Statements.{unset, values_between}
use Rattle.jz_interp.proofs.Falls.{weights_at}
use Rattle.jz_interp.proofs.Pieces.{assign_is, if_is, while_is, for_is, mark_is}
use Rattle.jz_change.specs.declared.change.Numbers.TheVariants.{Same}
use Rattle.jz_change.specs.declared.change.Step.TheVariants as step
use Rattle.jz_unroll.specs.Unrolling.{IsInlineInt}
use Rattle.jz_unrolling_values.specs.InlineNames.{names_in}
use Rattle.jz_unrolling_values.specs.Numbers.{numbers_in}
use Rattle.jz_unrolling_values.specs.Parts.{IsTest}
use Rattle.jz_unrolling_values.proofs.NumberLemmas.{restored_same}
use Rattle.jz_unrolling_values.proofs.PartLemmas.{ref_name, ref_copy}
use Rattle.jz_unrolling_values.proofs.RefusalLemmas.{handed}
use Rattle.jz_unrolling.specs.Refusals.{NeverFits}
use Rattle.jz_unrolling.specs.Steps.{no_callees, Adds, AddsStep, IsTurn, branch_of, while_of, turns_of, for_of, step_list}
use Rattle.jz_unrolling.proofs.AddLemmas.{adds_none, adds_next, adds_as}
use Rattle.jz_unrolling.proofs.FitLemmas.{at_never, never_as}
use Rattle.jz_unrolling.proofs.FormLemmas as form
use Rattle.jz_unrolling.proofs.statements.+unroll.Goals as goal

pub unroll_all-unroll_one-requires : goal.unroll_all-unroll_one-requires
unroll_all-unroll_one-requires t c =
    let fits = weights_at c.args.stmts.now c.loop-stmt.stmt-index c.stmt-item.result (search rules) (search rules) in
    (omega (arith, fits, c.decreases), tt)

pub unroll_all-loop-stmt-init : goal.unroll_all-loop-stmt-init
unroll_all-loop-stmt-init t c =
    let names = names_in c.args.unroller.now.vars.now in
    let k = c.args.known.now in
    subst (λ l. Adds names (block no_callees (take 0 c.args.stmts.now)) k k c.args.out.now c.args.out.now l) (sym c.in_ok-steps.ensures) (adds_none names k c.args.out.now)

pub unroll_all-loop-stmt-preserved : goal.unroll_all-loop-stmt-preserved
unroll_all-loop-stmt-preserved t c =
    let names = names_in c.args.unroller.now.vars.now in
    let piece = block no_callees (take (c.loop-stmt.stmt-index + 1) c.args.stmts.now) in
    subst (λ l. Adds names piece c.args.known.now c.unroll_one.new.known c.args.out.now c.unroll_one.new.out l) (sym c.in_ok-push_step.ensures)
    (adds_next names c.args.stmts.now c.loop-stmt.stmt-index c.stmt-item.result c.args.known.now c.loop-stmt.known c.unroll_one.new.known c.args.out.now c.loop-stmt.out c.unroll_one.new.out c.loop-stmt.steps (step_list c.in_ok-step.step)
    (search rules) (search rules) c.loop-stmt.invariant c.in_ok-step.ensures)

pub unroll_all-returns-in_err-step : goal.unroll_all-returns-in_err-step
unroll_all-returns-in_err-step t c =
    let names = names_in c.args.unroller.now.vars.now in
    handed _ _ c.from_residual-in_err-step.result c.in_err-step.field-0.0 c.from_residual-in_err-step.ensures.1 c.in_err-step.ensures
    (at_never names c.args.stmts.now c.loop-stmt.stmt-index c.stmt-item.result (numbers_in c.args.known.now) (numbers_in c.loop-stmt.known) (search rules) (search rules) c.loop-stmt.invariant.only)

-- ---- parts by themselves

pub unroll_apart-returns : goal.unroll_apart-returns
unroll_apart-returns t c =
    let names = names_in c.args.unroller.now.vars.now in (
      form.apart_so names c.args.stmts.now c.args.known.now c.enter-outer.new.self c.unroll_all.new.known c.unroll_all.new.out c.in_ok-steps.steps c.enter-outer.ensures.numbers
          (subst (λ l. Adds names (block no_callees c.args.stmts.now) c.enter-outer.new.self c.unroll_all.new.known l c.unroll_all.new.out c.in_ok-steps.steps) c.new-statements.ensures c.in_ok-steps.ensures),
      restored_same c.args.known.now c.enter-outer.new.self c.unroll_all.new.known c.leave.new.self c.enter-outer.result.items c.enter-outer.ensures.outer c.enter-outer.ensures.fresh c.enter-outer.ensures.numbers c.in_ok-steps.ensures.went c.in_ok-leave.ensures,
    )

pub unroll_apart-returns-in_err-steps : goal.unroll_apart-returns-in_err-steps
unroll_apart-returns-in_err-steps t c =
    let names = names_in c.args.unroller.now.vars.now in
    handed _ _ c.from_residual.result c.in_err-steps.field-0.0 c.from_residual.ensures.1 c.in_err-steps.ensures
    (form.apart_never names c.args.stmts.now c.args.known.now c.enter-outer.new.self c.enter-outer.ensures.numbers)

-- ---- `if`

pub unroll_arms-returns : goal.unroll_arms-returns
unroll_arms-returns t c =
    let names = names_in c.args.unroller.now.vars.now in
    let b = c.args.branch.now in
    let at = c.args.stmt.now.span in
    let yes = c.in_ok-yes.yes in
    let fails = c.in_ok-no.no in
    subst (λ q. AddsStep names (branch_of b at) c.args.known.now c.forget_set-2.new.known c.args.out.now c.push.new.self (step.If q Same (record { steps = yes.steps }) (record { steps = fails.steps }))) (sym c.new.ensures)
    (form.arms_add names b.cond.now c.args.cond at b.yes.now b.no.now c.args.known.now c.unroll_apart.new.known c.unroll_apart-2.new.known c.forget_set.new.known c.forget_set-2.new.known c.args.out.now c.push.new.self
    (record { notes = c.in_ok-copy_notes.field-0; span = at; kind = kind.If c.args.cond yes.statements fails.statements }) yes fails
    c.requires c.in_ok-yes.ensures.0 c.in_ok-yes.ensures.1 c.in_ok-no.ensures.0 c.in_ok-no.ensures.1 c.in_ok-forget_set.ensures c.in_ok-forget_set-2.ensures refl refl c.in_ok-push.ensures.ok)

pub unroll_arms-returns-in_err-yes : goal.unroll_arms-returns-in_err-yes
unroll_arms-returns-in_err-yes t c =
    let names = names_in c.args.unroller.now.vars.now in
    let b = c.args.branch.now in
    handed _ _ c.from_residual.result c.in_err-yes.field-0.0 c.from_residual.ensures.1 c.in_err-yes.ensures
    (form.first_never names b.cond.now c.args.stmt.now.span (block no_callees b.yes.now) (block no_callees b.no.now) (numbers_in c.args.known.now) c.requires.plain)

pub unroll_arms-returns-in_err-no : goal.unroll_arms-returns-in_err-no
unroll_arms-returns-in_err-no t c =
    let names = names_in c.args.unroller.now.vars.now in
    let b = c.args.branch.now in
    handed _ _ c.from_residual-in_err-no.result c.in_err-no.field-0.0 c.from_residual-in_err-no.ensures.1 c.in_err-no.ensures
    (form.second_never names b.cond.now c.args.stmt.now.span (block no_callees b.yes.now) (block no_callees b.no.now) (numbers_in c.args.known.now) c.args.known.now c.unroll_apart.new.known refl c.in_ok-yes.ensures.1 c.requires.plain)

pub unroll_if-returns-in_ok-steps-in-Always : goal.unroll_if-returns-in_ok-steps-in-Always
unroll_if-returns-in_ok-steps-in-Always t c =
    let names = names_in c.args.unroller.now.vars.now in
    let b = c.args.branch.now in
    let at = c.args.stmt.now.span in
    let z = c.in-Always.answer in
    let k = c.args.known.now in
    let new = c.unroll_all.new.known in
    let out = c.args.out.now in
    let out2 = c.unroll_all.new.out in
    let steps = c.in_ok-steps-in-Always.steps in
    subst (λ q. AddsStep names (branch_of b at) k new out out2 (step.Arm z q (record { steps = steps }))) (sym c.new.ensures)
    (form.arm_adds names b.cond.now at c.in-Always.field-1 z b.yes.now b.no.now c.taken-arm.result.now k new out out2 steps
    (subst (λ i. IsTest names (numbers_in k) b.cond.now i) c.in-Always.is c.in_ok-answer.ensures) c.taken-arm.ensures c.in_ok-steps-in-Always.ensures)

pub unroll_if-returns-in_err-answer : goal.unroll_if-returns-in_err-answer
unroll_if-returns-in_err-answer t c =
    let names = names_in c.args.unroller.now.vars.now in
    let b = c.args.branch.now in
    handed _ _ c.from_residual.result c.in_err-answer.field-0.0 c.from_residual.ensures.1 c.in_err-answer.ensures
    (form.if_test_never names b.cond.now c.args.stmt.now.span (block no_callees b.yes.now done) (block no_callees b.no.now done) (numbers_in c.args.known.now))

pub unroll_if-returns-in_err-steps-in-Always : goal.unroll_if-returns-in_err-steps-in-Always
unroll_if-returns-in_err-steps-in-Always t c =
    let names = names_in c.args.unroller.now.vars.now in
    let b = c.args.branch.now in
    let e = numbers_in c.args.known.now in
    handed _ _ c.from_residual-in_err-steps-in-Always.result c.in_err-steps-in-Always.field-0.0 c.from_residual-in_err-steps-in-Always.ensures.1 c.in_err-steps-in-Always.ensures
    (form.arm_stops names b.cond.now c.args.stmt.now.span c.in-Always.field-1 c.in-Always.answer b.yes.now b.no.now c.taken-arm.result.now e (subst (λ i. IsTest names e b.cond.now i) c.in-Always.is c.in_ok-answer.ensures) c.taken-arm.ensures)

-- ---- `while`

pub unroll_while-unroll_once-requires : goal.unroll_while-unroll_once-requires
unroll_while-unroll_once-requires t c =
    (omega (arith, c.decreases), c.in_ok-never.ensures.0 c.if-never.true)

pub unroll_while-unroll_turns-requires : goal.unroll_while-unroll_turns-requires
unroll_while-unroll_turns-requires t c =
    (omega (arith, c.decreases), λ n. let q : false ≡ true = sym c.if-never.false ∙ c.in_ok-never.ensures.1 n in absurd cc)

pub unroll_once-returns : goal.unroll_once-returns
unroll_once-returns t c =
    let names = names_in c.args.unroller.now.vars.now in
    let s = c.args.turns.now in
    subst (λ q. AddsStep names (turns_of s c.args.at) c.args.known.now c.unroll_all.new.known c.args.out.now c.unroll_all.new.out (step.Once (record { steps = c.in_ok-steps.steps }) q)) (sym c.new.ensures)
    (form.once_adds names (not (is_some s.body.now)) s.cond.now c.args.at s.prologue.now (body_piece no_callees s.body.now done) c.args.known.now c.unroll_all.new.known c.args.out.now c.unroll_all.new.out c.in_ok-steps.steps
    c.requires (c.in_ok-never.ensures.0 c.if-not-never.false) c.in_ok-steps.ensures)

pub unroll_once-returns-in_err-steps : goal.unroll_once-returns-in_err-steps
unroll_once-returns-in_err-steps t c =
    let names = names_in c.args.unroller.now.vars.now in
    let s = c.args.turns.now in
    handed _ _ c.from_residual.result c.in_err-steps.field-0.0 c.from_residual.ensures.1 c.in_err-steps.ensures
    (form.prologue_never names (not (is_some s.body.now)) (block no_callees s.prologue.now) s.cond.now c.args.at (body_piece no_callees s.body.now done) (numbers_in c.args.known.now) c.requires)

pub unroll_once-returns-then-not-never : goal.unroll_once-returns-then-not-never
unroll_once-returns-then-not-never t c =
    let names = names_in c.args.unroller.now.vars.now in
    let s = c.args.turns.now in
    form.then_true_never names (not (is_some s.body.now)) (block no_callees s.prologue.now) s.cond.now c.args.at (body_piece no_callees s.body.now done) (numbers_in c.args.known.now) (numbers_in c.unroll_all.new.known) c.requires c.in_ok-steps.ensures.only
    (λ n. let q : false ≡ true = sym c.if-not-never.true ∙ c.in_ok-never.ensures.1 n in absurd cc)

pub unroll_turns-returns : goal.unroll_turns-returns
unroll_turns-returns t c =
    let names = names_in c.args.unroller.now.vars.now in
    let s = c.args.turns.now in
    let at = c.args.stmt.now.span in
    let made = c.in_ok-made.made in
    subst (λ q. AddsStep names (turns_of s at) c.args.known.now c.unroll_loop.new.known c.args.out.now c.push.new.self (step.While (record { steps = made.prologue.steps }) q Same (record { steps = made.turn.steps }))) (sym c.new.ensures)
    (form.turns_add names s at c.args.known.now c.forget_set.new.known c.forget_body.new.known c.unroll_loop.new.known c.args.out.now c.push.new.self
    (record { notes = c.in_ok-copy_notes.field-0; span = at; kind = kind.While made.prologue.statements made.cond made.turn.body }) made
    c.requires c.in_ok-forget_set.ensures c.in_ok-forget_body.ensures c.in_ok-made.ensures.0 c.in_ok-made.ensures.1 refl refl c.in_ok-push.ensures.ok)

pub unroll_turns-returns-in_err-made : goal.unroll_turns-returns-in_err-made
unroll_turns-returns-in_err-made t c =
    let names = names_in c.args.unroller.now.vars.now in
    handed _ _ c.from_residual-in_err-made.result c.in_err-made.field-0.0 c.from_residual-in_err-made.ensures.1 c.in_err-made.ensures
    (form.turns_never names c.args.turns.now c.args.stmt.now.span c.args.known.now c.forget_set.new.known c.forget_body.new.known c.requires c.in_ok-forget_set.ensures c.in_ok-forget_body.ensures)

pub unroll_loop-returns : goal.unroll_loop-returns
unroll_loop-returns t c =
    let names = names_in c.args.unroller.now.vars.now in
    let s = c.args.turns.now in
    let old = c.args.known.now in
    let start = c.enter-outer.new.self in
    let end = c.unroll_all.new.known in (
      form.loop_so names s old start end (record { prologue = record { statements = c.unroll_all.new.out; steps = c.in_ok-steps.steps }; cond = c.in_ok-cond.cond; turn = c.in_ok-turn.turn }) c.enter-outer.ensures.numbers
          (subst (λ l. Adds names (block no_callees s.prologue.now) start end l c.unroll_all.new.out c.in_ok-steps.steps) c.new-statements.ensures c.in_ok-steps.ensures)
          c.in_ok-cond.ensures c.in_ok-turn.ensures.0,
      form.loop_same names old start end c.unroll_turn.new.known c.leave.new.self c.enter-outer.result.items c.enter-outer.ensures.outer c.enter-outer.ensures.fresh c.enter-outer.ensures.numbers c.in_ok-steps.ensures.went c.in_ok-turn.ensures.1 c.in_ok-leave.ensures,
    )

pub unroll_loop-returns-in_err-steps : goal.unroll_loop-returns-in_err-steps
unroll_loop-returns-in_err-steps t c =
    let names = names_in c.args.unroller.now.vars.now in
    handed _ _ c.from_residual.result c.in_err-steps.field-0.0 c.from_residual.ensures.1 c.in_err-steps.ensures
    (form.loop_prologue_never names c.args.turns.now c.args.known.now c.enter-outer.new.self c.enter-outer.ensures.numbers)

pub unroll_loop-returns-in_err-cond : goal.unroll_loop-returns-in_err-cond
unroll_loop-returns-in_err-cond t c =
    let names = names_in c.args.unroller.now.vars.now in
    handed _ _ c.from_residual-in_err-cond.result c.in_err-cond.field-0.0 c.from_residual-in_err-cond.ensures.1 c.in_err-cond.ensures
    (form.loop_test_never names c.args.turns.now c.args.known.now c.enter-outer.new.self c.unroll_all.new.known c.enter-outer.ensures.numbers c.in_ok-steps.ensures.only)

pub unroll_loop-returns-in_err-turn : goal.unroll_loop-returns-in_err-turn
unroll_loop-returns-in_err-turn t c =
    let names = names_in c.args.unroller.now.vars.now in
    handed _ _ c.from_residual-in_err-turn.result c.in_err-turn.field-0.0 c.from_residual-in_err-turn.ensures.1 c.in_err-turn.ensures
    (form.loop_body_never names c.args.turns.now c.args.known.now c.enter-outer.new.self c.unroll_all.new.known c.enter-outer.ensures.numbers c.in_ok-steps.ensures.only)

pub unroll_turn-returns-in-None : goal.unroll_turn-returns-in-None
unroll_turn-returns-in-None t c =
    let names = names_in c.args.unroller.now.vars.now in
    let k = c.args.known.now in (
      subst (λ l. IsTurn names c.args.body.now (numbers_in k) (record { body = None; steps = l })) (sym c.new.ensures)
          (subst (λ b. IsTurn names b (numbers_in k) (record { body = None; steps = [] })) (sym c.in-None.is) (form.turn_none names (numbers_in k))),
      record { changed = refl; numbers = refl },
    )

pub unroll_turn-returns-in_ok-made-in-Some : goal.unroll_turn-returns-in_ok-made-in-Some
unroll_turn-returns-in_ok-made-in-Some t c =
    let names = names_in c.args.unroller.now.vars.now in
    let k = c.args.known.now in
    let made = c.in_ok-made-in-Some.made in (
      subst (λ b. IsTurn names b (numbers_in k) (record { body = Some made.statements; steps = made.steps })) (sym c.in-Some.is) (form.turn_some names c.in-Some.body (numbers_in k) made c.in_ok-made-in-Some.ensures.0),
      c.in_ok-made-in-Some.ensures.1,
    )

pub unroll_turn-returns-in_err-made-in-Some : goal.unroll_turn-returns-in_err-made-in-Some
unroll_turn-returns-in_err-made-in-Some t c =
    let names = names_in c.args.unroller.now.vars.now in
    let e = numbers_in c.args.known.now in
    handed _ _ c.from_residual.result c.in_err-made-in-Some.field-0.0 c.from_residual.ensures.1 c.in_err-made-in-Some.ensures
    (λ fails. subst (λ b. NeverFits names (body_piece no_callees b) e) (sym c.in-Some.is) fails)

-- ---- `for`

pub unroll_rounds-loop-next-init : goal.unroll_rounds-loop-next-init
unroll_rounds-loop-next-init t c =
    let names = names_in c.args.unroller.now.vars.now in
    let r = c.args.rounds.now in
    let k = c.args.known.now in
    let first = to_z w128 (of_z w128 r.first) in
    subst (λ l. form.IsRounding names r c.args.body.now k k c.args.out.now c.args.out.now l first) (sym c.new-changes.ensures)
    (form.rounds_begin names r c.args.body.now k c.args.out.now first (to_z-of_z w128 r.first (search rules)))

pub unroll_rounds-loop-next-preserved : goal.unroll_rounds-loop-next-preserved
unroll_rounds-loop-next-preserved t c =
    let names = names_in c.args.unroller.now.vars.now in
    let r = c.args.rounds.now in
    let k = c.args.known.now in
    let i = to_z w128 c.loop-next.at-bits in
    subst (λ at. form.IsRounding names r c.args.body.now k c.unroll_all.new.known c.args.out.now c.unroll_all.new.out c.push.new.self at) (sym (to_z-of_z w128 c.in-Some.next (search rules)))
    (subst (λ l. form.IsRounding names r c.args.body.now k c.unroll_all.new.known c.args.out.now c.unroll_all.new.out l c.in-Some.next) (sym c.in_ok-push.ensures.ok)
    (form.rounds_next names r c.args.body.now k c.loop-next.known c.set.new.self c.unroll_all.new.known c.args.out.now c.loop-next.out c.unroll_all.new.out c.loop-next.changes i c.in-Some.next c.in_ok-steps.steps _ _
    (subst (λ b. values_between r.down i b ≡ i ∷ values_between r.down c.in-Some.next b) (to_z-of_z w128 r.bound (search rules)) c.in-Some.ensures)
    (sym (ref_name r.counter.now)) (sym (ref_copy r.counter.now)) c.in_ok-set.ensures c.in_ok-steps.ensures c.loop-next.invariant))

pub unroll_rounds-returns : goal.unroll_rounds-returns
unroll_rounds-returns t c =
    let names = names_in c.args.unroller.now.vars.now in
    let r = c.args.rounds.now in
    let i = to_z w128 c.loop-next.at-bits in
    form.rounds_add names r c.args.body.now c.args.known.now c.loop-next.known c.set-2.new.self c.args.out.now c.loop-next.out c.loop-next.changes i _ _ c.number-old.result
    (subst (λ b. values_between r.down i b ≡ []) (to_z-of_z w128 r.bound (search rules)) c.in_default.ensures)
    (sym (ref_name r.counter.now)) (sym (ref_copy r.counter.now)) c.number-old.ensures c.in_ok-set-2.ensures c.loop-next.invariant

pub unroll_rounds-returns-in_err-steps : goal.unroll_rounds-returns-in_err-steps
unroll_rounds-returns-in_err-steps t c =
    let names = names_in c.args.unroller.now.vars.now in
    let r = c.args.rounds.now in
    let i = to_z w128 c.loop-next.at-bits in
    handed _ _ c.from_residual-in_err-steps.result c.in_err-steps.field-0.0 c.from_residual-in_err-steps.ensures.1 c.in_err-steps.ensures
    (λ fails. form.rounds_stop names r c.args.body.now c.args.known.now c.loop-next.known c.set.new.self c.args.out.now c.loop-next.out c.loop-next.changes i c.in-Some.next _ _
    (subst (λ b. values_between r.down i b ≡ i ∷ values_between r.down c.in-Some.next b) (to_z-of_z w128 r.bound (search rules)) c.in-Some.ensures)
    (sym (ref_name r.counter.now)) (sym (ref_copy r.counter.now)) c.in_ok-set.ensures fails c.loop-next.invariant)

-- ---- single statements

pub unroll_one-returns-in_ok-step-in-Assign : goal.unroll_one-returns-in_ok-step-in-Assign
unroll_one-returns-in_ok-step-in-Assign t c =
    let names = names_in c.args.unroller.now.vars.now in
    let s = c.args.stmt.now in
    let a = c.in-Assign in
    adds_as names (statement_tree no_callees s) (assign_tree no_callees a.to a.op a.rhs a.cond s.span) c.args.known.now c.unroll_assign.new.known c.args.out.now c.unroll_assign.new.out (c.in_ok-step-in-Assign.step ∷ [])
    (assign_is no_callees s a.to a.op a.rhs a.cond a.is) c.in_ok-step-in-Assign.ensures

pub unroll_one-returns-in_ok-step-in-If : goal.unroll_one-returns-in_ok-step-in-If
unroll_one-returns-in_ok-step-in-If t c =
    let names = names_in c.args.unroller.now.vars.now in
    let s = c.args.stmt.now in
    let b = c.in-If in
    adds_as names (statement_tree no_callees s) (choose (record { cond = b.cond; at = s.span }) (block no_callees b.yes done) (block no_callees b.no done)) c.args.known.now c.unroll_if.new.known c.args.out.now c.unroll_if.new.out (c.in_ok-step-in-If.step ∷ [])
    (if_is no_callees s b.cond b.yes b.no b.is) c.in_ok-step-in-If.ensures

pub unroll_one-returns-in_ok-step-in-While : goal.unroll_one-returns-in_ok-step-in-While
unroll_one-returns-in_ok-step-in-While t c =
    let names = names_in c.args.unroller.now.vars.now in
    let s = c.args.stmt.now in
    let w = c.in-While in
    adds_as names (statement_tree no_callees s) (while_of w.prologue w.cond w.body s.span) c.args.known.now c.unroll_while.new.known c.args.out.now c.unroll_while.new.out (c.in_ok-step-in-While.step ∷ [])
    (while_is no_callees s w.prologue w.cond w.body w.is) c.in_ok-step-in-While.ensures

pub unroll_one-returns-in_ok-unroll_mark-in-Mark : goal.unroll_one-returns-in_ok-unroll_mark-in-Mark
unroll_one-returns-in_ok-unroll_mark-in-Mark t c =
    let names = names_in c.args.unroller.now.vars.now in
    let s = c.args.stmt.now in
    let m = c.in-Mark in
    adds_as names (statement_tree no_callees s) (quiet (unset m.vars)) c.args.known.now c.unroll_mark.new.known c.args.out.now c.unroll_mark.new.out []
    (mark_is no_callees s m.vars m.is) c.in_ok-unroll_mark-in-Mark.ensures

pub unroll_one-returns-in_ok-step-in-For : goal.unroll_one-returns-in_ok-step-in-For
unroll_one-returns-in_ok-step-in-For t c =
    let names = names_in c.args.unroller.now.vars.now in
    let s = c.args.stmt.now in
    let f = c.in-For in
    let r = c.in_ok-rounds-in-For.rounds in
    let has = c.in_ok-rounds-in-For.ensures in
    adds_as names (statement_tree no_callees s) (for_of r f.from f.to s.span f.body) c.args.known.now c.unroll_rounds.new.known c.args.out.now c.unroll_rounds.new.out (c.in_ok-step-in-For.step ∷ [])
    (for_is no_callees s f.counter f.from f.down f.to f.body f.is
    ∙ ap (λ v. each (record { counter = v; from = f.from; down = f.down; to = f.to; at = s.span }) (block no_callees f.body done)) (sym has.same)
    ∙ ap (λ d. each (record { counter = r.counter.now; from = f.from; down = d; to = f.to; at = s.span }) (block no_callees f.body done)) (sym has.way))
    (c.in_ok-step-in-For.ensures f.from f.to s.span
    (record { same = refl; way = refl; inline = subst (λ v. IsInlineInt names v) (sym has.same) has.inline; first = has.first; bound = has.bound }))

pub unroll_one-returns-in_err-step-in-Assign : goal.unroll_one-returns-in_err-step-in-Assign
unroll_one-returns-in_err-step-in-Assign t c =
    let names = names_in c.args.unroller.now.vars.now in
    let s = c.args.stmt.now in
    let a = c.in-Assign in
    handed _ _ c.from_residual.result c.in_err-step-in-Assign.field-0.0 c.from_residual.ensures.1 c.in_err-step-in-Assign.ensures
    (λ fails. never_as names (statement_tree no_callees s) (assign_tree no_callees a.to a.op a.rhs a.cond s.span) (numbers_in c.args.known.now) (assign_is no_callees s a.to a.op a.rhs a.cond a.is) fails)

pub unroll_one-returns-in_err-step-in-If : goal.unroll_one-returns-in_err-step-in-If
unroll_one-returns-in_err-step-in-If t c =
    let names = names_in c.args.unroller.now.vars.now in
    let s = c.args.stmt.now in
    let b = c.in-If in
    handed _ _ c.from_residual-in_err-step-in-If.result c.in_err-step-in-If.field-0.0 c.from_residual-in_err-step-in-If.ensures.1 c.in_err-step-in-If.ensures
    (λ fails. never_as names (statement_tree no_callees s) (choose (record { cond = b.cond; at = s.span }) (block no_callees b.yes done) (block no_callees b.no done)) (numbers_in c.args.known.now) (if_is no_callees s b.cond b.yes b.no b.is) fails)

pub unroll_one-returns-in_err-step-in-While : goal.unroll_one-returns-in_err-step-in-While
unroll_one-returns-in_err-step-in-While t c =
    let names = names_in c.args.unroller.now.vars.now in
    let s = c.args.stmt.now in
    let w = c.in-While in
    handed _ _ c.from_residual-in_err-step-in-While.result c.in_err-step-in-While.field-0.0 c.from_residual-in_err-step-in-While.ensures.1 c.in_err-step-in-While.ensures
    (λ fails. never_as names (statement_tree no_callees s) (while_of w.prologue w.cond w.body s.span) (numbers_in c.args.known.now) (while_is no_callees s w.prologue w.cond w.body w.is) fails)

pub unroll_one-returns-in_err-rounds-in-For : goal.unroll_one-returns-in_err-rounds-in-For
unroll_one-returns-in_err-rounds-in-For t c =
    let names = names_in c.args.unroller.now.vars.now in
    let s = c.args.stmt.now in
    let f = c.in-For in
    handed _ _ c.from_residual-in_err-rounds-in-For.result c.in_err-rounds-in-For.field-0.0 c.from_residual-in_err-rounds-in-For.ensures.1 c.in_err-rounds-in-For.ensures
    (λ fails. never_as names (statement_tree no_callees s) (each (record { counter = f.counter; from = f.from; down = f.down; to = f.to; at = s.span }) (block no_callees f.body done)) (numbers_in c.args.known.now) (for_is no_callees s f.counter f.from f.down f.to f.body f.is) (form.for_never names f.counter f.from f.down f.to s.span f.body (numbers_in c.args.known.now) fails))

pub unroll_one-returns-in_err-step-in-For : goal.unroll_one-returns-in_err-step-in-For
unroll_one-returns-in_err-step-in-For t c =
    let names = names_in c.args.unroller.now.vars.now in
    let s = c.args.stmt.now in
    let f = c.in-For in
    let r = c.in_ok-rounds-in-For.rounds in
    let has = c.in_ok-rounds-in-For.ensures in
    handed _ _ c.from_residual-in_err-step-in-For.result c.in_err-step-in-For.field-0.0 c.from_residual-in_err-step-in-For.ensures.1 c.in_err-step-in-For.ensures
    (λ fails.
    never_as names (statement_tree no_callees s) (for_of r f.from f.to s.span f.body) (numbers_in c.args.known.now)
    (for_is no_callees s f.counter f.from f.down f.to f.body f.is
    ∙ ap (λ v. each (record { counter = v; from = f.from; down = f.down; to = f.to; at = s.span }) (block no_callees f.body done)) (sym has.same)
    ∙ ap (λ d. each (record { counter = r.counter.now; from = f.from; down = d; to = f.to; at = s.span }) (block no_callees f.body done)) (sym has.way))
    (fails f.from f.to s.span
    (record { same = refl; way = refl; inline = subst (λ v. IsInlineInt names v) (sym has.same) has.inline; first = has.first; bound = has.bound })))
