use Rattle.std.proofs.Common.{◌∙◌, ap, sym, subst, refl, arith, rules}
use Rattle.jz_tree.specs.declared.stmt.StmtKind.TheVariants as kind
use Rattle.jz_interp.proofs.Falls.{weights_at}
use Rattle.jz_interp.specs.InnerParts.{body_piece}
use Rattle.jz_unrolling_values.specs.InlineNames.{names_in}
use Rattle.jz_unrolling_values.proofs.NumberLemmas.{went_none, went_then}
use Rattle.jz_unrolling.specs.Steps.{no_callees, Forgets}
use Rattle.jz_unrolling.proofs.ForgetLemmas as forget
use Rattle.jz_unrolling.proofs.forgetting.+forget.Goals as goal

pub forget_set-forget_one-requires : goal.forget_set-forget_one-requires
forget_set-forget_one-requires t c =
    let fits = weights_at c.args.stmts.now c.loop-stmt.stmt-index c.stmt-item.result (search rules) (search rules) in
    (omega (arith, fits, c.decreases), tt)

pub forget_set-loop-stmt-init : goal.forget_set-loop-stmt-init
forget_set-loop-stmt-init t c = (refl, went_none c.args.known.now)

pub forget_set-loop-stmt-preserved : goal.forget_set-loop-stmt-preserved
forget_set-loop-stmt-preserved t c =
    let names = names_in c.args.vars.now in
    let k = c.loop-stmt.known in
    let next = c.forget_one.new.known in (
      forget.forgets_next names c.args.stmts.now c.loop-stmt.stmt-index c.stmt-item.result k next (search rules) (search rules) c.in_ok-forget_one.ensures
          ∙ c.loop-stmt.invariant.0,
      went_then c.args.known.now k next c.loop-stmt.invariant.1 c.in_ok-forget_one.ensures.went,
    )

pub forget_set-returns : goal.forget_set-returns
forget_set-returns t c =
    forget.all_forgotten (names_in c.args.vars.now) c.args.stmts.now c.loop-stmt.stmt-index c.args.known.now c.loop-stmt.known (search rules) c.loop-stmt.invariant.0 c.loop-stmt.invariant.1

pub forget_body-returns-in-None : goal.forget_body-returns-in-None
forget_body-returns-in-None t c =
    let k = c.args.known.now in
    subst (λ b. Forgets (names_in c.args.vars.now) (body_piece no_callees b) k k) (sym c.in-None.is) (record { numbers = refl; went = went_none k })

pub forget_body-returns-in_ok-forget_set-in-Some : goal.forget_body-returns-in_ok-forget_set-in-Some
forget_body-returns-in_ok-forget_set-in-Some t c =
    subst (λ b. Forgets (names_in c.args.vars.now) (body_piece no_callees b) c.args.known.now c.forget_set.new.known) (sym c.in-Some.is) c.in_ok-forget_set-in-Some.ensures

pub forget_one-returns-in_ok-forget_target-in-Value : goal.forget_one-returns-in_ok-forget_target-in-Value
forget_one-returns-in_ok-forget_target-in-Value t c =
    let a = c.in-Assign in
    forget.value_forgets (names_in c.args.vars.now) c.args.stmt.now a.to a.op c.in-Value.field-0 a.cond c.args.known.now c.forget_target.new.known
    (a.is ∙ ap (λ r. kind.Assign a.to a.op r a.cond) c.in-Value.is) c.in_ok-forget_target-in-Value.ensures.numbers c.in_ok-forget_target-in-Value.ensures.went

pub forget_one-returns-in-Call : goal.forget_one-returns-in-Call
forget_one-returns-in-Call t c =
    let a = c.in-Assign in
    let i = c.in-Call in
    forget.call_forgets (names_in c.args.vars.now) c.args.stmt.now a.to a.op i.field-0 i.field-1 i.field-2 a.cond c.args.known.now (a.is ∙ ap (λ r. kind.Assign a.to a.op r a.cond) i.is)

pub forget_one-returns-in-Intrinsic : goal.forget_one-returns-in-Intrinsic
forget_one-returns-in-Intrinsic t c =
    let a = c.in-Assign in
    let i = c.in-Intrinsic in
    forget.instruction_forgets (names_in c.args.vars.now) c.args.stmt.now a.to a.op i.field-0 i.field-1 i.field-2 a.cond c.args.known.now (a.is ∙ ap (λ r. kind.Assign a.to a.op r a.cond) i.is)

pub forget_one-returns-in_ok-forget_set-in-If-2 : goal.forget_one-returns-in_ok-forget_set-in-If-2
forget_one-returns-in_ok-forget_set-in-If-2 t c =
    let i = c.in-If in
    forget.if_forgets (names_in c.args.vars.now) c.args.stmt.now i.field-0 i.yes i.no c.args.known.now c.forget_set.new.known c.forget_set-in-If.new.known i.is c.in_ok-forget_set-in-If.ensures c.in_ok-forget_set-in-If-2.ensures

pub forget_one-returns-in_ok-forget_body-in-While : goal.forget_one-returns-in_ok-forget_body-in-While
forget_one-returns-in_ok-forget_body-in-While t c =
    let i = c.in-While in
    forget.while_forgets (names_in c.args.vars.now) c.args.stmt.now i.prologue i.cond i.body c.args.known.now c.forget_set-in-While.new.known c.forget_body.new.known i.is c.in_ok-forget_set-in-While.ensures c.in_ok-forget_body-in-While.ensures

pub forget_one-returns-in_ok-forget_set-in-For : goal.forget_one-returns-in_ok-forget_set-in-For
forget_one-returns-in_ok-forget_set-in-For t c =
    let i = c.in-For in
    forget.for_forgets (names_in c.args.vars.now) c.args.stmt.now i.counter i.from i.down i.to i.body c.args.known.now c.forget_set-in-For.new.known i.is c.in_ok-forget_set-in-For.ensures

pub forget_one-returns-in_ok-forget-in-Mark : goal.forget_one-returns-in_ok-forget-in-Mark
forget_one-returns-in_ok-forget-in-Mark t c =
    let i = c.in-Mark in
    forget.mark_forgets (names_in c.args.vars.now) c.args.stmt.now i.marked c.args.known.now c.forget.new.self i.is c.in_ok-forget-in-Mark.ensures.numbers c.in_ok-forget-in-Mark.ensures.went
