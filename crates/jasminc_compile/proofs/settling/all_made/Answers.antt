use Rattle.std.proofs.Common.{◌≡◌, List, length, arith, sym, subst, refl, rules}
use Rattle.std.proofs.lemmas.List.{nil_from_length}
use Rattle.jz_listing.specs.declared.compiled.Compiled.{Compiled}
use Rattle.jasminc_compile.specs.declared.outcome.Outcome.{Outcome}
use Rattle.jasminc_compile.proofs.Choosing.{AreLeft, next_made, one_made, all_left}
use Rattle.jasminc_compile.proofs.settling.all_made.Goals as goal

pub loop-outcome-init : goal.loop-outcome-init
loop-outcome-init c =
    let same : c.into_iter-outcome-iterator.result.rest.items ≡ c.args.outcomes = search rules in
    subst (λ (rest : List Outcome). AreLeft c.args.outcomes c.new-all.result rest) (sym same)
    (subst (λ (cs : List Compiled). AreLeft c.args.outcomes cs c.args.outcomes) (sym c.new-all.ensures) (record { all = refl; made = c.requires }))

pub function_in-requires : goal.function_in-requires
function_in-requires c =
    one_made c.args.outcomes c.loop-outcome.all c.next.new.self.rest.items c.in-Some.outcome
    (subst (λ (rest : List Outcome). AreLeft c.args.outcomes c.loop-outcome.all rest) c.in-Some.ensures.steps.0 c.loop-outcome.invariant)

pub loop-outcome-preserved : goal.loop-outcome-preserved
loop-outcome-preserved c =
    subst (λ (cs : List Compiled). AreLeft c.args.outcomes cs c.next.new.self.rest.items) (sym c.in_ok-push.ensures.ok)
    (next_made c.args.outcomes c.loop-outcome.all c.next.new.self.rest.items c.in-Some.outcome c.function_in.result
    (subst (λ (rest : List Outcome). AreLeft c.args.outcomes c.loop-outcome.all rest) c.in-Some.ensures.steps.0 c.loop-outcome.invariant) c.function_in.ensures)

pub returns : goal.returns
returns c =
    let at = c.loop-outcome in
    let none : length at.outcome-iterator.rest.items ≡ 0 = omega (arith, at.outcome-iterator.rest.ok, c.in-None.ensures.steps.0) in
    all_left c.args.outcomes at.all (subst (λ (rest : List Outcome). AreLeft c.args.outcomes at.all rest) (nil_from_length at.outcome-iterator.rest.items none) at.invariant)
