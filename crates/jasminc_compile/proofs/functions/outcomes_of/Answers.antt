use Rattle.std.proofs.Common.{◌≡◌, List, length, arith, sym, subst, rules}
use Rattle.std.proofs.lemmas.List.{nil_from_length}
use Rattle.jasminc_compile.specs.declared.outcome.Outcome.{Outcome}
use Rattle.jasminc_compile.specs.declared.safety.SafeFun.{SafeFun}
use Rattle.jasminc_compile.specs.SafeFunctions.{exports_of}
use Rattle.jasminc_compile.proofs.Coming.{HasCome, none_came, next_is_safe, next_came, all_came}
use Rattle.jasminc_compile.proofs.functions.outcomes_of.Goals as goal

pub loop-one-init : goal.loop-one-init
loop-one-init c =
    let p = c.args.typed.now.program in
    let fs = exports_of p.funs in
    let same : c.into_iter-one-iterator.result.rest.items ≡ c.args.safes = search rules in
    subst (λ (rest : List SafeFun). HasCome p fs c.new-outcomes.result rest) (sym same)
    (subst (λ (os : List Outcome). HasCome p fs os c.args.safes) (sym c.new-outcomes.ensures) (none_came p fs c.args.safes c.requires))

pub outcome_of-requires : goal.outcome_of-requires
outcome_of-requires c =
    let p = c.args.typed.now.program in
    let fs = exports_of p.funs in
    next_is_safe p fs c.loop-one.outcomes c.in-Some.one c.next.new.self.rest.items
    (subst (λ (rest : List SafeFun). HasCome p fs c.loop-one.outcomes rest) c.in-Some.ensures.steps.0 c.loop-one.invariant)

pub loop-one-preserved : goal.loop-one-preserved
loop-one-preserved c =
    let p = c.args.typed.now.program in
    let fs = exports_of p.funs in
    subst (λ (os : List Outcome). HasCome p fs os c.next.new.self.rest.items) (sym c.in_ok-push.ensures.ok)
    (next_came p fs c.loop-one.outcomes c.in-Some.one c.next.new.self.rest.items c.in_ok-outcome.outcome
    (subst (λ (rest : List SafeFun). HasCome p fs c.loop-one.outcomes rest) c.in-Some.ensures.steps.0 c.loop-one.invariant) c.in_ok-outcome.ensures)

pub returns : goal.returns
returns c =
    let p = c.args.typed.now.program in
    let fs = exports_of p.funs in
    let at = c.loop-one in
    let none : length at.one-iterator.rest.items ≡ 0 = omega (arith, at.one-iterator.rest.ok, c.in-None.ensures.steps.0) in
    all_came p fs at.outcomes (subst (λ (rest : List SafeFun). HasCome p fs at.outcomes rest) (nil_from_length at.one-iterator.rest.items none) at.invariant)
