use Rattle.std.proofs.Common.{◌≡◌, ◌<◌, length, get_or, refl, ap, ◌∙◌, rules}
use Rattle.jz_meaning.specs.Values.{ref_of}
use Rattle.jz_alarms.specs.Conditions.{asks_results}
use Rattle.jz_inside.specs.Said.{facts_in}
use Rattle.jz_asked.specs.InnerAsked.{asked_of, shown, asks_set}
use Rattle.jz_asked.proofs.Asking.{met}
use Rattle.jz_asked.proofs.operations.asks_results.Goals as goal

pub returns-in-Some : goal.returns-in-Some
returns-in-Some c =
    let s = facts_in c.args.says in
    let xs = c.args.results.now in
    let lt : c.loop-result.result-index < length xs = search rules in
    let is : c.result-item.result ≡ get_or xs c.loop-result.result-index c.result-item.result = search rules in
    c.in_ok-alarm-in-Some.ensures
    ∙ met (λ x. asks_set s (ref_of x)) (λ ys. asks_results ys s) (λ x ys. refl) xs c.loop-result.result-index c.result-item.result lt is (shown c.asks_variable.result) c.asks_variable.ensures (asked_of c.in-Some.found) (ap shown c.in-Some.is)
    ∙ c.loop-result.invariant
