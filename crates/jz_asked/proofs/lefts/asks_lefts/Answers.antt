use Rattle.std.proofs.Common.{◌≡◌, ◌<◌, length, get_or, refl, ap, ◌∙◌, rules}
use Rattle.jz_alarms.specs.Conditions.{asks_lefts, asks_left}
use Rattle.jz_inside.specs.Said.{given_in, facts_in}
use Rattle.jz_asked.specs.InnerAsked.{asked_of, shown}
use Rattle.jz_asked.proofs.Asking.{met}
use Rattle.jz_asked.proofs.lefts.asks_lefts.Goals as goal

pub returns-in-Some : goal.returns-in-Some
returns-in-Some c =
    let g = given_in c.args.says in
    let s = facts_in c.args.says in
    let xs = c.args.to.now in
    let lt : c.loop-left.left-index < length xs = search rules in
    let is : c.left-item.result ≡ get_or xs c.loop-left.left-index c.left-item.result = search rules in
    met (asks_left g s c.args.size) (asks_lefts g s c.args.size) (λ x ys. refl) xs c.loop-left.left-index c.left-item.result lt is (shown c.in_ok-found.found) c.in_ok-found.ensures (asked_of c.in-Some.asked) (ap shown c.in-Some.is)
    ∙ c.loop-left.invariant
