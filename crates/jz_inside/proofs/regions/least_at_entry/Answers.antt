use Rattle.std.proofs.Common.{◌≡◌, ◌<◌, true, length, get_or, ◌∙◌, rules}
use Rattle.jz_meaning.specs.States.{same_key}
use Rattle.jz_layers.specs.Spots.{variable_key}
use Rattle.jz_inside.proofs.Reading.{least_here}
use Rattle.jz_inside.proofs.regions.least_at_entry.Goals as goal

pub returns-then-same_variable : goal.returns-then-same_variable
returns-then-same_variable c =
    let ps = c.args.params.now in
    let lt : c.loop-param.param-index < length ps = search rules in
    let is : c.param-item.result ≡ get_or ps c.loop-param.param-index c.param-item.result = search rules in
    let same : same_key (variable_key c.param-item.result.var) (variable_key c.args.var.now) ≡ true = search rules in
    c.lowest.ensures ∙ least_here ps c.loop-param.param-index c.param-item.result (variable_key c.args.var.now) lt is same ∙ c.loop-param.invariant
