use Rattle.std.proofs.Common.{ap, ◌∙◌, min}
use Rattle.jz_layers.specs.Spots.{variable_key}
use Rattle.jz_fact_sets.specs.Kept.{least_by, most_by, below_all}
use Rattle.jz_fact_sets.proofs.KnownLemmas.{variable_is}
use Rattle.jz_fact_sets.proofs.saying.SayingKnows.interval_of.Goals as goal

pub returns : goal.returns
returns c =
    let k = c.known-kept.result in
    let g = c.args.self.now.given.now in
    variable_is g c.args.self.now.set.now (variable_key c.args.var.now) c.args.size k c.lower.result c.below_all.result c.known-kept.ensures
    (
    c.lower.ensures
    ∙ ap (λ a. min a c.greatest_word-most.result) c.least_by-lo.ensures
    ∙ ap (min (least_by g.constants k.least)) c.greatest_word-most.ensures
    )
    (
    c.below_all.ensures
    ∙ ap (λ ps. below_all ps k.under c.most_by-hi.result ps) c.as_slice.ensures
    ∙ ap (λ h. below_all g.params k.under h g.params) (c.most_by-hi.ensures ∙ ap (most_by g.constants k.most) c.greatest_word-most.ensures)
    )
