use Rattle.std.proofs.Common.{ap, ◌∙◌}
use Rattle.jz_layers.specs.Spots.{spot_of, same_spot}
use Rattle.jz_layers.specs.Layered.{seen}
use Rattle.jz_fact_sets.specs.Kept.{known_at, known_or}
use Rattle.jz_fact_sets.specs.Renewing.{known_if}
use Rattle.jz_fact_sets.proofs.Forgetting.{known_put}
use Rattle.jz_fact_steps.specs.Telling.{join}
use Rattle.jz_fact_steps.proofs.Joining.{told_facts}
use Rattle.jz_fact_steps.proofs.telling.tell_variable.Goals as goal

pub returns-clause-told : goal.returns-clause-told
returns-clause-told c g =
    let know = known_at c.args.set.now in
    told_facts g c.args.var.now c.args.told know (known_at c.put.new.self)
    (λ k.
    ap (λ f. known_or (f k)) c.in_ok-put.ensures.put
    ∙ known_put (seen c.args.set.now) (spot_of c.of-named.result) c.join.result k
    ∙ ap (λ x. known_if (same_spot (spot_of c.of-named.result) k) x (know k)) (c.join.ensures ∙ ap (λ o. join o c.args.told) c.known_at-old.ensures)
    ∙ ap (λ s. known_if (same_spot s k) (join (know s) c.args.told) (know k)) c.of-named.ensures)
