use Rattle.std.proofs.Common.{ap, ◌∙◌}
use Rattle.std.proofs.Math.Path.{fun_ext}
use Rattle.jz_layers.specs.Spots.{same_spot, spot_of, cell_spot}
use Rattle.jz_layers.specs.Layered.{seen}
use Rattle.jz_fact_sets.specs.Kept.{known_at, known_or}
use Rattle.jz_fact_sets.specs.Renewing.{known_if}
use Rattle.jz_fact_sets.proofs.Forgetting.{known_put}
use Rattle.jz_fact_sets.proofs.renewing.add_cell.Goals as goal

pub returns-clause-known : goal.returns-clause-known
returns-clause-known c =
    let n = c.cell_of.result in
    let know = known_at c.args.set.now in
    fun_ext (λ k.
    ap (λ f. known_or (f k)) c.in_ok-put.ensures.put
    ∙ known_put (seen c.args.set.now) (spot_of n) c.only_set.result k
    ∙ ap (λ s. known_if (same_spot s k) c.only_set.result (know k)) c.cell_of.ensures
    ∙ ap (λ x. known_if (same_spot (cell_spot c.args.var.now c.args.index) k) x (know k)) c.only_set.ensures)
