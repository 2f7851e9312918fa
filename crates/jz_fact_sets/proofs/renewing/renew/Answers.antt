use Rattle.std.proofs.Common.{false, ap, ◌∙◌}
use Rattle.std.proofs.Math.Path.{fun_ext}
use Rattle.jz_layers.specs.Spots.{same_spot, variable_key, variable_spot, spot_of}
use Rattle.jz_layers.specs.Layered.{seen}
use Rattle.jz_fact_sets.specs.Kept.{known_at, known_or}
use Rattle.jz_fact_sets.specs.Renewing.{known_if, without_cells}
use Rattle.jz_fact_sets.proofs.Forgetting.{known_put, known_else, renewed_is}
use Rattle.jz_fact_sets.proofs.renewing.renew.Goals as goal

pub returns-clause-known : goal.returns-clause-known
returns-clause-known c =
    let n = variable_spot c.args.var.now in
    let know = known_at c.args.set.now in
    let left = known_at c.forget_own.new.set in
    fun_ext (λ k.
    ap (λ f. known_or (f k)) c.in_ok-put.ensures.put
    ∙ known_put (seen c.forget_own.new.set) (spot_of c.of.result) c.args.known k
    ∙ ap (λ s. known_if (same_spot s k) c.args.known (left k)) c.of.ensures
    ∙ known_else (same_spot n k) c.args.known (left k) (without_cells n false know k) (c.in_ok-forget_own.ensures.known k)
    ∙ renewed_is (variable_key c.args.var.now) c.args.known know k)
