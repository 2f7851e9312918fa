use Rattle.std.proofs.Common.{true, ap, ◌∙◌}
use Rattle.std.proofs.Math.Path.{fun_ext}
use Rattle.jz_layers.specs.Spots.{variable_key, same_spot, spot_of}
use Rattle.jz_layers.specs.Layered.{seen}
use Rattle.jz_fact_sets.specs.Knowing.{nothing}
use Rattle.jz_fact_sets.specs.Kept.{known_at, known_or}
use Rattle.jz_fact_sets.specs.Renewing.{known_if, without_cells}
use Rattle.jz_fact_sets.proofs.Forgetting.{known_put, forgotten_is}
use Rattle.jz_fact_sets.proofs.renewing.forget_all.Goals as goal

pub returns-clause-known : goal.returns-clause-known
returns-clause-known c =
    let n = c.whole_of-whole.result in
    let know = known_at c.args.set.now in
    fun_ext (λ k.
    ap (λ f. known_or (f k)) c.in_ok-put.ensures.put
    ∙ known_put (seen c.forget_cells.new.set) (spot_of n) c.nothing.result k
    ∙ ap (λ x. known_if (same_spot (spot_of n) k) x (known_at c.forget_cells.new.set k)) c.nothing.ensures
    ∙ ap (λ f. known_if (same_spot (spot_of n) k) nothing (f k)) c.in_ok-forget_cells.ensures.known
    ∙ ap (λ s. known_if (same_spot s k) nothing (without_cells s true know k)) c.whole_of-whole.ensures
    ∙ forgotten_is (variable_key c.args.var.now) know k)
