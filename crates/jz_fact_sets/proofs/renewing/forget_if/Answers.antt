use Rattle.std.proofs.Common.{ap, sym, ◌∙◌}
use Rattle.std.specs.Prelude.{◌&&◌}
use Rattle.std.proofs.Math.Path.{fun_ext}
use Rattle.jz_layers.specs.Spots.{same_spot, spot_of}
use Rattle.jz_layers.specs.Layered.{seen}
use Rattle.jz_fact_sets.specs.Knowing.{nothing}
use Rattle.jz_fact_sets.specs.Kept.{known_at, known_or}
use Rattle.jz_fact_sets.specs.Renewing.{known_if}
use Rattle.jz_fact_sets.proofs.Forgetting.{known_put}
use Rattle.jz_fact_sets.proofs.renewing.forget_if.Goals as goal

pub returns-in_ok-put_noted-clause-known : goal.returns-in_ok-put_noted-clause-known
returns-in_ok-put_noted-clause-known c =
    let n = spot_of c.args.named in
    let know = known_at c.args.set.now in
    fun_ext (λ k.
    ap (λ f. known_or (f k)) c.in_ok-put_noted.ensures.put
    ∙ known_put (seen c.args.set.now) n c.nothing.result k
    ∙ ap (λ x. known_if (same_spot n k) x (know k)) c.nothing.ensures
    ∙ ap (λ b. known_if (b && same_spot n k) nothing (know k)) (sym c.if-yes.true))

pub returns-else-yes-clause-known : goal.returns-else-yes-clause-known
returns-else-yes-clause-known c =
    let n = spot_of c.args.named in
    let know = known_at c.args.set.now in
    fun_ext (λ k. ap (λ b. known_if (b && same_spot n k) nothing (know k)) (sym c.if-yes.false))
