use Rattle.std.proofs.Common.{◌≡◌, None, false, ap, subst, ◌∙◌, rules}
use Rattle.jz_layers.specs.Spots.{same_spot, variable_key, variable_spot, cell_at}
use Rattle.jz_layers.specs.Layered.{seen}
use Rattle.jz_fact_sets.specs.Kept.{known_at, known_or}
use Rattle.jz_fact_sets.specs.Renewing.{without_cells}
use Rattle.jz_fact_sets.proofs.Forgetting.{none_forgotten}
use Rattle.jz_fact_sets.proofs.renewing.forget_own.Goals as goal

pub returns-then-not-has_cells-clause-known : goal.returns-then-not-has_cells-clause-known
returns-then-not-has_cells-clause-known c = λ k e.
    let h : c.has_cells.result ≡ false = search rules in
    none_forgotten (variable_key c.args.var.now) (known_at c.args.set.now)
    (λ i. ap (λ o. known_or o) (subst (λ n. seen c.args.set.now (cell_at n i) ≡ None) c.of-named.ensures (c.has_cells.ensures h i))) k e

pub returns-clause-known : goal.returns-clause-known
returns-clause-known c = λ k e. ap (λ f. f k) (c.in_ok-forget_cells.ensures.known ∙ ap (λ n. without_cells n false (known_at c.args.set.now)) c.of-named.ensures)
