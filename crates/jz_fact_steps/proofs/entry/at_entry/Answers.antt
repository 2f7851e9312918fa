use Rattle.std.proofs.Common.{◌+◌, ◌<◌, ◌≤◌, length, get_or, refl, ap, ◌∙◌, subst}
use Rattle.jz_layers.specs.Spots.{spot_of, same_spot}
use Rattle.jz_layers.specs.Layered.{seen}
use Rattle.jz_fact_sets.specs.Kept.{known_at, known_or}
use Rattle.jz_fact_sets.specs.Renewing.{known_if}
use Rattle.jz_fact_sets.proofs.Forgetting.{known_put}
use Rattle.jz_fact_steps.specs.Entering.{IsEntered}
use Rattle.jz_fact_steps.proofs.AtEntry.{entered_none, entered_more, entered_all}
use Rattle.jz_fact_steps.proofs.entry.at_entry.Goals as goal

pub loop-param-init : goal.loop-param-init
loop-param-init c = (refl, entered_none c.args.given.now (known_at c.new-set.result) (λ k. ap known_or (ap (λ f. f k) c.new-set.ensures)))

pub loop-param-preserved : goal.loop-param-preserved
loop-param-preserved c =
    let g = c.args.given.now in
    let i = c.loop-param.param-index in
    let p = c.param-item.result in
    let same = c.as_slice-param-items.ensures in
    let l : i < length g.params = subst (λ ps. i < length ps) same c.loop-param-test.true in (
      ap (λ n. n + 1) c.loop-param.invariant.0,
      entered_more g i p c.of_parameter-known.result (known_at c.loop-param.set) (known_at c.put.new.self) c.requires.different l (c.param-item.is ∙ ap (λ ps. get_or ps i p) same)
          (subst (λ n. IsEntered p n c.of_parameter-known.result) c.loop-param.invariant.0 c.of_parameter-known.ensures)
          (λ k. ap (λ f. known_or (f k)) c.in_ok-put.ensures.put ∙ known_put (seen c.loop-param.set) (spot_of c.of.result) c.of_parameter-known.result k
          ∙ ap (λ s. known_if (same_spot s k) c.of_parameter-known.result (known_at c.loop-param.set k)) c.of.ensures)
          c.loop-param.invariant.1,
    )

pub returns : goal.returns
returns c =
    let g = c.args.given.now in
    let same = c.as_slice-param-items.ensures in
    let l : length g.params ≤ c.loop-param.param-index = subst (λ ps. length ps ≤ c.loop-param.param-index) same c.loop-param-test.false in
    entered_all g c.loop-param.param-index (known_at c.loop-param.set) l c.loop-param.invariant.1
