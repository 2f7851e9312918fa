use Rattle.std.proofs.Common.{rules, ◌∙◌}
use Rattle.jz_unrolling_values.specs.Numbers.{numbers_in}
use Rattle.jz_unrolling_values.proofs.NameLemmas.{unknown_more}
use Rattle.jz_unrolling_values.proofs.NumberLemmas.{went_set, went_then}
use Rattle.jz_unrolling_values.proofs.known.Known.forget.Goals as goal

pub loop-var-preserved : goal.loop-var-preserved
loop-var-preserved c =
    let k = c.loop-var.self in
    let next = c.set.new.self in (
      unknown_more (numbers_in k) (numbers_in next) c.args.vars.now c.loop-var.var-index c.var-item.result (search rules) (search rules) c.in_ok-set.ensures.numbers
          ∙ c.loop-var.invariant.0,
      went_then c.args.self.now k next c.loop-var.invariant.1 (went_set k next _ _ _ c.in_ok-set.ensures),
    )
