use Rattle.std.proofs.Common.{◌∙◌, ap, rules, pos, to_z, of_z, ◌*ℤ◌, ◌+ℤ◌, ◌-ℤ◌, ◌^◌}
use Rattle.std.specs.Int.{w128}
use Rattle.std.proofs.lemmas.Int.{to_z-of_z}
use Rattle.jz_limits.specs.InnerLooked.{total}
use Rattle.jz_limits.proofs.Sums.{both_totals}
use Rattle.jz_limits.proofs.terms.added.Goals as goal

pub returns : goal.returns
returns c =
    both_totals (total c.sum.result) (total c.in_ok-rest.rest) (total c.in_ok-whole.whole) c.args.a.rest c.args.b.rest (c.args.a.turns *ℤ pos (2 ^ 128)) (c.args.b.turns *ℤ pos (2 ^ 128))
    (c.sum.ensures ∙ (ap (λ x. x +ℤ to_z w128 (of_z w128 c.args.b.rest)) (to_z-of_z w128 c.args.a.rest (search rules)) ∙ ap (λ y. c.args.a.rest +ℤ y) (to_z-of_z w128 c.args.b.rest (search rules))))
    c.in_ok-rest.ensures c.in_ok-whole.ensures
