use Rattle.std.proofs.Common.{◌∙◌, ap, rules, pos, to_z, of_z, ◌*ℤ◌, ◌+ℤ◌, ◌-ℤ◌, ◌^◌}
use Rattle.std.specs.Int.{w128}
use Rattle.std.proofs.lemmas.Int.{to_z-of_z}
use Rattle.jz_limits.specs.InnerLooked.{total}
use Rattle.jz_limits.proofs.Sums.{less_total}
use Rattle.jz_limits.proofs.terms.less.Goals as goal

pub returns : goal.returns
returns c =
    less_total (total c.difference.result) (total c.in_ok-whole.whole) c.args.a.rest c.args.b (c.args.a.turns *ℤ pos (2 ^ 128))
    (c.difference.ensures ∙ (ap (λ x. x -ℤ to_z w128 (of_z w128 c.args.b)) (to_z-of_z w128 c.args.a.rest (search rules)) ∙ ap (λ y. c.args.a.rest -ℤ y) (to_z-of_z w128 c.args.b (search rules))))
    c.in_ok-whole.ensures
