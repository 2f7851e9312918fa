use Rattle.std.specs.Int.{w128}
use Rattle.std.proofs.Common.{◌≡◌, ◌∙◌, ap, rules}
use Rattle.std.proofs.lemmas.Int.{to_z-of_z}
use Rattle.std.specs.Prelude.{pos, ◌<ℤ◌, unsigned_abs}
use Rattle.jz_inside.proofs.Summing.{below_zero, from_zero}
use Rattle.jz_inside.proofs.sums.add_number.Goals as goal

pub returns-then-n-lt0 : goal.returns-then-n-lt0
returns-then-n-lt0 c =
    let lt : c.args.n <ℤ pos 0 = search rules in
    below_zero c.args.more.now.items c.args.less.now.items c.push.new.self.items c.unsigned_abs.result c.args.n c.in_ok-push.ensures.items lt (c.unsigned_abs.ensures.value ∙ ap unsigned_abs (to_z-of_z w128 c.args.n (search rules)))

pub returns : goal.returns
returns c =
    let ge : c.args.n <ℤ pos 0 → ⊥ = search rules in
    from_zero c.args.more.now.items c.args.less.now.items c.push-2.new.self.items c.unsigned_abs-2.result c.args.n c.in_ok-push-2.ensures.items ge (c.unsigned_abs-2.ensures.value ∙ ap unsigned_abs (to_z-of_z w128 c.args.n (search rules)))
