use Rattle.std.proofs.Common.{◌≡◌, ◌≤◌, ◌<◌, ◌+◌, ◌*◌, ◌-◌, ◌/◌, ◌^◌, ◌∙◌, ap, sym, subst, arith}
use Rattle.jz_tree.specs.declared.expr.Expr.{size-Expr}
use Rattle.jz_integers.specs.Integers.{plain_value}
use Rattle.jz_integers.specs.InnerLeftSides.{left_at}
use Rattle.jz_integers.proofs.StepLemmas.{further, no_larger, climbed_one, below_smaller}
use Rattle.jz_integers.proofs.written.+written.Goals as goal

pub climbed-climbed-middle-requires : goal.climbed-climbed-middle-requires
climbed-climbed-middle-requires t c =
    let n = c.args.steps in
    let smaller : size-Expr c.down.result.now ≤ size-Expr c.args.e.now = subst (λ x. size-Expr x ≤ size-Expr c.args.e.now) (sym c.down.ensures) (no_larger (n / 2) c.args.e.now) in
    let back : n / 2 + (n - n / 2) ≡ n = omega (arith, c.if-steps-gt1.true) in
    let fewer : n - n / 2 < n = omega (arith, c.if-steps-gt1.true) in
    let falls : 2 ^ 32 * size-Expr c.down.result.now + (n - n / 2) < t = omega (arith, smaller, fewer, c.decreases) in
    let there : left_at n c.args.e.now ≡ left_at (n - n / 2) c.down.result.now =
    ap (λ k. left_at k c.args.e.now) (sym back) ∙ sym (further (n / 2) (n - n / 2) c.args.e.now) ∙ ap (left_at (n - n / 2)) (sym c.down.ensures) in
    (falls, c.requires ∙ ap plain_value there)

pub climbed-returns-in-Bin : goal.climbed-returns-in-Bin
climbed-returns-in-Bin t c =
    let one : c.args.steps ≡ 1 = omega (arith, c.if-steps-gt1.false, c.if-steps-eq0.false) in
    climbed_one c.args.steps c.in-Bin.op c.args.e.now c.in-Bin.field-1 c.in-Bin.right c.in-Bin.field-3 c.args.value c.value_of.result c.joined.result one c.in-Bin.is c.requires (c.value_of.ensures ∙ ap plain_value c.get.ensures) c.joined.ensures

pub value_of-value_of-first-requires : goal.value_of-value_of-first-requires
value_of-value_of-first-requires t c =
    let x = below_smaller c.left_length-length.result c.in-Bin.field-0 c.args.e.now c.in-Bin.left c.in-Bin.field-2 c.down.result.now c.in-Bin.field-3 c.in-Bin.is (c.down.ensures ∙ ap (left_at c.left_length-length.result) c.get-in-Bin-2.ensures) in
    let falls : 2 ^ 32 * (size-Expr c.down.result.now + 1) < t = omega (arith, x, c.decreases) in
    (falls, tt)
