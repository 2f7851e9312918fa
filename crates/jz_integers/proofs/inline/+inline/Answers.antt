use Rattle.std.proofs.Common.{◌<◌, ◌+◌, ◌*◌, arith}
use Rattle.jz_tree.specs.declared.expr.Expr.{size-Expr}
use Rattle.jz_integers.proofs.LeftSideLemmas.{first_within, begins, goes_on, last_within}
use Rattle.jz_integers.proofs.inline.+inline.Goals as goal

pub inline_value-single_value-requires : goal.inline_value-single_value-requires
inline_value-single_value-requires g t c κs within =
    let side = c.in_ok-waiting.field-0 in
    let x = first_within c.args.e.now side.first.now side.waiting.items c.in_ok-waiting.ensures.whole in
    let below : 3 * size-Expr side.first.now < t = omega (arith, x, c.decreases) in
    (below, (within, c.in_ok-waiting.ensures.single))

pub inline_value-loop-op-init : goal.inline_value-loop-op-init
inline_value-loop-op-init g t c =
    let side = c.in_ok-waiting.field-0 in
    begins (g.N.Numbers.numbers c.args.numbers.now) c.args.e.now side.first.now side.waiting.items c.in_ok-value.value c.in_ok-waiting.ensures.whole c.in_ok-value.ensures

pub inline_value-joined_value-requires : goal.inline_value-joined_value-requires
inline_value-joined_value-requires g t c κs within =
    let w = c.in-Some.field-0 in
    let x = last_within (g.N.Numbers.numbers c.args.numbers.now) c.args.e.now c.loop-op.waiting.items c.pop.new.self.items w c.loop-op.value c.in-Some.ensures.items c.loop-op.invariant in
    let below : 3 * size-Expr w.right.now + 2 < t = omega (arith, x, c.decreases) in
    (below, within)

pub inline_value-loop-op-preserved : goal.inline_value-loop-op-preserved
inline_value-loop-op-preserved g t c =
    goes_on (g.N.Numbers.numbers c.args.numbers.now) c.args.e.now c.loop-op.waiting.items c.pop.new.self.items c.in-Some.field-0 c.loop-op.value c.in_ok-value-2.value c.in-Some.ensures.items c.loop-op.invariant c.in_ok-value-2.ensures
