use Rattle.std.proofs.Common.{◌≡◌, ◌∙◌, ap, ◌+◌, ◌*◌, ◌<◌, length, arith, get_or}
use Rattle.jz_runs.specs.Trees.{done}
use Rattle.jz_place.specs.Bodies.{then_body, body_of}
use Rattle.jz_place.proofs.Bodies.{size, size_at}
use Rattle.jz_events.specs.Cases.{slots_of}
use Rattle.jz_events.proofs.Blocks.{one_more}
use Rattle.jz_events.proofs.body.+cases.Goals as goal

pub block_cases-node_case-requires : goal.block_cases-node_case-requires
block_cases-node_case-requires t c =
    let d : 4 * size (body_of c.args.nodes.now) + 1 ≡ t = c.decreases in
    let e = c.index-as_slice-i.is ∙ ap (λ x. get_or x c.loop-i.i c.index-as_slice-i.result) c.as_slice.ensures in
    let lt : c.loop-i.i < length c.args.nodes.now = omega (arith, ap length c.as_slice.ensures) in
    let h : 4 * size (then_body c.index-as_slice-i.result done) < t = omega (arith, size_at c.args.nodes.now c.loop-i.i c.index-as_slice-i.result lt e) in
    (h, tt)

pub block_cases-loop-i-preserved : goal.block_cases-loop-i-preserved
block_cases-loop-i-preserved t c =
    let e = c.index-as_slice-i.is ∙ ap (λ x. get_or x c.loop-i.i c.index-as_slice-i.result) c.as_slice.ensures in
    let lt : c.loop-i.i < length c.args.nodes.now = omega (arith, ap length c.as_slice.ensures) in
    one_more (slots_of c.args.frame.now) c.args.frame.now.size c.args.nodes.now c.loop-i.i c.index-as_slice-i.result c.in_ok-case.case c.loop-i.cases.items _ lt e c.loop-i.invariant c.in_ok-case.ensures c.in_ok-push.ensures.items
