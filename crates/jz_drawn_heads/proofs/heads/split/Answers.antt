use Rattle.std.proofs.Common.{rules, refl}
use Rattle.jz_drawn_labels.proofs.Operated.{next_of}
use Rattle.jz_drawn_heads.proofs.Splitting.{heads_begun, heads_next, heads_done}
use Rattle.jz_drawn_heads.proofs.heads.split.Goals as goal

pub loop-target-init : goal.loop-target-init
loop-target-init c = heads_begun c.args.vars.now c.args.drawing.now _ c.requires.low (search rules)

pub split_one-requires : goal.split_one-requires
split_one-requires c = c.loop-target.invariant.low

pub loop-target-preserved : goal.loop-target-preserved
loop-target-preserved c =
    heads_next c.args.vars.now c.loop-target.target-index c.target-item.result _ c.next-start.result c.args.drawing.now c.loop-target.drawing c.split_one.new.drawing c.loop-target.heads.items c.split_one.new.heads.items (search rules) (search rules) refl (next_of c.args.drawing.now c.next-start.result c.next-start.ensures)
    c.requires.bounded c.loop-target.invariant c.in_ok-split_one.ensures

pub returns : goal.returns
returns c = heads_done c.args.vars.now c.loop-target.target-index c.args.drawing.now c.loop-target.drawing c.loop-target.heads.items (search rules) c.loop-target.invariant
