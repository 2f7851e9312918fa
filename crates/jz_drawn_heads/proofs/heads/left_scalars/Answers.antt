use Rattle.std.proofs.Common.{rules}
use Rattle.jz_drawn_heads.specs.Pieces.{keys_of}
use Rattle.jz_drawn_heads.proofs.SetScalars.{lefts_begun, lefts_next, lefts_done}
use Rattle.jz_drawn_heads.proofs.heads.left_scalars.Goals as goal

pub loop-left-init : goal.loop-left-init
loop-left-init c = lefts_begun c.args.to.now (keys_of c.args.vars.now.items)

pub loop-left-preserved : goal.loop-left-preserved
loop-left-preserved c =
    lefts_next c.args.to.now c.loop-left.left-index c.left-item.result (keys_of c.args.vars.now.items) (keys_of c.loop-left.vars.items) (keys_of c.left_scalar.new.vars.items) (search rules) (search rules) c.loop-left.invariant c.in_ok-left_scalar.ensures

pub returns : goal.returns
returns c = lefts_done c.args.to.now c.loop-left.left-index (keys_of c.args.vars.now.items) (keys_of c.loop-left.vars.items) (search rules) c.loop-left.invariant
