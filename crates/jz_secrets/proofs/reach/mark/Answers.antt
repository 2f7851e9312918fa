use Rattle.std.proofs.Common.{refl}
use Rattle.jz_secrets.proofs.Rows.{marks_again, marked_now, fewer_now}
use Rattle.jz_secrets.proofs.reach.mark.Goals as goal

pub returns-then-index-clause-marks : goal.returns-then-index-clause-marks
returns-then-index-clause-marks c = marks_again c.args.number c.args.marked.now.items c.args.left.now.items c.index.result.now c.requires c.index.ensures c.if-index.true

pub returns-clause-marks : goal.returns-clause-marks
returns-clause-marks c = marked_now c.args.number c.args.marked.now.items _ c.args.left.now.items _ c.requires refl c.in_ok-push.ensures.items

pub returns-clause-fewer : goal.returns-clause-fewer
returns-clause-fewer c =
    fewer_now c.args.number c.args.marked.now.items _ c.args.left.now.items _ c.index.result.now c.requires c.index.ensures c.if-index.false refl c.in_ok-push.ensures.items
