use Rattle.std.proofs.Common.{rules}
use Rattle.jz_required.specs.Kept.{reading_of}
use Rattle.jz_required.proofs.Pushing.{one_argument_more}
use Rattle.jz_required.proofs.operations.all_reads.Goals as goal

pub loop-arg-preserved : goal.loop-arg-preserved
loop-arg-preserved c =
    one_argument_more c.args.args.now c.loop-arg.arg-index c.arg-item.result (reading_of c.loop-arg.found) (reading_of c.in_ok-read.read) (reading_of c.in_ok-found.found) (search rules) (search rules) c.in_ok-read.ensures
    c.in_ok-found.ensures c.loop-arg.invariant
