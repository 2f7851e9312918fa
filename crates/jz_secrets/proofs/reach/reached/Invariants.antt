use Rattle.std.proofs.Common.{◌+◌, length}
use Rattle.jz_secrets.specs.InnerGraphs.{unmarked}
use Rattle.jz_secrets.proofs.Rows.{Reaching}
use Rattle.jz_secrets.proofs.reach.reached.Given as goal

abbrev pub invariant-loop-number : goal.invariant-loop-number
invariant-loop-number l = Reaching l.rows l.start l.marked.items l.left.items

abbrev pub decreases-loop-number : goal.decreases-loop-number
decreases-loop-number l = unmarked l.marked.items + length l.left.items
