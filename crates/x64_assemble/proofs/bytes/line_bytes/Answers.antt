use Rattle.std.proofs.Common.{rules}
use Rattle.x64_assemble.proofs.CodeFound.{put_on}
use Rattle.x64_assemble.proofs.bytes.line_bytes.Goals as goal

pub loop-line-preserved : goal.loop-line-preserved
loop-line-preserved c =
    put_on c.args.lines.now c.loop-line.line-index _ (search rules) (search rules) c.args.table.now c.loop-line.bytes.items c.put_line.new.bytes.items c.loop-line.invariant c.in_ok-put_line.ensures
