use Rattle.jz_disasm.proofs.Joining.{gap_or_lines}
use Rattle.jz_disasm.proofs.laws.gaps_have_no_lines.Goals as goal

pub returns : goal.returns
returns c = gap_or_lines
