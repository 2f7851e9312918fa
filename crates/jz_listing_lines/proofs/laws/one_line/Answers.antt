use Rattle.jz_listing_lines.proofs.LineLaws.{one_line}
use Rattle.jz_listing_lines.proofs.laws.one_line.Goals as goal

pub returns : goal.returns
returns c = one_line
