use Rattle.jz_drawing.proofs.Pieces.{nothing_drawn, mark_drawn, meaningless_drawn, each_drawn, both_drawn}
use Rattle.jz_drawing.proofs.laws.pieces_are_drawn.Goals as goal

pub returns-clause-nothing : goal.returns-clause-nothing
returns-clause-nothing c = nothing_drawn

pub returns-clause-mark : goal.returns-clause-mark
returns-clause-mark c = mark_drawn

pub returns-clause-both : goal.returns-clause-both
returns-clause-both c = both_drawn

pub returns-clause-meaningless : goal.returns-clause-meaningless
returns-clause-meaningless c = meaningless_drawn

pub returns-clause-each : goal.returns-clause-each
returns-clause-each c = each_drawn
