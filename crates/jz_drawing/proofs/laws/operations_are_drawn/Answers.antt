use Rattle.jz_drawing.proofs.Operating.{op_drawn}
use Rattle.jz_drawing.proofs.laws.operations_are_drawn.Goals as goal

pub returns : goal.returns
returns c = op_drawn
