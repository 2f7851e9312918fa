use Rattle.jz_operations.proofs.FrameLaws.{holding}
use Rattle.jz_operations.proofs.laws.a_frame_holds_the_cells.Goals as goal

pub returns : goal.returns
returns c = λ frame slots end m0 laid. holding frame slots end laid m0
