use Rattle.jz_homes.proofs.Reading.{operand_is_read}
use Rattle.jz_homes.proofs.laws.operands_are_read.Goals as goal

pub returns : goal.returns
returns c = λ frame home s σ z e a p ns v homing related is run. operand_is_read frame home homing s σ related is ns v run
