use Rattle.jz_homes.proofs.Writing.{dest_is_written}
use Rattle.jz_homes.proofs.laws.destinations_are_written.Goals as goal

pub returns : goal.returns
returns c = λ frame home s σ z d b p u n ns t homing related is w small run. dest_is_written frame home homing s σ related is u n ns t w small run
