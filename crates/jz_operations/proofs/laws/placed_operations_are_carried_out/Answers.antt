use Rattle.std.specs.Prelude.{IsTrue}
use Rattle.jz_operations.specs.Frames.{Holds}
use Rattle.jz_operations.proofs.FrameLaws.{holding}
use Rattle.jz_operations.proofs.Placed.{placed_step}
use Rattle.jz_operations.proofs.laws.placed_operations_are_carried_out.Goals as goal

pub returns : goal.returns
returns c = λ frame slots end m0 places before behind o σ st m next d laid placed agree e.
    placed_step frame places slots (Holds frame slots end m0) (holding frame slots end laid m0)
    (λ v. IsTrue (before v)) (λ v. IsTrue (behind v)) o placed σ st m next agree d e
