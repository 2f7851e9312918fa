use Rattle.jz_placing.proofs.Law.{places_law}
use Rattle.jz_placing.proofs.laws.placing_keeps_runs.Goals as goal

pub returns : goal.returns
returns c = λ frame places slots end low r0 m0 t rest behind n σ o s laid met g a.
    places_law frame places slots end low laid r0 m0 t rest behind n σ o s met g a
