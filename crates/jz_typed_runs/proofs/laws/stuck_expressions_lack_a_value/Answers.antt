use Rattle.jz_typed_runs.proofs.Causing.{cause_law}
use Rattle.jz_typed_runs.proofs.ReachedCauses.{reached_causes}
use Rattle.jz_typed_runs.proofs.laws.stuck_expressions_lack_a_value.Goals as goal

pub returns : goal.returns
returns c = record { causes = cause_law; reached = reached_causes }
