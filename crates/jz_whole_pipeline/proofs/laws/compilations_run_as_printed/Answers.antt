use Rattle.jz_whole_pipeline.proofs.Printed.{run_as_printed}
use Rattle.jz_whole_pipeline.proofs.laws.compilations_run_as_printed.Goals as goal

pub returns : goal.returns
returns c = run_as_printed
