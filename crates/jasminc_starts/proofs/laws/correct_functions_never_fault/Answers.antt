use Rattle.jasminc_starts.proofs.Starts.{never_faults}
use Rattle.jasminc_starts.proofs.laws.correct_functions_never_fault.Goals as goal

pub returns : goal.returns
returns c = never_faults
