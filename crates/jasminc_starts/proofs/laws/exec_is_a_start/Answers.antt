use Rattle.jasminc_starts.proofs.Starts.{starts}
use Rattle.jasminc_starts.proofs.laws.exec_is_a_start.Goals as goal

pub returns : goal.returns
returns c = starts
