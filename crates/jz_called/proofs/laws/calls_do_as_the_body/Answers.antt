use Rattle.jz_called.proofs.Calls.{called}
use Rattle.jz_called.proofs.laws.calls_do_as_the_body.Goals as goal

pub returns : goal.returns
returns c = called
