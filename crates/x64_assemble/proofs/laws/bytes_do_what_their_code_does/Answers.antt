use Rattle.x64_assemble.proofs.CodeLaw.{does_as}
use Rattle.x64_assemble.proofs.laws.bytes_do_what_their_code_does.Goals as goal

pub returns : goal.returns
returns c = λ t base rsp0 target s ok short fits back. does_as t ok short base rsp0 target fits s back
