use Rattle.x64_decode.proofs.DecodeExact.{read_again}
use Rattle.x64_decode.proofs.read_again.Goals as goal

pub returns : goal.returns
returns c = read_again
