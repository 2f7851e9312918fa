use Rattle.x64_decode.proofs.DecodeExact.{one_form}
use Rattle.x64_decode.proofs.one_form.Goals as goal

pub returns : goal.returns
returns c = one_form
