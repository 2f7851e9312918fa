use Rattle.x64_insn.proofs.Accesses.{bad_address}
use Rattle.x64_insn.proofs.laws.bad_address_is_an_invalid_byte.Goals as goal

pub returns : goal.returns
returns c = bad_address
