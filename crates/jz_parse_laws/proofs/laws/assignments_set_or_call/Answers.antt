use Rattle.jz_parse_laws.proofs.Reading.{read_set}
use Rattle.jz_parse_laws.proofs.laws.assignments_set_or_call.Goals as goal

pub returns : goal.returns
returns c = read_set
