use Rattle.jz_parse_laws.proofs.Reading.{read_named}
use Rattle.jz_parse_laws.proofs.laws.names_are_identifiers.Goals as goal

pub returns : goal.returns
returns c = read_named
