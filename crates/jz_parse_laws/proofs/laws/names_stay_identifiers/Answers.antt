use Rattle.jz_parse_laws.proofs.Resolved.{stay_named}
use Rattle.jz_parse_laws.proofs.laws.names_stay_identifiers.Goals as goal

pub returns : goal.returns
returns c = stay_named
