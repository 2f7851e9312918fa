use Rattle.jasminc_leaks.proofs.Showing.{matches_from}
use Rattle.jasminc_leaks.proofs.laws.leaks_are_those_of_the_bytes.Goals as goal

pub returns : goal.returns
returns c = matches_from
