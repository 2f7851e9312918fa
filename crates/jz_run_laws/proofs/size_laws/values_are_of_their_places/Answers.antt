use Rattle.jz_run_laws.proofs.InPlaces.{in_place}
use Rattle.jz_run_laws.proofs.size_laws.values_are_of_their_places.Goals as goal

pub returns : goal.returns
returns c = in_place
