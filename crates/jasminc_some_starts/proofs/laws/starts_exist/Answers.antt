use Rattle.jasminc_some_starts.proofs.Starts.{room_has_starts, low_regions_have_starts}
use Rattle.jasminc_some_starts.proofs.laws.starts_exist.Goals as goal

pub returns-clause-room : goal.returns-clause-room
returns-clause-room c = room_has_starts

pub returns-clause-low : goal.returns-clause-low
returns-clause-low c = low_regions_have_starts
