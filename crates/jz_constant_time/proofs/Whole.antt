-- Compiled functions whose expansions are constant time.
use Rattle.jz_constant_leaks.proofs.Alike.{expanded_fixed}
use Rattle.jz_constant_time.specs.Shown.{ConstantTimeCarriesOver}
use Rattle.jz_constant_time.proofs.Carrying.{shows_nothing_secret}

pub made_shows_nothing_secret : ConstantTimeCarriesOver
made_shows_nothing_secret p f k count c made x constant words others memory other rsp0 base place s t a b same n =
    shows_nothing_secret p f c made (expanded_fixed p f made.expanded k count x) constant words others memory other rsp0 base place s t a b same n
