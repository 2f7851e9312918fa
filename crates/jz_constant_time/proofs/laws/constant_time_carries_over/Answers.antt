use Rattle.jz_constant_time.proofs.Whole.{made_shows_nothing_secret}
use Rattle.jz_constant_time.proofs.laws.constant_time_carries_over.Goals as goal

pub returns : goal.returns
returns c = made_shows_nothing_secret
