use Rattle.jz_lowered.proofs.Entries.{entered}
use Rattle.jz_lowered.proofs.laws.entries_are_related.Goals as goal

pub returns : goal.returns
returns c = λ frame home f words memory homing h bytes. entered frame home homing memory f.params words h bytes
