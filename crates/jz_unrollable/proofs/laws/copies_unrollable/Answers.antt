use Rattle.jz_unrollable.proofs.Unrollable.{unrollable}
use Rattle.jz_unrollable.proofs.laws.copies_unrollable.Goals as goal

pub returns : goal.returns
returns c p f typed text has named fits plain = unrollable p f typed text has named fits plain
