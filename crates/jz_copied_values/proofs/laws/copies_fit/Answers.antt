use Rattle.jz_copied_values.proofs.CopiedWhole.{whole_fits}
use Rattle.jz_copied_values.proofs.laws.copies_fit.Goals as goal

pub returns : goal.returns
returns c names i t own has named fits = whole_fits names i t own has named fits
