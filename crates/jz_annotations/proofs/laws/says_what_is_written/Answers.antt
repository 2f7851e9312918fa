use Rattle.jz_annotations.proofs.Written.{says}
use Rattle.jz_annotations.proofs.laws.says_what_is_written.Goals as goal

pub returns : goal.returns
returns c = says
