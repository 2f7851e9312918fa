use Rattle.jasminc_compile.proofs.Making.{too_large}
use Rattle.jasminc_compile.proofs.compiling.frame_at.Goals as goal

pub returns : goal.returns
returns c = too_large c.args.typed.now.program c.args.place c.in_ok-name.name c.in_ok-name.ensures c.requires.refused
