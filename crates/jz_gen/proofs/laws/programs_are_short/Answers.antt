use Rattle.jz_gen.proofs.Short.{short_program}
use Rattle.jz_gen.proofs.laws.programs_are_short.Goals as goal

pub returns : goal.returns
returns c = short_program
