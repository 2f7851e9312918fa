use Rattle.jz_unrolling_laws.proofs.AskedValues.{asked_values}
use Rattle.jz_unrolling_laws.proofs.CopiedValues.{copied_values}
use Rattle.jz_unrolling_laws.proofs.laws.asked_expressions_have_values.Goals as goal

pub returns-clause-asked : goal.returns-clause-asked
returns-clause-asked c names e x place named none = asked_values names e x named place none

pub returns-clause-copied : goal.returns-clause-copied
returns-clause-copied c names m e k x place agree t named none = copied_values m e k agree names x t named place none
