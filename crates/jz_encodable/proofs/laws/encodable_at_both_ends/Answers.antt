use Rattle.jz_encodable.proofs.Spelling.{encodable, at_both}
use Rattle.jz_encodable.proofs.laws.encodable_at_both_ends.Goals as goal

pub returns-clause-if_both : goal.returns-clause-if_both
returns-clause-if_both c = encodable

pub returns-clause-only_if : goal.returns-clause-only_if
returns-clause-only_if c = at_both
