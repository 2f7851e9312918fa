use Rattle.jz_copied_types.proofs.Kept.{copies_keep, copies_stay}
use Rattle.jz_copied_types.proofs.Copies.{copies_are_typed}
use Rattle.jz_copied_types.proofs.laws.copies_are_typed.Goals as goal

pub returns-clause-expressions : goal.returns-clause-expressions
returns-clause-expressions c = copies_keep

pub returns-clause-assignments : goal.returns-clause-assignments
returns-clause-assignments c = copies_stay

pub returns-clause-bodies : goal.returns-clause-bodies
returns-clause-bodies c = copies_are_typed
