use Rattle.jz_meetings.proofs.OfTrees.{meeting_is}
use Rattle.jz_meetings.proofs.Kept.{meetings_are_kept}
use Rattle.jz_meetings.proofs.laws.meetings_are_kept.Goals as goal

pub returns-clause-trees : goal.returns-clause-trees
returns-clause-trees c = meeting_is

pub returns-clause-kept : goal.returns-clause-kept
returns-clause-kept c = meetings_are_kept
