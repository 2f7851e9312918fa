use Rattle.jz_type_storage.specs.InnerCandidates.{IsCandidate}
use Rattle.jz_type_storage.proofs.fall.first_level.Given as goal

abbrev pub invariant-loop-i : goal.invariant-loop-i
invariant-loop-i l = IsCandidate l.graph l.funs l.ranks l.i l.first
