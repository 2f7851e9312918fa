use Rattle.std.proofs.Common.{drop}
use Rattle.jz_type_storage.specs.Paths.{setting}
use Rattle.jz_type_storage.specs.InnerWalks.{members}
use Rattle.jz_type_storage.proofs.Walking.{Walking}
use Rattle.jz_type_storage.proofs.walk.set_lefts.Given as goal

abbrev pub invariant-loop-lval : goal.invariant-loop-lval
invariant-loop-lval l = Walking (members l.asked.keys) setting l.to l.initial.set.keys l.best (drop l.lval-index l.to) l.set.keys
