use Rattle.std.proofs.Common.{drop}
use Rattle.jz_type_storage.specs.Paths.{flow_of}
use Rattle.jz_type_storage.specs.InnerWalks.{members}
use Rattle.jz_type_storage.proofs.Walking.{Walking}
use Rattle.jz_type_storage.proofs.walk.+walk.Given as goal

abbrev pub invariant-walk_all-loop-stmt : goal.invariant-walk_all-loop-stmt
invariant-walk_all-loop-stmt l = Walking (members l.asked.keys) flow_of l.stmts l.initial.set.keys l.best (drop l.stmt-index l.stmt-items) l.set.keys
