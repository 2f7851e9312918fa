use Rattle.std.proofs.Common.{take}
use Rattle.std.specs.Prelude.{All}
use Rattle.jasminc_source.specs.Exports.{WithinIfExported}
use Rattle.jasminc_source.proofs.limits.within_limits.Given as goal

abbrev pub invariant-loop-fun : goal.invariant-loop-fun
invariant-loop-fun l = All (WithinIfExported l.program) (take l.fun-index l.program.funs)
