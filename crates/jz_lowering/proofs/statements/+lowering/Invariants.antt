use Rattle.std.proofs.Common.{take}
use Rattle.std.specs.Prelude.{All}
use Rattle.jz_meaning.specs.Runs.{block}
use Rattle.jz_operands.specs.TableHomes.{homes_of}
use Rattle.jz_lowering.specs.Becoming.{no_callees, Becomes}
use Rattle.jz_lowering.specs.Parts.{HasCode}
use Rattle.jz_lowering.proofs.PartsInOrder.{parts_of}
use Rattle.jz_lowering.proofs.statements.+lowering.Given as goal

abbrev pub invariant-lower_all-loop-stmt : goal.invariant-lower_all-loop-stmt
invariant-lower_all-loop-stmt l =
    Becomes (homes_of l.lowerer.homes.now) (block no_callees (take l.stmt-index l.stmts)) l.nodes l.steps
    × All (HasCode (homes_of l.lowerer.homes.now)) (parts_of (take l.stmt-index l.stmts))
