use Rattle.std.proofs.Common.{rules}
use Rattle.jz_operands.specs.TableHomes.{homes_of}
use Rattle.jz_operands.proofs.SumLemmas.{none_or}
use Rattle.jz_pinned_rows.specs.Rows.{AreOperands}
use Rattle.jz_pinned_rows.proofs.PartLemmas.{no_first, no_second}
use Rattle.jz_pinned_rows.proofs.parts.operands_of.Goals as goal

pub returns : goal.returns
returns c = record { first = c.in_ok-x.ensures; second = c.in_ok-y.ensures }

pub returns-in_err-x : goal.returns-in_err-x
returns-in_err-x c =
    none_or (AreOperands (homes_of c.args.homes.now) c.args.size c.args.first.now c.args.second.now) c.from_residual.result (search rules) (no_first (homes_of c.args.homes.now) c.args.size c.args.first.now c.args.second.now c.in_err-x.ensures)

pub returns-in_err-y : goal.returns-in_err-y
returns-in_err-y c =
    none_or (AreOperands (homes_of c.args.homes.now) c.args.size c.args.first.now c.args.second.now) c.from_residual-in_err-y.result (search rules) (no_second (homes_of c.args.homes.now) c.args.size c.args.first.now c.args.second.now c.in_err-y.ensures)
