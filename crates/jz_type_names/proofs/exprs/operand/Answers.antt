use Rattle.std.proofs.Common.{append-nil}
use Rattle.jz_type_names.specs.Parts.{names_in, cells_in}
use Rattle.jz_type_names.proofs.exprs.operand.Goals as goal

pub returns-clause-names : goal.returns-clause-names
returns-clause-names c = append-nil (names_in c.args.first.now)

pub returns-clause-cells : goal.returns-clause-cells
returns-clause-cells c = append-nil (cells_in c.args.first.now)
