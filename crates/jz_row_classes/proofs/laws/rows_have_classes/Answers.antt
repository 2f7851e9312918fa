use Rattle.jz_row_classes.proofs.Statements.{assignments_have_classes, instructions_have_classes}
use Rattle.jz_row_classes.proofs.laws.rows_have_classes.Goals as goal

pub returns-clause-assignments : goal.returns-clause-assignments
returns-clause-assignments c = assignments_have_classes

pub returns-clause-instructions : goal.returns-clause-instructions
returns-clause-instructions c = instructions_have_classes
