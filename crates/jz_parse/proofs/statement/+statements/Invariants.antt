use Rattle.std.proofs.Common.{◌≡◌, ◌+◌, ◌*◌, [], length}
use Rattle.jz_parse.specs.StmtReaders.{stmts_more}
use Rattle.jz_parse.proofs.statement.+statements.Given as goal

abbrev pub decreases-stmt : goal.decreases-stmt
decreases-stmt l = 16 * l.depth + 7

abbrev pub decreases-stmt_in : goal.decreases-stmt_in
decreases-stmt_in l = 16 * l.depth + 6

abbrev pub decreases-form : goal.decreases-form
decreases-form l = 16 * l.depth + 5

abbrev pub decreases-if_form : goal.decreases-if_form
decreases-if_form l = 16 * l.depth + 4

abbrev pub decreases-nested_if : goal.decreases-nested_if
decreases-nested_if l = 16 * l.depth + 4

abbrev pub decreases-if_rest : goal.decreases-if_rest
decreases-if_rest l = 16 * l.depth + 3

abbrev pub decreases-else_arm : goal.decreases-else_arm
decreases-else_arm l = 16 * l.depth + 2

abbrev pub decreases-else_body : goal.decreases-else_body
decreases-else_body l = 16 * l.depth + 1

abbrev pub decreases-block : goal.decreases-block
decreases-block l = 16 * l.depth

abbrev pub decreases-stmts_more : goal.decreases-stmts_more
decreases-stmts_more l = 16 * l.depth + 8

abbrev pub invariant-stmts_more-loop-alloc : goal.invariant-stmts_more-loop-alloc
invariant-stmts_more-loop-alloc l = stmts_more l.depth l.out l.c ≡ stmts_more l.fn.depth [] l.fn.c

abbrev pub decreases-stmts_more-loop-alloc : goal.decreases-stmts_more-loop-alloc
decreases-stmts_more-loop-alloc l = length l.c

abbrev pub decreases-while_form : goal.decreases-while_form
decreases-while_form l = 16 * l.depth + 4

abbrev pub decreases-prologue : goal.decreases-prologue
decreases-prologue l = 16 * l.depth + 1

abbrev pub decreases-body : goal.decreases-body
decreases-body l = 16 * l.depth + 1

abbrev pub decreases-for_form : goal.decreases-for_form
decreases-for_form l = 16 * l.depth + 4
