use Rattle.std.proofs.Common.{◌≡◌, ◌+◌, ◌*◌, length}
use Rattle.jz_parse_expr.specs.Readers.{rest_of, levels, unary}
use Rattle.jz_parse_expr.proofs.expression.+expressions.Given as goal

abbrev pub decreases-unary : goal.decreases-unary
decreases-unary l = 32 * l.depth + 4

abbrev pub decreases-unary_form : goal.decreases-unary_form
decreases-unary_form l = 32 * l.depth + 3

abbrev pub decreases-name_form : goal.decreases-name_form
decreases-name_form l = 32 * l.depth + 2

abbrev pub decreases-signed_form : goal.decreases-signed_form
decreases-signed_form l = 32 * l.depth + 2

abbrev pub decreases-bracket : goal.decreases-bracket
decreases-bracket l = 32 * l.depth

abbrev pub decreases-plain_access : goal.decreases-plain_access
decreases-plain_access l = 32 * l.depth

abbrev pub decreases-group_form : goal.decreases-group_form
decreases-group_form l = 32 * l.depth + 1

abbrev pub decreases-sized_rest : goal.decreases-sized_rest
decreases-sized_rest l = 32 * l.depth + 27

abbrev pub decreases-cast_rest : goal.decreases-cast_rest
decreases-cast_rest l = 32 * l.depth + 27

abbrev pub decreases-plain_rest : goal.decreases-plain_rest
decreases-plain_rest l = 32 * l.depth + 27

abbrev pub decreases-spanned : goal.decreases-spanned
decreases-spanned l = 32 * l.depth + 26

abbrev pub decreases-level : goal.decreases-level
decreases-level l = 32 * l.depth + 5 + 2 * l.number

abbrev pub decreases-rest : goal.decreases-rest
decreases-rest l = 32 * l.depth + 6 + 2 * l.number

abbrev pub invariant-rest-loop-alloc : goal.invariant-rest-loop-alloc
invariant-rest-loop-alloc l = rest_of (levels (unary l.depth) l.number) l.number (l.span, l.left) l.c ≡ rest_of (levels (unary l.depth) l.number) l.number l.fn.first l.fn.c

abbrev pub decreases-rest-loop-alloc : goal.decreases-rest-loop-alloc
decreases-rest-loop-alloc l = length l.c
