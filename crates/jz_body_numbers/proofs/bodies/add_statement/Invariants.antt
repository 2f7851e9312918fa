use Rattle.std.proofs.Common.{◌≡◌, ◌++◌, flat_map}
use Rattle.jz_type_names.specs.Lent.{these}
use Rattle.jz_body_numbers.specs.Numbers.{of_expr, of_statement}
use Rattle.jz_body_numbers.proofs.bodies.add_statement.Given as goal

abbrev pub invariant-loop-expr : goal.invariant-loop-expr
invariant-loop-expr l = l.out.items ++ flat_map of_expr (these l.expr-iterator.rest.items) ≡ l.fn.out.items ++ of_statement l.fn.stmt
