use Rattle.std.proofs.Common.{◌≡◌, ◌++◌, flat_map}
use Rattle.jz_type_names.specs.Lent.{these}
use Rattle.jz_body_numbers.specs.Numbers.{of_statement, of_body}
use Rattle.jz_body_numbers.proofs.bodies.numbers_of.Given as goal

abbrev pub invariant-loop-stmt : goal.invariant-loop-stmt
invariant-loop-stmt l = l.out.items ++ flat_map of_statement (these l.stmt-iterator.rest.items) ≡ of_body l.fn.body
