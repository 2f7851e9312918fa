use Rattle.std.proofs.Common.{◌≡◌}
use Rattle.jz_type_names.specs.Order.{earlier, first_in}
use Rattle.jz_type_names.specs.Parts.{layer_of, statements_of}
use Rattle.jz_type_names.specs.Lent.{these}
use Rattle.jz_type_names.specs.Tables.{place_in, value_in, function_in}
use Rattle.jz_type_names.specs.Names.{unknown_where}
use Rattle.jz_type_names.proofs.unknowns.in_body.Given as goal

abbrev pub invariant-loop-stmt : goal.invariant-loop-stmt
invariant-loop-stmt l =
    earlier l.first (first_in (λ s. unknown_where (value_in l.fn.constants l.fn.variables) (place_in l.fn.variables) (function_in l.fn.functions) (layer_of s)) (these l.stmt-iterator.rest.items))
    ≡ first_in (λ s. unknown_where (value_in l.fn.constants l.fn.variables) (place_in l.fn.variables) (function_in l.fn.functions) (layer_of s)) (statements_of l.fn.body)
