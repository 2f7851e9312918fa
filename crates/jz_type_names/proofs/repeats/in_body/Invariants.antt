use Rattle.std.proofs.Common.{◌≡◌}
use Rattle.jz_type_names.specs.Order.{earlier, first_in}
use Rattle.jz_type_names.specs.Parts.{layer_of, statements_of}
use Rattle.jz_type_names.specs.Lent.{these}
use Rattle.jz_type_names.specs.Names.{repeated_by}
use Rattle.jz_type_names.proofs.repeats.in_body.Given as goal

abbrev pub invariant-loop-stmt : goal.invariant-loop-stmt
invariant-loop-stmt l = earlier l.first (first_in (λ s. repeated_by (layer_of s)) (these l.stmt-iterator.rest.items)) ≡ first_in (λ s. repeated_by (layer_of s)) (statements_of l.fn.body)
