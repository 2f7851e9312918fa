use Rattle.std.proofs.Common.{◌≡◌, ◌++◌, flat_map}
use Rattle.jz_type_names.specs.Lent.{these}
use Rattle.jz_type_names.specs.Parts.{layer_of, set_by}
use Rattle.jz_type_rows.specs.Callees.{set_in}
use Rattle.jz_type_rows.proofs.callee.set_in.Given as goal

abbrev pub invariant-loop-stmt : goal.invariant-loop-stmt
invariant-loop-stmt l = these l.list.items ++ flat_map (λ s. set_by (layer_of s)) (these l.stmt-iterator.rest.items) ≡ set_in l.fn.body
