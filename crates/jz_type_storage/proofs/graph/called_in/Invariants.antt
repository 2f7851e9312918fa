use Rattle.std.proofs.Common.{◌≡◌, ◌++◌, List, flat_map}
use Rattle.jz_tree.specs.declared.program.Fun.{Fun}
use Rattle.jz_type_names.specs.Lent.{these}
use Rattle.jz_type_names.specs.Parts.{statements_of}
use Rattle.jz_type_storage.specs.InnerTables.{IsNumbers}
use Rattle.jz_type_storage.specs.InnerNumbers.{numbers_by}
use Rattle.jz_type_storage.proofs.graph.called_in.Given as goal

abbrev pub invariant-loop-stmt : goal.invariant-loop-stmt
invariant-loop-stmt l =
    (fs : List Fun) → IsNumbers l.numbers fs
    → l.list.items ++ flat_map (numbers_by fs) (these l.stmt-iterator.rest.items) ≡ flat_map (numbers_by fs) (statements_of l.fun.body)
