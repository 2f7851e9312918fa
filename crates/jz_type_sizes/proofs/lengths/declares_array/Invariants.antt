use Rattle.std.proofs.Common.{◌≡◌, Some, drop}
use Rattle.std.specs.List.{list_any}
use Rattle.jz_type_names.specs.Kinds.{declared_of, is_array}
use Rattle.jz_type_names.specs.Lent.{these}
use Rattle.jz_type_sizes.proofs.lengths.declares_array.Given as goal

abbrev pub invariant-loop-decl : goal.invariant-loop-decl
invariant-loop-decl l =
    list_any (λ d. is_array (Some (declared_of d))) (these (drop l.decl-index l.decls)) ≡ list_any (λ d. is_array (Some (declared_of d))) (these l.fn.decls)
