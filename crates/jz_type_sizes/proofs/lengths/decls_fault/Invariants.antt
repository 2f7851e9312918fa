use Rattle.std.proofs.Common.{◌≡◌, drop}
use Rattle.jz_type_names.specs.Order.{earlier, first_in}
use Rattle.jz_type_names.specs.Tables.{place_in}
use Rattle.jz_type_names.specs.Lent.{these}
use Rattle.jz_type_names.specs.Names.{is_constant}
use Rattle.jz_type_sizes.specs.Lengths.{decl_wrong}
use Rattle.jz_type_sizes.proofs.lengths.decls_fault.Given as goal

abbrev pub invariant-loop-decl : goal.invariant-loop-decl
invariant-loop-decl g l =
    earlier l.first (first_in (decl_wrong (is_constant (place_in l.constants) (place_in l.variables)) (g.L.Lengths.length_of l.lengths)) (these (drop l.decl-index l.decls)))
    ≡ first_in (decl_wrong (is_constant (place_in l.constants) (place_in l.variables)) (g.L.Lengths.length_of l.lengths)) (these l.fn.decls)
