use Rattle.std.proofs.Common.{◌≡◌, drop}
use Rattle.jz_type_names.specs.Order.{earlier, first_in}
use Rattle.jz_type_names.specs.Lent.{these}
use Rattle.jz_type_rows.specs.Indexes.{indexed_in}
use Rattle.jz_type_rows.proofs.indexes.indexed_in_all.Given as goal

abbrev pub invariant-loop-expr : goal.invariant-loop-expr
invariant-loop-expr l = earlier l.first (first_in indexed_in (these (drop l.expr-index l.exprs))) ≡ first_in indexed_in (these l.exprs)
