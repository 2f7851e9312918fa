use Rattle.std.proofs.Common.{◌≡◌, ◌≤◌}
use Rattle.jz_tree.specs.declared.expr.Expr.{size-Expr}
use Rattle.jz_select.specs.Trees.{named_variable}
use Rattle.jz_select.specs.Places.{touches}
use Rattle.jz_select.specs.Hardest.{guess}
use Rattle.jz_select.specs.InnerIndexes.{index_if}
use Rattle.jz_select.proofs.places.+touches.Given as goal

abbrev pub invariant-loop-cur : goal.invariant-loop-cur
invariant-loop-cur l =
    let found = touches (guess l.memory (index_if l.first)) (named_variable l.d) (index_if l.place) in
    (found l.cur ≡ found l.e) × (size-Expr l.cur ≤ size-Expr l.e)
