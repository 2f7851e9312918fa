-- With values in place of the inline parts, and words in place of cells of register arrays, they are
-- expanded.
use Rattle.jz_tree.specs.declared.expr.Expr.{Expr}
use Rattle.jz_tree.specs.declared.stmt.Lval.{Lval}
use Rattle.jz_integers.specs.Integers.{KnownNumbers}
use Rattle.jz_unroll.specs.Values.{with_values, left_with_values}
use Rattle.jz_arrays.specs.Cells.{with_scalars, left_with_scalars}
use Rattle.jz_homes.specs.Homes.{Homes}
use Rattle.jz_total_rows.specs.Expanded.{IsExpanded, IsExpandedLeft}
use Rattle.jz_expanded.specs.Valued.{IsValued, IsValuedLeft}

abbrev pub ExpressionsAreExpanded : Type 0
ExpressionsAreExpanded =
    (home : Homes) (k : KnownNumbers) (e : Expr)
    → IsValued home k e → IsExpanded home (with_scalars (with_values k e))

abbrev pub LeftsAreExpanded : Type 0
LeftsAreExpanded =
    (home : Homes) (k : KnownNumbers) (d : Lval)
    → IsValuedLeft home k d → IsExpandedLeft home (left_with_scalars (left_with_values k d))
