-- The sizes in the words of the pattern table.
use Rattle.std.specs.Prelude.{◌≡◌, Option, Some, None}
use Rattle.jz_tree.specs.Size.{Size}
use Rattle.jz_tree.specs.declared.expr.Expr.{Expr}
use Rattle.jz_tree.specs.declared.stmt.Lval.{Lval}
use Rattle.jz_type_sizes.specs.Sides.{left_form}
use Rattle.jz_type_sizes.specs.Typings.{typing}
use Rattle.jz_judgement.specs.Places.{Place, word, stated}
use Rattle.jz_judgement.specs.HasType.{HasType, value}
use Rattle.jz_types.specs.SelectRows.{class_size}
use Rattle.jz_types.specs.Operands.{class_of, dest_of}

abbrev pub place_size : Place → Option Size
place_size (word z) = Some z
place_size (stated z) = Some z
place_size _ = None

-- the class of an operand or of a result has a size only where typing finds that size
abbrev pub ClassSizes : Type 0
ClassSizes = (e : Expr) (z : Size) → class_size (class_of e) ≡ Some z → (typing e).form.size ≡ Some z

abbrev pub ResultSizes : Type 0
ResultSizes = (d : Lval) (z : Size) → class_size (dest_of d) ≡ Some z → (left_form d).size ≡ Some z

-- and where the operand is well typed its place has that size
abbrev pub PlaceSizes : Type 0
PlaceSizes =
    (e : Expr) (p : Place) (z : Size)
    → HasType (value e) p → class_size (class_of e) ≡ Some z → place_size p ≡ Some z
