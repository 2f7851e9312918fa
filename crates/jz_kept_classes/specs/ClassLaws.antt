-- Values in place of inline parts, and words in place of cells of register arrays keep the classes of
-- operands and results.
use Rattle.jz_integers.specs.Integers.{KnownNumbers}
use Rattle.jz_unroll.specs.Values.{with_values, left_with_values}
use Rattle.jz_arrays.specs.Cells.{with_scalars, left_with_scalars}
use Rattle.jz_kept_classes.specs.Classes.{KeepsClasses}

-- whatever is known of inline variables
abbrev pub ValuesKeepClasses : Type 0
ValuesKeepClasses = (k : KnownNumbers) → KeepsClasses (with_values k) (left_with_values k)

abbrev pub ScalarsKeepClasses : Type 0
ScalarsKeepClasses = KeepsClasses with_scalars left_with_scalars
