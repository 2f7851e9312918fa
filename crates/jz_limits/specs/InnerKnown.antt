-- What the code knows of inline variables.
use Rattle.std.specs.Prelude.{ℤ, Option, Some, None}
use Rattle.jz_integers.specs.Integers.{KnownNumbers}
use Rattle.jz_meaning.specs.States.{Value, integer}
use Rattle.jz_meaning.specs.Stores.{store_of}
use Rattle.jz_limits.specs.declared.known.Known.{Known}

abbrev pub number_held : Option Value → Option ℤ
number_held (Some (integer i)) = Some i
number_held _ = None

abbrev pub held : Option ℤ → Option Value
held None = None
held (Some i) = Some (integer i)

abbrev pub numbers_of : Known → KnownNumbers
numbers_of k name copy =
    number_held (store_of k.store (record { name = name; copy = copy; cell = None }))
