-- A test that stays as it is, with other parts.
use Rattle.std.specs.Prelude.{◌≡◌, List, [], ◌∷◌}
use Rattle.jz_change.specs.declared.change.Numbers.{Numbers}
use Rattle.jz_change.specs.declared.change.Numbers.TheVariants.{Same}
use Rattle.jz_pass_tests.specs.declared.small.Small.{Small}
use Rattle.jz_pass_tests.specs.declared.small.Small.TheVariants as code
use Rattle.jz_pass_tests.specs.declared.small.Small.TheOpen.{Small-F}
use Rattle.jz_pass_tests.specs.declared.small.Small.TheViews.{out-Small}

abbrev pub layer_with : Small-F Small → List Small → List Small → Small
layer_with (Small-F.Add k) a b = code.Add k
layer_with (Small-F.If p x y) a b = code.If p a b
layer_with (Small-F.While x p y) a b = code.While a p b
layer_with Small-F.Mark a b = code.Mark

-- the statement with other parts, and a test with the same numbers
pub record KeepsTest (s : Small) (first second made : List Small) (items : List Numbers)
    (numbers : Numbers) : Type 0 where
  pub statement : made ≡ layer_with (out-Small s) first second ∷ []
  pub items_are : items ≡ []
  pub numbers_are : numbers ≡ Same
