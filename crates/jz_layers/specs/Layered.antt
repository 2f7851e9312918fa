-- What layers of tables say of variables.
use Rattle.std.specs.Prelude.{◌≡◌, [], ◌∷◌, ◌++◌, Option}
use Rattle.jz_layers.specs.declared.layers.Layers.{Layers}
use Rattle.jz_layers.specs.Spots.{Spot, over, seen_in}

abbrev pub seen : {V : Type 0} → Layers V → Spot → Option V
seen s = over s.top (seen_in s.below.items)

-- the uppermost table is not the only one
abbrev pub IsOver : {V : Type 0} → Layers V → Type 0
IsOver s = (s.below.items ≡ []) → ⊥

-- it is taken away
abbrev pub ClosesTo : {V : Type 0} → Layers V → Layers V → Type 0
ClosesTo old new = old.below.items ≡ new.below.items ++ new.top ∷ []
