-- The numbers that a mask drops, and when two parts have the same of them.
use Rattle.std.specs.Prelude.{◌≡◌, ℕ, true, false, List, [], ◌∷◌, length}
use Rattle.jz_runs.specs.Rules.{stuck, went}
use Rattle.jz_meaning.specs.Attempts.{Evaluation}
use Rattle.jz_arrays.specs.Cells.{Mask}

abbrev pub numbers_dropped : Mask → List ℕ → List ℕ
numbers_dropped (true ∷ m) (n ∷ ns) = numbers_dropped m ns
numbers_dropped (false ∷ m) (n ∷ ns) = n ∷ numbers_dropped m ns
numbers_dropped _ _ = []

abbrev pub SameDropped : {A B : Type 0} → Mask → Evaluation A → Evaluation B → Type 0
SameDropped m (went ns a) (went ms b) = numbers_dropped m ns ≡ numbers_dropped m ms
SameDropped m (went ns a) (stuck w) = Unit {0}
SameDropped m (stuck v) (went ms b) = Unit {0}
SameDropped m (stuck v) (stuck w) = Unit {0}

-- as many numbers as the mask says
abbrev pub HasLength : {A : Type 0} → Mask → Evaluation A → Type 0
HasLength m (went ns a) = length ns ≡ length m
HasLength m (stuck w) = Unit {0}
