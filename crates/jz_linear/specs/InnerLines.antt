-- Lines as they are added, part by part.
use Rattle.std.specs.Prelude.{◌≡◌, ℕ, List, [], ◌∷◌, ◌++◌}
use Rattle.jz_placing.specs.Instructions.{Test, always, if_holds}
use Rattle.jz_linear.specs.Lines.{negated, test_lines}
use Rattle.jz_linear.specs.declared.line.Line.{Line}
use Rattle.jz_linear.specs.declared.line.Line.TheVariants as line

-- these lines were added, and the first free label is that one
abbrev pub Adds : (old new added : List Line) (free next : ℕ) → Type 0
Adds old new added free next = (new ≡ old ++ added) × (next ≡ free)

-- a test, and a jump where it does not hold; `true` has none
abbrev pub head_lines : Test → ℕ → List Line
head_lines always n = []
head_lines (if_holds i c) n = test_lines i ++ line.Jcc (negated c) n ∷ []
