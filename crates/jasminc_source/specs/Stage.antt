-- The refusal of a stage as one of a command.
use Rattle.std.specs.Prelude.{Result, Err}
use Rattle.jz_tree.specs.Failure.{Failure}
use Rattle.jz_tree.specs.Failure.TheVariants.{Refused}

-- the answer is a refusal, and its cause becomes this one
abbrev pub ComesFrom : {A E R : Type 0} → (E → R → Type 0) → Result A (Failure E) → R → Type 0
ComesFrom Becomes (Err (Refused fault)) r = Becomes fault r
ComesFrom Becomes _ r = ⊥
