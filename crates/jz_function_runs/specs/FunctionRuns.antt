-- Functions that are run with bodies, beside each other.
use Rattle.std.specs.Prelude.{ℕ, ◌≡◌}
use Rattle.jz_tree.specs.Laws.{AtMostOne}
use Rattle.jz_tree.specs.declared.program.Fun.{Fun}
use Rattle.jz_runs.specs.Laws.{AtLeastOne}
use Rattle.jz_runs.specs.Trees.{done}
use Rattle.jz_meaning.specs.declared.value.Stuck.{Stuck}
use Rattle.jz_meaning.specs.Runs.{Returned, block}
use Rattle.jz_meaning.specs.Statements.{Block}
use Rattle.jz_pass.specs.Laws.{Relating, between_trees}
use Rattle.jz_inline.specs.Functions.{Given, body_runs}
use Rattle.jz_inline.specs.Statements.{no_callees}

-- the body of a function in which no call is left
abbrev pub plain_body : Fun → Block
plain_body f = block no_callees f.body done

-- on one input for which P holds: the same words and memory at an end, and stuck at the same place
-- for the same reason
abbrev pub alike_where : (Given → Type 0) → Relating Given Given Returned Returned Stuck Stuck
alike_where P =
    between_trees (λ given other. (given ≡ other) × P given) (λ returned other. returned ≡ other)

-- on any input
abbrev pub alike_always : Relating Given Given Returned Returned Stuck Stuck
alike_always = between_trees (λ given other. given ≡ other) (λ returned other. returned ≡ other)

-- ---- how many outcomes there are

abbrev pub OneRun : Type 0
OneRun = (b : Block) (f : Fun) (given : Given) (n : ℕ) → AtMostOne (body_runs b f given n)

abbrev pub SomeRun : Type 0
SomeRun = (b : Block) (f : Fun) (given : Given) (n : ℕ) → AtLeastOne (body_runs b f given n)
