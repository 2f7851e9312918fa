-- What statements become, before whatever follows.
use Rattle.std.specs.Prelude.{List, map, None}
use Rattle.jz_meaning.specs.Runs.{Callees}
use Rattle.jz_meaning.specs.Statements.{Block}
use Rattle.jz_change.specs.Changes.{Change}
use Rattle.jz_change.specs.Views.{chain, then_step}
use Rattle.jz_change.specs.declared.change.Step.{Step}
use Rattle.jz_placing.specs.Variables.{Body}
use Rattle.jz_place.specs.declared.tree.Node.{Node}
use Rattle.jz_place.specs.Bodies.{then_body}
use Rattle.jz_homes.specs.Homes.{Homes}
use Rattle.jz_every_row.specs.Bodies.{IsLowered}

-- no call is left
abbrev pub no_callees : Callees
no_callees = λ n. None

-- parts of a body before others
abbrev pub before_body : List Node → Body → Body
before_body ns v = chain (map then_body ns) v

-- Whatever follows a piece of a block, where that becomes v and makes k of a leak, the piece with
-- it becomes these parts before v, and makes these steps before k.
abbrev pub Becomes : Homes → (Block → Block) → List Node → List Step → Type 0
Becomes home piece nodes steps =
    (t : Block) (v : Body) (k : Change) → IsLowered home t v k
    → IsLowered home (piece t) (before_body nodes v) (chain (map then_step steps) k)
