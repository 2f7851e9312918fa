-- What a walk that asks each condition needs and gives.
use Rattle.std.specs.Prelude.{◌≡◌, ℕ, ◌+◌, not, is_some, List, Option, Some}
use Rattle.jz_tree.specs.declared.expr.Var.{Var}
use Rattle.jz_runs.specs.Trees.{done, loop}
use Rattle.jz_meaning.specs.Runs.{block}
use Rattle.jz_meaning.specs.Statements.{Block}
use Rattle.jz_flow.specs.Flow.{After}
use Rattle.jz_flow.specs.Alarms.{First}
use Rattle.jz_facts.specs.Facts.{Facts}
use Rattle.jz_facts.specs.Along.{fact_steps}
use Rattle.jz_fact_sets.specs.declared.given.Given as code
use Rattle.jz_fact_sets.specs.Kept.{AreDifferent, given_of}
use Rattle.jz_test_facts.specs.Comparing.{AreWords}
use Rattle.jz_block_facts.specs.Heads.{no_callees, loops, AreHeads}
use Rattle.jz_block_facts.specs.Pieces.{body_piece}
use Rattle.jz_alarms.specs.Conditions.{Alarm, asks_results}
use Rattle.jz_alarms.specs.Alarms.{fact_asks}
use Rattle.jz_first_alarm.specs.declared.arms.Known.{Known}
use Rattle.jz_first_alarm.specs.declared.arms.Loop.{Loop}

-- ---- pieces of trees, before what follows

abbrev pub turn_piece : Loop → Block → Block
turn_piece l = body_piece l.body.now

abbrev pub loop_piece : Loop → Block → Block
loop_piece l =
    loop (not (is_some l.body.now)) (block no_callees l.prologue.now done)
    (record { cond = l.cond.now; at = l.span }) (turn_piece l done)

-- ---- what comes at the end: the results, of which there are none inside

abbrev pub ends : List Var → Facts → Option Alarm → Type 0
ends xs s v = v ≡ asks_results xs s

-- w is the first alarm of a body and of the results behind it
abbrev pub FirstIn : code.Given → Block → Facts → Option Alarm → List Var → Type 0
FirstIn g t s w xs = First (fact_steps (given_of g)) (fact_asks (given_of g)) t s w (ends xs)

-- ---- the walk

pub record IsReady (known : Known) (piece : Block → Block) (at : ℕ) (s : Facts) : Type 0 where
  pub different : AreDifferent known.given.now.params
  pub words : AreWords known.given.now.constants
  pub heads : AreHeads known.given.now (piece done) at known.heads.now s

-- the piece has no alarm, and leads from these facts to those, whatever follows
pub record Goes (g : code.Given) (piece : Block → Block) (i : ℕ) (s : Facts) (j : ℕ) (t : Facts) :
    Type 0 where
  pub next : j ≡ i + loops (piece done)
  pub after :
      (r : Block) (z : Facts) → After (fact_steps (given_of g)) r t z
      → After (fact_steps (given_of g)) (piece r) s z
  pub first :
      (xs : List Var) (r : Block) (w : Option Alarm) → FirstIn g r t w xs
      → FirstIn g (piece r) s w xs

-- this is its first alarm, whatever follows
abbrev pub Stops : code.Given → (Block → Block) → Facts → Alarm → Type 0
Stops g piece s a = (xs : List Var) (r : Block) → FirstIn g (piece r) s (Some a) xs
