-- What the greatest kept sets of a body's loops are, as tables that lie over the facts that come in.
-- Loops have numbers in the order of the text: a loop, then those of its prologue, those of its body
-- and those of what follows.
use Rattle.std.specs.Prelude.{◌≡◌, ℕ, suc, ◌+◌, ◌≤◌, ◌⊎◌, Bool, true, false, List, Option, Some, None, slice_get}
use Rattle.indexmap.specs.IndexMap.{IndexMap}
use Rattle.jz_tree.specs.declared.stmt.Stmt.{Stmt}
use Rattle.jz_runs.specs.Trees.{Tree, done, op, quiet, choose, loop, each, call}
use Rattle.jz_meaning.specs.Runs.{Callees, block}
use Rattle.jz_meaning.specs.Statements.{Operation, Condition, Block}
use Rattle.jz_flow.specs.Sets.{Below, common}
use Rattle.jz_flow.specs.Flow.{IsHead, After, OneTurn}
use Rattle.jz_flow.specs.Soundness.{AllAre}
use Rattle.jz_facts.specs.Facts.{Fact, Facts}
use Rattle.jz_facts.specs.Holding.{does, quieted}
use Rattle.jz_facts.specs.Tests.{tested, leaves}
use Rattle.jz_facts.specs.Along.{fact_steps}
use Rattle.jz_layers.specs.declared.named.Named.{Named}
use Rattle.jz_layers.specs.Spots.{entry_in}
use Rattle.jz_fact_sets.specs.declared.given.Given as code
use Rattle.jz_fact_sets.specs.declared.knowledge.Knowledge.{Knowledge}
use Rattle.jz_fact_sets.specs.Kept.{says, spot, given_of}

-- ---- bodies of expanded functions

-- no call is followed
abbrev pub no_callees : Callees
no_callees n = None

abbrev pub plain_block : List Stmt → Block
plain_block ss = block no_callees ss done

-- there is neither a `for` nor a call
abbrev pub HasNoFor : Block → Type 0
HasNoFor = AllAre (λ o. Unit {0}) (λ c. Unit {0})

-- how many loops there are
abbrev pub loops : {O T F C : Type 0} → Tree O T F C → ℕ
loops done = 0
loops (op o r) = loops r
loops (quiet o r) = loops r
loops (choose c a b r) = loops a + loops b + loops r
loops (loop w p c b r) = suc (loops p + loops b + loops r)
loops (each f b r) = loops b + loops r
loops (call c b r) = loops b + loops r

-- ---- heads

-- what something that is known says of a fact, else what was said before
abbrev pub said_or : code.Given → Option Knowledge → Fact → Bool → Bool
said_or g None f b = b
said_or g (Some k) f b = says g.constants g.params k f

module _ {S : Type 0} (g : code.Given) where
  -- the facts where a table lies over others
  abbrev pub laid : IndexMap Named Knowledge S → Facts → Facts
  laid m s f = said_or g (entry_in m (spot f)) f (s f)

  -- the tables at the numbers from i on are those of the heads of a body's loops, where these facts
  -- come in
  abbrev pub AreHeads : Block → ℕ → List (IndexMap Named Knowledge S) → Facts → Type 0
  AreHeads done i hs s = Unit {0}
  AreHeads (op o r) i hs s = AreHeads r i hs (does (given_of g) o s)
  AreHeads (quiet o r) i hs s = AreHeads r i hs (quieted o s)
  AreHeads (choose c a b r) i hs s =
      (x : Facts) × (y : Facts)
      × AreHeads a i hs (tested (given_of g) c true s)
      × AreHeads b (i + loops a) hs (tested (given_of g) c false s)
      × After (fact_steps (given_of g)) a (tested (given_of g) c true s) x
      × After (fact_steps (given_of g)) b (tested (given_of g) c false s) y
      × AreHeads r (i + loops a + loops b) hs (common x y)
  AreHeads (loop w p c b r) i hs s =
      (m : IndexMap Named Knowledge S) × (q : Facts)
      × (slice_get hs i ≡ Some m)
      × IsHead (OneTurn (fact_steps (given_of g)) p c b) s (laid m s)
      × AreHeads p (suc i) hs (laid m s)
      × After (fact_steps (given_of g)) p (laid m s) q
      × AreHeads b (suc i + loops p) hs (tested (given_of g) c true q)
      × AreHeads r (suc i + loops p + loops b) hs (leaves (given_of g) c (laid m s) q)
  AreHeads (each f b r) i hs s = ⊥
  AreHeads (call c b r) i hs s = ⊥

-- ---- one loop

abbrev pub IsLoop : Block → Type 0
IsLoop (loop w p c b r) = Unit {0}
IsLoop t = ⊥

-- the greatest kept set of a loop
abbrev pub IsHeadOf : code.Given → Block → Facts → Facts → Type 0
IsHeadOf g (loop w p c b r) s h = IsHead (OneTurn (fact_steps (given_of g)) p c b) s h
IsHeadOf g t s h = ⊥
