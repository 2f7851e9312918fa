-- What a walk over a body keeps, and what it needs.
use Rattle.std.specs.Prelude.{◌≡◌, ◌⊎◌, ◌+◌, ◌<◌, ◌≤◌, ℕ, true, not, is_some, List, length, None, slice_get}
use Rattle.indexmap.specs.IndexMap.{IndexMap}
use Rattle.jz_runs.specs.Trees.{done, loop}
use Rattle.jz_meaning.specs.Runs.{block}
use Rattle.jz_meaning.specs.Statements.{Condition, Block}
use Rattle.jz_flow.specs.Sets.{Below}
use Rattle.jz_flow.specs.Flow.{After}
use Rattle.jz_facts.specs.Facts.{Facts}
use Rattle.jz_facts.specs.Along.{fact_steps}
use Rattle.jz_layers.specs.declared.named.Named.{Named}
use Rattle.jz_layers.specs.declared.layers.Layers.{Layers}
use Rattle.jz_fact_sets.specs.declared.given.Given as code
use Rattle.jz_fact_sets.specs.declared.knowledge.Knowledge.{Knowledge}
use Rattle.jz_fact_sets.specs.Kept.{AreDifferent, given_of, facts_of}
use Rattle.jz_test_facts.specs.Comparing.{AreWords}
use Rattle.jz_block_facts.specs.declared.looping.Loop.{Loop}
use Rattle.jz_block_facts.specs.Heads.{no_callees, HasNoFor, loops, AreHeads}
use Rattle.jz_block_facts.specs.Pieces.{body_piece, answered}

-- ---- pieces of loops, before what follows

abbrev pub condition_of : Loop → Condition
condition_of l = record { cond = l.cond.now; at = l.span }

abbrev pub prologue_piece : Loop → Block → Block
prologue_piece l = block no_callees l.prologue.now

abbrev pub turn_piece : Loop → Block → Block
turn_piece l = body_piece l.body.now

abbrev pub loop_piece : Loop → Block → Block
loop_piece l =
    loop (not (is_some l.body.now)) (prologue_piece l done) (condition_of l) (turn_piece l done)

-- ---- where a walk stands: the facts, the number of the next loop, the tables of heads
pub record Place (S : Type 0) : Type 0 where
  pub facts : Facts
  pub next : ℕ
  pub heads : List (IndexMap Named Knowledge S)

module _ {S : Type 0} where
  abbrev pub place_of :
      code.Given → Layers Knowledge → ℕ → List (IndexMap Named Knowledge S) → Place S
  place_of g set next hs = record { facts = facts_of g set; next = next; heads = hs }

  -- nothing stands from this number on
  abbrev pub IsFresh : ℕ → List (IndexMap Named Knowledge S) → Type 0
  IsFresh i hs = (k : ℕ) → i ≤ k → slice_get hs k ≡ None

  -- the same tables at the numbers between these
  abbrev pub AreSame :
      ℕ → ℕ → List (IndexMap Named Knowledge S) → List (IndexMap Named Knowledge S) → Type 0
  AreSame i j us vs = (k : ℕ) → i ≤ k → k < j → slice_get us k ≡ slice_get vs k

  module _ (g : code.Given) where
    -- what stands there is of a walk from no fewer facts, if there is something
    abbrev pub Covers : Block → Place S → Type 0
    Covers t p =
        IsFresh p.next p.heads
        ⊎ ((x : Facts) × Below p.facts x × AreHeads g t p.next p.heads x)

    pub record IsReady (piece : Block → Block) (p : Place S) : Type 0 where
      pub different : AreDifferent g.params
      pub words : AreWords g.constants
      pub plain : HasNoFor (piece done)
      pub within : p.next ≤ length p.heads
      pub stored : Covers (piece done) p

    -- the piece leads from one place to the other, whatever follows
    pub record Leads (piece : Block → Block) (p q : Place S) : Type 0 where
      pub next : q.next ≡ p.next + loops (piece done)
      pub within : q.next ≤ length q.heads
      pub before : (k : ℕ) → k < p.next → slice_get q.heads k ≡ slice_get p.heads k
      pub behind : (k : ℕ) → q.next ≤ k → slice_get q.heads k ≡ slice_get p.heads k
      pub after :
          (r : Block) (z : Facts) → After (fact_steps (given_of g)) r q.facts z
          → After (fact_steps (given_of g)) (piece r) p.facts z
      pub heads :
          (us : List (IndexMap Named Knowledge S)) → AreSame p.next q.next us q.heads
          → (r : Block) → AreHeads g r q.next us q.facts → AreHeads g (piece r) p.next us p.facts

    -- ---- a turn of a loop

    pub record IsTurnReady (l : Loop) (p : Place S) : Type 0 where
      pub different : AreDifferent g.params
      pub words : AreWords g.constants
      pub prologue : HasNoFor (prologue_piece l done)
      pub body : HasNoFor (turn_piece l done)
      pub within : p.next ≤ length p.heads
      pub stored :
          IsFresh p.next p.heads
          ⊎ ((x : Facts) × (y : Facts) × Below p.facts x
          × AreHeads g (prologue_piece l done) p.next p.heads x
          × After (fact_steps (given_of g)) (prologue_piece l done) x y
          × AreHeads g (turn_piece l done) (p.next + loops (prologue_piece l done)) p.heads
          (answered g l.cond.now true y))

    -- from the head behind the prologue, and from there behind the body
    pub record Turns (l : Loop) (p : Place S) (behind : Facts) (q : Place S) : Type 0 where
      pub next : ℕ
      pub heads : List (IndexMap Named Knowledge S)
      pub prologue :
          Leads (prologue_piece l) p (record { facts = behind; next = next; heads = heads })
      pub body :
          Leads (turn_piece l)
          (record { facts = answered g l.cond.now true behind; next = next; heads = heads }) q
