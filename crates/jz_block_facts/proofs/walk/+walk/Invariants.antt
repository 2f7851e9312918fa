use Rattle.std.proofs.Common.{◌≡◌, ◌≤◌, ◌+◌, ◌*◌, ◌++◌, ◌∷◌, []}
use Rattle.jz_layers.specs.Spots.{Spot}
use Rattle.jz_fact_sets.specs.Kept.{known_at}
use Rattle.jz_fact_sets.specs.Meeting.{amount}
use Rattle.jz_block_facts.specs.InnerWalks.{place_of}
use Rattle.jz_block_facts.proofs.Measures.{weight, weights, body_weight, total, spots_of}
use Rattle.jz_block_facts.proofs.Leading.{IsOn}
use Rattle.jz_block_facts.proofs.Turning.{Heading}
use Rattle.jz_block_facts.proofs.walk.+walk.Given as goal

abbrev pub decreases-walk_block : goal.decreases-walk_block
decreases-walk_block l = 8 * weights l.stmts.now + 1

abbrev pub decreases-walk_statement : goal.decreases-walk_statement
decreases-walk_statement l = 8 * weight l.stmt.now

abbrev pub decreases-walk_arm : goal.decreases-walk_arm
decreases-walk_arm l = 8 * weights l.stmts.now + 2

abbrev pub decreases-walk_rest : goal.decreases-walk_rest
decreases-walk_rest l = 8 * body_weight l.parts.body.now + 3

abbrev pub decreases-walk_turn : goal.decreases-walk_turn
decreases-walk_turn l = 8 * (weights l.parts.prologue.now + body_weight l.parts.body.now) + 4

abbrev pub decreases-walk_while : goal.decreases-walk_while
decreases-walk_while l = 8 * (weights l.parts.prologue.now + body_weight l.parts.body.now) + 5

abbrev pub invariant-walk_block-loop-stmt : goal.invariant-walk_block-loop-stmt
invariant-walk_block-loop-stmt l =
    (l.set.below.items ≡ l.fn.set.below.items)
    × IsOn l.given l.stmts l.stmt-index (place_of l.given l.fn.set l.at l.fn.heads) (place_of l.given l.set l.next l.heads)

abbrev pub invariant-walk_while-loop-turn : goal.invariant-walk_while-loop-turn
invariant-walk_while-loop-turn l =
    (l.set.below.items ≡ l.fn.set.below.items ++ l.fn.set.top ∷ [])
    × ((k : Spot) → amount (known_at l.set k) ≤ amount (known_at l.fn.set k))
    × Heading l.given l.parts (place_of l.given l.fn.set l.at l.fn.heads) (place_of l.given l.set l.inner l.heads)

abbrev pub decreases-walk_while-loop-turn : goal.decreases-walk_while-loop-turn
decreases-walk_while-loop-turn l = total (spots_of l.fn.set) (known_at l.set)
