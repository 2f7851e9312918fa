use Rattle.std.proofs.Common.{◌≡◌, ◌≤◌, ◌+◌, ◌*◌}
use Rattle.jz_tree.specs.declared.expr.Expr.{size-Expr}
use Rattle.jz_tree.specs.declared.expr.Access.{size-Access}
use Rattle.jz_terms.specs.Terms.{term_of}
use Rattle.jz_alarms.specs.Conditions.{or_else, asks}
use Rattle.jz_inside.specs.Said.{given_in, facts_in}
use Rattle.jz_asked.specs.InnerAsked.{shown}
use Rattle.jz_asked.proofs.terms.+asks.Given as goal

abbrev pub decreases-asks : goal.decreases-asks
decreases-asks l = 4 * size-Expr l.e.now + 3

abbrev pub decreases-asks_behind : goal.decreases-asks_behind
decreases-asks_behind l = 4 * size-Expr l.right.now + 4

abbrev pub decreases-asks_cell : goal.decreases-asks_cell
decreases-asks_cell l = 4 * size-Expr l.index.now + 4

abbrev pub decreases-asks_load : goal.decreases-asks_load
decreases-asks_load l = 4 * size-Access l.access.now

abbrev pub decreases-asks_operand : goal.decreases-asks_operand
decreases-asks_operand l = 4 * size-Expr l.operand.now + 4

abbrev pub decreases-asks_single : goal.decreases-asks_single
decreases-asks_single l = 4 * size-Expr l.e.now + 2

abbrev pub invariant-asks-loop-rest : goal.invariant-asks-loop-rest
invariant-asks-loop-rest l =
    (or_else (asks (given_in l.says) (facts_in l.says) l.inner (term_of l.rest)) (shown l.found)
    ≡ asks (given_in l.says) (facts_in l.says) l.fn.wanted (term_of l.e))
    × (size-Expr l.rest ≤ size-Expr l.e)

abbrev pub decreases-asks-loop-rest : goal.decreases-asks-loop-rest
decreases-asks-loop-rest l = size-Expr l.rest
