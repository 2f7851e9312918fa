-- One value to any left side.
use Rattle.std.proofs.Common.{◌≡◌, ℕ, [], ◌∷◌, Option, Some, None, Bool}
use Rattle.jz_tree.specs.Span.{Span}
use Rattle.jz_tree.specs.declared.expr.BinOp.{BinOp}
use Rattle.jz_tree.specs.declared.expr.Expr.{Expr}
use Rattle.jz_tree.specs.declared.stmt.Lval.{Lval}
use Rattle.jz_tree.specs.declared.stmt.Lval.TheVariants as lval
use Rattle.jz_meaning.specs.States.{Key, State}
use Rattle.jz_meaning.specs.Statements as source
use Rattle.jz_meaning.specs.Statements.{assign}
use Rattle.jz_run_laws.specs.Kinds.{Kinds}
use Rattle.jz_facts.specs.Facts.{Facts, Given}
use Rattle.jz_facts.specs.Holding.{does}
use Rattle.jz_fact_laws.specs.Saying.{Yields}
use Rattle.jz_unstuck.specs.Conditions.{asks_operation}
use Rattle.jz_standing.specs.Typing.{NoNumbers}
use Rattle.jz_standing.specs.Standing.{Stands}
use Rattle.jz_unstuck.proofs.Sums.{Runs}
use Rattle.jz_unstuck.proofs.Going.{goes}
use Rattle.jz_assigned.specs.AssignedLaws.{IsOne, AssignmentsGo, AssignmentsStand}
use Rattle.jz_assigned.proofs.Assigning.{assigned_stands, assigned_runs}
use Rattle.jz_assigned.proofs.Cells.{cell_stands, store_stands}
use Rattle.jz_assigned.proofs.Writing.{cell_runs, store_runs}

module _ (g : Given) (kinds : Kinds) (in_frame : Key → Bool) (entry : Key → ℕ) (s : Facts) (st : State) (nn : NoNumbers kinds) (H : Stands g kinds in_frame entry s st) where
  pub one_stands : (d : Lval) (o : Option BinOp) (e : Expr) (c : Option Expr) (at : Span) → IsOne kinds in_frame d o e c → Yields (Stands g kinds in_frame entry (does g (assign (d ∷ []) o e c at) s)) (source.does (assign (d ∷ []) o e c at) st)
  one_stands (lval.Var x) o e c at i = assigned_stands g kinds in_frame entry s st H nn x o e c at i.0
  one_stands (lval.Cell x j) o e None at i = cell_stands g kinds in_frame entry s st H nn x j o e at i
  one_stands (lval.Store a) o e None at i = store_stands g kinds in_frame entry s st H nn a o e at
  one_stands (lval.Skip p) o e c at i = absurd i
  one_stands (lval.Cell x j) o e (Some c) at i = absurd i
  one_stands (lval.Store a) o e (Some c) at i = absurd i

  pub one_runs : (d : Lval) (o : Option BinOp) (e : Expr) (c : Option Expr) (at : Span) → IsOne kinds in_frame d o e c → asks_operation g (assign (d ∷ []) o e c at) s ≡ None → Runs (λ t. Unit {0}) (source.does (assign (d ∷ []) o e c at) st)
  one_runs (lval.Var x) o e c at i q = assigned_runs g kinds in_frame entry s st H nn x o e c at i.0 i.1 q
  one_runs (lval.Cell x j) o e None at i q = cell_runs g kinds in_frame entry s st H nn x j o e at i q
  one_runs (lval.Store a) o e None at i q = store_runs g kinds in_frame entry s st H nn a o e at i q
  one_runs (lval.Skip p) o e c at i q = absurd i
  one_runs (lval.Cell x j) o e (Some c) at i q = absurd i
  one_runs (lval.Store a) o e (Some c) at i q = absurd i

pub assignments_go : AssignmentsGo
assignments_go g kinds in_frame entry s st nn H d o e c at i q = goes (λ t. Unit {0}) (source.does (assign (d ∷ []) o e c at) st) (one_runs g kinds in_frame entry s st nn H d o e c at i q)

pub assignments_stand : AssignmentsStand
assignments_stand g kinds in_frame entry s st nn H d o e c at i = one_stands g kinds in_frame entry s st nn H d o e c at i
