-- Bodies are what the placing of variables asks.
use Rattle.std.proofs.Common.{◌≡◌, List, [], ◌∷◌, sym, subst}
use Rattle.std.specs.Prelude.{⊤}
use Rattle.jz_runs.specs.Trees.{done, choose}
use Rattle.jz_meaning.specs.Statements.{Condition, Block}
use Rattle.jz_meaning.specs.Statements as statements
use Rattle.jz_ir.specs.declared.code.Kind.{Kind}
use Rattle.jz_operations.specs.declared.operation.Operation.{Operation}
use Rattle.jz_placing.specs.Variables.{Asked, Body}
use Rattle.jz_placing.specs.Placing.{Asks}
use Rattle.jz_change.specs.Changes.{Change}
use Rattle.jz_change.specs.declared.change.Numbers.{Numbers}
use Rattle.jz_pass.specs.Operations.{in_turn}
use Rattle.jz_pass.specs.Unrolling.{Unrolls, u_done, u_op, u_quiet, u_if, u_arm, u_while, u_once, u_for}
use Rattle.jz_place.specs.Sorts.{TestSorted, AreSorted}
use Rattle.jz_homes.specs.Homes.{Homes}
use Rattle.jz_every_row.specs.Conditions.{LowersFlagTest, asks_flag}
use Rattle.jz_every_row.specs.Statements.{Makes, by_row, by_flags, MakesTest, by_comparison, by_flag, MakesLoopTest, by_loop_test, by_loop_flag}
use Rattle.jz_every_row.specs.Bodies.{lowering, without_marks}
use Rattle.jz_lowered.specs.Functions.{AreKinds}
use Rattle.jz_lowered.proofs.Sorted.{AllSorted, lowers_sorted, test_sorted, loop_test_sorted}
use Rattle.jz_lowered.proofs.FlagSorted.{flags_sorted}

module _ (home : Homes) (kinds : List Kind) (are : AreKinds home kinds) where
  made_sorted : (o : statements.Operation) (os : List Operation) (items : List Numbers) → Makes home o os items → AllSorted home kinds are os
  made_sorted o os items (by_row h) = lowers_sorted home kinds are o os items h
  made_sorted o os items (by_flags h) = flags_sorted home kinds are o os items h

  -- ---- tests
  flag_test_sorted : (t : Condition) (a : Asked) (i : Numbers) → LowersFlagTest home t a i → TestSorted kinds a × Asks a
  flag_test_sorted t a i (asks_flag h) = (tt, tt)

  made_test_sorted : (t : Condition) (a : Asked) (i : Numbers) → MakesTest home t a i → TestSorted kinds a × Asks a
  made_test_sorted t a i (by_comparison h) = test_sorted home kinds are t a i h
  made_test_sorted t a i (by_flag h) = flag_test_sorted t a i h

  made_loop_test_sorted : (t : Condition) (a : Asked) (i : Numbers) → MakesLoopTest home t a i → TestSorted kinds a
  made_loop_test_sorted t a i (by_loop_test h) = loop_test_sorted home kinds are t a i h
  made_loop_test_sorted t a i (by_loop_flag h) = (flag_test_sorted t a i h).0

  -- ---- bodies
  turn_sorted : (os : List Operation) (u : Body) → AllSorted home kinds are os → AreSorted kinds (without_marks u) → AreSorted kinds (without_marks (in_turn os u))
  turn_sorted [] u h k = k
  turn_sorted (o ∷ os) u h k = (h.0, turn_sorted os u h.1 k)

  no_turn_sorted : (os : List Operation) (u : Body) → os ≡ [] → AreSorted kinds (without_marks u) → AreSorted kinds (without_marks (in_turn os u))
  no_turn_sorted os u e k = subst (λ l. AreSorted kinds (without_marks (in_turn l u))) (sym e) k

  pub bodies_sorted : {e e1 : ⊤} {b : Block} {rest u : Body} {k : Change} → Unrolls (lowering home) b e rest u e1 k → AreSorted kinds (without_marks rest) → AreSorted kinds (without_marks u)
  bodies_sorted u_done h = h
  bodies_sorted (u_op {u = u} {os = os} l r) h = turn_sorted os u (made_sorted _ os _ l) (bodies_sorted r h)
  bodies_sorted (u_quiet l r) h = bodies_sorted r h
  bodies_sorted (u_if {p = p} {u = u} {a2 = a2} {b2 = b2} {os = os} {p2 = p2} {i = i} l x y ea eb r) h =
      let t = made_test_sorted p p2 i l.2 in
      no_turn_sorted os (choose p2 a2 b2 u) l.0 (t.0, t.1, bodies_sorted x tt, bodies_sorted y tt, bodies_sorted r h)
  bodies_sorted (u_arm c x r) h = absurd c
  bodies_sorted (u_while {p = p} {os = os} {p2 = p2} {i = i} e0 l q b eb e3 r) h = (bodies_sorted q (no_turn_sorted os done l.0 tt), made_loop_test_sorted p p2 i l.2, bodies_sorted b tt, bodies_sorted r h)
  bodies_sorted (u_once q c r) h = absurd c
  bodies_sorted (u_for v e r) h = absurd v
