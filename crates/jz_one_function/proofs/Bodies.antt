-- What statements, parameters and results become is one.
use Rattle.std.proofs.Common.{◌≡◌, ℕ, List, [], ◌∷◌, refl, sym, ap, ap₂, ◌∙◌}
use Rattle.std.specs.Prelude.{⊤}
use Rattle.jz_words.specs.declared.size.Size.{Size}
use Rattle.x64_insn.specs.declared.types.Reg.{Reg}
use Rattle.jz_tree.specs.declared.expr.Var.{Var}
use Rattle.jz_tree.specs.declared.program.Fun.{Fun}
use Rattle.jz_runs.specs.Trees.{done, op, choose, loop}
use Rattle.jz_meaning.specs.Statements.{Block}
use Rattle.jz_operations.specs.declared.operation.Operation.{Operation}
use Rattle.jz_operations.proofs.Somes.{same_some}
use Rattle.jz_placing.specs.Variables.{Body}
use Rattle.jz_change.specs.Changes.{Change, ops, stays_if, stays_while}
use Rattle.jz_pass.specs.Operations.{in_turn}
use Rattle.jz_pass.specs.Unrolling.{Unrolls, u_done, u_op, u_quiet, u_if, u_arm, u_while, u_once, u_for}
use Rattle.jz_place.specs.declared.tree.Passed.{Passed}
use Rattle.jz_homes.specs.Homes.{Homes, in_register}
use Rattle.jz_every_row.specs.Bodies.{lowering, without_marks, IsLowered}
use Rattle.jz_one_function.proofs.Statements.{one_made, one_made_test, one_made_loop_test}
use Rattle.jz_place.specs.declared.tree.Ir.{Ir}
use Rattle.jz_place.specs.Bodies.{body_of}
use Rattle.jz_lowered.specs.Functions.{ArePassed, none_passed, one_passed, IsLoweredFun}
use Rattle.jz_one_function.specs.Laws.{AreOne}

-- ---- bodies
in_turn_unmarked : (os : List Operation) (u : Body) → without_marks (in_turn os u) ≡ in_turn os (without_marks u)
in_turn_unmarked [] u = refl
in_turn_unmarked (o ∷ os) u = ap (op o) (in_turn_unmarked os u)

module _ (home : Homes) where
  record Same (u v : Body) (j k : Change) : Type 0 where
    bodies : without_marks u ≡ without_marks v
    changes : j ≡ k

  turn_same : (os us : List Operation) (u v : Body) → os ≡ us → without_marks u ≡ without_marks v → without_marks (in_turn os u) ≡ without_marks (in_turn us v)
  turn_same os us u v e f = in_turn_unmarked os u ∙ ap₂ in_turn e f ∙ sym (in_turn_unmarked us v)

  one_body : {t : Block} {e e1 e2 e3 : ⊤} {rest u rest2 v : Body} {j k : Change} → Unrolls (lowering home) t e rest u e1 j → Unrolls (lowering home) t e2 rest2 v e3 k → without_marks rest ≡ without_marks rest2 → Same u v j k
  one_body u_done u_done same = record { bodies = same; changes = refl }
  one_body (u_op {o} {u} {os} {is} h i) (u_op {u = u2} {os = os2} {is = is2} g l) same =
      let w = one_made home o os os2 is is2 h g in
      let r = one_body i l same in
      record { bodies = turn_same os os2 u u2 w.0 r.bodies; changes = ap₂ ops w.1 r.changes }
  one_body (u_quiet h i) (u_quiet g l) same = let r = one_body i l same in record { bodies = r.bodies; changes = r.changes }
  one_body (u_if {p} {u} {a2} {b2} {os} {is} {p2} {i = n} {ta} {tb} {k} h ia ib la lb i) (u_if {u = u'} {a2 = a2'} {b2 = b2'} {os = os'} {is = is'} {p2 = p2'} {i = n'} {ta = ta'} {tb = tb'} {k = k'} g ja jb ma mb l) same =
      let w = one_made_test home p p2 p2' n n' h.2 g.2 in
      let ra = one_body ia ja refl in
      let rb = one_body ib jb refl in
      let r = one_body i l same in
      let o : os ≡ os' = h.0 ∙ sym g.0 in
      let s : is ≡ is' = h.1 ∙ sym g.1 in
      record {
        bodies = turn_same os os' (choose p2 a2 b2 u) (choose p2' a2' b2' u') o (λ x. choose (w.0 x) (ra.bodies x) (rb.bodies x) (r.bodies x));
        changes = λ x. stays_if (s x) (w.1 x) (ra.changes x) (rb.changes x) (r.changes x);
      }
  one_body (u_arm x ia i) g same = absurd x
  one_body (u_if h ia ib la lb i) (u_arm x ja l) same = absurd x
  one_body (u_while {h = q} {p} {u} {q2} {b2} {os} {is} {p2} {i = n} {tq} {tb} {k} le h iq ib lb lr i) (u_while {u = u'} {q2 = q2'} {b2 = b2'} {os = os'} {is = is'} {p2 = p2'} {i = n'} {tq = tq'} {tb = tb'} {k = k'} le' g jq jb mb mr l) same =
      let w = one_made_loop_test home p p2 p2' n n' h.2 g.2 in
      let o : os ≡ os' = h.0 ∙ sym g.0 in
      let s : is ≡ is' = h.1 ∙ sym g.1 in
      let rq = one_body iq jq (turn_same os os' done done o refl) in
      let rb = one_body ib jb refl in
      let r = one_body i l same in
      record {
        bodies = λ x. loop q (rq.bodies x) (w.0 x) (rb.bodies x) (r.bodies x);
        changes = λ x. stays_while (rq.changes x) (s x) (w.1 x) (rb.changes x) (r.changes x);
      }
  one_body (u_while le h iq ib lb lr i) (u_once jq x l) same = absurd x
  one_body (u_once iq x i) g same = absurd x
  one_body (u_for x ir i) g same = absurd x

  pub one_lowered : (b : Block) (u v : Body) (j k : Change) → IsLowered home b u j → IsLowered home b v k → (u ≡ v) × (j ≡ k)
  one_lowered b u v j k h g = let r = one_body h.made g.made refl in (h.body ∙ r.bodies ∙ sym g.body, r.changes)

  -- ---- parameters and results
  same_register : (m n : ℕ) (y z : Size) → in_register m y ≡ in_register n z → m ≡ n
  same_register m n y z e = cc

  one_passing : {rs : List Reg} {xs : List Var} {ps qs : List Passed} → ArePassed home rs xs ps → ArePassed home rs xs qs → ps ≡ qs
  one_passing none_passed none_passed = refl
  one_passing (one_passed {p} {ps} z h s r next) (one_passed {p = q} {ps = qs} y g t w more) =
      let n : p.variable.variable ≡ q.variable.variable = same_register p.variable.variable q.variable.variable z y (same_some _ _ (sym h ∙ g)) in
      let at : p.variable.span ≡ q.variable.span = s ∙ sym t in
      let reg : p.reg ≡ q.reg = r ∙ sym w in
      let one : p ≡ q = λ i. record { variable = record { variable = n i; span = at i }; reg = reg i } in
      ap₂ (λ a as'. a ∷ as') one (one_passing next more)

pub one_function : (home : Homes) (arguments results : List Reg) (f : Fun) (b : Block) (l m : Ir) (j k : Change) → IsLoweredFun home arguments results f b l j → IsLoweredFun home arguments results f b m k → AreOne l m × (j ≡ k)
one_function home arguments results f b l m j k h g =
    let one = one_lowered home b (body_of l.body) (body_of m.body) j k h.body g.body in
    (record { entry = one_passing home h.entry g.entry; body = one.0; results = one_passing home h.returned g.returned }, one.1)
