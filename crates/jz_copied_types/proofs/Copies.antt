-- The tree of copies is typed.
use Rattle.std.proofs.Common.{ℕ, suc, ◌+◌, List, [], ◌∷◌, Some}
use Rattle.std.specs.Prelude.{All, Contains}
use Rattle.std.proofs.lemmas.List.Elements.{All-head, All-tail, All-contains}
use Rattle.jz_tree.specs.declared.expr.Expr.{Expr}
use Rattle.jz_tree.specs.declared.stmt.Lval.{Lval}
use Rattle.jz_tree.specs.declared.program.Fun.{Fun}
use Rattle.jz_tree.specs.declared.program.Program.{Program}
use Rattle.jz_judgement.specs.Places.{truth}
use Rattle.jz_judgement.specs.WellTyped as well
use Rattle.jz_judgement.specs.WellTyped.{InPairs, Passed, Given, Calls}
use Rattle.jz_types.specs.TypedPrograms.{IsTypedProgram}
use Rattle.jz_texts.specs.Texts.{IsText}
use Rattle.jz_runs.specs.Trees.{done, op, quiet, choose, loop, each, call}
use Rattle.jz_meaning.specs.Statements.{Operation, Block}
use Rattle.jz_meaning.specs.Runs.{body_of}
use Rattle.jz_bodies.proofs.Whole as whole
use Rattle.jz_bodies.proofs.Whole.{all_known, own_params, returned_variables, params_kept, rets_kept}
use Rattle.jz_pass.specs.Copying.{copies, inlined}
use Rattle.jz_pass.specs.Operations.{in_turn}
use Rattle.jz_inline.specs.Names.{Names}
use Rattle.jz_inline.specs.Calls.{call_place, argument_ops, result_ops, names_of_callee, inline_calls}
use Rattle.jz_inline.specs.Functions.{own_names}
use Rattle.jz_kept_types.specs.Operations.{IsTyped, IsTypedBody}
use Rattle.jz_copied_types.proofs.Kept.{copies_keep, copies_stay}
use Rattle.jz_copied_types.specs.CopiedLaws.{CopiesAreTyped}
use Rattle.jz_copied_types.proofs.TypedTrees.{IsTypedTree, tree_typed}
use Rattle.jz_copied_types.proofs.Passed.{arguments_typed, results_typed}

in_turn_typed : (os : List Operation) (rest : Block) → All IsTyped os → IsTypedBody rest → IsTypedBody (in_turn os rest)
in_turn_typed [] rest h r = r
in_turn_typed (o ∷ os) rest h r = (All-head IsTyped o os h, in_turn_typed os rest (All-tail IsTyped o os h) r)

passed_of : (g : Fun) (to : List Lval) (args : List Expr) → Calls (Some g) to args → InPairs Passed g.params args
passed_of g to args (well.called c r a) = a

given_of : (g : Fun) (to : List Lval) (args : List Expr) → Calls (Some g) to args → InPairs Given g.rets to
given_of g to args (well.called c r a) = r

module _ (p : Program) (h : IsTypedProgram p) (text : IsText p) where
  abbrev known : (g : Fun) → Contains p.funs g → whole.IsKnown p g
  known g has = All-contains (whole.IsKnown p) p.funs g (all_known p h text) has

  -- before what is typed
  copies_typed : (t : Block) (names : Names) (c : ℕ) (rest : Block) → IsTypedTree p t → IsTypedBody rest → IsTypedBody (inlined inline_calls names c t rest)
  copies_typed done names c rest k r = r
  copies_typed (op o t) names c rest k r = (copies_stay names o k.0, copies_typed t names c rest k.1 r)
  copies_typed (quiet o t) names c rest k r = copies_typed t names c rest k r
  copies_typed (choose q y z t) names c rest k r = (
    copies_keep names q.cond truth k.0,
    copies_typed y names c done k.1 tt,
    copies_typed z names (c + copies y) done k.2 tt,
    copies_typed t names (c + copies y + copies z) rest k.3 r,
  )
  copies_typed (loop w y q z t) names c rest k r = (
    copies_keep names q.cond truth k.0,
    copies_typed y names c done k.1 tt,
    copies_typed z names (c + copies y) done k.2 tt,
    copies_typed t names (c + copies y + copies z) rest k.3 r,
  )
  copies_typed (each i z t) names c rest k r = (copies_typed z names c done k.0 tt, copies_typed t names (c + copies z) rest k.1 r)
  copies_typed (call q z t) names c rest k r =
      let kg = known q.callee k.0 in
      let inner : Names = names_of_callee names c q in
      let given : List Operation = result_ops names inner (call_place q.to q.at) q.to q.callee.result in
      let last : Block = inlined inline_calls names (suc c + copies z) t rest in
      let behind : IsTypedBody last = copies_typed t names (suc c + copies z) rest k.3 r in
      let results = results_typed p q.callee names inner (call_place q.to q.at) q.callee.rets q.to q.callee.result (given_of q.callee q.to q.args k.1) kg.well.0 (rets_kept p q.callee kg) (returned_variables p q.callee kg) in
      let back = in_turn_typed given last results behind in
      let body = copies_typed z inner (suc c) (in_turn given last) k.2 back in
      in_turn_typed (argument_ops names inner (call_place q.to q.at) q.callee.params q.args) (quiet (inline_calls.mark names c q) (inlined inline_calls inner (suc c) z (in_turn given last)))
      (arguments_typed p q.callee names inner (call_place q.to q.at) q.callee.params q.args (passed_of q.callee q.to q.args k.1) (own_params p q.callee kg) (params_kept p q.callee kg)) body

pub copies_are_typed : CopiesAreTyped
copies_are_typed p f h text has = copies_typed p h text (body_of p f) own_names 1 done (tree_typed p h text f has) tt
