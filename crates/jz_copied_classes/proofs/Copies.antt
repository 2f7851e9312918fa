-- Each statement of the tree of copies that needs a row has the classes of one.
use Rattle.std.proofs.Common.{ℕ, suc, ◌+◌, List, [], ◌∷◌}
use Rattle.std.specs.Prelude.{All, Contains}
use Rattle.std.proofs.lemmas.List.Elements.{All-head, All-tail, All-contains}
use Rattle.jz_tree.specs.declared.program.Fun.{Fun}
use Rattle.jz_tree.specs.declared.program.Program.{Program}
use Rattle.jz_types.specs.TypedPrograms.{IsTypedProgram}
use Rattle.jz_texts.specs.Texts.{IsText}
use Rattle.jz_runs.specs.Trees.{done, op, quiet, choose, loop, each, call}
use Rattle.jz_meaning.specs.Statements.{Operation, Block}
use Rattle.jz_meaning.specs.Runs.{body_of}
use Rattle.jz_bodies.proofs.Whole as whole
use Rattle.jz_bodies.proofs.Whole.{all_known, own_params, returned_variables, params_kept, rets_kept}
use Rattle.jz_pass.specs.Copying.{copies, inlined}
use Rattle.jz_pass.specs.Operations.{in_turn}
use Rattle.jz_inline.specs.Names.{Names}
use Rattle.jz_inline.specs.Calls.{call_place, argument_ops, result_ops, names_of_callee, inline_calls}
use Rattle.jz_inline.specs.Functions.{own_names}
use Rattle.jz_copied_types.proofs.TypedTrees.{IsTypedTree, tree_typed}
use Rattle.jz_kept_rows.specs.KeptRows.{IsRowed, IsRowedBody}
use Rattle.jz_copied_classes.specs.CopiedClasses.{CopiesHaveClasses}
use Rattle.jz_copied_classes.proofs.Copied.{copies_stay_rowed, copied_test}
use Rattle.jz_copied_classes.proofs.RowedTrees.{IsRowedTree, tree_rowed}
use Rattle.jz_copied_classes.proofs.Passed.{arguments_rowed, results_rowed}

in_turn_rowed : (os : List Operation) (rest : Block) → All IsRowed os → IsRowedBody rest → IsRowedBody (in_turn os rest)
in_turn_rowed [] rest h r = r
in_turn_rowed (o ∷ os) rest h r = (All-head IsRowed o os h, in_turn_rowed os rest (All-tail IsRowed o os h) r)

module _ (p : Program) (h : IsTypedProgram p) (text : IsText p) where
  abbrev known : (g : Fun) → Contains p.funs g → whole.IsKnown p g
  known g has = All-contains (whole.IsKnown p) p.funs g (all_known p h text) has

  -- before what has classes
  copies_rowed : (t : Block) (names : Names) (c : ℕ) (rest : Block) → IsTypedTree p t → IsRowedTree p t → IsRowedBody rest → IsRowedBody (inlined inline_calls names c t rest)
  copies_rowed done names c rest w k r = r
  copies_rowed (op o t) names c rest w k r = (copies_stay_rowed names o w.0 k.0, copies_rowed t names c rest w.1 k.1 r)
  copies_rowed (quiet o t) names c rest w k r = copies_rowed t names c rest w k r
  copies_rowed (choose q y z t) names c rest w k r = (
    copied_test names q.cond k.0,
    copies_rowed y names c done w.1 k.1 tt,
    copies_rowed z names (c + copies y) done w.2 k.2 tt,
    copies_rowed t names (c + copies y + copies z) rest w.3 k.3 r,
  )
  copies_rowed (loop b y q z t) names c rest w k r = (
    copied_test names q.cond k.0,
    copies_rowed y names c done w.1 k.1 tt,
    copies_rowed z names (c + copies y) done w.2 k.2 tt,
    copies_rowed t names (c + copies y + copies z) rest w.3 k.3 r,
  )
  copies_rowed (each i z t) names c rest w k r = (copies_rowed z names c done w.0 k.0 tt, copies_rowed t names (c + copies z) rest w.1 k.1 r)
  copies_rowed (call q z t) names c rest w k r =
      let kg = known q.callee k.0 in
      let inner : Names = names_of_callee names c q in
      let given : List Operation = result_ops names inner (call_place q.to q.at) q.to q.callee.result in
      let last : Block = inlined inline_calls names (suc c + copies z) t rest in
      let behind : IsRowedBody last = copies_rowed t names (suc c + copies z) rest w.3 k.3 r in
      let results = results_rowed p q.callee names inner (call_place q.to q.at) q.callee.rets q.to q.callee.result kg.well.0 (rets_kept p q.callee kg) (returned_variables p q.callee kg) k.1.given in
      let back = in_turn_rowed given last results behind in
      let body = copies_rowed z inner (suc c) (in_turn given last) w.2 k.2 back in
      in_turn_rowed (argument_ops names inner (call_place q.to q.at) q.callee.params q.args) (quiet (inline_calls.mark names c q) (inlined inline_calls inner (suc c) z (in_turn given last)))
      (arguments_rowed p q.callee names inner (call_place q.to q.at) q.callee.params q.args (own_params p q.callee kg) (params_kept p q.callee kg) k.1.entered) body

pub copies_have_classes : CopiesHaveClasses
copies_have_classes p f h text has = copies_rowed p h text (body_of p f) own_names 1 done (tree_typed p h text f has) (tree_rowed p h text f has) tt
