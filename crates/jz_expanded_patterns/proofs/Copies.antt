-- Each assignment of the tree of copies that needs a row has one.
use Rattle.std.proofs.Common.{◌≡◌, Bool, ℕ, suc, ◌+◌, List, [], ◌∷◌, sym, ap, ◌∙◌, arith}
use Rattle.std.specs.Prelude.{◌≤◌, All, Contains}
use Rattle.std.proofs.lemmas.List.Elements.{All-nil, All-cons, All-head, All-tail, All-contains}
use Rattle.jz_tree.specs.Span.{Span}
use Rattle.jz_tree.specs.declared.expr.Var.{Var}
use Rattle.jz_tree.specs.declared.program.Fun.{Fun}
use Rattle.jz_tree.specs.declared.program.Program.{Program}
use Rattle.jz_types.specs.TypedPrograms.{IsTypedProgram}
use Rattle.jz_texts.specs.Texts.{IsText}
use Rattle.jz_runs.specs.Trees.{done, op, quiet, choose, loop, each, call}
use Rattle.jz_meaning.specs.States.{Key, same_key}
use Rattle.jz_meaning.specs.Statements.{Operation, Block}
use Rattle.jz_meaning.specs.Runs.{body_of}
use Rattle.jz_bodies.specs.Scopes.{Has}
use Rattle.jz_bodies.specs.Bodies.{IsBody}
use Rattle.jz_bodies.specs.Declared.{scopes_in}
use Rattle.jz_bodies.specs.Typed.{IsTypedFunction}
use Rattle.jz_bodies.proofs.Whole as whole
use Rattle.jz_bodies.proofs.Whole.{all_known, bodies_law, own_params, returned_variables, params_kept, rets_kept}
use Rattle.jz_pass.specs.Copying.{copies, inlined}
use Rattle.jz_pass.specs.Operations.{in_turn}
use Rattle.jz_inline.specs.Names.{Names}
use Rattle.jz_inline.specs.Calls.{call_place, argument_ops, result_ops, names_of_callee, inline_calls}
use Rattle.jz_inline.specs.Functions.{own_names, inlined_body}
use Rattle.jz_inline.proofs.Copies.{key_in, IsBelow}
use Rattle.jz_inline.proofs.Naming.{sets_has, callee_below}
use Rattle.jz_copied_classes.proofs.RowedTrees.{IsRowedTree, tree_rowed}
use Rattle.jz_copied_classes.proofs.Passed.{arguments_rowed, results_rowed}
use Rattle.jz_copied_variables.specs.Variables.{OverOperation, OverBody}
use Rattle.jz_expanded_patterns.proofs.Bodies.{IfRow, IfRows}
use Rattle.jz_expanded_patterns.proofs.SourceRows.{source_rows}
use Rattle.jz_expanded_patterns.proofs.Names.{Knows, X, row_in}
use Rattle.jz_expanded_patterns.proofs.Passed.{arguments_have, results_have}

in_turn_rows : (os : List Operation) (rest : Block) → All IfRow os → IfRows rest → IfRows (in_turn os rest)
in_turn_rows [] rest h r = r
in_turn_rows (o ∷ os) rest h r = (All-head IfRow o os h, in_turn_rows os rest (All-tail IfRow o os h) r)

module _ (P : Var → Type 0) (F : Key → Bool) where
  pub record Split (os : List Operation) (rest : Block) : Type 0 where
    pub first : All (OverOperation P F) os
    pub onto : OverBody P F rest

  one_more : (o : Operation) (os : List Operation) (rest : Block) → OverOperation P F o → Split os rest → Split (o ∷ os) rest
  one_more o os rest h s = record { first = All-cons (OverOperation P F) o os h s.first; onto = s.onto }

  split : (os : List Operation) (rest : Block) → OverBody P F (in_turn os rest) → Split os rest
  split [] rest h = record { first = All-nil (OverOperation P F); onto = h }
  split (o ∷ os) rest h = one_more o os rest h.0 (split os rest h.1)

module _ (p : Program) (typed : IsTypedProgram p) (text : IsText p) (P : Var → Type 0) (facts : Knows P) (F : Key → Bool) where
  abbrev known : (g : Fun) → Contains p.funs g → whole.IsKnown p g
  known g has = All-contains (whole.IsKnown p) p.funs g (all_known p typed text) has

  abbrev kept : (g : Fun) → Contains p.funs g → IsTypedFunction p g
  kept g has = All-contains (IsTypedFunction p) p.funs g (bodies_law p typed text) has

  abbrev Below : Names → Fun → ℕ → Type 0
  Below names g c = IsBelow (X p P facts g names) c

  more : (names : Names) (g : Fun) (c d : ℕ) → c ≤ d → Below names g c → Below names g d
  more names g c d l b = record { scope = b.scope; below = λ k h. omega (arith, b.below k h, l); apart = b.apart }

  behind : (c n : ℕ) → c ≤ c + n
  behind c n = omega arith

  later : (c n : ℕ) → c ≤ suc c + n
  later c n = omega arith

  twice : (c n m : ℕ) → c ≤ c + n + m
  twice c n m = omega arith

  copies_rows : (t : Block) (g : Fun) (names : Names) (c : ℕ) (rest : Block) → Contains p.funs g → Below names g c → IsBody (scopes_in p) (scopes_in p g) t → IfRows t → IsRowedTree p t
      → OverBody P F (inlined inline_calls names c t rest) → (OverBody P F rest → IfRows rest) → IfRows (inlined inline_calls names c t rest)
  copies_rows done g names c rest has b k r w o n = n o
  copies_rows (op x t) g names c rest has b k r w o n = (row_in p P facts g names F c b x k.0 o.0 r.0, copies_rows t g names c rest has b k.1 r.1 w.1 o.1 n)
  copies_rows (quiet x t) g names c rest has b k r w o n = absurd k
  copies_rows (choose q y z t) g names c rest has b k r w o n = (
    copies_rows y g names c done has b k.1 r.0 w.1 o.1 (λ e. tt),
    copies_rows z g names (c + copies y) done has (more names g c (c + copies y) (behind c (copies y)) b) k.2 r.1 w.2 o.2 (λ e. tt),
    copies_rows t g names (c + copies y + copies z) rest has (more names g c (c + copies y + copies z) (twice c (copies y) (copies z)) b) k.3 r.2 w.3 o.3 n,
  )
  copies_rows (loop h y q z t) g names c rest has b k r w o n = (
    copies_rows y g names c done has b k.1 r.0 w.1 o.1 (λ e. tt),
    copies_rows z g names (c + copies y) done has (more names g c (c + copies y) (behind c (copies y)) b) k.2 r.1 w.2 o.2 (λ e. tt),
    copies_rows t g names (c + copies y + copies z) rest has (more names g c (c + copies y + copies z) (twice c (copies y) (copies z)) b) k.3 r.2 w.3 o.3 n,
  )
  copies_rows (each i z t) g names c rest has b k r w o n =
      (copies_rows z g names c done has b k.1 r.0 w.0 o.0 (λ e. tt), copies_rows t g names (c + copies z) rest has (more names g c (c + copies z) (behind c (copies z)) b) k.2 r.1 w.1 o.1 n)
  copies_rows (call q z t) g names c rest has b k r w o n =
      let kg = known q.callee w.0 in
      let inner : Names = names_of_callee names c q in
      let at : Span = call_place q.to q.at in
      let last : Block = inlined inline_calls names (suc c + copies z) t rest in
      let args : List Operation = argument_ops names inner at q.callee.params q.args in
      let given : List Operation = result_ops names inner at q.to q.callee.result in
      let head : Block = quiet (inline_calls.mark names c q) (inlined inline_calls inner (suc c) z (in_turn given last)) in
      let s = split P F args head o in
      let zero = (kept g has).zero in
      let entered = arguments_have p P facts F g names c b zero q k.0 at q.callee.params q.args k.0.arguments w.1.entered s.first
      (arguments_rowed p q.callee names inner at q.callee.params q.args (own_params p q.callee kg) (params_kept p q.callee kg) w.1.entered) in
      let back = results_have p P facts F g names c b zero q k.0 at q.to q.callee.result w.1.given
      (results_rowed p q.callee names inner at q.callee.rets q.to q.callee.result kg.well.0 (rets_kept p q.callee kg) (returned_variables p q.callee kg) w.1.given) in
      let deeper : IsBelow (X p P facts q.callee inner) (suc c) = callee_below (scopes_in p) (X p P facts g names) c q b k.0 in
      let onward : OverBody P F (in_turn given last) → IfRows (in_turn given last) =
      λ e. (let u = split P F given last e in
      in_turn_rows given last back (copies_rows t g names (suc c + copies z) rest has (more names g c (suc c + copies z) (later c (copies z)) b) k.2 r.1 w.3 u.onto n)) in
      in_turn_rows args head entered (copies_rows z q.callee inner (suc c) (in_turn given last) w.0 deeper k.1 r.0 w.2 s.onto.1 onward)

  -- ---- the whole
  own_key : (f : Fun) (has : Contains p.funs f) (k : Key) → Has (scopes_in p f) k → key_in own_names k ≡ k
  own_key f has k h = ap (λ n. record { name = k.name; copy = n; cell = k.cell }) (sym ((kept f has).zero k h))

  at_first : (f : Fun) (has : Contains p.funs f) → Below own_names f 1
  at_first f has = record {
    scope = (kept f has).scope;
    below = λ k h. omega arith;
    apart = λ k q s h. ap (λ v. same_key v (key_in own_names q)) (own_key f has k (sets_has (scopes_in p f) (kept f has).scope k s)) ∙ ap (same_key k) (own_key f has q h);
  }

  pub body_rows : (f : Fun) → Contains p.funs f → OverBody P F (inlined_body p f) → IfRows (inlined_body p f)
  body_rows f has o =
      copies_rows (body_of p f) f own_names 1 done has (at_first f has) (kept f has).body (source_rows p typed text f has) (tree_rowed p typed text f has) o (λ e. tt)
