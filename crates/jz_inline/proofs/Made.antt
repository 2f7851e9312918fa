-- The statements of a copied body are those of its tree, and their steps are its change.
use Rattle.std.proofs.Common.{◌≡◌, ℕ, zero, suc, ◌+◌, Bool, true, false, List, [], ◌∷◌, ◌++◌, map, length, Option, Some, None, refl, sym, ap, ◌∙◌, subst, arith}
use Rattle.std.specs.Prelude.{if◌then◌else◌, option_map}
use Rattle.jz_tree.specs.Span.{Span}
use Rattle.jz_tree.specs.declared.expr.BinOp.{BinOp}
use Rattle.jz_tree.specs.declared.expr.Expr.{Expr}
use Rattle.jz_tree.specs.declared.expr.Expr.TheVariants as expr
use Rattle.jz_tree.specs.declared.expr.Var.{Var}
use Rattle.jz_tree.specs.declared.stmt.Lval.{Lval}
use Rattle.jz_tree.specs.declared.stmt.Lval.TheVariants as lval
use Rattle.jz_tree.specs.declared.stmt.Rhs.{Rhs}
use Rattle.jz_tree.specs.declared.stmt.Rhs.TheVariants as rhs
use Rattle.jz_tree.specs.declared.stmt.Stmt.{Stmt}
use Rattle.jz_tree.specs.declared.stmt.StmtKind.{StmtKind}
use Rattle.jz_tree.specs.declared.stmt.StmtKind.TheVariants as kind
use Rattle.jz_tree.specs.declared.stmt.StmtKind.TheOpen.{StmtKind-F, Stmt-F}
use Rattle.jz_tree.specs.declared.stmt.StmtKind.TheViews.{roll-Stmt, roll-StmtKind}
use Rattle.jz_tree.specs.declared.stmt.StmtKind.TheFolds.{fold-StmtKind, fold-roll-Stmt, fold-roll-StmtKind, ind-Stmt, map-Stmt, map-StmtKind}
use Rattle.jz_tree.specs.declared.program.Fun.{Fun}
use Rattle.jz_tree.specs.declared.program.Note.{Note}
use Rattle.jz_tree.specs.declared.program.Param.{Param}
use Rattle.jz_tree.specs.declared.program.Program.{Program}
use Rattle.jz_type_names.specs.Scopes.{function_named}
use Rattle.jz_runs.specs.Trees.{done, op, quiet, choose, loop, each, call}
use Rattle.jz_meaning.specs.Values.{ref_of}
use Rattle.jz_meaning.specs.Statements.{Operation, assign, instruction, unset, meaningless, Block}
use Rattle.jz_meaning.specs.Runs.{Callee, Callees, with_tree, callees_of, in_order, call_tree, assign_tree, kind_tree, statement_tree, block}
use Rattle.jz_interp.proofs.Pieces.{assign_is, if_is, while_is, for_is, mark_is}
use Rattle.jz_change.specs.declared.change.Numbers.{Numbers}
use Rattle.jz_change.specs.declared.change.Numbers.TheVariants.{Same}
use Rattle.jz_change.specs.declared.change.Step.{Step}
use Rattle.jz_change.specs.declared.change.Step.TheVariants as step
use Rattle.jz_change.specs.Changes.{Change, ops, stays_if, stays_while, stays_for, opened}
use Rattle.jz_change.specs.Views.{chain, then_step, change_of, steps_of}
use Rattle.jz_change.proofs.StepViews.{then_ops, then_if, then_while, then_for, then_opened, change_is, steps_append}
use Rattle.jz_pass.specs.Operations.{in_turn}
use Rattle.jz_pass.specs.Copying.{copies, inlined, inlining}
use Rattle.jz_bodies.specs.Calls.{is_array}
use Rattle.jz_inline.specs.Names.{Names, var_in, expr_in, lval_in}
use Rattle.jz_inline.specs.Calls.{callee_names, call_place, argument_ops, result_op, result_ops, argument_items, result_items, inline_calls}
use Rattle.jz_inline.specs.Functions.{own_names, inlined_body, inlining_of}
use Rattle.jz_inline.specs.Statements.{statement, Piece, all_pieces, kept, all_steps, set_statement, argument_statements, result_statement, result_statements, CopiedFun, CopiedFuns, call_made, call_piece, assign_piece, kind_made, statement_piece, body_piece, with_piece, copied_funs, no_callees, inlined_statements, inlining_steps}

pub block_both : (callees : Callees) (xs ys : List Stmt) (r : Block) → block callees (xs ++ ys) r ≡ block callees xs (block callees ys r)
block_both callees [] ys r = refl
block_both callees (x ∷ xs) ys r = ap (statement_tree callees x) (block_both callees xs ys r)

-- ---- single steps

ops_step : (k : Change) → ops (Same ∷ []) k ≡ chain (map then_step kept) k
ops_step k = sym (then_ops (Same ∷ []) k)

if_step : (a b : List Step) (k : Change) → stays_if [] Same (steps_of a) (steps_of b) k ≡ then_step (step.If [] Same (all_steps a) (all_steps b)) k
if_step a b k =
    ap (λ x. stays_if [] Same x (steps_of b) k) (sym (change_is (all_steps a)))
    ∙ ap (λ x. stays_if [] Same (change_of (all_steps a)) x k) (sym (change_is (all_steps b)))
    ∙ sym (then_if [] Same (all_steps a) (all_steps b) k)

while_step : (a b : List Step) (k : Change) → stays_while (steps_of a) [] Same (steps_of b) k ≡ then_step (step.While (all_steps a) [] Same (all_steps b)) k
while_step a b k =
    ap (λ x. stays_while x [] Same (steps_of b) k) (sym (change_is (all_steps a)))
    ∙ ap (λ x. stays_while (change_of (all_steps a)) [] Same x k) (sym (change_is (all_steps b)))
    ∙ sym (then_while (all_steps a) [] Same (all_steps b) k)

for_step : (a : List Step) (k : Change) → stays_for (steps_of a) k ≡ then_step (step.For (all_steps a)) k
for_step a k = ap (λ x. stays_for x k) (sym (change_is (all_steps a))) ∙ sym (then_for (all_steps a) k)

opened_step : (xs : List Numbers) (a : List Step) (ys : List Numbers) (k : Change) → opened xs (steps_of a) ys k ≡ then_step (step.Opened xs (all_steps a) ys) k
opened_step xs a ys k = ap (λ x. opened xs x ys k) (sym (change_is (all_steps a))) ∙ sym (then_opened xs (all_steps a) ys k)

-- ---- what a statement becomes

pub record PieceLaw (f : Block → Block) (p : Piece) : Type 0 where
  pub count : (r : Block) → copies (f r) ≡ p.copies + copies r
  pub tree : (names : Names) (j : ℕ) (r rest : Block) → inlined inline_calls names j (f r) rest ≡ block no_callees (p.made names j) (inlined inline_calls names (j + p.copies) r rest)
  pub change : (names : Names) (j : ℕ) (r : Block) → inlining inline_calls names j (f r) ≡ chain (map then_step p.steps) (inlining inline_calls names (j + p.copies) r)

abbrev pub AllLaws : List (Block → Block) → List Piece → Type 0
AllLaws [] [] = Unit {0}
AllLaws (f ∷ fs) (p ∷ ps) = PieceLaw f p × AllLaws fs ps
AllLaws _ _ = ⊥

pub in_order_law : (fs : List (Block → Block)) (ps : List Piece) → AllLaws fs ps → PieceLaw (in_order fs) (all_pieces ps)
in_order_law [] [] h =
    record {
      count = λ r. omega arith;
      tree = λ names j r rest. (let e : j ≡ j + 0 = omega arith in ap (λ i. inlined inline_calls names i r rest) e);
      change = λ names j r. (let e : j ≡ j + 0 = omega arith in ap (λ i. inlining inline_calls names i r) e);
    }
in_order_law [] (p ∷ ps) h = absurd h
in_order_law (f ∷ fs) [] h = absurd h
in_order_law (f ∷ fs) (p ∷ ps) h =
    let k = in_order_law fs ps h.1 in
    let q = all_pieces ps in
    record {
      count = λ r. omega (arith, h.0.count (in_order fs r), k.count r);
      tree = λ names j r rest. (let e : j + p.copies + q.copies ≡ j + (p.copies + q.copies) = omega arith in
          h.0.tree names j (in_order fs r) rest
          ∙ ap (block no_callees (p.made names j)) (k.tree names (j + p.copies) r rest)
          ∙ ap (λ i. block no_callees (p.made names j) (block no_callees (q.made names (j + p.copies)) (inlined inline_calls names i r rest))) e
          ∙ sym (block_both no_callees (p.made names j) (q.made names (j + p.copies)) (inlined inline_calls names (j + (p.copies + q.copies)) r rest)));
      change = λ names j r. (let e : j + p.copies + q.copies ≡ j + (p.copies + q.copies) = omega arith in
          h.0.change names j (in_order fs r)
          ∙ ap (chain (map then_step p.steps)) (k.change names (j + p.copies) r)
          ∙ ap (λ i. chain (map then_step p.steps) (chain (map then_step q.steps) (inlining inline_calls names i r))) e
          ∙ sym (steps_append p.steps q.steps (inlining inline_calls names (j + (p.copies + q.copies)) r)));
    }

-- of a body, before what follows
pub record BodyLaw (b : Block) (p : Piece) : Type 0 where
  pub count : copies b ≡ p.copies
  pub tree : (names : Names) (j : ℕ) (rest : Block) → inlined inline_calls names j b rest ≡ block no_callees (p.made names j) rest
  pub change : (names : Names) (j : ℕ) → inlining inline_calls names j b ≡ steps_of p.steps

pub body_law : (fs : List (Block → Block)) (ps : List Piece) → AllLaws fs ps → BodyLaw (in_order fs done) (all_pieces ps)
body_law fs ps h =
    let k = in_order_law fs ps h in
    record {
      count = omega (arith, k.count done);
      tree = λ names j rest. k.tree names j done rest;
      change = λ names j. k.change names j done;
    }

-- ---- single statements

one_more : (names : Names) (j : ℕ) (r rest : Block) → inlined inline_calls names j r rest ≡ inlined inline_calls names (j + 0) r rest
one_more names j r rest = let e : j ≡ j + 0 = omega arith in ap (λ i. inlined inline_calls names i r rest) e

kept_change : (names : Names) (j : ℕ) (r : Block) → ops (Same ∷ []) (inlining inline_calls names j r) ≡ chain (map then_step kept) (inlining inline_calls names (j + 0) r)
kept_change names j r = let e : j ≡ j + 0 = omega arith in ap (λ i. ops (Same ∷ []) (inlining inline_calls names i r)) e ∙ ops_step (inlining inline_calls names (j + 0) r)

assign_so : (notes : List Note) (at : Span) (to : List Lval) (o : Option BinOp) (r : Rhs) (c : Option Expr) (rest : Block) → assign_tree no_callees to o r c at rest ≡ block no_callees (statement notes at (kind.Assign to o r c) ∷ []) rest
assign_so notes at to o r c rest = ap (λ f. f rest) (sym (assign_is no_callees (statement notes at (kind.Assign to o r c)) to o r c refl))

value_law : (notes : List Note) (at : Span) (to : List Lval) (o : Option BinOp) (e : Expr) (c : Option Expr) (callees : Callees) (funs : CopiedFuns) → PieceLaw (assign_tree callees to o (rhs.Value e) c at) (assign_piece funs notes at to o (rhs.Value e) c)
value_law notes at to o e c callees funs =
    record {
      count = λ r. omega arith;
      tree = λ names j r rest. (
          ap (op (assign (map (lval_in names) to) o (expr_in names e) (option_map (expr_in names) c) at)) (one_more names j r rest)
          ∙ assign_so notes at (map (lval_in names) to) o (rhs.Value (expr_in names e)) (option_map (expr_in names) c) (inlined inline_calls names (j + 0) r rest));
      change = kept_change;
    }

intrinsic_law : (notes : List Note) (at : Span) (to : List Lval) (o : Option BinOp) (n : List ℕ) (args : List Expr) (place : Span) (c : Option Expr) (callees : Callees) (funs : CopiedFuns) → PieceLaw (assign_tree callees to o (rhs.Intrinsic n args place) c at) (assign_piece funs notes at to o (rhs.Intrinsic n args place) c)
intrinsic_law notes at to None n args place None callees funs =
    record { count = λ r. omega arith; tree = λ names j r rest. (ap (op (instruction (map (lval_in names) to) n (map (expr_in names) args) place)) (one_more names j r rest) ∙ assign_so notes at (map (lval_in names) to) None (rhs.Intrinsic n (map (expr_in names) args) place) None (inlined inline_calls names (j + 0) r rest)); change = kept_change }
intrinsic_law notes at to None n args place (Some c) callees funs =
    record { count = λ r. omega arith; tree = λ names j r rest. (ap (op (meaningless place)) (one_more names j r rest) ∙ assign_so notes at (map (lval_in names) to) None (rhs.Intrinsic n (map (expr_in names) args) place) (Some (expr_in names c)) (inlined inline_calls names (j + 0) r rest)); change = kept_change }
intrinsic_law notes at to (Some o) n args place c callees funs =
    record { count = λ r. omega arith; tree = λ names j r rest. (ap (op (meaningless place)) (one_more names j r rest) ∙ assign_so notes at (map (lval_in names) to) (Some o) (rhs.Intrinsic n (map (expr_in names) args) place) (option_map (expr_in names) c) (inlined inline_calls names (j + 0) r rest)); change = kept_change }

-- ---- calls

set_so : (at : Span) (d : Lval) (e : Expr) (rest : Block) → statement_tree no_callees (set_statement at d e) rest ≡ op (assign (d ∷ []) None e None at) rest
set_so at d e rest = ap (λ f. f rest) (assign_is no_callees (set_statement at d e) (d ∷ []) None (rhs.Value e) None refl)

chosen_so : (b : Bool) (d : Lval) (e : Expr) (at : Span) (os : List Operation) (ss : List Stmt) (rest : Block) → in_turn os rest ≡ block no_callees ss rest →
    in_turn (if b then os else (assign (d ∷ []) None e None at ∷ os)) rest ≡ block no_callees (if b then ss else (set_statement at d e ∷ ss)) rest
chosen_so true d e at os ss rest h = h
chosen_so false d e at os ss rest h = ap (op (assign (d ∷ []) None e None at)) h ∙ sym (set_so at d e (block no_callees ss rest))

arguments_so : (outer inner : Names) (at : Span) (ps : List Param) (es : List Expr) (rest : Block) → in_turn (argument_ops outer inner at ps es) rest ≡ block no_callees (argument_statements outer inner at ps es) rest
arguments_so outer inner at [] es rest = refl
arguments_so outer inner at (p ∷ ps) [] rest = refl
arguments_so outer inner at (p ∷ ps) (e ∷ es) rest =
    chosen_so (is_array (ref_of p.var).kind) (lval.Var (var_in inner p.var)) (expr_in outer e) at (argument_ops outer inner at ps es) (argument_statements outer inner at ps es) rest
    (arguments_so outer inner at ps es rest)

-- one result more, before what the others make
result_so : (outer inner : Names) (at : Span) (d : Lval) (x : Var) (os : List Operation) (ss : List Stmt) (rest : Block) → in_turn os rest ≡ block no_callees ss rest → in_turn (result_op outer inner at d x os) rest ≡ block no_callees (result_statement outer inner at d x ss) rest
result_so outer inner at (lval.Skip s) x os ss rest h = h
result_so outer inner at (lval.Var v) x os ss rest h = chosen_so (is_array (ref_of x).kind) (lval_in outer (lval.Var v)) (expr.Var (var_in inner x)) at os ss rest h
result_so outer inner at (lval.Cell v i) x os ss rest h = chosen_so (is_array (ref_of x).kind) (lval_in outer (lval.Cell v i)) (expr.Var (var_in inner x)) at os ss rest h
result_so outer inner at (lval.Store a) x os ss rest h = chosen_so (is_array (ref_of x).kind) (lval_in outer (lval.Store a)) (expr.Var (var_in inner x)) at os ss rest h

results_so : (outer inner : Names) (at : Span) (ds : List Lval) (xs : List Var) (rest : Block) → in_turn (result_ops outer inner at ds xs) rest ≡ block no_callees (result_statements outer inner at ds xs) rest
results_so outer inner at [] xs rest = refl
results_so outer inner at (d ∷ ds) [] rest = refl
results_so outer inner at (d ∷ ds) (x ∷ xs) rest = result_so outer inner at d x (result_ops outer inner at ds xs) (result_statements outer inner at ds xs) rest (results_so outer inner at ds xs rest)

-- a function that can be called, in both tables
pub record SameCallee (f : Callee) (g : CopiedFun) : Type 0 where
  pub of : f.of ≡ g.of
  pub body : BodyLaw f.body g.body

abbrev pub BothNamed : Option Callee → Option CopiedFun → Type 0
BothNamed None None = Unit {0}
BothNamed (Some f) (Some g) = SameCallee f g
BothNamed _ _ = ⊥

copied_so : (g : CopiedFun) (b : Block) (to : List Lval) (args : List Expr) (place : Span) (names : Names) (j : ℕ) (r rest : Block) → BodyLaw b g.body →
    inlined inline_calls names j (call (record { to = to; callee = g.of; args = args; at = place }) b r) rest ≡ block no_callees (call_made g to args (call_place to place) names j) (inlined inline_calls names (j + suc g.body.copies) r rest)
copied_so g b to args place names j r rest law =
    let at : Span = call_place to place in
    let inner : Names = callee_names names j g.of.params args in
    let mark : Stmt = statement [] at (kind.Mark (map (var_in inner) g.of.vars)) in
    let as_ : List Stmt = argument_statements names inner at g.of.params args in
    let rs : List Stmt = result_statements names inner at to g.of.result in
    let made : List Stmt = g.body.made inner (suc j) in
    let end : Block = inlined inline_calls names (j + suc g.body.copies) r rest in
    let e : suc j + copies b ≡ j + suc g.body.copies = omega (arith, law.count) in
    ap (λ i. in_turn (argument_ops names inner at g.of.params args) (quiet (unset (map (var_in inner) g.of.vars)) (inlined inline_calls inner (suc j) b (in_turn (result_ops names inner at to g.of.result) (inlined inline_calls names i r rest))))) e
    ∙ ap (λ k. in_turn (argument_ops names inner at g.of.params args) (quiet (unset (map (var_in inner) g.of.vars)) k)) (law.tree inner (suc j) (in_turn (result_ops names inner at to g.of.result) end))
    ∙ ap (λ k. in_turn (argument_ops names inner at g.of.params args) (quiet (unset (map (var_in inner) g.of.vars)) (block no_callees made k))) (results_so names inner at to g.of.result end)
    ∙ ap (λ k. in_turn (argument_ops names inner at g.of.params args) (quiet (unset (map (var_in inner) g.of.vars)) k)) (sym (block_both no_callees made rs end))
    ∙ ap (λ f. in_turn (argument_ops names inner at g.of.params args) (f (block no_callees (made ++ rs) end))) (sym (mark_is no_callees mark (map (var_in inner) g.of.vars) refl))
    ∙ arguments_so names inner at g.of.params args (block no_callees (mark ∷ (made ++ rs)) end)
    ∙ sym (block_both no_callees as_ (mark ∷ (made ++ rs)) end)

module _ (callees : Callees) (funs : CopiedFuns) (same : (n : List ℕ) → BothNamed (callees n) (funs n)) where
  kept_law : (x : Option Callee) (notes : List Note) (at : Span) (to : List Lval) (o : Option BinOp) (n : List ℕ) (args : List Expr) (place : Span) (c : Option Expr)
      → ((r : Block) → call_tree x to o args c place r ≡ op (meaningless place) r)
      → ((names : Names) (r : Block) → call_tree None (map (lval_in names) to) o (map (expr_in names) args) (option_map (expr_in names) c) place r ≡ op (meaningless place) r)
      → PieceLaw (call_tree x to o args c place) (call_piece None notes at to o n args c place)
  kept_law x notes at to o n args place c is back =
      record {
        count = λ r. (let e = ap copies (is r) in omega (arith, e));
        tree = λ names j r rest. (
            ap (λ b. inlined inline_calls names j b rest) (is r) ∙ ap (op (meaningless place)) (one_more names j r rest)
            ∙ sym (back names (inlined inline_calls names (j + 0) r rest))
            ∙ assign_so notes at (map (lval_in names) to) o (rhs.Call n (map (expr_in names) args) place) (option_map (expr_in names) c) (inlined inline_calls names (j + 0) r rest));
        change = λ names j r. ap (inlining inline_calls names j) (is r) ∙ kept_change names j r;
      }

  call_law : (x : Option Callee) (y : Option CopiedFun) → BothNamed x y → (notes : List Note) (at : Span) (to : List Lval) (o : Option BinOp) (n : List ℕ) (args : List Expr) (place : Span) (c : Option Expr) → PieceLaw (call_tree x to o args c place) (call_piece y notes at to o n args c place)
  call_law None None h notes at to o n args place c = kept_law None notes at to o n args place c (λ r. refl) (λ names r. refl)
  call_law None (Some g) h notes at to o n args place c = absurd h
  call_law (Some f) None h notes at to o n args place c = absurd h
  call_law (Some f) (Some g) h notes at to (Some o) n args place c = kept_law (Some f) notes at to (Some o) n args place c (λ r. refl) (λ names r. refl)
  call_law (Some f) (Some g) h notes at to None n args place (Some c) = kept_law (Some f) notes at to None n args place (Some c) (λ r. refl) (λ names r. refl)
  call_law (Some f) (Some g) h notes at to None n args place None =
      record {
        count = λ r. omega (arith, h.body.count);
        tree = λ names j r rest. (
            ap (λ (k : Fun). inlined inline_calls names j (call (record { to = to; callee = k; args = args; at = place }) f.body r) rest) h.of
            ∙ copied_so g f.body to args place names j r rest h.body);
        change = λ names j r. (
            let inner : Names = callee_names names j g.of.params args in
            let xs : List Numbers = argument_items 0 g.of.params args in
            let ys : List Numbers = result_items 0 to g.of.result in
            let e : suc j + copies f.body ≡ j + suc g.body.copies = omega (arith, h.body.count) in
            ap (λ (k : Fun). inlining inline_calls names j (call (record { to = to; callee = k; args = args; at = place }) f.body r)) h.of
            ∙ ap (λ x. opened xs x ys (inlining inline_calls names (suc j + copies f.body) r)) (h.body.change inner (suc j))
            ∙ ap (λ i. opened xs (steps_of g.body.steps) ys (inlining inline_calls names i r)) e
            ∙ opened_step xs g.body.steps ys (inlining inline_calls names (j + suc g.body.copies) r));
      }

  assign_law : (notes : List Note) (at : Span) (to : List Lval) (o : Option BinOp) (r : Rhs) (c : Option Expr) → PieceLaw (assign_tree callees to o r c at) (assign_piece funs notes at to o r c)
  assign_law notes at to o (rhs.Value e) c = value_law notes at to o e c callees funs
  assign_law notes at to o (rhs.Call n args place) c = call_law (callees n) (funs n) (same n) notes at to o n args place c
  assign_law notes at to o (rhs.Intrinsic n args place) c = intrinsic_law notes at to o n args place c callees funs

  -- ---- all statements

  abbrev kind_f : StmtKind → Span → Block → Block
  kind_f = fold-StmtKind _ _ (kind_tree callees) (λ s. s.kind s.span)

  abbrev kind_p : StmtKind → List Note → Span → Piece
  kind_p = fold-StmtKind _ _ (kind_made funs) (λ s. s.kind s.notes s.span)

  abbrev StmtLaw : Stmt → Type 0
  StmtLaw s = PieceLaw (statement_tree callees s) (statement_piece funs s)

  abbrev KindLaw : StmtKind → Type 0
  KindLaw k = (notes : List Note) (at : Span) → PieceLaw (kind_f k at) (kind_p k notes at)

  abbrev Kinds : Type 0
  Kinds = StmtKind-F ((k : StmtKind) × KindLaw k) ((s : Stmt) × StmtLaw s)

  abbrev firsts : List ((s : Stmt) × StmtLaw s) → List Stmt
  firsts ss = map (λ e. e.0) ss

  all_laws : (ss : List ((s : Stmt) × StmtLaw s)) → AllLaws (map (statement_tree callees) (firsts ss)) (map (statement_piece funs) (firsts ss))
  all_laws [] = tt
  all_laws (s ∷ ss) = (s.1, all_laws ss)

  inner_law : (ss : List ((s : Stmt) × StmtLaw s)) → BodyLaw (block callees (firsts ss) done) (body_piece funs (firsts ss))
  inner_law ss = body_law (map (statement_tree callees) (firsts ss)) (map (statement_piece funs) (firsts ss)) (all_laws ss)

  abbrev bare : Kinds → StmtKind-F StmtKind Stmt
  bare y = map-StmtKind _ _ StmtKind Stmt (λ e. e.0) (λ e. e.0) y

  abbrev layer_f : Kinds → Span → Block → Block
  layer_f y = kind_tree callees (map-StmtKind _ _ (Span → Block → Block) (Block → Block) kind_f (statement_tree callees) (bare y))

  abbrev layer_p : Kinds → List Note → Span → Piece
  layer_p y = kind_made funs (map-StmtKind _ _ (List Note → Span → Piece) Piece kind_p (statement_piece funs) (bare y))

  layer_law : (y : Kinds) (notes : List Note) (at : Span) → PieceLaw (layer_f y at) (layer_p y notes at)
  layer_law (StmtKind-F.Assign to o r c) notes at = assign_law notes at to o r c
  layer_law (StmtKind-F.If c a b) notes at =
      let p = body_piece funs (firsts a) in let q = body_piece funs (firsts b) in
      let A = block callees (firsts a) done in let B = block callees (firsts b) done in
      let k = inner_law a in let l = inner_law b in
      record {
        count = λ r. omega (arith, k.count, l.count);
        tree = λ names j r rest. (
            let e : j + copies A ≡ j + p.copies = omega (arith, k.count) in
            let g : j + copies A + copies B ≡ j + (p.copies + q.copies) = omega (arith, k.count, l.count) in
            let end = inlined inline_calls names (j + (p.copies + q.copies)) r rest in
            let c2 = expr_in names c in
            ap (λ i. choose (record { cond = c2; at = at }) (inlined inline_calls names j A done) (inlined inline_calls names i B done) (inlined inline_calls names (j + copies A + copies B) r rest)) e
            ∙ ap (λ i. choose (record { cond = c2; at = at }) (inlined inline_calls names j A done) (inlined inline_calls names (j + p.copies) B done) (inlined inline_calls names i r rest)) g
            ∙ ap (λ x. choose (record { cond = c2; at = at }) x (inlined inline_calls names (j + p.copies) B done) end) (k.tree names j done)
            ∙ ap (λ x. choose (record { cond = c2; at = at }) (block no_callees (p.made names j) done) x end) (l.tree names (j + p.copies) done)
            ∙ ap (λ f. f end) (sym (if_is no_callees (statement notes at (kind.If c2 (p.made names j) (q.made names (j + p.copies)))) c2 (p.made names j) (q.made names (j + p.copies)) refl)));
        change = λ names j r. (
            let e : j + copies A ≡ j + p.copies = omega (arith, k.count) in
            let g : j + copies A + copies B ≡ j + (p.copies + q.copies) = omega (arith, k.count, l.count) in
            let end = inlining inline_calls names (j + (p.copies + q.copies)) r in
            ap (λ i. stays_if [] Same (inlining inline_calls names j A) (inlining inline_calls names (j + copies A) B) (inlining inline_calls names i r)) g
            ∙ ap (λ i. stays_if [] Same (inlining inline_calls names j A) (inlining inline_calls names i B) end) e
            ∙ ap (λ x. stays_if [] Same x (inlining inline_calls names (j + p.copies) B) end) (k.change names j)
            ∙ ap (λ x. stays_if [] Same (steps_of p.steps) x end) (l.change names (j + p.copies))
            ∙ if_step p.steps q.steps end);
      }
  layer_law (StmtKind-F.While s c None) notes at =
      let p = body_piece funs (firsts s) in
      let A = block callees (firsts s) done in
      let k = inner_law s in
      record {
        count = λ r. omega (arith, k.count);
        tree = λ names j r rest. (
            let e : j + copies A ≡ j + p.copies = omega (arith, k.count) in
            let g : j + copies A + 0 ≡ j + p.copies = omega (arith, k.count) in
            let end = inlined inline_calls names (j + p.copies) r rest in
            let c2 = expr_in names c in
            ap (λ i. loop true (inlined inline_calls names j A done) (record { cond = c2; at = at }) done (inlined inline_calls names i r rest)) g
            ∙ ap (λ x. loop true x (record { cond = c2; at = at }) done end) (k.tree names j done)
            ∙ ap (λ f. f end) (sym (while_is no_callees (statement notes at (kind.While (p.made names j) c2 None)) (p.made names j) c2 None refl)));
        change = λ names j r. (
            let g : j + copies A + 0 ≡ j + p.copies = omega (arith, k.count) in
            let end = inlining inline_calls names (j + p.copies) r in
            ap (λ i. stays_while (inlining inline_calls names j A) [] Same (steps_of []) (inlining inline_calls names i r)) g
            ∙ ap (λ x. stays_while x [] Same (steps_of []) end) (k.change names j)
            ∙ while_step p.steps [] end);
      }
  layer_law (StmtKind-F.While s c (Some b)) notes at =
      let p = body_piece funs (firsts s) in let q = body_piece funs (firsts b) in
      let A = block callees (firsts s) done in let B = block callees (firsts b) done in
      let k = inner_law s in let l = inner_law b in
      record {
        count = λ r. omega (arith, k.count, l.count);
        tree = λ names j r rest. (
            let e : j + copies A ≡ j + p.copies = omega (arith, k.count) in
            let g : j + copies A + copies B ≡ j + (p.copies + q.copies) = omega (arith, k.count, l.count) in
            let end = inlined inline_calls names (j + (p.copies + q.copies)) r rest in
            let c2 = expr_in names c in
            ap (λ i. loop false (inlined inline_calls names j A done) (record { cond = c2; at = at }) (inlined inline_calls names i B done) (inlined inline_calls names (j + copies A + copies B) r rest)) e
            ∙ ap (λ i. loop false (inlined inline_calls names j A done) (record { cond = c2; at = at }) (inlined inline_calls names (j + p.copies) B done) (inlined inline_calls names i r rest)) g
            ∙ ap (λ x. loop false x (record { cond = c2; at = at }) (inlined inline_calls names (j + p.copies) B done) end) (k.tree names j done)
            ∙ ap (λ x. loop false (block no_callees (p.made names j) done) (record { cond = c2; at = at }) x end) (l.tree names (j + p.copies) done)
            ∙ ap (λ f. f end) (sym (while_is no_callees (statement notes at (kind.While (p.made names j) c2 (Some (q.made names (j + p.copies))))) (p.made names j) c2 (Some (q.made names (j + p.copies))) refl)));
        change = λ names j r. (
            let e : j + copies A ≡ j + p.copies = omega (arith, k.count) in
            let g : j + copies A + copies B ≡ j + (p.copies + q.copies) = omega (arith, k.count, l.count) in
            let end = inlining inline_calls names (j + (p.copies + q.copies)) r in
            ap (λ i. stays_while (inlining inline_calls names j A) [] Same (inlining inline_calls names (j + copies A) B) (inlining inline_calls names i r)) g
            ∙ ap (λ i. stays_while (inlining inline_calls names j A) [] Same (inlining inline_calls names i B) end) e
            ∙ ap (λ x. stays_while x [] Same (inlining inline_calls names (j + p.copies) B) end) (k.change names j)
            ∙ ap (λ x. stays_while (steps_of p.steps) [] Same x end) (l.change names (j + p.copies))
            ∙ while_step p.steps q.steps end);
      }
  layer_law (StmtKind-F.For i from down to b) notes at =
      let q = body_piece funs (firsts b) in
      let B = block callees (firsts b) done in
      let l = inner_law b in
      record {
        count = λ r. omega (arith, l.count);
        tree = λ names j r rest. (
            let g : j + copies B ≡ j + q.copies = omega (arith, l.count) in
            let end = inlined inline_calls names (j + q.copies) r rest in
            ap (λ k. each (record { counter = var_in names i; from = expr_in names from; down = down; to = expr_in names to; at = at }) (inlined inline_calls names j B done) (inlined inline_calls names k r rest)) g
            ∙ ap (λ x. each (record { counter = var_in names i; from = expr_in names from; down = down; to = expr_in names to; at = at }) x end) (l.tree names j done)
            ∙ ap (λ f. f end) (sym (for_is no_callees (statement notes at (kind.For (var_in names i) (expr_in names from) down (expr_in names to) (q.made names j))) (var_in names i) (expr_in names from) down (expr_in names to) (q.made names j) refl)));
        change = λ names j r. (
            let g : j + copies B ≡ j + q.copies = omega (arith, l.count) in
            let end = inlining inline_calls names (j + q.copies) r in
            ap (λ i. stays_for (inlining inline_calls names j B) (inlining inline_calls names i r)) g
            ∙ ap (λ x. stays_for x end) (l.change names j)
            ∙ for_step q.steps end);
      }
  layer_law (StmtKind-F.Mark xs) notes at =
      record {
        count = λ r. omega arith;
        tree = λ names j r rest. (
            ap (quiet (unset (map (var_in names) xs))) (one_more names j r rest)
            ∙ ap (λ f. f (inlined inline_calls names (j + 0) r rest)) (sym (mark_is no_callees (statement notes at (kind.Mark (map (var_in names) xs))) (map (var_in names) xs) refl)));
        change = λ names j r. (let e : j ≡ j + 0 = omega arith in ap (λ i. inlining inline_calls names i r) e);
      }

  kind_case : (y : Kinds) → KindLaw (roll-StmtKind (bare y))
  kind_case y notes at =
      subst (λ f. PieceLaw (f at) (kind_p (roll-StmtKind (bare y)) notes at)) (sym (fold-roll-StmtKind _ _ (kind_tree callees) (λ s. s.kind s.span) (bare y)))
      (subst (λ p. PieceLaw (layer_f y at) (p notes at)) (sym (fold-roll-StmtKind _ _ (kind_made funs) (λ s. s.kind s.notes s.span) (bare y))) (layer_law y notes at))

  stmt_case : (y : Stmt-F ((k : StmtKind) × KindLaw k) ((s : Stmt) × StmtLaw s)) → StmtLaw (roll-Stmt (map-Stmt _ _ StmtKind Stmt (λ e. e.0) (λ e. e.0) y))
  stmt_case y =
      let x = map-Stmt _ _ StmtKind Stmt (λ e. e.0) (λ e. e.0) y in
      subst (λ f. PieceLaw f (statement_piece funs (roll-Stmt x))) (sym (fold-roll-Stmt _ _ (kind_tree callees) (λ s. s.kind s.span) x))
      (subst (λ p. PieceLaw (kind_f x.kind x.span) p) (sym (fold-roll-Stmt _ _ (kind_made funs) (λ s. s.kind s.notes s.span) x)) (y.kind.1 y.notes y.span))

  stmt_law : (s : Stmt) → StmtLaw s
  stmt_law =
      ind-Stmt KindLaw StmtLaw
      (λ x y is. subst (λ z. KindLaw (roll-StmtKind z)) is (kind_case y))
      (λ x y is. subst (λ z. StmtLaw (roll-Stmt z)) is (stmt_case y))

  laws_of : (ss : List Stmt) → AllLaws (map (statement_tree callees) ss) (map (statement_piece funs) ss)
  laws_of [] = tt
  laws_of (s ∷ ss) = (stmt_law s, laws_of ss)

  pub block_law : (ss : List Stmt) → BodyLaw (block callees ss done) (body_piece funs ss)
  block_law ss = body_law (map (statement_tree callees) ss) (map (statement_piece funs) ss) (laws_of ss)

-- ---- the functions that can be called

both_found : (fs : List Fun) (depth : ℕ) → ((n : List ℕ) → BothNamed (callees_of fs depth n) (copied_funs fs depth n)) → (o : Option Fun) → BothNamed (with_tree (λ ss. block (callees_of fs depth) ss done) o) (with_piece (body_piece (copied_funs fs depth)) o)
both_found fs depth h None = tt
both_found fs depth h (Some f) = record { of = refl; body = block_law (callees_of fs depth) (copied_funs fs depth) h f.body }

pub both_named : (fs : List Fun) (depth : ℕ) (n : List ℕ) → BothNamed (callees_of fs depth n) (copied_funs fs depth n)
both_named fs zero n = tt
both_named fs (suc depth) n = both_found fs depth (both_named fs depth) (function_named n fs)

-- the statements of the function without calls are its body's tree
pub inlined_is : (p : Program) (f : Fun) → inlined_body p f ≡ block no_callees (inlined_statements p f) done
inlined_is p f = (block_law (callees_of p.funs (length p.funs)) (copied_funs p.funs (length p.funs)) (both_named p.funs (length p.funs)) f.body).tree own_names 1 done

-- what they make of a leak is the change
pub inlining_is : (p : Program) (f : Fun) → inlining_of p f ≡ steps_of (inlining_steps p f)
inlining_is p f = (block_law (callees_of p.funs (length p.funs)) (copied_funs p.funs (length p.funs)) (both_named p.funs (length p.funs)) f.body).change own_names 1
