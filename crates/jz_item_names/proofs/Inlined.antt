-- Statements in a copy name what they name, and the copies of a call's arguments and results what the call does.
use Rattle.std.proofs.Common.{◌≡◌, ℕ, zero, suc, ◌+◌, Bool, true, false, List, [], ◌∷◌, ◌++◌, map, Option, Some, None, refl, sym, ap, ap₂, ◌∙◌, subst}
use Rattle.std.specs.Prelude.{All, Contains, flat_map, option_to_list, option_map, if◌then◌else◌}
use Rattle.std.proofs.lemmas.List.{map-append}
use Rattle.std.proofs.lemmas.List.Elements.{All-nil, All-cons, All-head, All-tail, All-append, All-contains_itself}
use Rattle.jz_tree.specs.Span.{Span}
use Rattle.jz_tree.specs.declared.expr.Expr.{Expr}
use Rattle.jz_tree.specs.declared.expr.Expr.TheVariants as expr
use Rattle.jz_tree.specs.declared.expr.Expr.TheOpen.{Expr-F}
use Rattle.jz_tree.specs.declared.expr.Expr.TheViews.{roll-Expr, out-Access, out-roll-Access}
use Rattle.jz_tree.specs.declared.expr.Access.{Access}
use Rattle.jz_tree.specs.declared.expr.Var.{Var}
use Rattle.jz_tree.specs.declared.stmt.Lval.{Lval}
use Rattle.jz_tree.specs.declared.stmt.Lval.TheVariants as lval
use Rattle.jz_tree.specs.declared.program.Param.{Param}
use Rattle.jz_runs.specs.Trees.{done, op, quiet, choose, loop, each, call}
use Rattle.jz_meaning.specs.Values.{Ref, ref_of}
use Rattle.jz_meaning.specs.Statements.{Operation, assign, instruction, unset, meaningless, Call, Block}
use Rattle.jz_change.specs.declared.change.Number.TheVariants.{Nth}
use Rattle.jz_change.specs.declared.change.Numbers.{Numbers}
use Rattle.jz_change.specs.declared.change.Numbers.TheVariants.{Same, These}
use Rattle.jz_pass.specs.Operations.{in_turn}
use Rattle.jz_pass.specs.Copying.{copies, inlined, inlining}
use Rattle.jz_bodies.specs.Calls.{is_array}
use Rattle.jz_inline.specs.Names.{Names, var_in, expr_in, access_in, lval_in, op_in}
use Rattle.jz_inline.specs.Widths.{width, left_width}
use Rattle.jz_inline.specs.Calls.{from, argument_items, result_item, result_items, argument_ops, result_op, result_ops, call_place, names_of_callee, inline_calls}
use Rattle.jz_inline.proofs.Reading.{ref_so, in_is}
use Rattle.jz_inline.proofs.Renaming.{in_access}
use Rattle.jz_compiled.specs.Layout.{Name}
use Rattle.jz_compiled.specs.Showing.{expression_names, left_names, operation_names, call_names}
use Rattle.jz_case_names.specs.Items.{Items, no_item, items_before, no_ops, one_op, Gives, gives_none, gives_ops, gives_if, gives_while, gives_for, gives_opened, Come, none_come, one_comes}
use Rattle.jz_case_names.proofs.Unrolled.{ops_first}
use Rattle.jz_item_names.specs.Names.{key_name, keys_in, left_keys, operation_keys, plain, named_items, IsLeaked, NamesOf}
use Rattle.jz_item_names.proofs.Keys.{Layer, layer_keys, keys_at, layer_texts, texts_at, Proved, bare, by_layers, parts}

module _ (named : Names) where
  -- ---- expressions
  key_in : (v : Var) → key_name (var_in named v) ≡ named (ref_of v).name
  key_in v = ap (λ (r : Ref). (r.name, r.copy)) (ref_so named v)

  abbrev Law : Expr → Type 0
  Law e = keys_in (expr_in named e) ≡ map named (expression_names e)

  abbrev layer_in : Layer → Layer
  layer_in (Expr-F.Num n at) = Expr-F.Num n at
  layer_in (Expr-F.Expr::Bool b at) = Expr-F.Expr::Bool b at
  layer_in (Expr-F.Var v) = Expr-F.Var (var_in named v)
  layer_in (Expr-F.Cell v i) = Expr-F.Cell (var_in named v) (expr_in named i)
  layer_in (Expr-F.Load a) = Expr-F.Load (access_in named a)
  layer_in (Expr-F.Neg a at) = Expr-F.Neg (expr_in named a) at
  layer_in (Expr-F.Not a at) = Expr-F.Not (expr_in named a) at
  layer_in (Expr-F.Cast z s a at) = Expr-F.Cast z s (expr_in named a) at
  layer_in (Expr-F.Bin o a b at) = Expr-F.Bin o (expr_in named a) (expr_in named b) at

  access_at : (a : Access) → (out-Access (access_in named a)).at ≡ expr_in named (out-Access a).at
  access_at a = ap (λ b. (out-Access b).at) (in_access named a) ∙ ap (λ b. b.at) (out-roll-Access (record { size = (out-Access a).size; at = expr_in named (out-Access a).at; unaligned = (out-Access a).unaligned; span = (out-Access a).span }))

  layer_law : (y : Proved Law) → layer_keys (layer_in (bare Law y)) ≡ map named (layer_texts (bare Law y))
  layer_law (Expr-F.Num n at) = refl
  layer_law (Expr-F.Expr::Bool b at) = refl
  layer_law (Expr-F.Var v) = ap (λ (m : Name). m ∷ []) (key_in v.0)
  layer_law (Expr-F.Cell v i) = ap₂ (λ (m : Name) (ms : List Name). m ∷ ms) (key_in v.0) i.1
  layer_law (Expr-F.Load a) = ap keys_in (access_at a.0) ∙ a.1
  layer_law (Expr-F.Neg a at) = a.1
  layer_law (Expr-F.Not a at) = a.1
  layer_law (Expr-F.Cast z s a at) = a.1
  layer_law (Expr-F.Bin o a b at) = ap₂ (λ xs ys. xs ++ ys) a.1 b.1 ∙ sym (map-append named (expression_names a.0) (expression_names b.0))

  layer_case : (y : Proved Law) → keys_in (expr_in named (roll-Expr (bare Law y))) ≡ layer_keys (layer_in (bare Law y))
  layer_case (Expr-F.Num n at) = ap keys_in (in_is named (Expr-F.Num n at)) ∙ keys_at (Expr-F.Num n at)
  layer_case (Expr-F.Expr::Bool b at) = ap keys_in (in_is named (Expr-F.Expr::Bool b at)) ∙ keys_at (Expr-F.Expr::Bool b at)
  layer_case (Expr-F.Var v) = ap keys_in (in_is named (Expr-F.Var v.0)) ∙ keys_at (Expr-F.Var (var_in named v.0))
  layer_case (Expr-F.Cell v i) = ap keys_in (in_is named (Expr-F.Cell v.0 i.0)) ∙ keys_at (Expr-F.Cell (var_in named v.0) (expr_in named i.0))
  layer_case (Expr-F.Load a) = ap keys_in (in_is named (Expr-F.Load a.0)) ∙ keys_at (Expr-F.Load (access_in named a.0))
  layer_case (Expr-F.Neg a at) = ap keys_in (in_is named (Expr-F.Neg a.0 at)) ∙ keys_at (Expr-F.Neg (expr_in named a.0) at)
  layer_case (Expr-F.Not a at) = ap keys_in (in_is named (Expr-F.Not a.0 at)) ∙ keys_at (Expr-F.Not (expr_in named a.0) at)
  layer_case (Expr-F.Cast z s a at) = ap keys_in (in_is named (Expr-F.Cast z s a.0 at)) ∙ keys_at (Expr-F.Cast z s (expr_in named a.0) at)
  layer_case (Expr-F.Bin o a b at) = ap keys_in (in_is named (Expr-F.Bin o a.0 b.0 at)) ∙ keys_at (Expr-F.Bin o (expr_in named a.0) (expr_in named b.0) at)

  expr_case : (y : Proved Law) → Law (roll-Expr (bare Law y))
  expr_case y = layer_case y ∙ layer_law y ∙ ap (map named) (sym (texts_at (bare Law y)))

  pub expr_named : (e : Expr) → Law e
  expr_named e = by_layers Law expr_case e

  -- ---- left sides and statements
  pub left_named : (d : Lval) → left_keys (lval_in named d) ≡ map named (left_names d)
  left_named (lval.Skip at) = refl
  left_named (lval.Var v) = ap (λ (m : Name). m ∷ []) (key_in v)
  left_named (lval.Cell v i) = ap₂ (λ (m : Name) (ms : List Name). m ∷ ms) (key_in v) (expr_named i)
  left_named (lval.Store a) = ap keys_in (access_at a) ∙ expr_named (out-Access a).at

  lefts_named : (ds : List Lval) → flat_map left_keys (map (lval_in named) ds) ≡ map named (flat_map left_names ds)
  lefts_named [] = refl
  lefts_named (d ∷ ds) = ap₂ (λ xs ys. xs ++ ys) (left_named d) (lefts_named ds) ∙ sym (map-append named (left_names d) (flat_map left_names ds))

  exprs_named : (es : List Expr) → flat_map keys_in (map (expr_in named) es) ≡ map named (flat_map expression_names es)
  exprs_named [] = refl
  exprs_named (e ∷ es) = ap₂ (λ xs ys. xs ++ ys) (expr_named e) (exprs_named es) ∙ sym (map-append named (expression_names e) (flat_map expression_names es))

  condition_named : (c : Option Expr) → flat_map keys_in (option_to_list (option_map (expr_in named) c)) ≡ map named (flat_map expression_names (option_to_list c))
  condition_named None = refl
  condition_named (Some e) = exprs_named (e ∷ [])

  operation_named : (o : Operation) → operation_keys (op_in named o) ≡ map named (operation_names o)
  operation_named (assign to o e c at) =
      ap₂ (λ xs ys. xs ++ ys) (ap₂ (λ xs ys. xs ++ ys) (lefts_named to) (expr_named e) ∙ sym (map-append named (flat_map left_names to) (expression_names e))) (condition_named c)
      ∙ sym (map-append named (flat_map left_names to ++ expression_names e) (flat_map expression_names (option_to_list c)))
  operation_named (instruction to n args at) = ap₂ (λ xs ys. xs ++ ys) (lefts_named to) (exprs_named args) ∙ sym (map-append named (flat_map left_names to) (flat_map expression_names args))
  operation_named (unset vs) = refl
  operation_named (meaningless at) = refl

-- an item with the same names
pub same_names : (a b : List Name) → b ≡ a → NamesOf a Same b
same_names a b e = record { among = subst (All (Contains a)) (sym e) (All-contains_itself a); leaked = tt }

-- ---- calls
are_from : (i n : ℕ) → All IsLeaked (from i n)
are_from i zero = All-nil IsLeaked
are_from i (suc n) = All-cons IsLeaked (Nth i) (from (suc i) n) tt (are_from (suc i) n)

module _ (outer inner : Names) (a : List Name) (at : Span) where
  abbrev Are : List Name → Type 0
  Are = All (Contains a)

  -- a copy of one value
  set_names : (d : Lval) (e : Expr) (i n : ℕ) → Are (left_keys d) → Are (keys_in e) → NamesOf a (These (from i n)) (operation_keys (assign (d ∷ []) None e None at))
  set_names d e i n l r =
      let whole : Are (((left_keys d ++ []) ++ keys_in e) ++ []) =
      All-append (Contains a) ((left_keys d ++ []) ++ keys_in e) [] (All-append (Contains a) (left_keys d ++ []) (keys_in e) (All-append (Contains a) (left_keys d) [] l (All-nil (Contains a))) r) (All-nil (Contains a)) in
      record { among = whole; leaked = are_from i n }

  abbrev Arguments : Bool → ℕ → Param → Expr → List Param → List Expr → Type 0
  Arguments b i p e ps es =
      Come NamesOf operation_keys a
      (if b then argument_ops outer inner at ps es else (assign (lval.Var (var_in inner p.var) ∷ []) None (expr_in outer e) None at ∷ argument_ops outer inner at ps es))
      (if b then argument_items i ps es else (These (from i (width e)) ∷ argument_items (i + width e) ps es))

  argument_by : (b : Bool) (i : ℕ) (p : Param) (e : Expr) (ps : List Param) (es : List Expr) → Contains a (inner (ref_of p.var).name) → Are (map outer (expression_names e)) → ((j : ℕ) → Come NamesOf operation_keys a (argument_ops outer inner at ps es) (argument_items j ps es)) → Arguments b i p e ps es
  argument_by true i p e ps es l r rest = rest i
  argument_by false i p e ps es l r rest =
      let one : Are (key_name (var_in inner p.var) ∷ []) = All-cons (Contains a) (key_name (var_in inner p.var)) [] (subst (Contains a) (sym (key_in inner p.var)) l) (All-nil (Contains a)) in
      one_comes (set_names (lval.Var (var_in inner p.var)) (expr_in outer e) i (width e) one (subst Are (sym (expr_named outer e)) r)) (rest (i + width e))

  arguments_come : (i : ℕ) (ps : List Param) (es : List Expr) → Are (map inner (map (λ p. (ref_of p.var).name) ps)) → Are (map outer (flat_map expression_names es)) → Come NamesOf operation_keys a (argument_ops outer inner at ps es) (argument_items i ps es)
  arguments_come i [] es h g = none_come
  arguments_come i (p ∷ ps) [] h g = none_come
  arguments_come i (p ∷ ps) (e ∷ es) h g =
      let both = parts (Contains a) (map outer (expression_names e)) (map outer (flat_map expression_names es)) (subst Are (map-append outer (expression_names e) (flat_map expression_names es)) g) in
      let names : List (List ℕ) = map (λ (q : Param). (ref_of q.var).name) ps in
      argument_by (is_array (ref_of p.var).kind) i p e ps es (All-head (Contains a) (inner (ref_of p.var).name) (map inner names) h) both.0
      (λ j. arguments_come j ps es (All-tail (Contains a) (inner (ref_of p.var).name) (map inner names) h) both.1)

  -- what is returned to the left side d from the variable x
  abbrev Result : Bool → ℕ → Lval → Var → List Operation → (ℕ → List Numbers) → Type 0
  Result b i d x os items =
      Come NamesOf operation_keys a
      (if b then os else (assign (lval_in outer d ∷ []) None (expr.Var (var_in inner x)) None at ∷ os))
      (if b then items i else (These (from i (left_width d)) ∷ items (i + left_width d)))

  result_by : (b : Bool) (i : ℕ) (d : Lval) (x : Var) (os : List Operation) (items : ℕ → List Numbers) → Are (map outer (left_names d)) → Contains a (inner (ref_of x).name) → ((j : ℕ) → Come NamesOf operation_keys a os (items j)) → Result b i d x os items
  result_by true i d x os items l r rest = rest i
  result_by false i d x os items l r rest =
      let one : Are (keys_in (expr.Var (var_in inner x))) =
      subst Are (sym (ap keys_in (sym (expr.rolls-Var (var_in inner x))) ∙ keys_at (Expr-F.Var (var_in inner x)))) (All-cons (Contains a) (key_name (var_in inner x)) [] (subst (Contains a) (sym (key_in inner x)) r) (All-nil (Contains a))) in
      one_comes (set_names (lval_in outer d) (expr.Var (var_in inner x)) i (left_width d) (subst Are (sym (left_named outer d)) l) one) (rest (i + left_width d))

  result_comes : (i : ℕ) (d : Lval) (x : Var) (os : List Operation) (items : ℕ → List Numbers) → Are (map outer (left_names d)) → Contains a (inner (ref_of x).name) → ((j : ℕ) → Come NamesOf operation_keys a os (items j))
      → Come NamesOf operation_keys a (result_op outer inner at d x os) (result_item i d x items)
  result_comes i (lval.Skip s) x os items l r rest = rest i
  result_comes i (lval.Var v) x os items l r rest = result_by (is_array (ref_of x).kind) i (lval.Var v) x os items l r rest
  result_comes i (lval.Cell v e) x os items l r rest = result_by (is_array (ref_of x).kind) i (lval.Cell v e) x os items l r rest
  result_comes i (lval.Store s) x os items l r rest = result_by (is_array (ref_of x).kind) i (lval.Store s) x os items l r rest

  results_come : (i : ℕ) (ds : List Lval) (xs : List Var) → Are (map outer (flat_map left_names ds)) → Are (map inner (map (λ x. (ref_of x).name) xs)) → Come NamesOf operation_keys a (result_ops outer inner at ds xs) (result_items i ds xs)
  results_come i [] xs h g = none_come
  results_come i (d ∷ ds) [] h g = none_come
  results_come i (d ∷ ds) (x ∷ xs) h g =
      let l = parts (Contains a) (map outer (left_names d)) (map outer (flat_map left_names ds)) (subst Are (map-append outer (left_names d) (flat_map left_names ds)) h) in
      result_comes i d x (result_ops outer inner at ds xs) (λ j. result_items j ds xs) l.0 (All-head (Contains a) (inner (ref_of x).name) (map inner (map (λ y. (ref_of y).name) xs)) g)
      (λ j. results_come j ds xs l.1 (All-tail (Contains a) (inner (ref_of x).name) (map inner (map (λ y. (ref_of y).name) xs)) g))

module _ (x y : Names) (q : Call) where
  abbrev lefts : List (List ℕ)
  lefts = flat_map left_names q.to

  abbrev args : List (List ℕ)
  args = flat_map expression_names q.args

  abbrev params : List (List ℕ)
  params = map (λ (p : Param). (ref_of p.var).name) q.callee.params

  abbrev results : List (List ℕ)
  results = map (λ v. (ref_of v).name) q.callee.result

  abbrev all : List Name
  all = call_names x y q

  split : (All (Contains all) (map x lefts) × All (Contains all) (map x args)) × (All (Contains all) (map y params) × All (Contains all) (map y results))
  split =
      let h = parts (Contains all) (map x (lefts ++ args)) (map y (params ++ results)) (All-contains_itself all) in (
        parts (Contains all) (map x lefts) (map x args) (subst (All (Contains all)) (map-append x lefts args) h.0),
        parts (Contains all) (map y params) (map y results) (subst (All (Contains all)) (map-append y params results) h.1),
      )

-- ---- bodies
pub inlined_named : (t : Block) (x : Names) (c : ℕ) (rest : Block) (Y : Items (List Name)) → Gives NamesOf (inlining inline_calls x c t) (named_items x c t) (items_before plain (inlined inline_calls x c t rest) Y) (items_before plain rest Y)
inlined_named done x c rest Y = gives_none
inlined_named (op o r) x c rest Y = gives_ops (one_op (same_names (map x (operation_names o)) (operation_keys (op_in x o)) (operation_named x o)) no_ops) (inlined_named r x c rest Y)
inlined_named (quiet o r) x c rest Y = inlined_named r x c rest Y
inlined_named (choose t a b r) x c rest Y =
    gives_if no_ops (same_names (map x (expression_names t.cond)) (keys_in (expr_in x t.cond)) (expr_named x t.cond)) (inlined_named a x c done no_item) (inlined_named b x (c + copies a) done no_item) (inlined_named r x (c + copies a + copies b) rest Y)
inlined_named (loop q p t b r) x c rest Y =
    gives_while (inlined_named p x c done no_item) no_ops (same_names (map x (expression_names t.cond)) (keys_in (expr_in x t.cond)) (expr_named x t.cond)) (inlined_named b x (c + copies p) done no_item)
    (inlined_named r x (c + copies p + copies b) rest Y)
inlined_named (each f b r) x c rest Y = gives_for (inlined_named b x c done no_item) (inlined_named r x (c + copies b) rest Y)
inlined_named (call q b r) x c rest Y =
    let y = names_of_callee x c q in let d = suc c + copies b in
    let n = split x y q in let at = call_place q.to q.at in
    let u4 = inlined inline_calls x d r rest in
    let u3 = in_turn (result_ops x y at q.to q.callee.result) u4 in
    let u2 = inlined inline_calls y (suc c) b u3 in
    gives_opened
    (ops_first plain (quiet (unset (map (var_in y) q.callee.vars)) u2) Y (arguments_come x y (call_names x y q) at 0 q.callee.params q.args n.1.0 n.0.1))
    (inlined_named b y (suc c) u3 Y)
    (ops_first plain u4 Y (results_come x y (call_names x y q) at 0 q.to q.callee.result n.0.0 n.1.1))
    (inlined_named r x d rest Y)
