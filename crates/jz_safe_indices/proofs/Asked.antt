-- Where no condition is missing each index that is a number is one of a cell.
use Rattle.std.proofs.Common.{◌≡◌, ℕ, ◌<◌, Bool, true, false, List, [], ◌∷◌, ◌++◌, Option, Some, None, All, refl, sym, ap, ◌∙◌, subst, arith}
use Rattle.std.specs.Prelude.{flat_map, option_to_list}
use Rattle.std.specs.Option.{option_or}
use Rattle.std.proofs.lemmas.Bool.{ltb-true}
use Rattle.std.proofs.lemmas.List.Elements.{All-nil, All-cons, All-append}
use Rattle.jz_words.specs.declared.size.Size.{Size}
use Rattle.jz_words.specs.declared.size.Size.TheVariants.{S64}
use Rattle.jz_tree.specs.Span.{Span}
use Rattle.jz_tree.specs.Spellings.{spelled}
use Rattle.jz_tree.specs.declared.intrinsic.Instance.{Instance}
use Rattle.jz_tree.specs.declared.expr.Expr.{Expr}
use Rattle.jz_tree.specs.declared.expr.Access.{Access}
use Rattle.jz_tree.specs.declared.expr.Var.{Var}
use Rattle.jz_tree.specs.declared.expr.Expr.TheOpen.{Expr-F}
use Rattle.jz_tree.specs.declared.expr.Expr.TheViews.{roll-Expr, out-Access, roll-out-Access}
use Rattle.jz_tree.specs.declared.stmt.Lval.{Lval}
use Rattle.jz_tree.specs.declared.stmt.Lval.TheVariants as lval
use Rattle.jz_type_names.specs.Parts.{cells_in}
use Rattle.jz_meaning.specs.declared.access.Kind.{Kind}
use Rattle.jz_meaning.specs.declared.access.Kind.TheVariants as kind
use Rattle.jz_meaning.specs.declared.value.Why.{Why}
use Rattle.jz_meaning.specs.declared.value.Why.TheVariants.{Bounds}
use Rattle.jz_meaning.specs.Values.{ref_of, own_size, left_wanted, right_wanted}
use Rattle.jz_meaning.specs.Assignments.{left_sizes, last_left, whole_of}
use Rattle.jz_meaning.specs.Intrinsics.{intrinsic_size}
use Rattle.jz_meaning.specs.Statements.{Operation, assign, instruction, unset, meaningless, Condition, Block}
use Rattle.jz_runs.specs.Trees.{done, op, quiet, choose, loop, each, call}
use Rattle.jz_intervals.specs.declared.interval.Interval.{Interval}
use Rattle.jz_terms.specs.Terms.{Place, Term, num, truth, var, cell, load, neg, inv, cast, bin, term_of, place_of, size_in}
use Rattle.jz_terms.proofs.Bridge.{term_is, place_is}
use Rattle.jz_facts.specs.Facts.{Facts, Given, at_entry}
use Rattle.jz_facts.specs.Intervals.{size_or_64, interval}
use Rattle.jz_facts.specs.Along.{fact_steps}
use Rattle.jz_flow.specs.Alarms.{FirstOf, First, no_more}
use Rattle.jz_alarms.specs.Conditions.{Target, named, Alarm, or_else, unless, bounds_of, asks, asks_expr, asks_if, asks_index, asks_left, asks_lefts, asks_old, asks_assign, asks_each, asks_division, asks_instruction, asks_operation, asks_test}
use Rattle.jz_alarms.specs.Alarms.{fact_asks, IsFirstAlarm}
use Rattle.jz_homes.specs.Homes.{Homes}
use Rattle.jz_homes.specs.Sums.{sum_of}
use Rattle.jz_item_names.proofs.Keys.{Layer, Proved, bare, by_layers}
use Rattle.jz_lowering_cases.specs.Staying.{IsInside, left_cells, assigned_cells, instructed_cells, OperationInside, TestInside, HasCellsInside}
use Rattle.jz_lowering_cases.proofs.Parts.{layer_cells, cells_at}
use Rattle.jz_safe_indices.proofs.Constants.{not_above}

-- ---- of two conditions both are given
or_none : (x y : Option Alarm) → or_else x y ≡ None → (x ≡ None) × (y ≡ None)
or_none None y e = (refl, e)
or_none (Some a) y e = cc

given_true : (c : Bool) (at : Span) (why : Why) (t : Target) → unless c at why t ≡ None → c ≡ true
given_true true at why t e = refl
given_true false at why t e = cc

below_bounds : (k : Kind) (i : Interval) (z : Size) (n : ℕ) → bounds_of k i ≡ true → k ≡ kind.Array z n → i.hi < n
below_bounds k i z n e is = ltb-true i.hi n (sym (ap (λ x. bounds_of x i) is) ∙ e)

place_at : (a : Access) → (place_of a).at ≡ term_of (out-Access a).at
place_at a = ap (λ b. (place_of b).at) (sym (roll-out-Access a)) ∙ ap (λ (p : Place). p.at) (place_is (out-Access a))

module _ (g : Given) (s : Facts) (home : Homes) where
  index_inside : (x : Var) (i : Expr) → asks_index g s (ref_of x) (term_of i) ≡ None → IsInside home (x, i)
  index_inside x i e = λ z n k is sum.
      let t = given_true (bounds_of (ref_of x).kind (interval g s S64 (term_of i))) (ref_of x).span Bounds (named (ref_of x).name (ref_of x).cell) e in
      let low = below_bounds (ref_of x).kind (interval g s S64 (term_of i)) z n t is in
      let most = not_above g s home i (sum_of [] k) sum refl in
      omega (arith, low, most)

  -- ---- expressions
  abbrev Law : Expr → Type 0
  Law e = (w : Option Size) → asks_expr g s w e ≡ None → All (IsInside home) (cells_in e)

  -- the term of a layer
  abbrev layer_term : Layer → Term
  layer_term (Expr-F.Num n at) = num n at
  layer_term (Expr-F.Expr::Bool b at) = truth b at
  layer_term (Expr-F.Var v) = var (ref_of v)
  layer_term (Expr-F.Cell v i) = cell (ref_of v) (term_of i)
  layer_term (Expr-F.Load a) = load (place_of a).spot (place_of a).at
  layer_term (Expr-F.Neg a at) = neg (term_of a) at
  layer_term (Expr-F.Not a at) = inv (term_of a) at
  layer_term (Expr-F.Cast z b a at) = cast z b (term_of a) at
  layer_term (Expr-F.Bin o a b at) = bin o (term_of a) (term_of b) at

  layer_law : (y : Proved Law) (w : Option Size) → asks g s w (layer_term (bare Law y)) ≡ None → All (IsInside home) (layer_cells (bare Law y))
  layer_law (Expr-F.Num n at) w e = All-nil (IsInside home)
  layer_law (Expr-F.Expr::Bool b at) w e = All-nil (IsInside home)
  layer_law (Expr-F.Var v) w e = All-nil (IsInside home)
  layer_law (Expr-F.Cell v i) w e =
      let first = or_none (asks g s (Some S64) (term_of i.0)) _ e in
      let second = or_none (asks_index g s (ref_of v.0) (term_of i.0)) _ first.1 in
      All-cons (IsInside home) (v.0, i.0) (cells_in i.0) (index_inside v.0 i.0 second.0) (i.1 (Some S64) first.0)
  layer_law (Expr-F.Load a) w e =
      let first = or_none (asks g s (Some S64) (place_of a.0).at) _ e in
      a.1 (Some S64) (subst (λ t. asks g s (Some S64) t ≡ None) (place_at a.0) first.0)
  layer_law (Expr-F.Neg a at) w e = a.1 (option_or w (size_in (term_of a.0))) e
  layer_law (Expr-F.Not a at) w e = a.1 (option_or w (size_in (term_of a.0))) e
  layer_law (Expr-F.Cast z b a at) w e = a.1 (size_in (term_of a.0)) e
  layer_law (Expr-F.Bin o a b at) w e =
      let v = left_wanted o w (size_in (term_of a.0)) (size_in (term_of b.0)) in
      let first = or_none (asks g s v (term_of a.0)) _ e in
      let second = or_none (asks g s (right_wanted o v) (term_of b.0)) _ first.1 in
      All-append (IsInside home) (cells_in a.0) (cells_in b.0) (a.1 v first.0) (b.1 (right_wanted o v) second.0)

  term_layer : (x : Layer) → term_of (roll-Expr x) ≡ layer_term x
  term_layer (Expr-F.Num n at) = term_is (Expr-F.Num n at)
  term_layer (Expr-F.Expr::Bool b at) = term_is (Expr-F.Expr::Bool b at)
  term_layer (Expr-F.Var v) = term_is (Expr-F.Var v)
  term_layer (Expr-F.Cell v i) = term_is (Expr-F.Cell v i)
  term_layer (Expr-F.Load a) = term_is (Expr-F.Load a)
  term_layer (Expr-F.Neg a at) = term_is (Expr-F.Neg a at)
  term_layer (Expr-F.Not a at) = term_is (Expr-F.Not a at)
  term_layer (Expr-F.Cast z b a at) = term_is (Expr-F.Cast z b a at)
  term_layer (Expr-F.Bin o a b at) = term_is (Expr-F.Bin o a b at)

  expr_case : (y : Proved Law) → Law (roll-Expr (bare Law y))
  expr_case y = λ w e. subst (All (IsInside home)) (sym (cells_at (bare Law y))) (layer_law y w (subst (λ t. asks g s w t ≡ None) (term_layer (bare Law y)) e))

  expr_inside : (e : Expr) → Law e
  expr_inside e = by_layers Law expr_case e

  -- ---- statements
  left_inside : (z : Option Size) (d : Lval) → asks_left g s z d ≡ None → All (IsInside home) (left_cells d)
  left_inside z (lval.Skip at) e = All-nil (IsInside home)
  left_inside z (lval.Var v) e = All-nil (IsInside home)
  left_inside z (lval.Cell v i) e =
      let h = or_none (asks_expr g s (Some S64) i) _ e in
      All-cons (IsInside home) (v, i) (cells_in i) (index_inside v i h.1) (expr_inside i (Some S64) h.0)
  left_inside z (lval.Store a) e =
      let h = or_none (asks g s (Some S64) (place_of a).at) _ e in
      expr_inside (out-Access a).at (Some S64) (subst (λ t. asks g s (Some S64) t ≡ None) (place_at a) h.0)

  lefts_inside : (z : Option Size) (ds : List Lval) → asks_lefts g s z ds ≡ None → All (IsInside home) (flat_map left_cells ds)
  lefts_inside z [] e = All-nil (IsInside home)
  lefts_inside z (d ∷ ds) e =
      let h = or_none (asks_left g s z d) _ e in
      All-append (IsInside home) (left_cells d) (flat_map left_cells ds) (left_inside z d h.0) (lefts_inside z ds h.1)

  if_inside : (c : Option Expr) → asks_if g s None c ≡ None → All (IsInside home) (flat_map cells_in (option_to_list c))
  if_inside None e = All-nil (IsInside home)
  if_inside (Some k) e = All-append (IsInside home) (cells_in k) [] (expr_inside k None e) (All-nil (IsInside home))

  assigned_inside : (to : List Lval) (w c : Option Expr) → asks_assign g s to w c ≡ None → All (IsInside home) (assigned_cells to w c)
  assigned_inside to None c e = All-nil (IsInside home)
  assigned_inside to (Some w) c e =
      let z = option_or (left_sizes to) (own_size w) in
      let first = or_none (asks_expr g s z w) _ e in
      let second = or_none (asks_if g s None c) _ first.1 in
      let third = or_none (asks_old g s c (last_left to)) _ second.1 in
      All-append (IsInside home) (flat_map left_cells to ++ cells_in w) (flat_map cells_in (option_to_list c))
      (All-append (IsInside home) (flat_map left_cells to) (cells_in w) (lefts_inside z to third.1) (expr_inside w z first.0)) (if_inside c second.0)

  args_inside : (z : Option Size) (es : List Expr) → asks_each g s z es ≡ None → All (IsInside home) (flat_map cells_in es)
  args_inside z [] e = All-nil (IsInside home)
  args_inside z (a ∷ es) e =
      let h = or_none (asks_expr g s z a) _ e in
      All-append (IsInside home) (cells_in a) (flat_map cells_in es) (expr_inside a z h.0) (args_inside z es h.1)

  instructed_inside : (n : Option Instance) (to : List Lval) (args : List Expr) (at : Span) → asks_instruction g s n to args at ≡ None → All (IsInside home) (instructed_cells n to args)
  instructed_inside None to args at e = All-nil (IsInside home)
  instructed_inside (Some i) to args at e =
      let z = intrinsic_size i.name i.size to args in
      let first = or_none (asks_each g s z args) _ e in
      let second = or_none (asks_division g s i.name (size_or_64 z) args at) _ first.1 in
      All-append (IsInside home) (flat_map left_cells to) (flat_map cells_in args) (lefts_inside z to second.1) (args_inside z args first.0)

  operation_inside : (o : Operation) → asks_operation g o s ≡ None → OperationInside home o
  operation_inside (assign to o e c at) h = assigned_inside to (whole_of (last_left to) o e) c h
  operation_inside (instruction to n args at) h = instructed_inside (spelled n) to args at h
  operation_inside (unset vs) h = All-nil (IsInside home)
  operation_inside (meaningless at) h = All-nil (IsInside home)

  test_inside : (t : Condition) → asks_test g t s ≡ None → TestInside home t
  test_inside t h = expr_inside t.cond None h

-- ---- bodies
first_none : {W : Type 0} (x w : Option W) (P : Type 0) → FirstOf x w P → w ≡ None → (x ≡ None) × P
first_none None w P h e = (refl, h.later refl)
first_none (Some a) w P h e = let c : Some a ≡ None = sym (h.now a refl) ∙ e in absurd cc

module _ (g : Given) (home : Homes) where
  abbrev F : Block → Facts → Option Alarm → (Facts → Option Alarm → Type 0) → Type 0
  F = First (fact_steps g) (fact_asks g)

  inside : (b : Block) (s : Facts) (w : Option Alarm) (Then : Facts → Option Alarm → Type 0) → F b s w Then → w ≡ None → HasCellsInside home b
  inside done s w Then h e = tt
  inside (op o r) s w Then h e =
      let f = first_none (asks_operation g o s) w _ h e in
      (operation_inside g s home o f.0, inside r _ w Then f.1 e)
  inside (quiet o r) s w Then h e = inside r _ w Then h e
  inside (choose c a b r) s w Then h e =
      let f = first_none (asks_test g c s) w _ h e in
      let k = first_none f.1.0 w _ f.1.2 e in
      let m = first_none k.1.0 w _ k.1.2 e in
      (test_inside g s home c f.0, inside a _ f.1.0 no_more f.1.1 k.0, inside b _ k.1.0 no_more k.1.1 m.0, inside r _ w Then m.1.4 e)
  inside (loop q p c b r) s w Then h e =
      let f = first_none h.2 w _ h.4 e in
      let k = first_none (asks_test g c f.1.0) w _ f.1.2 e in
      let m = first_none k.1.0 w _ k.1.2 e in
      (inside p h.0 h.2 no_more h.3 f.0, test_inside g f.1.0 home c k.0, inside b _ k.1.0 no_more k.1.1 m.0, inside r _ w Then m.1 e)
  inside (each f b r) s w Then h e = absurd h
  inside (call c b r) s w Then h e = absurd h

  pub all_inside : (body : Block) (results : List Var) → IsFirstAlarm g body results None → HasCellsInside home body
  all_inside body results h = inside body (at_entry g) None _ h refl
