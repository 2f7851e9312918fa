-- What inline expressions as values, and cells as scalars, leave of a statement names nothing new.
use Rattle.std.proofs.Common.{◌≡◌, ℕ, Bool, true, false, List, [], ◌∷◌, ◌++◌, map, Option, Some, None, refl, sym, ap, ◌∙◌, subst}
use Rattle.std.specs.Prelude.{All, flat_map, option_to_list, option_map, if◌then◌else◌}
use Rattle.std.proofs.lemmas.List.Elements.{All-nil, All-cons, All-head, All-tail}
use Rattle.jz_words.specs.declared.size.Size.{Size}
use Rattle.jz_tree.specs.Span.{Span}
use Rattle.jz_tree.specs.declared.expr.Expr.{Expr}
use Rattle.jz_tree.specs.declared.expr.Expr.TheVariants as expr
use Rattle.jz_tree.specs.declared.expr.Expr.TheOpen.{Expr-F}
use Rattle.jz_tree.specs.declared.expr.Expr.TheViews.{roll-Expr, out-Access, roll-out-Access, out-roll-Access}
use Rattle.jz_tree.specs.declared.expr.Access.{Access}
use Rattle.jz_tree.specs.declared.expr.Var.{Var}
use Rattle.jz_tree.specs.declared.stmt.Lval.{Lval}
use Rattle.jz_tree.specs.declared.stmt.Lval.TheVariants as lval
use Rattle.jz_type_names.specs.Kinds.{is_inline}
use Rattle.jz_type_names.specs.Parts.{span_of}
use Rattle.jz_integers.specs.Integers.{KnownNumbers, inline_value}
use Rattle.jz_integers.specs.declared.constant.Constant.{Constant}
use Rattle.jz_integers.specs.declared.constant.Constant.TheVariants as constant
use Rattle.jz_meaning.specs.Values.{Ref}
use Rattle.jz_meaning.specs.Statements.{Operation, assign, instruction, unset, meaningless}
use Rattle.jz_unroll.specs.Values.{constant_expr, with_values, access_with_values, left_with_values, operation_with_values}
use Rattle.jz_unroll.proofs.Valued.{parts_in, values_is, access_values_is}
use Rattle.jz_arrays.specs.Cells.{size_at, cell_in, cell_or, scalar, with_scalars, access_with_scalars, left_or, left_with_scalars}
use Rattle.jz_arrays.proofs.Reading.{rolled, in_is, access_in_is, scalar_is}
use Rattle.jz_compiled.specs.Layout.{Name}
use Rattle.jz_item_names.specs.Names.{key_name, keys_in, left_keys, operation_keys}
use Rattle.jz_item_names.proofs.Keys.{Layer, layer_keys, keys_at, Proved, bare, by_layers, both, each}

-- P holds of the variables that are named
module _ (P : Name → Type 0) where
  abbrev Keeps : Expr → Expr → Type 0
  Keeps e f = All P (keys_in e) → All P (keys_in f)

  of_layer : (x : Layer) (f : Expr) → (All P (layer_keys x) → All P (keys_in f)) → Keeps (roll-Expr x) f
  of_layer x f go h = go (subst (All P) (keys_at x) h)

  to_layer : (x : Layer) → All P (layer_keys x) → All P (keys_in (roll-Expr x))
  to_layer x h = subst (All P) (sym (keys_at x)) h

  no_keys : (x : Layer) → layer_keys x ≡ [] → All P (keys_in (roll-Expr x))
  no_keys x e = to_layer x (subst (All P) (sym e) (All-nil P))

  -- an index behind its array
  behind : (v w : Var) (i j : Expr) → key_name w ≡ key_name v → Keeps i j → All P (key_name v ∷ keys_in i) → All P (key_name w ∷ keys_in j)
  behind v w i j e f h =
      All-cons P (key_name w) (keys_in j) (subst P (sym e) (All-head P (key_name v) (keys_in i) h)) (f (All-tail P (key_name v) (keys_in i) h))

  -- ---- inline expressions
  module _ (k : KnownNumbers) where
    abbrev Valued : Expr → Type 0
    Valued e = Keeps e (with_values k e)

    values_at : (a : Access) → (out-Access (access_with_values k a)).at ≡ with_values k (out-Access a).at
    values_at a =
        ap (λ b. (out-Access (access_with_values k b)).at) (sym (roll-out-Access a)) ∙ ap (λ b. (out-Access b).at) (access_values_is k (out-Access a)) ∙ ap (λ b. b.at) (out-roll-Access (record { size = (out-Access a).size; at = with_values k (out-Access a).at; unaligned = (out-Access a).unaligned; span = (out-Access a).span }))

    parts_keep : (y : Proved Valued) → All P (layer_keys (bare Valued y)) → All P (layer_keys (parts_in k (bare Valued y)))
    parts_keep (Expr-F.Num n at) h = h
    parts_keep (Expr-F.Expr::Bool b at) h = h
    parts_keep (Expr-F.Var v) h = h
    parts_keep (Expr-F.Cell v i) h = behind v.0 v.0 i.0 (with_values k i.0) refl i.1 h
    parts_keep (Expr-F.Load a) h = subst (λ e. All P (keys_in e)) (sym (values_at a.0)) (a.1 h)
    parts_keep (Expr-F.Neg a at) h = a.1 h
    parts_keep (Expr-F.Not a at) h = a.1 h
    parts_keep (Expr-F.Cast z s a at) h = a.1 h
    parts_keep (Expr-F.Bin o a b at) h = both P (keys_in a.0) (keys_in b.0) (keys_in (with_values k a.0)) (keys_in (with_values k b.0)) a.1 b.1 h

    constant_keeps : (at : Span) (e : Expr) (c : Option Constant) → Keeps e (constant_expr at e c)
    constant_keeps at e None h = h
    constant_keeps at e (Some (constant.Int i)) h = subst (λ f. All P (keys_in f)) (expr.rolls-Num i at) (no_keys (Expr-F.Num i at) refl)
    constant_keeps at e (Some (constant.Bool b)) h = subst (λ f. All P (keys_in f)) (expr.rolls-Bool b at) (no_keys (Expr-F.Expr::Bool b at) refl)

    value_by : (b : Bool) (y : Proved Valued) → Keeps (roll-Expr (bare Valued y)) (if b then constant_expr (span_of (roll-Expr (bare Valued y))) (roll-Expr (bare Valued y)) (inline_value k (roll-Expr (bare Valued y))) else roll-Expr (parts_in k (bare Valued y)))
    value_by true y = constant_keeps (span_of (roll-Expr (bare Valued y))) (roll-Expr (bare Valued y)) (inline_value k (roll-Expr (bare Valued y)))
    value_by false y = of_layer (bare Valued y) (roll-Expr (parts_in k (bare Valued y))) (λ h. to_layer (parts_in k (bare Valued y)) (parts_keep y h))

    value_case : (y : Proved Valued) → Valued (roll-Expr (bare Valued y))
    value_case y = subst (Keeps (roll-Expr (bare Valued y))) (sym (values_is k (bare Valued y))) (value_by (is_inline (roll-Expr (bare Valued y))) y)

    pub expr_valued : (e : Expr) → Valued e
    expr_valued e = by_layers Valued value_case e

    left_valued : (d : Lval) → All P (left_keys d) → All P (left_keys (left_with_values k d))
    left_valued (lval.Skip at) h = h
    left_valued (lval.Var v) h = h
    left_valued (lval.Cell v i) h = behind v v i (with_values k i) refl (expr_valued i) h
    left_valued (lval.Store a) h = subst (λ e. All P (keys_in e)) (sym (values_at a)) (expr_valued (out-Access a).at h)

    condition_valued : (c : Option Expr) → All P (flat_map keys_in (option_to_list c)) → All P (flat_map keys_in (option_to_list (option_map (with_values k) c)))
    condition_valued None h = h
    condition_valued (Some e) h = each P keys_in keys_in (with_values k) expr_valued (e ∷ []) h

    pub operation_valued : (o : Operation) → All P (operation_keys o) → All P (operation_keys (operation_with_values k o))
    operation_valued (assign to o e c at) h =
        both P (flat_map left_keys to ++ keys_in e) (flat_map keys_in (option_to_list c)) (flat_map left_keys (map (left_with_values k) to) ++ keys_in (with_values k e)) (flat_map keys_in (option_to_list (option_map (with_values k) c)))
        (both P (flat_map left_keys to) (keys_in e) (flat_map left_keys (map (left_with_values k) to)) (keys_in (with_values k e)) (each P left_keys left_keys (left_with_values k) left_valued to) (expr_valued e)) (condition_valued c) h
    operation_valued (instruction to n args at) h =
        both P (flat_map left_keys to) (flat_map keys_in args) (flat_map left_keys (map (left_with_values k) to)) (flat_map keys_in (map (with_values k) args))
        (each P left_keys left_keys (left_with_values k) left_valued to) (each P keys_in keys_in (with_values k) expr_valued args) h
    operation_valued (unset vs) h = h
    operation_valued (meaningless at) h = h

  -- ---- cells
  abbrev Scalars : Expr → Type 0
  Scalars e = Keeps e (with_scalars e)

  scalars_at : (a : Access) → (out-Access (access_with_scalars a)).at ≡ with_scalars (out-Access a).at
  scalars_at a =
      ap (λ b. (out-Access (access_with_scalars b)).at) (sym (roll-out-Access a)) ∙ ap (λ b. (out-Access b).at) (access_in_is (out-Access a)) ∙ ap (λ b. b.at) (out-roll-Access (record { size = (out-Access a).size; at = with_scalars (out-Access a).at; unaligned = (out-Access a).unaligned; span = (out-Access a).span }))

  scalar_key : (v : Var) (z : Size) (n : ℕ) → key_name (scalar v z n) ≡ key_name v
  scalar_key v z n = ap (λ (r : Ref). (r.name, r.copy)) (scalar_is v z n)

  cell_keeps : (v : Var) (i j : Expr) (z : Option Size) (n : Option ℕ) → Keeps i j → All P (key_name v ∷ keys_in i) → All P (keys_in (cell_or v j z n))
  cell_keeps v i j (Some z) (Some n) f h = to_layer (Expr-F.Var (scalar v z n)) (All-cons P (key_name (scalar v z n)) [] (subst P (sym (scalar_key v z n)) (All-head P (key_name v) (keys_in i) h)) (All-nil P))
  cell_keeps v i j None n f h = to_layer (Expr-F.Cell v j) (behind v v i j refl f h)
  cell_keeps v i j (Some z) None f h = to_layer (Expr-F.Cell v j) (behind v v i j refl f h)

  scalars_case : (y : Proved Scalars) → All P (layer_keys (bare Scalars y)) → All P (keys_in (rolled (bare Scalars y)))
  scalars_case (Expr-F.Num n at) h = to_layer (Expr-F.Num n at) h
  scalars_case (Expr-F.Expr::Bool b at) h = to_layer (Expr-F.Expr::Bool b at) h
  scalars_case (Expr-F.Var v) h = to_layer (Expr-F.Var v.0) h
  scalars_case (Expr-F.Cell v i) h = cell_keeps v.0 i.0 (with_scalars i.0) (size_at v.0) (cell_in v.0 i.0) i.1 h
  scalars_case (Expr-F.Load a) h = to_layer (Expr-F.Load (access_with_scalars a.0)) (subst (λ e. All P (keys_in e)) (sym (scalars_at a.0)) (a.1 h))
  scalars_case (Expr-F.Neg a at) h = to_layer (Expr-F.Neg (with_scalars a.0) at) (a.1 h)
  scalars_case (Expr-F.Not a at) h = to_layer (Expr-F.Not (with_scalars a.0) at) (a.1 h)
  scalars_case (Expr-F.Cast z s a at) h = to_layer (Expr-F.Cast z s (with_scalars a.0) at) (a.1 h)
  scalars_case (Expr-F.Bin o a b at) h = to_layer (Expr-F.Bin o (with_scalars a.0) (with_scalars b.0) at) (both P (keys_in a.0) (keys_in b.0) (keys_in (with_scalars a.0)) (keys_in (with_scalars b.0)) a.1 b.1 h)

  pub expr_scalars : (e : Expr) → Scalars e
  expr_scalars e = by_layers Scalars (λ y. subst (Keeps (roll-Expr (bare Scalars y))) (sym (in_is (bare Scalars y))) (of_layer (bare Scalars y) (rolled (bare Scalars y)) (scalars_case y))) e

  left_cell : (v : Var) (i : Expr) (z : Option Size) (n : Option ℕ) → All P (key_name v ∷ keys_in i) → All P (left_keys (left_or v i z n))
  left_cell v i (Some z) (Some n) h = All-cons P (key_name (scalar v z n)) [] (subst P (sym (scalar_key v z n)) (All-head P (key_name v) (keys_in i) h)) (All-nil P)
  left_cell v i None n h = behind v v i (with_scalars i) refl (expr_scalars i) h
  left_cell v i (Some z) None h = behind v v i (with_scalars i) refl (expr_scalars i) h

  left_scalars : (d : Lval) → All P (left_keys d) → All P (left_keys (left_with_scalars d))
  left_scalars (lval.Skip at) h = h
  left_scalars (lval.Var v) h = h
  left_scalars (lval.Cell v i) h = left_cell v i (size_at v) (cell_in v i) h
  left_scalars (lval.Store a) h = subst (λ e. All P (keys_in e)) (sym (scalars_at a)) (expr_scalars (out-Access a).at h)

  condition_scalars : (c : Option Expr) → All P (flat_map keys_in (option_to_list c)) → All P (flat_map keys_in (option_to_list (option_map with_scalars c)))
  condition_scalars None h = h
  condition_scalars (Some e) h = each P keys_in keys_in with_scalars expr_scalars (e ∷ []) h

  pub assign_scalars : (to : List Lval) (e : Expr) (c : Option Expr) → All P (flat_map left_keys to ++ keys_in e ++ flat_map keys_in (option_to_list c))
      → All P (flat_map left_keys (map left_with_scalars to) ++ keys_in (with_scalars e) ++ flat_map keys_in (option_to_list (option_map with_scalars c)))
  assign_scalars to e c h =
      both P (flat_map left_keys to ++ keys_in e) (flat_map keys_in (option_to_list c)) (flat_map left_keys (map left_with_scalars to) ++ keys_in (with_scalars e)) (flat_map keys_in (option_to_list (option_map with_scalars c)))
      (both P (flat_map left_keys to) (keys_in e) (flat_map left_keys (map left_with_scalars to)) (keys_in (with_scalars e)) (each P left_keys left_keys left_with_scalars left_scalars to) (expr_scalars e)) (condition_scalars c) h

  pub instruction_scalars : (to : List Lval) (args : List Expr) → All P (flat_map left_keys to ++ flat_map keys_in args) → All P (flat_map left_keys (map left_with_scalars to) ++ flat_map keys_in (map with_scalars args))
  instruction_scalars to args h =
      both P (flat_map left_keys to) (flat_map keys_in args) (flat_map left_keys (map left_with_scalars to)) (flat_map keys_in (map with_scalars args))
      (each P left_keys left_keys left_with_scalars left_scalars to) (each P keys_in keys_in with_scalars expr_scalars args) h
