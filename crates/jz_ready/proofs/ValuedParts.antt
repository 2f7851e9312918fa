-- What is fit stays so where inline expressions are their values.
use Rattle.std.proofs.Common.{◌≡◌, ℕ, ℤ, zero, suc, ◌+◌, List, [], ◌∷◌, Option, Some, None, map, Bool, true, false, not, ◌&&◌, ◌||◌, refl, ap, sym, ◌∙◌, subst, arith, inl, inr, if◌then◌else◌, eqb-true}
use Rattle.std.specs.Prelude.{◌⊎◌, All, take, option_map, ◌==◌}
use Rattle.std.proofs.lemmas.Bool.{and_parts, and_from, or_left, or_right, or_cases}
use Rattle.std.proofs.lemmas.List.Elements.{All-nil, All-cons, All-head, All-tail}
use Rattle.jz_tree.specs.Operators.{joins, divides}
use Rattle.jz_tree.specs.Spellings.{spelled}
use Rattle.jz_tree.specs.Span.{Span}
use Rattle.jz_tree.specs.declared.expr.BinOp.{BinOp}
use Rattle.jz_tree.specs.declared.expr.Expr.{Expr}
use Rattle.jz_tree.specs.declared.expr.Expr.TheVariants as expr
use Rattle.jz_tree.specs.declared.expr.Ty.{Ty}
use Rattle.jz_tree.specs.declared.expr.Access.{Access}
use Rattle.jz_tree.specs.declared.expr.Decl.{Decl}
use Rattle.jz_tree.specs.declared.expr.Var.{Var}
use Rattle.jz_tree.specs.declared.expr.Expr.TheOpen.{Expr-F, Access-F}
use Rattle.jz_tree.specs.declared.expr.Expr.TheViews.{roll-Expr, roll-Access}
use Rattle.jz_tree.specs.declared.expr.Expr.TheFolds.{ind-Expr, map-Expr, map-Access}
use Rattle.jz_tree.specs.declared.stmt.Lval.{Lval}
use Rattle.jz_tree.specs.declared.stmt.Lval.TheVariants as lval
use Rattle.jz_type_names.specs.Kinds.{is_inline}
use Rattle.jz_type_names.specs.Parts.{span_of}
use Rattle.jz_integers.specs.Integers.{KnownNumbers, inline_value}
use Rattle.jz_integers.specs.declared.constant.Constant.{Constant}
use Rattle.jz_integers.specs.declared.constant.Constant.TheVariants as constant
use Rattle.jz_meaning.specs.Assignments.{as_expr}
use Rattle.jz_meaning.specs.Shapes.{Sort, words, flags, integers, both, are_integers, own_count, Sorts, Shape, operation_shape, shape_of}
use Rattle.jz_meaning.specs.Statements.{Operation, assign, instruction, unset, meaningless}
use Rattle.jz_meaning.specs.Values.{gives_word, ref_of}
use Rattle.jz_run_laws.specs.Kinds.{Kinds, sorts_of}
use Rattle.jz_run_laws.specs.DeclaredKinds.{LeftDeclared}
use Rattle.jz_bodies.specs.Scopes.{is_over, is_access_over}
use Rattle.jz_scalars.proofs.Reading.{Layer, over_layer, over_is, access_over_is}
use Rattle.jz_unroll.specs.Values.{constant_expr, with_values, access_with_values, left_with_values, operation_with_values}
use Rattle.jz_unroll.proofs.Valued.{parts_in, values_is, access_values_is}
use Rattle.jz_unroll.proofs.Parts.{values_cell, values_load}
use Rattle.jz_arrays.specs.Arrays.{IsNoCell, flags_before}
use Rattle.jz_arrays.proofs.Reading.{shape_access, shape_layer, shape_is}
use Rattle.jz_scalars.specs.Ready.{is_sorted}
use Rattle.jz_ready.proofs.FixedParts.{access_rolled}
use Rattle.jz_ready.proofs.FitParts.{FitIf, FitLeft, FitOperation}
use Rattle.jz_ready.proofs.Truths.{truth_sort}

-- ---- shapes

-- a whole number stays one, what leaks nothing leaks nothing, and what is fixed is
pub record Keeps (a b : Shape) : Type 0 where
  pub sort : a.sort ≡ integers → b.sort ≡ integers
  pub count : a.count ≡ 0 → b.count ≡ 0
  pub fixed : a.fixed ≡ true → b.fixed ≡ true

keeps_itself : (a : Shape) → Keeps a a
keeps_itself a = record { sort = λ h. h; count = λ h. h; fixed = λ h. h }

no_words : words ≡ integers → ⊥
no_words e = cc

no_flags : flags ≡ integers → ⊥
no_flags e = cc

integers_both : (a b : Sort) → both a b ≡ integers → (a ≡ integers) × (b ≡ integers)
integers_both integers integers e = (refl, refl)
integers_both integers words e = absurd (no_words e)
integers_both integers flags e = absurd (no_words e)
integers_both words b e = absurd (no_words e)
integers_both flags b e = absurd (no_words e)

both_integers : (a b : Sort) → a ≡ integers → b ≡ integers → both a b ≡ integers
both_integers integers integers e f = refl
both_integers integers words e f = absurd (no_words f)
both_integers integers flags e f = absurd (no_flags f)
both_integers words b e f = absurd (no_words e)
both_integers flags b e f = absurd (no_flags e)

sort_keeps : (g : Bool) (a b c d : Sort) → (a ≡ integers → c ≡ integers) → (b ≡ integers → d ≡ integers) → (if g then both a b else flags) ≡ integers → (if g then both c d else flags) ≡ integers
sort_keeps true a b c d f h e = let p = integers_both a b e in both_integers c d (f p.0) (h p.1)
sort_keeps false a b c d f h e = absurd (no_flags e)

integers_are : (a b : Sort) (t : Bool) → are_integers a b ≡ t → ◌≡◌ {A = ℕ} (if t then 0 else 3) 0 → (a ≡ integers) × (b ≡ integers)
integers_are integers integers t q e = (refl, refl)
integers_are integers words true q e = absurd cc
integers_are integers words false q e = absurd (omega (arith, e))
integers_are integers flags true q e = absurd cc
integers_are integers flags false q e = absurd (omega (arith, e))
integers_are words b true q e = absurd cc
integers_are words b false q e = absurd (omega (arith, e))
integers_are flags b true q e = absurd cc
integers_are flags b false q e = absurd (omega (arith, e))

none_of : (a b : Sort) → a ≡ integers → b ≡ integers → ◌≡◌ {A = ℕ} (if are_integers a b then 0 else 3) 0
none_of integers integers e f = refl
none_of integers words e f = absurd (no_words f)
none_of integers flags e f = absurd (no_flags f)
none_of words b e f = absurd (no_words e)
none_of flags b e f = absurd (no_flags e)

own_keeps : (g : Bool) (a b c d : Sort) → (a ≡ integers → c ≡ integers) → (b ≡ integers → d ≡ integers) → ◌≡◌ {A = ℕ} (if g then (if are_integers a b then 0 else 3) else 0) 0 → ◌≡◌ {A = ℕ} (if g then (if are_integers c d then 0 else 3) else 0) 0
own_keeps true a b c d f h e = let p = integers_are a b (are_integers a b) refl e in none_of c d (f p.0) (h p.1)
own_keeps false a b c d f h e = refl

first_zero : (i j : ℕ) → i + j ≡ 0 → i ≡ 0
first_zero i j e = omega (arith, e)

second_zero : (i j : ℕ) → i + j ≡ 0 → j ≡ 0
second_zero i j e = omega (arith, e)

sum_zero : (i j : ℕ) → i ≡ 0 → j ≡ 0 → i + j ≡ 0
sum_zero i j e f = omega (arith, e, f)

one_more : (i : ℕ) → i + 1 ≡ 0 → ⊥
one_more i e = omega (arith, e)

operation_keeps : (o : BinOp) (a b c d : Shape) → Keeps a c → Keeps b d → Keeps (operation_shape o a b) (operation_shape o c d)
operation_keeps o a b c d f g = record {
  sort = sort_keeps (gives_word o) a.sort b.sort c.sort d.sort f.sort g.sort;
  count = count;
  fixed = fixed;
}
  where
    own : own_count o a.sort b.sort ≡ 0 → own_count o c.sort d.sort ≡ 0
    own = own_keeps (divides o) a.sort b.sort c.sort d.sort f.sort g.sort

    count : a.count + (b.count + own_count o a.sort b.sort) ≡ 0 → c.count + (d.count + own_count o c.sort d.sort) ≡ 0
    count e =
        let r = second_zero a.count (b.count + own_count o a.sort b.sort) e in
        sum_zero c.count (d.count + own_count o c.sort d.sort) (f.count (first_zero a.count (b.count + own_count o a.sort b.sort) e))
        (sum_zero d.count (own_count o c.sort d.sort) (g.count (first_zero b.count (own_count o a.sort b.sort) r)) (own (second_zero b.count (own_count o a.sort b.sort) r)))

    last : (not (joins o) ≡ true) ⊎ ((b.count == 0) ≡ true) → (not (joins o) || (d.count == 0)) ≡ true
    last (inl t) = or_left (not (joins o)) (d.count == 0) t
    last (inr t) = or_right (not (joins o)) (d.count == 0) (ap (λ n. n == 0) (g.count (eqb-true b.count 0 t)))

    fixed : (a.fixed && (b.fixed && (not (joins o) || (b.count == 0)))) ≡ true → (c.fixed && (d.fixed && (not (joins o) || (d.count == 0)))) ≡ true
    fixed e =
        let p = and_parts a.fixed _ e in
        let r = and_parts b.fixed _ p.1 in
        and_from c.fixed (d.fixed && (not (joins o) || (d.count == 0))) (f.fixed p.0)
        (and_from d.fixed (not (joins o) || (d.count == 0)) (g.fixed r.0) (last (or_cases (not (joins o)) (b.count == 0) r.1)))

-- ---- expressions

module _ (kinds : Kinds) (e : KnownNumbers) where
  abbrev S : Sorts
  S = sorts_of kinds

  abbrev over : Expr → Bool
  over = is_over (is_sorted kinds) (is_sorted kinds)

  abbrev layer_over : Layer → Bool
  layer_over = over_layer (is_sorted kinds) (is_sorted kinds)

  pub record Stays (x w : Expr) : Type 0 where
    pub known : over x ≡ true → over w ≡ true
    pub shape : Keeps (shape_of S x) (shape_of S w)

  abbrev ExprLaw : Expr → Type 0
  ExprLaw x = Stays x (with_values e x)

  record AccessLaw (a : Access) : Type 0 where
    pub known : is_access_over (is_sorted kinds) (is_sorted kinds) a ≡ true → is_access_over (is_sorted kinds) (is_sorted kinds) (access_with_values e a) ≡ true
    pub shape : Keeps (shape_access S a) (shape_access S (access_with_values e a))

  abbrev Any : {A : Type 0} → A → Type 0
  Any y = Unit {0}

  abbrev Known : Type 0
  Known = Expr-F ((x : Expr) × ExprLaw x) ((t : Ty) × Any t) ((a : Access) × AccessLaw a) ((d : Decl) × Any d) ((v : Var) × Any v)

  abbrev bare : Known → Layer
  bare y = map-Expr _ _ _ _ _ _ _ _ _ _ (λ x. x.0) (λ x. x.0) (λ x. x.0) (λ x. x.0) (λ x. x.0) y

  parts_known : (y : Known) → layer_over (bare y) ≡ true → layer_over (parts_in e (bare y)) ≡ true
  parts_known (Expr-F.Num i at) h = refl
  parts_known (Expr-F.Expr::Bool c at) h = refl
  parts_known (Expr-F.Var v) h = h
  parts_known (Expr-F.Cell v x) h =
      let p = and_parts (is_sorted kinds (ref_of v.0)) _ h in and_from (is_sorted kinds (ref_of v.0)) (over (with_values e x.0)) p.0 (x.1.known p.1)
  parts_known (Expr-F.Load a) h = a.1.known h
  parts_known (Expr-F.Neg x at) h = x.1.known h
  parts_known (Expr-F.Not x at) h = x.1.known h
  parts_known (Expr-F.Cast z sign x at) h = x.1.known h
  parts_known (Expr-F.Bin o a b at) h =
      let p = and_parts (over a.0) _ h in and_from (over (with_values e a.0)) (over (with_values e b.0)) (a.1.known p.0) (b.1.known p.1)

  parts_shape : (y : Known) → Keeps (shape_layer S (bare y)) (shape_layer S (parts_in e (bare y)))
  parts_shape (Expr-F.Num i at) = keeps_itself (shape_layer S (Expr-F.Num i at))
  parts_shape (Expr-F.Expr::Bool c at) = keeps_itself (shape_layer S (Expr-F.Expr::Bool c at))
  parts_shape (Expr-F.Var v) = keeps_itself (shape_layer S (Expr-F.Var v.0))
  parts_shape (Expr-F.Cell v x) = record { sort = λ h. h; count = λ h. absurd (one_more (shape_of S x.0).count h); fixed = x.1.shape.fixed }
  parts_shape (Expr-F.Load a) = record { sort = λ h. absurd (no_words h); count = λ h. absurd (one_more (shape_access S a.0).count h); fixed = a.1.shape.fixed }
  parts_shape (Expr-F.Neg x at) = x.1.shape
  parts_shape (Expr-F.Not x at) = x.1.shape
  parts_shape (Expr-F.Cast z sign x at) = record { sort = λ h. absurd (no_words h); count = x.1.shape.count; fixed = x.1.shape.fixed }
  parts_shape (Expr-F.Bin o a b at) = operation_keeps o (shape_of S a.0) (shape_of S b.0) (shape_of S (with_values e a.0)) (shape_of S (with_values e b.0)) a.1.shape b.1.shape

  -- a value as an expression
  number_is : (i : ℤ) (at : Span) → (over (expr.Num i at) ≡ true) × (shape_of S (expr.Num i at) ≡ record { sort = integers; count = 0; fixed = true })
  number_is i at = (
    ap over (sym (expr.rolls-Num i at)) ∙ over_is (is_sorted kinds) (is_sorted kinds) (Expr-F.Num i at),
    ap (shape_of S) (sym (expr.rolls-Num i at)) ∙ shape_is S (Expr-F.Num i at),
  )

  pub truth_is : (b : Bool) (at : Span) → (over (expr.Bool b at) ≡ true) × (shape_of S (expr.Bool b at) ≡ record { sort = flags; count = 0; fixed = true })
  truth_is b at = (
    ap over (sym (expr.rolls-Bool b at)) ∙ over_is (is_sorted kinds) (is_sorted kinds) (Expr-F.Expr::Bool b at),
    ap (shape_of S) (sym (expr.rolls-Bool b at)) ∙ shape_is S (Expr-F.Expr::Bool b at),
  )

  constant_stays : (x : Expr) (at : Span) (c : Option Constant) → inline_value e x ≡ c → Stays x (constant_expr at x c)
  constant_stays x at None q = record { known = λ h. h; shape = keeps_itself (shape_of S x) }
  constant_stays x at (Some (constant.Int i)) q =
      let n = number_is i at in
      record { known = λ h. n.0; shape = record { sort = λ h. ap (λ (s : Shape). s.sort) n.1; count = λ h. ap (λ (s : Shape). s.count) n.1; fixed = λ h. ap (λ (s : Shape). s.fixed) n.1 } }
  constant_stays x at (Some (constant.Bool b)) q =
      let n = truth_is b at in
      record {
        known = λ h. n.0;
        shape = record { sort = λ h. absurd (no_flags (sym (truth_sort S e x b q) ∙ h)); count = λ h. ap (λ (s : Shape). s.count) n.1; fixed = λ h. ap (λ (s : Shape). s.fixed) n.1 };
      }

  parts_stay : (y : Known) → Stays (roll-Expr (bare y)) (roll-Expr (parts_in e (bare y)))
  parts_stay y =
      let x : Layer = bare y in
      let w : Layer = parts_in e (bare y) in
      record {
        known = λ h. over_is (is_sorted kinds) (is_sorted kinds) w ∙ parts_known y (sym (over_is (is_sorted kinds) (is_sorted kinds) x) ∙ h);
        shape = subst (λ s. Keeps s (shape_of S (roll-Expr w))) (sym (shape_is S x)) (subst (λ s. Keeps (shape_layer S x) s) (sym (shape_is S w)) (parts_shape y));
      }

  expr_case : (y : Known) → ExprLaw (roll-Expr (bare y))
  expr_case y = subst (λ w. Stays (roll-Expr (bare y)) w) (sym (values_is e (bare y))) (by_inline (is_inline (roll-Expr (bare y))))
    where
      by_inline : (b : Bool) → Stays (roll-Expr (bare y)) (if b then constant_expr (span_of (roll-Expr (bare y))) (roll-Expr (bare y)) (inline_value e (roll-Expr (bare y))) else roll-Expr (parts_in e (bare y)))
      by_inline true = constant_stays (roll-Expr (bare y)) (span_of (roll-Expr (bare y))) (inline_value e (roll-Expr (bare y))) refl
      by_inline false = parts_stay y

  access_case : (y : Access-F ((x : Expr) × ExprLaw x) ((t : Ty) × Any t) ((a : Access) × AccessLaw a) ((d : Decl) × Any d) ((v : Var) × Any v)) → AccessLaw (roll-Access (map-Access _ _ _ _ _ _ _ _ _ _ (λ x. x.0) (λ x. x.0) (λ x. x.0) (λ x. x.0) (λ x. x.0) y))
  access_case y =
      let z = map-Access _ _ _ _ _ Expr Ty Access Decl Var (λ x. x.0) (λ x. x.0) (λ x. x.0) (λ x. x.0) (λ x. x.0) y in
      let u : Access-F Expr Ty Access Decl Var = record { size = z.size; at = with_values e z.at; unaligned = z.unaligned; span = z.span } in
      record {
        known = λ h.
            ap (is_access_over (is_sorted kinds) (is_sorted kinds)) (access_values_is e z)
            ∙ (access_over_is (is_sorted kinds) (is_sorted kinds) u ∙ y.at.1.known (sym (access_over_is (is_sorted kinds) (is_sorted kinds) z) ∙ h));
        shape = subst (λ s. Keeps s (shape_access S (access_with_values e (roll-Access z)))) (sym (access_rolled S z))
            (subst (λ s. Keeps (shape_of S z.at) s) (sym (ap (shape_access S) (access_values_is e z) ∙ access_rolled S u)) y.at.1.shape);
      }

  stays : (x : Expr) → ExprLaw x
  stays =
      ind-Expr ExprLaw Any AccessLaw Any Any
      (λ z y is. subst (λ x. ExprLaw (roll-Expr x)) is (expr_case y))
      (λ z y is. tt)
      (λ z y is. subst (λ x. AccessLaw (roll-Access x)) is (access_case y))
      (λ z y is. tt)
      (λ z y is. tt)

  -- ---- statements

  pub value_fit : (x : Expr) → FitIf kinds (Some x) → FitIf kinds (Some (with_values e x))
  value_fit x f = let s = stays x in (s.known f.0, s.shape.fixed f.1)

  pub value_if : (c : Option Expr) → FitIf kinds c → FitIf kinds (option_map (with_values e) c)
  value_if None f = f
  value_if (Some x) f = value_fit x f

  left_declared : (d : Lval) → LeftDeclared kinds d → LeftDeclared kinds (left_with_values e d)
  left_declared (lval.Skip at) h = tt
  left_declared (lval.Var v) h = h
  left_declared (lval.Cell v i) h = h
  left_declared (lval.Store a) h = tt

  left_read : (d : Lval) → FitIf kinds (as_expr d) → FitIf kinds (as_expr (left_with_values e d))
  left_read (lval.Skip at) f = f
  left_read (lval.Var v) f = f
  left_read (lval.Cell v i) f = subst (λ x. FitIf kinds (Some x)) (values_cell e v i) (value_fit (expr.Cell v i) f)
  left_read (lval.Store a) f = subst (λ x. FitIf kinds (Some x)) (values_load e a) (value_fit (expr.Load a) f)

  left_fit : (d : Lval) → FitLeft kinds d → FitLeft kinds (left_with_values e d)
  left_fit d f = record { declared = left_declared d f.declared; read = left_read d f.read }

  lefts_fit : (ds : List Lval) → All (FitLeft kinds) ds → All (FitLeft kinds) (map (left_with_values e) ds)
  lefts_fit [] f = All-nil (FitLeft kinds)
  lefts_fit (d ∷ ds) f =
      All-cons (FitLeft kinds) (left_with_values e d) (map (left_with_values e) ds) (left_fit d (All-head (FitLeft kinds) d ds f)) (lefts_fit ds (All-tail (FitLeft kinds) d ds f))

  args_fit : (es : List Expr) → All (λ x. FitIf kinds (Some x)) es → All (λ x. FitIf kinds (Some x)) (map (with_values e) es)
  args_fit [] f = All-nil (λ x. FitIf kinds (Some x))
  args_fit (x ∷ es) f =
      All-cons (λ x. FitIf kinds (Some x)) (with_values e x) (map (with_values e) es) (value_fit x (All-head (λ x. FitIf kinds (Some x)) x es f))
      (args_fit es (All-tail (λ x. FitIf kinds (Some x)) x es f))

  no_cell : (d : Lval) → IsNoCell d → IsNoCell (left_with_values e d)
  no_cell (lval.Skip at) h = tt
  no_cell (lval.Var v) h = tt
  no_cell (lval.Cell v i) h = absurd h
  no_cell (lval.Store a) h = tt

  no_cells : (n : ℕ) (ds : List Lval) → All IsNoCell (take n ds) → All IsNoCell (take n (map (left_with_values e) ds))
  no_cells zero ds h = All-nil IsNoCell
  no_cells (suc n) [] h = All-nil IsNoCell
  no_cells (suc n) (d ∷ ds) h =
      All-cons IsNoCell (left_with_values e d) (take n (map (left_with_values e) ds)) (no_cell d (All-head IsNoCell d (take n ds) h)) (no_cells n ds (All-tail IsNoCell d (take n ds) h))

  pub operation_fit : (o : Operation) → FitOperation kinds o → FitOperation kinds (operation_with_values e o)
  operation_fit (assign to o x c at) f = record { lefts = lefts_fit to f.lefts; value = value_fit x f.value; condition = value_if c f.condition; operation = f.operation }
  operation_fit (instruction to n args at) f = record { lefts = lefts_fit to f.lefts; operands = args_fit args f.operands; flags = no_cells (flags_before (spelled n)) to f.flags }
  operation_fit (unset xs) f = absurd f
  operation_fit (meaningless at) f = absurd f
