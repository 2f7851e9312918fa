-- With words in place of cells of register arrays, what is clear and plain is expanded, where its variables have homes.
use Rattle.std.proofs.Common.{◌≡◌, ℕ, Bool, true, false, ◌&&◌, Option, Some, None, refl, sym, ap, ◌∙◌, subst}
use Rattle.std.specs.Prelude.{option_map}
use Rattle.jz_tree.specs.Size.{Size}
use Rattle.jz_tree.specs.Span.{Span}
use Rattle.jz_tree.specs.declared.expr.BinOp.{BinOp}
use Rattle.jz_tree.specs.declared.expr.Expr.{Expr}
use Rattle.jz_tree.specs.declared.expr.Expr.TheVariants as expr
use Rattle.jz_tree.specs.declared.expr.Ty.{Ty}
use Rattle.jz_tree.specs.declared.expr.Access.{Access}
use Rattle.jz_tree.specs.declared.expr.Decl.{Decl}
use Rattle.jz_tree.specs.declared.expr.Var.{Var}
use Rattle.jz_tree.specs.declared.expr.Expr.TheOpen.{Expr-F, Access-F}
use Rattle.jz_tree.specs.declared.expr.Expr.TheViews.{out-Expr, out-Access, roll-Expr, out-roll-Expr, roll-out-Expr, out-roll-Access, roll-out-Access}
use Rattle.jz_tree.specs.declared.stmt.Lval.{Lval}
use Rattle.jz_tree.specs.declared.stmt.Lval.TheVariants as lval
use Rattle.jz_type_names.specs.Kinds.{is_inline}
use Rattle.jz_judgement.specs.HasType.{Layer}
use Rattle.jz_meaning.specs.States.{Key}
use Rattle.jz_meaning.specs.Values.{ref_of}
use Rattle.jz_run_laws.specs.Kinds.{Kinds}
use Rattle.jz_arrays.specs.Cells.{size_at, is_below, cell_in, scalar, cell_or, with_scalars, access_with_scalars, left_or, left_with_scalars}
use Rattle.jz_arrays.proofs.Reading.{rolled, in_is, access_in_is, cell_is}
use Rattle.jz_homes.specs.Homes.{Homes}
use Rattle.jz_total_rows.specs.Expanded as expanded
use Rattle.jz_total_rows.specs.Expanded.{HasHome, IsExpanded, IsExpandedLeft}
use Rattle.jz_total_rows.specs.Laws.{IfExpanded}
use Rattle.jz_plain_operands.specs.Plain.{IsPlain, IsPlainExpr, expression, IsPlainLayer, a_variable, a_cell, a_load, a_minus, a_denial, a_cast, of_two, IsPlainLeft, to_variable, to_cell, to_memory}
use Rattle.jz_plain_expansions.specs.PlainExpansions.{IfPlain}
use Rattle.jz_plain_expansions.proofs.Clear.{IsClear, clear, IsClearLayer, c_number, c_truth, c_variable, c_cell, c_load, c_minus, c_denial, c_cast, c_two, IfClear, LeftClear}

access_at : (a : Access) → (out-Access (access_with_scalars a)).at ≡ with_scalars (out-Access a).at
access_at a =
    ap (λ x. (out-Access (access_with_scalars x)).at) (sym (roll-out-Access a)) ∙ ap (λ x. (out-Access x).at) (access_in_is (out-Access a))
    ∙ ap (λ (y : Access-F Expr Ty Access Decl Var). y.at) (out-roll-Access (record { size = (out-Access a).size; at = with_scalars (out-Access a).at; unaligned = (out-Access a).unaligned; span = (out-Access a).span }))

scaled_is : (e : Expr) → with_scalars e ≡ rolled (out-Expr e)
scaled_is e = ap with_scalars (sym (roll-out-Expr e)) ∙ in_is (out-Expr e)

-- P: what is known of each variable before
module _ (kinds : Kinds) (frame : Key → Bool) (home : Homes) (P : Var → Type 0)
    (whole : (v : Var) → P v → IsPlain kinds frame v → HasHome home v)
    (cell : (v : Var) (z : Size) (n : ℕ) → P v → size_at v ≡ Some z → is_below (ref_of v).kind n ≡ true → HasHome home (scalar v z n)) where
  abbrev Plain : Expr → Type 0
  Plain e = IsPlainExpr kinds frame e

  abbrev PlainAt : Layer → Type 0
  PlainAt x = IsPlainLayer kinds frame x

  abbrev Done : Expr → Type 0
  Done e = IsExpanded home e

  -- ---- what is plain, form by form
  plain_at : (x : Layer) → Plain (roll-Expr x) → PlainAt x
  plain_at x (expression h) = subst PlainAt (out-roll-Expr x) h

  variable_plain : (v : Var) → PlainAt (Expr-F.Var v) → IsPlain kinds frame v
  variable_plain v (a_variable h) = h

  cell_plain : (v : Var) (i : Expr) → PlainAt (Expr-F.Cell v i) → IsPlain kinds frame v × Plain i
  cell_plain v i (a_cell h l) = (h, l)

  load_plain : (a : Access) → PlainAt (Expr-F.Load a) → Plain (out-Access a).at
  load_plain a (a_load h) = h

  minus_plain : (a : Expr) (at : Span) → PlainAt (Expr-F.Neg a at) → (is_inline a ≡ false) × Plain a
  minus_plain a at (a_minus n h) = (n, h)

  denial_plain : (a : Expr) (at : Span) → PlainAt (Expr-F.Not a at) → (is_inline a ≡ false) × Plain a
  denial_plain a at (a_denial n h) = (n, h)

  cast_plain : (z : Size) (s : Bool) (a : Expr) (at : Span) → PlainAt (Expr-F.Cast z s a at) → Plain a
  cast_plain z s a at (a_cast h) = h

  two_plain : (o : BinOp) (a b : Expr) (at : Span) → PlainAt (Expr-F.Bin o a b at) → ((is_inline a && is_inline b) ≡ false) × Plain a × Plain b
  two_plain o a b at (of_two n h l) = (n, h, l)

  -- ---- cells
  still_cell : (v : Var) (i : Expr) → P v → (Plain (with_scalars i) → Done (with_scalars i)) → Plain (roll-Expr (Expr-F.Cell v (with_scalars i))) → Done (roll-Expr (Expr-F.Cell v (with_scalars i)))
  still_cell v i p f q =
      let s = cell_plain v (with_scalars i) (plain_at (Expr-F.Cell v (with_scalars i)) q) in
      subst Done (sym (expr.rolls-Cell v (with_scalars i))) (expanded.a_cell v (with_scalars i) (whole v p s.0) (f s.1))

  cell_by : (v : Var) (i : Expr) → P v → (Plain (with_scalars i) → Done (with_scalars i)) → (z : Option Size) → size_at v ≡ z → (n : Option ℕ) → cell_in v i ≡ n
      → Plain (cell_or v (with_scalars i) z n) → Done (cell_or v (with_scalars i) z n)
  cell_by v i p f (Some z) e (Some n) g q = subst Done (sym (expr.rolls-Var (scalar v z n))) (expanded.a_variable (scalar v z n) (cell v z n p e (cell_is v i n g).1))
  cell_by v i p f (Some z) e None g q = still_cell v i p f q
  cell_by v i p f None e (Some n) g q = still_cell v i p f q
  cell_by v i p f None e None g q = still_cell v i p f q

  -- ---- expressions
  mutual
    pub expanded_of : {e : Expr} → IsClear P e → Plain (with_scalars e) → Done (with_scalars e)
    expanded_of {e = e} (clear h) q = subst Done (sym (scaled_is e)) (layer_expanded h (subst Plain (scaled_is e) q))

    layer_expanded : {x : Layer} → IsClearLayer P x → Plain (rolled x) → Done (rolled x)
    layer_expanded (c_number {i = i} {at = at}) q = subst Done (sym (expr.rolls-Num i at)) (expanded.a_number i at)
    layer_expanded (c_truth {b = b} {at = at}) q = subst Done (sym (expr.rolls-Bool b at)) (expanded.a_truth b at)
    layer_expanded (c_variable {v = v} p n i) q = subst Done (sym (expr.rolls-Var v)) (expanded.a_variable v (whole v p (variable_plain v (plain_at (Expr-F.Var v) q))))
    layer_expanded (c_cell {v = v} {i = i} p y r h) q = cell_by v i p (λ w. expanded_of h w) (size_at v) refl (cell_in v i) refl q
    layer_expanded (c_load {a = a} h) q =
        let w : Plain (with_scalars (out-Access a).at) = subst Plain (access_at a) (load_plain (access_with_scalars a) (plain_at (Expr-F.Load (access_with_scalars a)) q)) in
        subst Done (sym (expr.rolls-Load (access_with_scalars a))) (expanded.a_load (access_with_scalars a) (subst Done (sym (access_at a)) (expanded_of h w)))
    layer_expanded (c_minus {a = a} {at = at} n h) q =
        let s = minus_plain (with_scalars a) at (plain_at (Expr-F.Neg (with_scalars a) at) q) in
        subst Done (sym (expr.rolls-Neg (with_scalars a) at)) (expanded.a_minus (with_scalars a) at s.0 (expanded_of h s.1))
    layer_expanded (c_denial {a = a} {at = at} n h) q =
        let s = denial_plain (with_scalars a) at (plain_at (Expr-F.Not (with_scalars a) at) q) in
        subst Done (sym (expr.rolls-Not (with_scalars a) at)) (expanded.a_denial (with_scalars a) at s.0 (expanded_of h s.1))
    layer_expanded (c_cast {z = z} {s = s} {a = a} {at = at} h) q =
        subst Done (sym (expr.rolls-Cast z s (with_scalars a) at)) (expanded.a_cast z s (with_scalars a) at (expanded_of h (cast_plain z s (with_scalars a) at (plain_at (Expr-F.Cast z s (with_scalars a) at) q))))
    layer_expanded (c_two {o = o} {a = a} {b = b} {at = at} n h l) q =
        let s = two_plain o (with_scalars a) (with_scalars b) at (plain_at (Expr-F.Bin o (with_scalars a) (with_scalars b) at) q) in
        subst Done (sym (expr.rolls-Bin o (with_scalars a) (with_scalars b) at)) (expanded.of_two o (with_scalars a) (with_scalars b) at s.0 (expanded_of h s.1) (expanded_of l s.2))

  pub if_expanded : (c : Option Expr) → IfClear P c → IfPlain kinds frame (option_map with_scalars c) → IfExpanded home (option_map with_scalars c)
  if_expanded None h q = tt
  if_expanded (Some e) h q = expanded_of h q

  -- ---- left sides
  left_variable : (v : Var) → IsPlainLeft kinds frame (lval.Var v) → IsPlain kinds frame v
  left_variable v (to_variable h) = h

  left_cell : (v : Var) (i : Expr) → IsPlainLeft kinds frame (lval.Cell v i) → IsPlain kinds frame v × Plain i
  left_cell v i (to_cell h l) = (h, l)

  left_memory : (a : Access) → IsPlainLeft kinds frame (lval.Store a) → Plain (out-Access a).at
  left_memory a (to_memory h) = h

  still_left : (v : Var) (i : Expr) → P v → IsClear P i → IsPlainLeft kinds frame (lval.Cell v (with_scalars i)) → IsExpandedLeft home (lval.Cell v (with_scalars i))
  still_left v i p h q =
      let s = left_cell v (with_scalars i) q in
      expanded.to_cell v (with_scalars i) (whole v p s.0) (expanded_of h s.1)

  left_by : (v : Var) (i : Expr) → P v → IsClear P i → (z : Option Size) → size_at v ≡ z → (n : Option ℕ) → cell_in v i ≡ n → IsPlainLeft kinds frame (left_or v i z n) → IsExpandedLeft home (left_or v i z n)
  left_by v i p h (Some z) e (Some n) g q = expanded.to_variable (scalar v z n) (cell v z n p e (cell_is v i n g).1)
  left_by v i p h (Some z) e None g q = still_left v i p h q
  left_by v i p h None e (Some n) g q = still_left v i p h q
  left_by v i p h None e None g q = still_left v i p h q

  pub left_expanded : (d : Lval) → LeftClear P d → IsPlainLeft kinds frame (left_with_scalars d) → IsExpandedLeft home (left_with_scalars d)
  left_expanded (lval.Skip at) h q = expanded.to_nothing at
  left_expanded (lval.Var v) h q = expanded.to_variable v (whole v h.0 (left_variable v q))
  left_expanded (lval.Cell v i) h q = left_by v i h.0 h.3 (size_at v) refl (cell_in v i) refl q
  left_expanded (lval.Store a) h q =
      expanded.to_memory (access_with_scalars a) (subst Done (sym (access_at a)) (expanded_of h (subst Plain (access_at a) (left_memory (access_with_scalars a) q))))
