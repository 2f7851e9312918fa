-- A body in which register arrays are scalars is expanded.
use Rattle.std.proofs.Common.{◌≡◌, ℕ, List, [], ◌∷◌, Option, Some, None, Bool, true, map, inl, inr}
use Rattle.std.specs.Prelude.{◌⊎◌, All, option_map, ⊤}
use Rattle.std.proofs.lemmas.List.Elements.{All-nil, All-cons, All-head, All-tail}
use Rattle.jz_tree.specs.Size.{Size}
use Rattle.jz_tree.specs.Span.{Span}
use Rattle.jz_tree.specs.declared.expr.BinOp.{BinOp}
use Rattle.jz_tree.specs.declared.expr.Expr.{Expr}
use Rattle.jz_tree.specs.declared.expr.Var.{Var}
use Rattle.jz_tree.specs.declared.stmt.Lval.{Lval}
use Rattle.jz_runs.specs.Trees.{op}
use Rattle.jz_meaning.specs.States.{Key}
use Rattle.jz_meaning.specs.Statements.{assign, Block}
use Rattle.jz_meaning.specs.Values.{ref_of}
use Rattle.jz_run_laws.specs.Kinds.{Kinds}
use Rattle.jz_change.specs.Changes.{Change}
use Rattle.jz_pass.specs.Unrolling.{u_done, u_op, u_quiet, u_if, u_arm, u_while, u_once, u_for, Unrolls}
use Rattle.jz_pass.specs.Rewriting.{knowing_of}
use Rattle.jz_arrays.specs.Cells.{size_at, is_below, scalar, with_scalars, left_with_scalars}
use Rattle.jz_arrays.specs.Arrays.{assigns, instructs, tests, arrays}
use Rattle.jz_homes.specs.Homes.{Homes}
use Rattle.jz_total_rows.specs.Expanded.{HasHome, IsExpanded, IsExpandedLeft}
use Rattle.jz_total_rows.specs.Laws.{IsTrueTest}
use Rattle.jz_plain_operands.specs.Plain.{IsPlain, IsPlainExpr, IsPlainLeft}
use Rattle.jz_plain_expansions.specs.PlainExpansions.{ArePlain, IsPlainBody}
use Rattle.jz_plain_expansions.proofs.Clear.{IsClear, LeftClear}
use Rattle.jz_plain_expansions.proofs.Passes.{ClearOperation, ClearBody}
use Rattle.jz_ready_expansions.specs.ExpandedBodies.{IsExpandedOperation, IsNoTruth, IsExpandedTest, IsExpandedLoopTest, IsExpandedBody}
use Rattle.jz_expanded_homes.proofs.Parts.{expanded_of, if_expanded, left_expanded}
use Rattle.jz_expanded_homes.proofs.Standing.{IsStandingBody, scaled_no_truth, scaled_truth}

module _ (kinds : Kinds) (frame : Key → Bool) (home : Homes) (P : Var → Type 0)
    (whole : (v : Var) → P v → IsPlain kinds frame v → HasHome home v)
    (cell : (v : Var) (z : Size) (n : ℕ) → P v → size_at v ≡ Some z → is_below (ref_of v).kind n ≡ true → HasHome home (scalar v z n)) where
  operation_expanded : (to : List Lval) (o : Option BinOp) (e : Expr) (c : Option Expr) (at : Span) → ClearOperation P frame (assign to o e c at)
      → ArePlain kinds frame (assign (map left_with_scalars to) o (with_scalars e) (option_map with_scalars c) at)
      → IsExpandedOperation home (assign (map left_with_scalars to) o (with_scalars e) (option_map with_scalars c) at)
  operation_expanded [] o e c at h q = tt
  operation_expanded (d ∷ []) o e c at h q = (
    left_expanded kinds frame home P whole cell d (All-head (LeftClear P) d [] h.0) (All-head (IsPlainLeft kinds frame) (left_with_scalars d) [] q.0),
    expanded_of kinds frame home P whole cell h.1 q.1,
    if_expanded kinds frame home P whole cell c h.2 q.2,
  )
  operation_expanded (f ∷ d ∷ []) o e None at h q =
      let l = All-tail (LeftClear P) f (d ∷ []) h.0 in
      let m = All-tail (IsPlainLeft kinds frame) (left_with_scalars f) (left_with_scalars d ∷ []) q.0 in (
        left_expanded kinds frame home P whole cell f (All-head (LeftClear P) f (d ∷ []) h.0) (All-head (IsPlainLeft kinds frame) (left_with_scalars f) (left_with_scalars d ∷ []) q.0),
        left_expanded kinds frame home P whole cell d (All-head (LeftClear P) d [] l) (All-head (IsPlainLeft kinds frame) (left_with_scalars d) [] m),
        expanded_of kinds frame home P whole cell h.1 q.1,
      )
  operation_expanded (f ∷ d ∷ []) o e (Some c) at h q = tt
  operation_expanded (f ∷ d ∷ y ∷ ds) o e c at h q = tt

  lefts_expanded : (to : List Lval) → All (LeftClear P) to → All (IsPlainLeft kinds frame) (map left_with_scalars to) → All (IsExpandedLeft home) (map left_with_scalars to)
  lefts_expanded [] h q = All-nil (IsExpandedLeft home)
  lefts_expanded (d ∷ ds) h q =
      All-cons (IsExpandedLeft home) (left_with_scalars d) (map left_with_scalars ds)
      (left_expanded kinds frame home P whole cell d (All-head (LeftClear P) d ds h) (All-head (IsPlainLeft kinds frame) (left_with_scalars d) (map left_with_scalars ds) q))
      (lefts_expanded ds (All-tail (LeftClear P) d ds h) (All-tail (IsPlainLeft kinds frame) (left_with_scalars d) (map left_with_scalars ds) q))

  args_expanded : (es : List Expr) → All (IsClear P) es → All (IsPlainExpr kinds frame) (map with_scalars es) → All (IsExpanded home) (map with_scalars es)
  args_expanded [] h q = All-nil (IsExpanded home)
  args_expanded (e ∷ es) h q =
      All-cons (IsExpanded home) (with_scalars e) (map with_scalars es)
      (expanded_of kinds frame home P whole cell (All-head (IsClear P) e es h) (All-head (IsPlainExpr kinds frame) (with_scalars e) (map with_scalars es) q))
      (args_expanded es (All-tail (IsClear P) e es h) (All-tail (IsPlainExpr kinds frame) (with_scalars e) (map with_scalars es) q))

  test_expanded : (c : Expr) → IsClear P c → IsNoTruth c → IsPlainExpr kinds frame (with_scalars c) → IsExpandedTest home (with_scalars c)
  test_expanded c h n q = (expanded_of kinds frame home P whole cell h q, scaled_no_truth c n)

  loop_test_expanded : (c : Expr) → IsClear P c → IsNoTruth c ⊎ IsTrueTest c → IsPlainExpr kinds frame (with_scalars c) → IsExpandedLoopTest home (with_scalars c)
  loop_test_expanded c h (inl n) q = inl (test_expanded c h n q)
  loop_test_expanded c h (inr n) q = inr (scaled_truth c n)

  abbrev Plain : Block → Type 0
  Plain b = IsPlainBody kinds frame b

  abbrev Done : Block → Type 0
  Done b = IsExpandedBody home b

  pub body_expanded : (wanted : Kinds) {t rest u : Block} {e e1 : ⊤} {k : Change} → Unrolls (knowing_of (arrays wanted)) t e rest u e1 k → ClearBody P frame t → IsStandingBody t → (Plain rest → Done rest) → Plain u → Done u
  body_expanded wanted u_done f n r w = r w
  body_expanded wanted (u_op (assigns {to = to} {op = o} {e = e} {c = c} {at = at} h) x) f n r w = (operation_expanded to o e c at f.0 w.0, body_expanded wanted x f.1 n r w.1)
  body_expanded wanted (u_op (instructs {to = to} {args = args} h) x) f n r w = ((lefts_expanded to f.0.0 w.0.0, args_expanded args f.0.1 w.0.1), body_expanded wanted x f.1 n r w.1)
  body_expanded wanted (u_quiet q x) f n r w = body_expanded wanted x f.1 n r w.1
  body_expanded wanted (u_if {p = p} (tests h) a b l m x) f n r w = (
    test_expanded p.cond f.0 n.0 w.0,
    body_expanded wanted a f.1 n.1 (λ y. tt) w.1,
    body_expanded wanted b f.2 n.2 (λ y. tt) w.2,
    body_expanded wanted x f.3 n.3 r w.3,
  )
  body_expanded wanted (u_arm c y x) f n r w = absurd c
  body_expanded wanted (u_while {p = p} l (tests h) q b m i x) f n r w = (
    loop_test_expanded p.cond f.0 n.0 w.0,
    body_expanded wanted q f.1 n.1 (λ y. tt) w.1,
    body_expanded wanted b f.2 n.2 (λ y. tt) w.2,
    body_expanded wanted x f.3 n.3 r w.3,
  )
  body_expanded wanted (u_once q c x) f n r w = absurd c
  body_expanded wanted (u_for v es x) f n r w = absurd v
