-- The rounds leave no `for`, no call and no `if` with a constant test.
use Rattle.std.proofs.Common.{◌≡◌, ℕ, ℤ, Bool, true, false, refl, List, Option, Some, None, sym, ap, ◌∙◌, subst, inl, inr}
use Rattle.std.specs.Prelude.{◌⊎◌, ⊤}
use Rattle.std.proofs.lemmas.Bool.{true≢false}
use Rattle.jz_words.specs.declared.size.Size.{Size}
use Rattle.jz_tree.specs.Span.{Span}
use Rattle.jz_tree.specs.declared.expr.Expr.{Expr}
use Rattle.jz_tree.specs.declared.expr.Expr.TheVariants as expr
use Rattle.jz_tree.specs.declared.expr.Expr.TheOpen.{Expr-F}
use Rattle.jz_tree.specs.declared.expr.Expr.TheViews.{out-Expr, roll-Expr, roll-out-Expr, out-roll-Expr}
use Rattle.jz_tree.specs.declared.expr.Var.{Var}
use Rattle.jz_type_names.specs.Kinds.{is_inline}
use Rattle.jz_type_names.specs.Parts.{span_of}
use Rattle.jz_integers.specs.Integers.{KnownNumbers}
use Rattle.jz_judgement.specs.HasType.{Layer}
use Rattle.jz_runs.specs.Trees.{done, op, quiet, choose, loop, each, call}
use Rattle.jz_meaning.specs.Statements.{Counter, Block}
use Rattle.jz_change.specs.Changes.{Change, Changes}
use Rattle.jz_pass.specs.Unrolling.{u_done, u_op, u_quiet, u_if, u_arm, u_while, u_once, u_for, u_none, u_more, Unrolls, UnrollsEach}
use Rattle.jz_unroll.specs.Values.{InlineNames, with_values}
use Rattle.jz_unroll.specs.Unrolling.{stays, vanishes, marked, tested, loops, always, unrolling}
use Rattle.jz_unroll.proofs.InlineParts.{inline_layer, inline_out}
use Rattle.jz_unroll.proofs.Valued.{parts_in}
use Rattle.jz_unroll.proofs.Parts.{out_plain}
use Rattle.jz_arrays.specs.Cells.{scalar, cell_or, cell_in, size_at, with_scalars}
use Rattle.jz_arrays.proofs.Reading.{rolled}
use Rattle.jz_one_row.proofs.Outs.{out_bool}
use Rattle.jz_kept_types.proofs.Scaling.{out_is}
use Rattle.jz_total_rows.specs.Laws.{IsTrueTest}
use Rattle.jz_ready_expansions.specs.ExpandedBodies.{IsNoTruth}

abbrev pub IsStandingBody : Block → Type 0
IsStandingBody done = ⊤
IsStandingBody (op o r) = IsStandingBody r
IsStandingBody (quiet o r) = IsStandingBody r
IsStandingBody (choose c a b r) = IsNoTruth c.cond × IsStandingBody a × IsStandingBody b × IsStandingBody r
IsStandingBody (loop h q c b r) = (IsNoTruth c.cond ⊎ IsTrueTest c.cond) × IsStandingBody q × IsStandingBody b × IsStandingBody r
IsStandingBody (each i b r) = ⊥
IsStandingBody (call c b r) = ⊥

-- ---- truths by the outermost layer
abbrev IsTruthLayer : Layer → Type 0
IsTruthLayer (Expr-F.Expr::Bool b at) = ⊤
IsTruthLayer _ = ⊥

truth_layer : (e : Expr) (b : Bool) (at : Span) → e ≡ expr.Bool b at → IsTruthLayer (out-Expr e)
truth_layer e b at q = subst IsTruthLayer (sym (ap out-Expr q ∙ out_bool b at)) tt

truth_inline : (x : Layer) → IsTruthLayer x → inline_layer x ≡ true
truth_inline (Expr-F.Expr::Bool b at) h = refl
truth_inline (Expr-F.Num i at) h = absurd h
truth_inline (Expr-F.Var v) h = absurd h
truth_inline (Expr-F.Cell v i) h = absurd h
truth_inline (Expr-F.Load a) h = absurd h
truth_inline (Expr-F.Neg a at) h = absurd h
truth_inline (Expr-F.Not a at) h = absurd h
truth_inline (Expr-F.Cast z s a at) h = absurd h
truth_inline (Expr-F.Bin o a b at) h = absurd h

-- ---- values
truth_before : (k : KnownNumbers) (x : Layer) → IsTruthLayer (parts_in k x) → IsTruthLayer x
truth_before k (Expr-F.Expr::Bool b at) h = tt
truth_before k (Expr-F.Num i at) h = absurd h
truth_before k (Expr-F.Var v) h = absurd h
truth_before k (Expr-F.Cell v i) h = absurd h
truth_before k (Expr-F.Load a) h = absurd h
truth_before k (Expr-F.Neg a at) h = absurd h
truth_before k (Expr-F.Not a at) h = absurd h
truth_before k (Expr-F.Cast z s a at) h = absurd h
truth_before k (Expr-F.Bin o a b at) h = absurd h

valued_no_truth : (k : KnownNumbers) (e : Expr) → is_inline e ≡ false → IsNoTruth (with_values k e)
valued_no_truth k e q b at h =
    let t = truth_before k (out-Expr e) (subst IsTruthLayer (out_plain k e q) (truth_layer (with_values k e) b at h)) in
    true≢false (sym (truth_inline (out-Expr e) t) ∙ (sym (inline_out e) ∙ q))

-- ---- words of cells
cell_no_truth : (v : Var) (i : Expr) (z : Option Size) (n : Option ℕ) → IsTruthLayer (out-Expr (cell_or v i z n)) → ⊥
cell_no_truth v i (Some z) (Some n) h = subst IsTruthLayer (out-roll-Expr (Expr-F.Var (scalar v z n))) h
cell_no_truth v i (Some z) None h = subst IsTruthLayer (out-roll-Expr (Expr-F.Cell v i)) h
cell_no_truth v i None (Some n) h = subst IsTruthLayer (out-roll-Expr (Expr-F.Cell v i)) h
cell_no_truth v i None None h = subst IsTruthLayer (out-roll-Expr (Expr-F.Cell v i)) h

scaled_before : (x : Layer) → IsTruthLayer (out-Expr (rolled x)) → IsTruthLayer x
scaled_before (Expr-F.Expr::Bool b at) h = tt
scaled_before (Expr-F.Num i at) h = absurd (subst IsTruthLayer (out-roll-Expr (Expr-F.Num i at)) h)
scaled_before (Expr-F.Var v) h = absurd (subst IsTruthLayer (out-roll-Expr (Expr-F.Var v)) h)
scaled_before (Expr-F.Cell v i) h = absurd (cell_no_truth v (with_scalars i) (size_at v) (cell_in v i) h)
scaled_before (Expr-F.Load a) h = absurd (subst IsTruthLayer (out-roll-Expr _) h)
scaled_before (Expr-F.Neg a at) h = absurd (subst IsTruthLayer (out-roll-Expr (Expr-F.Neg (with_scalars a) at)) h)
scaled_before (Expr-F.Not a at) h = absurd (subst IsTruthLayer (out-roll-Expr (Expr-F.Not (with_scalars a) at)) h)
scaled_before (Expr-F.Cast z s a at) h = absurd (subst IsTruthLayer (out-roll-Expr (Expr-F.Cast z s (with_scalars a) at)) h)
scaled_before (Expr-F.Bin o a b at) h = absurd (subst IsTruthLayer (out-roll-Expr (Expr-F.Bin o (with_scalars a) (with_scalars b) at)) h)

layer_bool : (x : Layer) → IsTruthLayer x → (b : Bool) × (at : Span) × (x ≡ Expr-F.Expr::Bool b at)
layer_bool (Expr-F.Expr::Bool b at) h = (b, at, refl)
layer_bool (Expr-F.Num i at) h = absurd h
layer_bool (Expr-F.Var v) h = absurd h
layer_bool (Expr-F.Cell v i) h = absurd h
layer_bool (Expr-F.Load a) h = absurd h
layer_bool (Expr-F.Neg a at) h = absurd h
layer_bool (Expr-F.Not a at) h = absurd h
layer_bool (Expr-F.Cast z s a at) h = absurd h
layer_bool (Expr-F.Bin o a b at) h = absurd h

as_truth : (e : Expr) (b : Bool) (at : Span) → out-Expr e ≡ Expr-F.Expr::Bool b at → e ≡ expr.Bool b at
as_truth e b at q = sym (roll-out-Expr e) ∙ (ap roll-Expr q ∙ expr.rolls-Bool b at)

pub scaled_no_truth : (e : Expr) → IsNoTruth e → IsNoTruth (with_scalars e)
scaled_no_truth e n b at h =
    let t = layer_bool (out-Expr e) (scaled_before (out-Expr e) (subst IsTruthLayer (out_is e) (truth_layer (with_scalars e) b at h))) in
    n t.0 t.1 (as_truth e t.0 t.1 t.2)

pub scaled_truth : (e : Expr) → IsTrueTest e → IsTrueTest (with_scalars e)
scaled_truth e t =
    (t.0, as_truth (with_scalars e) true t.0 (out_is e ∙ (ap (λ x. out-Expr (rolled x)) (ap out-Expr t.1 ∙ out_bool true t.0) ∙ out-roll-Expr (Expr-F.Expr::Bool true t.0))))

-- ---- bodies
module _ (names : InlineNames) where
  mutual
    unrolled_stands : {t rest u : Block} {e e1 : KnownNumbers} {k : Change} → Unrolls (unrolling names) t e rest u e1 k → IsStandingBody rest → IsStandingBody u
    unrolled_stands u_done r = r
    unrolled_stands (u_op (stays h) x) r = unrolled_stands x r
    unrolled_stands (u_op (vanishes b n w v c) x) r = unrolled_stands x r
    unrolled_stands (u_quiet marked x) r = unrolled_stands x r
    unrolled_stands (u_if {p = p} {e = e} (tested n h) a b l m x) r = (valued_no_truth e p.cond n, unrolled_stands a tt, unrolled_stands b tt, unrolled_stands x r)
    unrolled_stands (u_arm c y x) r = unrolled_stands y (unrolled_stands x r)
    unrolled_stands (u_while {p = p} {eq = eq} l (loops n h) q b m j x) r = (inl (valued_no_truth eq p.cond n), unrolled_stands q tt, unrolled_stands b tt, unrolled_stands x r)
    unrolled_stands (u_while {p = p} l (always n h) q b m j x) r = (inr (span_of p.cond, refl), unrolled_stands q tt, unrolled_stands b tt, unrolled_stands x r)
    unrolled_stands (u_once q c x) r = unrolled_stands q (unrolled_stands x r)
    unrolled_stands (u_for v es x) r = rounds_stand es (unrolled_stands x r)

    rounds_stand : {i : Counter} {b rest u : Block} {is : List ℤ} {e e1 : KnownNumbers} {ts : Changes} → UnrollsEach (unrolling names) i b is e rest u e1 ts → IsStandingBody rest → IsStandingBody u
    rounds_stand u_none r = r
    rounds_stand (u_more y x) r = unrolled_stands y (rounds_stand x r)

  pub rounds_are_standing : {t u : Block} {e e1 : KnownNumbers} {k : Change} → Unrolls (unrolling names) t e done u e1 k → IsStandingBody u
  rounds_are_standing x = unrolled_stands x tt
