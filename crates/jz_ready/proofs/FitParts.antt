-- Statements that are as the rule of register arrays asks by these kinds, where loops that count may be left.
use Rattle.std.proofs.Common.{◌≡◌, ℕ, List, [], ◌∷◌, Option, Some, None, Bool, true, false, not, ◌&&◌, ◌||◌, refl, ap, sym, ◌∙◌, subst, if◌then◌else◌}
use Rattle.std.specs.Prelude.{All, take, ◌==◌}
use Rattle.std.proofs.lemmas.Bool.{and_parts, and_from, or_left}
use Rattle.std.proofs.lemmas.List.Elements.{All-head, All-tail, All-weaker}
use Rattle.jz_tree.specs.Operators.{joins, carries}
use Rattle.jz_tree.specs.Spellings.{spelled}
use Rattle.jz_tree.specs.Span.{Span}
use Rattle.jz_tree.specs.declared.expr.BinOp.{BinOp}
use Rattle.jz_tree.specs.declared.expr.Expr.{Expr}
use Rattle.jz_tree.specs.declared.expr.Expr.TheVariants as expr
use Rattle.jz_tree.specs.declared.expr.Expr.TheOpen.{Expr-F}
use Rattle.jz_tree.specs.declared.expr.Expr.TheViews.{out-Expr, roll-Expr, roll-out-Expr}
use Rattle.jz_tree.specs.declared.stmt.Lval.{Lval}
use Rattle.jz_tree.specs.declared.stmt.Lval.TheVariants as lval
use Rattle.jz_runs.specs.Trees.{done, op, quiet, choose, loop, each, call}
use Rattle.jz_meaning.specs.Assignments.{as_expr, left_span, is_flag, updated_layer, updated, last_left, whole_of}
use Rattle.jz_meaning.specs.Shapes.{Sorts, Shape, shape_of}
use Rattle.jz_meaning.specs.Statements.{Operation, assign, instruction, Block}
use Rattle.jz_run_laws.specs.Kinds.{Kinds, sorts_of}
use Rattle.jz_run_laws.specs.DeclaredKinds.{LeftDeclared}
use Rattle.jz_row_laws.proofs.Copied.{carry_join}
use Rattle.jz_bodies.specs.Scopes.{is_over}
use Rattle.jz_scalars.proofs.Reading.{Layer, over_is}
use Rattle.jz_arrays.specs.Arrays.{IsRead, FixedLeft, IsLeft, whole_old, IsNoCell, flags_before}
use Rattle.jz_scalars.specs.Ready.{is_sorted, AreSorted, IsReadyAssign, IsReadyInstruction, IsReadyOperation}
use Rattle.jz_ready.proofs.FixedParts.{NoJoin, shape_bin, fixed_cell, fixed_load}

module _ (kinds : Kinds) where
  -- its variables are declared with the sorts that they have, and it is fixed how many numbers it leaks
  abbrev pub FitIf : Option Expr → Type 0
  FitIf e = AreSorted kinds e × IsRead (sorts_of kinds) e

  pub record FitLeft (d : Lval) : Type 0 where
    pub declared : LeftDeclared kinds d
    pub read : FitIf (as_expr d)

  pub record FitAssign (to : List Lval) (o : Option BinOp) (e : Expr) (c : Option Expr) : Type 0 where
    pub lefts : All FitLeft to
    pub value : FitIf (Some e)
    pub condition : FitIf c
    pub operation : NoJoin o

  pub record FitInstruction (to : List Lval) (n : List ℕ) (args : List Expr) : Type 0 where
    pub lefts : All FitLeft to
    pub operands : All (λ e. FitIf (Some e)) args
    pub flags : All IsNoCell (take (flags_before (spelled n)) to)

  abbrev pub FitOperation : Operation → Type 0
  FitOperation (assign to o e c at) = FitAssign to o e c
  FitOperation (instruction to n args at) = FitInstruction to n args
  FitOperation _ = ⊥

  abbrev pub IsFit : Block → Type 0
  IsFit done = Unit {0}
  IsFit (op o r) = FitOperation o × IsFit r
  IsFit (quiet o r) = IsFit r
  IsFit (choose p a b r) = FitIf (Some p.cond) × IsFit a × IsFit b × IsFit r
  IsFit (loop h q p b r) = FitIf (Some p.cond) × IsFit q × IsFit b × IsFit r
  IsFit (each i b r) = IsFit b × IsFit r
  IsFit (call c b r) = ⊥

  -- ---- operations on two expressions

  abbrev S : Sorts
  S = sorts_of kinds

  abbrev over : Expr → Bool
  over = is_over (is_sorted kinds) (is_sorted kinds)

  bin_over : (o : BinOp) (a b : Expr) (at : Span) → over (expr.Bin o a b at) ≡ (over a && over b)
  bin_over o a b at = ap over (sym (expr.rolls-Bin o a b at)) ∙ over_is (is_sorted kinds) (is_sorted kinds) (Expr-F.Bin o a b at)

  pub bin_fit : (o : BinOp) (a b : Expr) (at : Span) → joins o ≡ false → FitIf (Some a) → FitIf (Some b) → FitIf (Some (expr.Bin o a b at))
  bin_fit o a b at j f g =
      let x : Shape = shape_of S a in
      let y : Shape = shape_of S b in (
        bin_over o a b at ∙ and_from (over a) (over b) f.0 g.0,
        ap (λ (s : Shape). s.fixed) (shape_bin S o a b at)
            ∙ and_from x.fixed (y.fixed && (not (joins o) || (y.count == 0))) f.1 (and_from y.fixed (not (joins o) || (y.count == 0)) g.1 (or_left (not (joins o)) (y.count == 0) (ap not j))),
      )

  bin_parts : (o : BinOp) (a b : Expr) (at : Span) → FitIf (Some (expr.Bin o a b at)) → FitIf (Some a) × FitIf (Some b)
  bin_parts o a b at f =
      let x : Shape = shape_of S a in
      let y : Shape = shape_of S b in
      let p = and_parts (over a) (over b) (sym (bin_over o a b at) ∙ f.0) in
      let q = and_parts x.fixed (y.fixed && (not (joins o) || (y.count == 0))) (sym (ap (λ (s : Shape). s.fixed) (shape_bin S o a b at)) ∙ f.1) in
      ((p.0, q.0), (p.1, (and_parts y.fixed (not (joins o) || (y.count == 0)) q.1).0))

  -- ---- `d op= e` as `d = d op e`

  updated_by : (o p : BinOp) (d e a b : Expr) (at inner : Span) (c : Bool) → e ≡ expr.Bin p a b inner → (carries o p && is_flag b) ≡ c → joins o ≡ false → FitIf (Some d) → FitIf (Some e)
      → FitIf (Some (if c then expr.Bin p (expr.Bin o d a at) b at else expr.Bin o d e at))
  updated_by o p d e a b at inner true is g j f h =
      let q = bin_parts p a b inner (subst (λ x. FitIf (Some x)) is h) in
      let t = carry_join o p (and_parts (carries o p) (is_flag b) g).0 in
      bin_fit p (expr.Bin o d a at) b at t.1 (bin_fit o d a at j f q.0) q.1
  updated_by o p d e a b at inner false is g j f h = bin_fit o d e at j f h

  layer_fit : (o : BinOp) (d e : Expr) (at : Span) (x : Layer) → e ≡ roll-Expr x → joins o ≡ false → FitIf (Some d) → FitIf (Some e) → FitIf (Some (updated_layer o d e at x))
  layer_fit o d e at (Expr-F.Bin p a b inner) is j f h = updated_by o p d e a b at inner (carries o p && is_flag b) (is ∙ expr.rolls-Bin p a b inner) refl j f h
  layer_fit o d e at (Expr-F.Num n s) is j f h = bin_fit o d e at j f h
  layer_fit o d e at (Expr-F.Expr::Bool c s) is j f h = bin_fit o d e at j f h
  layer_fit o d e at (Expr-F.Var v) is j f h = bin_fit o d e at j f h
  layer_fit o d e at (Expr-F.Cell v i) is j f h = bin_fit o d e at j f h
  layer_fit o d e at (Expr-F.Load a) is j f h = bin_fit o d e at j f h
  layer_fit o d e at (Expr-F.Neg a s) is j f h = bin_fit o d e at j f h
  layer_fit o d e at (Expr-F.Not a s) is j f h = bin_fit o d e at j f h
  layer_fit o d e at (Expr-F.Cast z g a s) is j f h = bin_fit o d e at j f h

  updated_fit : (r : Option Expr) (o : BinOp) (e : Expr) (at : Span) → FitIf r → joins o ≡ false → FitIf (Some e) → FitIf (updated r o e at)
  updated_fit None o e at f j h = (tt, tt)
  updated_fit (Some d) o e at f j h = layer_fit o d e at (out-Expr e) (sym (roll-out-Expr e)) j f h

  abbrev LastFit : Option Lval → Type 0
  LastFit None = Unit {0}
  LastFit (Some d) = FitIf (as_expr d)

  last_fit : (ds : List Lval) → All FitLeft ds → LastFit (last_left ds)
  last_fit [] h = tt
  last_fit (d ∷ []) h = (All-head FitLeft d [] h).read
  last_fit (d ∷ b ∷ ds) h = last_fit (b ∷ ds) (All-tail FitLeft d (b ∷ ds) h)

  whole_fit : (d : Option Lval) (o : Option BinOp) (e : Expr) → LastFit d → NoJoin o → FitIf (Some e) → FitIf (whole_of d o e)
  whole_fit None None e f j h = h
  whole_fit (Some d) None e f j h = h
  whole_fit None (Some o) e f j h = (tt, tt)
  whole_fit (Some d) (Some o) e f j h = updated_fit (as_expr d) o e (left_span d) f j h

  -- ---- what the rule asks

  fixed_left : (d : Lval) → IsRead S (as_expr d) → FixedLeft S d
  fixed_left (lval.Skip at) h = tt
  fixed_left (lval.Var v) h = tt
  fixed_left (lval.Cell v i) h = sym (fixed_cell S v i) ∙ h
  fixed_left (lval.Store a) h = sym (fixed_load S a) ∙ h

  left_is : (d : Lval) → FitLeft d → IsLeft kinds d
  left_is d f = record { declared = f.declared; fixed = fixed_left d f.read.1 }

  old_read : (to : List Lval) → All FitLeft to → IsRead S (whole_old to)
  old_read [] h = tt
  old_read (d ∷ []) h = (All-head FitLeft d [] h).read.1
  old_read (d ∷ b ∷ ds) h = tt

  pub assign_ready : (to : List Lval) (o : Option BinOp) (e : Expr) (c : Option Expr) → FitAssign to o e c → IsReadyAssign kinds to o e c
  assign_ready to o e c f =
      let w = whole_fit (last_left to) o e (last_fit to f.lefts) f.operation f.value in
      record {
        known = record { lefts = All-weaker FitLeft (IsLeft kinds) left_is to f.lefts; whole = w.1; condition = f.condition.1; old = old_read to f.lefts };
        lefts = All-weaker FitLeft (λ d. AreSorted kinds (as_expr d)) (λ d g. g.read.0) to f.lefts;
        whole = w.0;
        condition = f.condition.0;
      }

  pub instruction_ready : (to : List Lval) (n : List ℕ) (args : List Expr) → FitInstruction to n args → IsReadyInstruction kinds to n args
  instruction_ready to n args f =
      record {
        known = record { lefts = All-weaker FitLeft (IsLeft kinds) left_is to f.lefts; operands = All-weaker (λ e. FitIf (Some e)) (λ e. IsRead S (Some e)) (λ e g. g.1) args f.operands; flags = f.flags };
        lefts = All-weaker FitLeft (λ d. AreSorted kinds (as_expr d)) (λ d g. g.read.0) to f.lefts;
        operands = All-weaker (λ e. FitIf (Some e)) (λ e. AreSorted kinds (Some e)) (λ e g. g.0) args f.operands;
      }

  pub operation_ready : (o : Operation) → FitOperation o → IsReadyOperation kinds o
  operation_ready (assign to o e c at) f = assign_ready to o e c f
  operation_ready (instruction to n args at) f = instruction_ready to n args f
  operation_ready _ f = absurd f
