-- The terms of what an expansion leaves are over names, where its variables have them.
use Rattle.std.proofs.Common.{◌&&◌, Bool, true, false, if◌then◌else◌, List, [], ◌∷◌, Option, Some, None, map, refl, sym, ap, subst}
use Rattle.std.specs.Prelude.{⊤, All}
use Rattle.std.proofs.lemmas.List.Elements.{All-head, All-tail}
use Rattle.jz_tree.specs.Span.{Span}
use Rattle.jz_tree.specs.Operators.{carries}
use Rattle.jz_tree.specs.declared.expr.BinOp.{BinOp}
use Rattle.jz_tree.specs.declared.expr.Expr.{Expr}
use Rattle.jz_tree.specs.declared.expr.Expr.TheVariants as expr
use Rattle.jz_tree.specs.declared.expr.Expr.TheOpen.{Expr-F}
use Rattle.jz_tree.specs.declared.expr.Expr.TheViews.{out-Expr, out-Access}
use Rattle.jz_tree.specs.declared.expr.Access.{Access}
use Rattle.jz_tree.specs.declared.expr.Var.{Var}
use Rattle.jz_tree.specs.declared.stmt.Lval.{Lval}
use Rattle.jz_tree.specs.declared.stmt.Lval.TheVariants as lval
use Rattle.jz_judgement.specs.HasType.{Layer}
use Rattle.jz_runs.specs.Trees.{done, op, quiet, choose, loop, each, call}
use Rattle.jz_meaning.specs.States.{Key}
use Rattle.jz_meaning.specs.Values.{ref_of}
use Rattle.jz_meaning.specs.Assignments.{as_expr, left_span, last_left, is_flag, updated_layer, whole_of}
use Rattle.jz_meaning.specs.Statements.{Operation, assign, instruction, unset, meaningless, Condition, Block}
use Rattle.jz_run_laws.specs.Kinds.{Kinds}
use Rattle.jz_terms.specs.Terms.{term_of, place_of}
use Rattle.jz_terms.proofs.Bridge.{term_layer}
use Rattle.jz_terms.proofs.TermForms.{term_var, term_cell, term_load, term_bin}
use Rattle.jz_labels.specs.Operations.{left_of, read_if, old_of, with_condition, plain_of, tested_by}
use Rattle.jz_plain_operands.specs.Plain.{IsPlain, IsPlainExpr, expression, IsPlainLayer, a_number, a_truth, a_variable, a_cell, a_load, a_minus, a_denial, a_cast, of_two, IsPlainLeft, to_nothing, to_variable, to_cell, to_memory}
use Rattle.jz_plain_operands.proofs.Layers.{term_out, place_out}
use Rattle.jz_plain_expansions.specs.PlainExpansions.{IfPlain, ArePlain, IsPlainBody}
use Rattle.jz_listable.proofs.Terms.{HasName, OverNames, AllOver, LeftOver, LeftsOver, PlainOver, both_over}
use Rattle.jz_listable.proofs.Firsts.{HasParts}

abbrev pub OperationOver : Operation → Type 0
OperationOver o = PlainOver (plain_of o)

abbrev pub TestOver : Condition → Type 0
TestOver c = OverNames (tested_by c)

module _ (kinds : Kinds) (in_frame : Key → Bool) (named : (v : Var) → IsPlain kinds in_frame v → HasName (ref_of v)) where
  -- ---- expressions
  mutual
    over : (e : Expr) → IsPlainExpr kinds in_frame e → OverNames (term_of e)
    over e (expression x) = subst OverNames (sym (term_out e)) (over_layer (out-Expr e) x)

    over_layer : (l : Layer) → IsPlainLayer kinds in_frame l → OverNames (term_layer l)
    over_layer (Expr-F.Num i at) a_number = tt
    over_layer (Expr-F.Expr::Bool b at) a_truth = tt
    over_layer (Expr-F.Var v) (a_variable x) = named v x
    over_layer (Expr-F.Cell v i) (a_cell x y) = (named v x, over i y)
    over_layer (Expr-F.Load a) (a_load x) = subst OverNames (sym (ap (λ k. k.at) (place_out a))) (over (out-Access a).at x)
    over_layer (Expr-F.Neg a at) (a_minus n x) = over a x
    over_layer (Expr-F.Not a at) (a_denial n x) = over a x
    over_layer (Expr-F.Cast z s a at) (a_cast x) = over a x
    over_layer (Expr-F.Bin o a b at) (of_two n x y) = (over a x, over b y)

  address_over : (a : Access) → IsPlainExpr kinds in_frame (out-Access a).at → OverNames (place_of a).at
  address_over a x = subst OverNames (sym (ap (λ k. k.at) (place_out a))) (over (out-Access a).at x)

  -- ---- left sides
  left_over : (d : Lval) → IsPlainLeft kinds in_frame d → LeftOver (left_of d)
  left_over (lval.Skip at) to_nothing = tt
  left_over (lval.Var v) (to_variable x) = tt
  left_over (lval.Cell v i) (to_cell x y) = over i y
  left_over (lval.Store a) (to_memory x) = address_over a x

  lefts_over : (ds : List Lval) → All (IsPlainLeft kinds in_frame) ds → LeftsOver (map left_of ds)
  lefts_over [] h = tt
  lefts_over (d ∷ ds) h = (left_over d (All-head (IsPlainLeft kinds in_frame) d ds h), lefts_over ds (All-tail (IsPlainLeft kinds in_frame) d ds h))

  -- where they are read
  variable_over : (v : Var) → IsPlain kinds in_frame v → OverNames (term_of (expr.Var v))
  variable_over v x = subst OverNames (sym (term_var (expr.Var v) v refl)) (named v x)

  cell_over : (v : Var) (i : Expr) → IsPlain kinds in_frame v → IsPlainExpr kinds in_frame i → OverNames (term_of (expr.Cell v i))
  cell_over v i x y = subst OverNames (sym (term_cell (expr.Cell v i) v i refl)) (named v x, over i y)

  load_over : (a : Access) → IsPlainExpr kinds in_frame (out-Access a).at → OverNames (term_of (expr.Load a))
  load_over a x = subst OverNames (sym (term_load (expr.Load a) a refl)) (address_over a x)

  two_over : (o : BinOp) (a b : Expr) (at : Span) → OverNames (term_of a) → OverNames (term_of b) → OverNames (term_of (expr.Bin o a b at))
  two_over o a b at x y = subst OverNames (sym (term_bin (expr.Bin o a b at) o a b at refl)) (x, y)

  old_over : (d : Lval) → IsPlainLeft kinds in_frame d → AllOver (read_if (as_expr d))
  old_over (lval.Skip at) to_nothing = tt
  old_over (lval.Var v) (to_variable x) = (variable_over v x, tt)
  old_over (lval.Cell v i) (to_cell x y) = (cell_over v i x y, tt)
  old_over (lval.Store a) (to_memory x) = (load_over a x, tt)

  abbrev IfPlainLeft : Option Lval → Type 0
  IfPlainLeft None = ⊤
  IfPlainLeft (Some d) = IsPlainLeft kinds in_frame d

  last_plain : (ds : List Lval) → All (IsPlainLeft kinds in_frame) ds → IfPlainLeft (last_left ds)
  last_plain [] h = tt
  last_plain (d ∷ []) h = All-head (IsPlainLeft kinds in_frame) d [] h
  last_plain (d ∷ (e ∷ ds)) h = last_plain (e ∷ ds) (All-tail (IsPlainLeft kinds in_frame) d (e ∷ ds) h)

  -- ---- right sides
  three_over : (b : Bool) (q p : BinOp) (d e a c : Expr) (at inner : Span) → OverNames (term_of d) → OverNames (term_of e) → OverNames (term_of a) → OverNames (term_of c)
      → OverNames (term_of (if b then expr.Bin p (expr.Bin q d a at) c at else expr.Bin q d e at))
  three_over true q p d e a c at inner h k x y = two_over p (expr.Bin q d a at) c at (two_over q d a at h x) y
  three_over false q p d e a c at inner h k x y = two_over q d e at h k

  updated_over : (q : BinOp) (d e : Expr) (at : Span) (l : Layer) → IsPlainLayer kinds in_frame l → OverNames (term_of d) → OverNames (term_of e) → OverNames (term_of (updated_layer q d e at l))
  updated_over q d e at (Expr-F.Bin p a c inner) (of_two n x y) h k = three_over (carries q p && is_flag c) q p d e a c at inner h k (over a x) (over c y)
  updated_over q d e at (Expr-F.Num i t) x h k = two_over q d e at h k
  updated_over q d e at (Expr-F.Expr::Bool b t) x h k = two_over q d e at h k
  updated_over q d e at (Expr-F.Var v) x h k = two_over q d e at h k
  updated_over q d e at (Expr-F.Cell v i) x h k = two_over q d e at h k
  updated_over q d e at (Expr-F.Load a) x h k = two_over q d e at h k
  updated_over q d e at (Expr-F.Neg a t) x h k = two_over q d e at h k
  updated_over q d e at (Expr-F.Not a t) x h k = two_over q d e at h k
  updated_over q d e at (Expr-F.Cast z s a t) x h k = two_over q d e at h k

  with_old : (q : BinOp) (d e : Expr) (at : Span) → IsPlainExpr kinds in_frame e → OverNames (term_of d) → OverNames (term_of (updated_layer q d e at (out-Expr e)))
  with_old q d e at (expression x) h = updated_over q d e at (out-Expr e) x h (over e (expression x))

  whole_over : (d : Option Lval) (o : Option BinOp) (e : Expr) → IfPlainLeft d → IsPlainExpr kinds in_frame e → AllOver (read_if (whole_of d o e))
  whole_over d None e h x = (over e x, tt)
  whole_over None (Some q) e h x = tt
  whole_over (Some (lval.Skip at)) (Some q) e to_nothing x = tt
  whole_over (Some (lval.Var v)) (Some q) e (to_variable y) x = (with_old q (expr.Var v) e (left_span (lval.Var v)) x (variable_over v y), tt)
  whole_over (Some (lval.Cell v i)) (Some q) e (to_cell y z) x = (with_old q (expr.Cell v i) e (left_span (lval.Cell v i)) x (cell_over v i y z), tt)
  whole_over (Some (lval.Store a)) (Some q) e (to_memory y) x = (with_old q (expr.Load a) e (left_span (lval.Store a)) x (load_over a y), tt)

  old_read : (d : Option Lval) → IfPlainLeft d → AllOver (old_of d)
  old_read None h = tt
  old_read (Some d) h = old_over d h

  condition_over : (c : Option Expr) (d : Option Lval) → IfPlain kinds in_frame c → IfPlainLeft d → AllOver (with_condition c d)
  condition_over None d h k = tt
  condition_over (Some c) d h k = (over c h, old_read d k)

  all_over : (es : List Expr) → All (IsPlainExpr kinds in_frame) es → AllOver (map term_of es)
  all_over [] h = tt
  all_over (e ∷ es) h = (over e (All-head (IsPlainExpr kinds in_frame) e es h), all_over es (All-tail (IsPlainExpr kinds in_frame) e es h))

  -- ---- operations and bodies
  operation_over : (o : Operation) → ArePlain kinds in_frame o → OperationOver o
  operation_over (assign to o e c at) h =
      let last = last_plain to h.0 in
      record {
        reads = both_over (read_if (whole_of (last_left to) o e)) (with_condition c (last_left to)) (whole_over (last_left to) o e last h.1) (condition_over c (last_left to) h.2 last);
        to = lefts_over to h.0;
      }
  operation_over (instruction to n args at) h = record { reads = all_over args h.1; to = lefts_over to h.0 }
  operation_over (unset vs) h = absurd h
  operation_over (meaningless at) h = absurd h

  pub body_over : (b : Block) → IsPlainBody kinds in_frame b → HasParts OperationOver TestOver b
  body_over done h = tt
  body_over (op o r) h = (operation_over o h.0, body_over r h.1)
  body_over (quiet o r) h = body_over r h.1
  body_over (choose t a b r) h = (over t.cond h.0, body_over a h.1, body_over b h.2, body_over r h.3)
  body_over (loop w q t b r) h = (over t.cond h.0, body_over q h.1, body_over b h.2, body_over r h.3)
  body_over (each i b r) h = absurd h
  body_over (call c b r) h = absurd h
