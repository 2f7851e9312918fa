-- What sets a parameter of a copy, and what gives a result of one back, has the classes of a row.
use Rattle.std.proofs.Common.{◌≡◌, List, [], ◌∷◌, map, Some, None, Bool, true, false, not, ◌&&◌, refl, sym, ap, ◌∙◌, subst, if◌then◌else◌}
use Rattle.std.specs.Prelude.{All, option_map}
use Rattle.std.specs.List.{zip}
use Rattle.std.proofs.lemmas.Bool.{false≢true, true≢false, and_from}
use Rattle.std.proofs.lemmas.List.Elements.{All-nil, All-cons, All-head, All-tail}
use Rattle.jz_tree.specs.Size.{Size}
use Rattle.jz_tree.specs.Span.{Span}
use Rattle.jz_tree.specs.declared.expr.Storage.{Storage}
use Rattle.jz_tree.specs.declared.expr.Storage.TheVariants as storage
use Rattle.jz_tree.specs.declared.expr.Decl.{Decl}
use Rattle.jz_tree.specs.declared.expr.Expr.{Expr}
use Rattle.jz_tree.specs.declared.expr.Expr.TheVariants as expr
use Rattle.jz_tree.specs.declared.expr.Ty.{Ty}
use Rattle.jz_tree.specs.declared.expr.Access.{Access}
use Rattle.jz_tree.specs.declared.expr.Var.{Var}
use Rattle.jz_tree.specs.declared.expr.Expr.TheOpen.{Expr-F, Var-F}
use Rattle.jz_tree.specs.declared.expr.Expr.TheViews.{out-Expr, out-Var, out-roll-Expr, out-roll-Var}
use Rattle.jz_tree.specs.declared.stmt.Lval.{Lval}
use Rattle.jz_tree.specs.declared.stmt.Lval.TheVariants as lval
use Rattle.jz_tree.specs.declared.stmt.Rhs.{Rhs}
use Rattle.jz_tree.specs.declared.stmt.Rhs.TheVariants as rhs
use Rattle.jz_tree.specs.declared.stmt.StmtKind.TheVariants as stmt
use Rattle.jz_tree.specs.declared.stmt.StmtKind.TheOpen.{StmtKind-F}
use Rattle.jz_tree.specs.declared.stmt.StmtKind.TheViews.{out-StmtKind, out-roll-StmtKind}
use Rattle.jz_tree.specs.declared.program.Param.{Param}
use Rattle.jz_tree.specs.declared.program.Ret.{Ret}
use Rattle.jz_tree.specs.declared.program.Fun.{Fun}
use Rattle.jz_tree.specs.declared.program.Program.{Program}
use Rattle.jz_type_names.specs.declared.kinds.Kind as known
use Rattle.jz_type_names.specs.declared.kinds.Kind.TheVariants as scope
use Rattle.jz_type_names.specs.Kinds.{declared_of, known_of, kind_of, inline_int, is_inline_int, is_word, is_word_kind, same_storage, same_kind}
use Rattle.jz_type_names.specs.Parts.{is_skip}
use Rattle.jz_type_storage.specs.Declarations.{may_pass, may_return, is_passed, is_returned}
use Rattle.jz_type_rows.specs.Callees.{of_callee, entered_by, left_by}
use Rattle.jz_type_rows.specs.Matching.{word_layer, sets_inline}
use Rattle.jz_types.specs.Guarantees.{Enters, Leaves}
use Rattle.jz_select.specs.declared.pattern.Pattern.{Pattern}
use Rattle.jz_select.specs.declared.shape.Shape as rowed
use Rattle.jz_select.specs.declared.class.Class.{Class}
use Rattle.jz_select.specs.Operands.{var_class, class_layer, class_of, dest_of}
use Rattle.jz_select.specs.Rows.{is_rm, is_rmi}
use Rattle.jz_select.specs.Shapes.{Asked, whichever, value_layer, kind_layer}
use Rattle.jz_select.specs.Selected.{rows, Tells, IsSelected, IsCopied}
use Rattle.jz_judgement.specs.WellTyped.{InPairs, Returned}
use Rattle.jz_judgement.specs.WellTyped as well
use Rattle.jz_meaning.specs.Values.{ref_of}
use Rattle.jz_bodies.specs.Calls.{is_array}
use Rattle.jz_bodies.proofs.Variables.{IsVariable, known_is, array_is}
use Rattle.jz_bodies.proofs.Passing.{declared_parts}
use Rattle.jz_inline.specs.Names.{Names, var_in, expr_in, lval_in}
use Rattle.jz_inline.specs.Calls.{set_one, argument_ops, result_op, result_ops}
use Rattle.jz_meaning.specs.Statements.{Operation}
use Rattle.jz_copied_types.proofs.Copying.{known_in}
use Rattle.jz_kept_classes.specs.Classes.{KeepsClass, the_same}
use Rattle.jz_kept_classes.proofs.Kept.{test_kept}
use Rattle.jz_kept_rows.specs.RowClasses.{AreOperands, IsOneClassed}
use Rattle.jz_kept_rows.proofs.Statements.{assignments_have_classes}
use Rattle.jz_kept_rows.specs.KeptRows.{IsRowed}
use Rattle.jz_kept_rows.proofs.Operations.{one_stays}
use Rattle.jz_copied_classes.proofs.Copied.{copies_turned, copied_left}

-- ---- the row of what is copied
out_assign : (to : List Lval) (r : Rhs) → out-StmtKind (stmt.Assign to None r None) ≡ StmtKind-F.Assign to None r None
out_assign to r = ap out-StmtKind (sym (stmt.rolls-Assign to None r None)) ∙ out-roll-StmtKind (StmtKind-F.Assign to None r None)

copied_selected : (to : Lval) (e : Expr) (p : Pattern) → IsCopied to e (Some p) → IsSelected (stmt.Assign (to ∷ []) None (rhs.Value e) None) (Some p)
unfolding IsSelected IsCopied
copied_selected to e p h =
    λ a. subst (λ (s : rowed.Shape). Tells rows s (Some p)) (ap (λ k. kind_layer (whichever a) k) (sym (out_assign (to ∷ []) (rhs.Value e)))) (h a)

copied_classed : (to : Lval) (e : Expr) (p : Pattern) → IsCopied to e (Some p) → IsOneClassed to None e
copied_classed to e p h = assignments_have_classes (to ∷ []) None e None (p, copied_selected to e p h)

-- ---- variables of the callee
known_callee : (v : Var) → known_of (of_callee v) ≡ known_of v
known_callee v = ap (λ (x : Var-F Expr Ty Access Decl Var). option_map declared_of x.decl) (out-roll-Var _)

same_left : (inner : Names) (v : Var) → KeepsClass (dest_of (lval.Var (of_callee v))) (dest_of (lval.Var (var_in inner v)))
same_left inner v =
    subst (λ (c : Class). KeepsClass (var_class (known_of (of_callee v))) c) (sym (ap var_class (known_in inner v ∙ sym (known_callee v)))) the_same

var_out : (v : Var) → out-Expr (expr.Var v) ≡ Expr-F.Var v
var_out v = ap out-Expr (sym (expr.rolls-Var v)) ∙ out-roll-Expr (Expr-F.Var v)

-- a variable is an operand itself
alone : (asked : Asked) (d : Lval) (v : Var) → AreOperands (class_of (expr.Var v)) (value_layer asked d (out-Expr (expr.Var v))) → is_rmi (var_class (known_of v)) ≡ true
alone asked d v h = subst (λ x. AreOperands (class_layer x) (value_layer asked d x)) (var_out v) h

alone_back : (asked : Asked) (d : Lval) (v : Var) → is_rmi (var_class (known_of v)) ≡ true → AreOperands (class_of (expr.Var v)) (value_layer asked d (out-Expr (expr.Var v)))
alone_back asked d v h = subst (λ x. AreOperands (class_layer x) (value_layer asked d x)) (sym (var_out v)) h

variable_stays : (d l : Lval) (x y : Var) → KeepsClass (dest_of d) (dest_of l) → known_of y ≡ known_of x → IsOneClassed d None (expr.Var x) → IsOneClassed l None (expr.Var y)
variable_stays d l x y f k r = record {
  to = test_kept is_rm refl (dest_of d) (dest_of l) f r.to;
  asked = r.asked;
  operands = alone_back r.asked l y (ap (λ q. is_rmi (var_class q)) k ∙ alone r.asked d x r.operands);
}

module _ (p : Program) (g : Fun) (outer inner : Names) where
  module _ (v : Var) (h : IsVariable p g v) where
    there : known_of v ≡ Some (declared_of h.decl)
    there = known_is p g v h

    copied_there : known_of (var_in inner v) ≡ Some (declared_of h.decl)
    copied_there = known_in inner v ∙ there

    no_array : (z : Size) → kind_of h.decl.ty ≡ scope.Array z → is_array (ref_of v).kind ≡ true
    no_array z e = ap is_array (array_is p g v h z e).1

    word_there : (z : Size) → not (same_storage h.decl.storage storage.Inline) ≡ true → kind_of h.decl.ty ≡ scope.Word z → is_word (known_of (of_callee v)) ≡ true
    word_there z n e = ap is_word (known_callee v ∙ there) ∙ and_from (not (same_storage h.decl.storage storage.Inline)) (is_word_kind (kind_of h.decl.ty)) n (ap is_word_kind e)

  word_passed : (s : Storage) (z : Size) → may_pass s (scope.Word z) ≡ true → not (same_storage s storage.Inline) ≡ true
  word_passed storage.Reg z h = refl
  word_passed storage.Stack z h = refl
  word_passed storage.Inline z h = absurd (false≢true h)

  kept_apart : (s t : Storage) → same_storage s t ≡ true → (s ≡ storage.Inline → ⊥) → not (same_storage t storage.Inline) ≡ true
  kept_apart storage.Reg storage.Reg e n = refl
  kept_apart storage.Stack storage.Stack e n = refl
  kept_apart storage.Inline t e n = absurd (n refl)
  kept_apart storage.Reg storage.Stack e n = absurd (false≢true e)
  kept_apart storage.Reg storage.Inline e n = absurd (false≢true e)
  kept_apart storage.Stack storage.Reg e n = absurd (false≢true e)
  kept_apart storage.Stack storage.Inline e n = absurd (false≢true e)

  int_inline : (s : Storage) → may_pass s scope.Int ≡ true → inline_int s scope.Int ≡ true
  int_inline storage.Inline m = refl
  int_inline storage.Reg m = absurd (false≢true m)
  int_inline storage.Stack m = absurd (false≢true m)

  no_truth : (s : Storage) → may_pass s scope.Truth ≡ true → ⊥
  no_truth storage.Inline m = false≢true m
  no_truth storage.Reg m = false≢true m
  no_truth storage.Stack m = false≢true m

  -- ---- one parameter
  module _ (q : Param) (e : Expr) (h : IsVariable p g q.var) (plain : is_array (ref_of q.var).kind ≡ false) (may : is_passed (declared_of h.decl) ≡ true) (enters : Enters (entered_by q, e)) where
    abbrev Set : Type 0
    Set = sets_inline (lval.Var (var_in inner q.var) ∷ []) None ≡ false → IsOneClassed (lval.Var (var_in inner q.var)) None (expr_in outer e)

    by_kind : (k : known.Kind) → kind_of h.decl.ty ≡ k → Set
    by_kind scope.Int i n =
        let inline : is_inline_int (known_of (var_in inner q.var)) ≡ true = ap is_inline_int (copied_there q.var h) ∙ (ap (inline_int h.decl.storage) i ∙ int_inline h.decl.storage (sym (ap (may_pass h.decl.storage) i) ∙ may)) in
        absurd (true≢false (sym (ap (λ b. b && true) inline) ∙ n))
    by_kind scope.Truth i n = absurd (no_truth h.decl.storage (sym (ap (may_pass h.decl.storage) i) ∙ may))
    by_kind (scope.Word z) i n =
        let c = enters (word_there q.var h z (word_passed h.decl.storage z (sym (ap (may_pass h.decl.storage) i) ∙ may)) i) in
        one_stays (expr_in outer) (copies_turned outer) (lval.Var (of_callee q.var)) (lval.Var (var_in inner q.var)) (same_left inner q.var) None e (copied_classed (lval.Var (of_callee q.var)) e c.0 c.1)
    by_kind (scope.Array z) i n = absurd (false≢true (sym plain ∙ no_array q.var h z i))

    argument_rowed : Set
    argument_rowed = by_kind (kind_of h.decl.ty) refl

  abbrev MayPass : Param → Type 0
  MayPass q = (d : Decl) → (out-Var q.var).decl ≡ Some d → is_passed (declared_of d) ≡ true

  pub arguments_rowed : (at : Span) (ps : List Param) (es : List Expr) → All (λ (q : Param). IsVariable p g q.var) ps → All MayPass ps → All Enters (zip (map entered_by ps) es) → All IsRowed (argument_ops outer inner at ps es)
  arguments_rowed at [] es h m n = All-nil IsRowed
  arguments_rowed at (q ∷ ps) [] h m n = All-nil IsRowed
  arguments_rowed at (q ∷ ps) (e ∷ es) h m n =
      by_kind_of (is_array (ref_of q.var).kind) refl
      (arguments_rowed at ps es (All-tail (λ (q : Param). IsVariable p g q.var) q ps h) (All-tail MayPass q ps m) (All-tail Enters (entered_by q, e) (zip (map entered_by ps) es) n))
    where
      v : IsVariable p g q.var
      v = All-head (λ (q : Param). IsVariable p g q.var) q ps h

      by_kind_of : (b : Bool) → is_array (ref_of q.var).kind ≡ b → All IsRowed (argument_ops outer inner at ps es)
          → All IsRowed (if b then argument_ops outer inner at ps es else (set_one (lval.Var (var_in inner q.var)) (expr_in outer e) at ∷ argument_ops outer inner at ps es))
      by_kind_of true i rest = rest
      by_kind_of false i rest =
          All-cons IsRowed (set_one (lval.Var (var_in inner q.var)) (expr_in outer e) at) (argument_ops outer inner at ps es)
          (argument_rowed q e v i (All-head MayPass q ps m v.decl v.is) (All-head Enters (entered_by q, e) (zip (map entered_by ps) es) n)) rest

  -- ---- one result
  same_int : (k : known.Kind) → same_kind k scope.Int ≡ true → k ≡ scope.Int
  same_int scope.Int h = refl
  same_int scope.Truth h = absurd (false≢true h)
  same_int (scope.Word z) h = absurd (false≢true h)
  same_int (scope.Array z) h = absurd (false≢true h)

  same_truth : (k : known.Kind) → same_kind k scope.Truth ≡ true → k ≡ scope.Truth
  same_truth scope.Truth h = refl
  same_truth scope.Int h = absurd (false≢true h)
  same_truth (scope.Word z) h = absurd (false≢true h)
  same_truth (scope.Array z) h = absurd (false≢true h)

  no_return : (k : known.Kind) → ((s : Storage) → may_return s k ≡ false) → (s : Storage) (j : known.Kind) → j ≡ k → may_return s j ≡ true → ⊥
  no_return k n s j e m = false≢true (sym (n s) ∙ (sym (ap (may_return s) e) ∙ m))

  no_inline : (s : Storage) → s ≡ storage.Inline → (k : known.Kind) → may_return s k ≡ true → ⊥
  no_inline s e k m = false≢true (sym (ap (λ t. may_return t k) e) ∙ m)

  int_not : (s : Storage) → may_return s scope.Int ≡ false
  int_not storage.Inline = refl
  int_not storage.Reg = refl
  int_not storage.Stack = refl

  truth_not : (s : Storage) → may_return s scope.Truth ≡ false
  truth_not storage.Inline = refl
  truth_not storage.Reg = refl
  truth_not storage.Stack = refl

  module _ (d : Lval) (x : Var) (r : Ret) (h : IsVariable p g x) (plain : is_array (ref_of x).kind ≡ false) (may : is_returned (declared_of r.decl) ≡ true) (same : Returned r x) (taken : is_skip d ≡ false) (leaves : Leaves (left_by x, d)) where
    own : same_kind (kind_of r.decl.ty) (kind_of h.decl.ty) ≡ true
    own = (declared_parts p g r.decl x h same).1

    by_return : (k : known.Kind) → kind_of h.decl.ty ≡ k → IsOneClassed (lval_in outer d) None (expr.Var (var_in inner x))
    by_return scope.Int i = absurd (no_return scope.Int int_not r.decl.storage (kind_of r.decl.ty) (same_int (kind_of r.decl.ty) (sym (ap (same_kind (kind_of r.decl.ty)) i) ∙ own)) may)
    by_return scope.Truth i = absurd (no_return scope.Truth truth_not r.decl.storage (kind_of r.decl.ty) (same_truth (kind_of r.decl.ty) (sym (ap (same_kind (kind_of r.decl.ty)) i) ∙ own)) may)
    by_return (scope.Word z) i =
        let n = kept_apart r.decl.storage h.decl.storage (declared_parts p g r.decl x h same).0 (λ e. no_inline r.decl.storage e (kind_of r.decl.ty) may) in
        let c = leaves (ap word_layer (var_out (of_callee x)) ∙ word_there x h z n i) taken in
        variable_stays d (lval_in outer d) (of_callee x) (var_in inner x) (copied_left outer d) (known_in inner x ∙ sym (known_callee x)) (copied_classed d (expr.Var (of_callee x)) c.0 c.1)
    by_return (scope.Array z) i = absurd (false≢true (sym plain ∙ no_array x h z i))

    result_rowed : IsOneClassed (lval_in outer d) None (expr.Var (var_in inner x))
    result_rowed = by_return (kind_of h.decl.ty) refl

  abbrev MayReturn : Ret → Type 0
  MayReturn r = is_returned (declared_of r.decl) ≡ true

  by_array : (d : Lval) (x : Var) (r : Ret) (at : Span) (os : List Operation) (b : Bool) → is_array (ref_of x).kind ≡ b → is_skip d ≡ false → IsVariable p g x → MayReturn r → Returned r x → Leaves (left_by x, d) → All IsRowed os
      → All IsRowed (if b then os else (set_one (lval_in outer d) (expr.Var (var_in inner x)) at ∷ os))
  by_array d x r at os true i k h m s l rest = rest
  by_array d x r at os false i k h m s l rest = All-cons IsRowed (set_one (lval_in outer d) (expr.Var (var_in inner x)) at) os (λ n. result_rowed d x r h i m s k l) rest

  one_result : (d : Lval) (x : Var) (r : Ret) (at : Span) (os : List Operation) → IsVariable p g x → MayReturn r → Returned r x → Leaves (left_by x, d) → All IsRowed os → All IsRowed (result_op outer inner at d x os)
  one_result (lval.Skip s) x r at os h m w l rest = rest
  one_result (lval.Var v) x r at os h m w l rest = by_array (lval.Var v) x r at os (is_array (ref_of x).kind) refl refl h m w l rest
  one_result (lval.Cell v i) x r at os h m w l rest = by_array (lval.Cell v i) x r at os (is_array (ref_of x).kind) refl refl h m w l rest
  one_result (lval.Store a) x r at os h m w l rest = by_array (lval.Store a) x r at os (is_array (ref_of x).kind) refl refl h m w l rest

  pub results_rowed : (at : Span) (rs : List Ret) (ds : List Lval) (xs : List Var) → InPairs Returned rs xs → All MayReturn rs → All (IsVariable p g) xs → All Leaves (zip (map left_by xs) ds) → All IsRowed (result_ops outer inner at ds xs)
  results_rowed at rs [] xs w m h l = All-nil IsRowed
  results_rowed at rs (d ∷ ds) [] w m h l = All-nil IsRowed
  results_rowed at [] (d ∷ ds) (x ∷ xs) w m h l = elim w [ ]
  results_rowed at (r ∷ rs) (d ∷ ds) (x ∷ xs) (well.next same others) m h l =
      one_result d x r at (result_ops outer inner at ds xs) (All-head (IsVariable p g) x xs h) (All-head MayReturn r rs m) same (All-head Leaves (left_by x, d) (zip (map left_by xs) ds) l)
      (results_rowed at rs ds xs others (All-tail MayReturn r rs m) (All-tail (IsVariable p g) x xs h) (All-tail Leaves (left_by x, d) (zip (map left_by xs) ds) l))
