-- What sets a parameter of a copy, and what gives a result of one back, is typed.
use Rattle.std.proofs.Common.{◌≡◌, List, [], ◌∷◌, Some, Bool, true, false, refl, sym, ap, ◌∙◌, subst, inl, inr, if◌then◌else◌}
use Rattle.std.specs.Prelude.{All}
use Rattle.std.proofs.lemmas.Bool.{false≢true}
use Rattle.std.proofs.lemmas.List.Elements.{All-nil, All-cons, All-head, All-tail}
use Rattle.jz_tree.specs.Size.{Size}
use Rattle.jz_tree.specs.Span.{Span}
use Rattle.jz_tree.specs.declared.expr.Storage.{Storage}
use Rattle.jz_tree.specs.declared.expr.Storage.TheVariants as storage
use Rattle.jz_tree.specs.declared.expr.Decl.{Decl}
use Rattle.jz_tree.specs.declared.expr.Expr.{Expr}
use Rattle.jz_tree.specs.declared.expr.Expr.TheVariants as expr
use Rattle.jz_tree.specs.declared.expr.Var.{Var}
use Rattle.jz_tree.specs.declared.expr.Expr.TheOpen.{Expr-F}
use Rattle.jz_tree.specs.declared.expr.Expr.TheViews.{out-Var, out-roll-Expr}
use Rattle.jz_tree.specs.declared.stmt.Lval.{Lval}
use Rattle.jz_tree.specs.declared.stmt.Lval.TheVariants as lval
use Rattle.jz_tree.specs.declared.program.Param.{Param}
use Rattle.jz_tree.specs.declared.program.Ret.{Ret}
use Rattle.jz_tree.specs.declared.program.Fun.{Fun}
use Rattle.jz_tree.specs.declared.program.Program.{Program}
use Rattle.jz_type_names.specs.declared.kinds.Kind as known
use Rattle.jz_type_names.specs.declared.kinds.Kind.TheVariants as scope
use Rattle.jz_type_names.specs.Kinds.{declared_of, known_of, kind_of, inline_int, is_inline_int, same_kind}
use Rattle.jz_type_storage.specs.Declarations.{may_pass, may_return, is_passed, is_returned}
use Rattle.jz_judgement.specs.Places.{integer, word, Goes, KindGoes, IsWordOf, WordKind}
use Rattle.jz_judgement.specs.HasType as judged
use Rattle.jz_judgement.specs.HasType.{value, Says, LayerSays, Types, HasType}
use Rattle.jz_judgement.specs.Lefts as lefts
use Rattle.jz_judgement.specs.Lefts.{Holds, Takes}
use Rattle.jz_judgement.specs.WellTyped as well
use Rattle.jz_judgement.specs.WellTyped.{InPairs, Passed, PassedAs, PassedBy, Given, GivenAs, Returned}
use Rattle.jz_meaning.specs.Statements.{Operation}
use Rattle.jz_meaning.specs.Values.{ref_of}
use Rattle.jz_bodies.specs.Calls.{is_array}
use Rattle.jz_bodies.proofs.Variables.{IsVariable, known_is, array_is}
use Rattle.jz_bodies.proofs.Passing.{word_same, declared_parts}
use Rattle.jz_inline.specs.Names.{Names, var_in, expr_in, lval_in}
use Rattle.jz_inline.specs.Calls.{set_one, argument_ops, result_op, result_ops}
use Rattle.jz_kept_types.specs.Operations.{IsTyped}
use Rattle.jz_copied_types.proofs.Copying.{known_in, copies_turn}
use Rattle.jz_kept_types.proofs.Assigned.{holds_kept}
use Rattle.jz_copied_types.proofs.Kept.{copies_keep}

module _ (p : Program) (g : Fun) (outer inner : Names) where
  -- a variable of the callee with its declaration
  module _ (v : Var) (h : IsVariable p g v) where
    there : known_of (var_in inner v) ≡ Some (declared_of h.decl)
    there = known_in inner v ∙ known_is p g v h

    word_there : (z : Size) → kind_of h.decl.ty ≡ scope.Word z → IsWordOf z (known_of (var_in inner v))
    word_there z e = subst (IsWordOf z) (sym there) (subst (WordKind z) (sym e) refl)

    no_array : (z : Size) → kind_of h.decl.ty ≡ scope.Array z → is_array (ref_of v).kind ≡ true
    no_array z e = ap is_array (array_is p g v h z e).1

  int_inline : (s : Storage) → may_pass s scope.Int ≡ true → inline_int s scope.Int ≡ true
  int_inline storage.Inline m = refl
  int_inline storage.Reg m = absurd (false≢true m)
  int_inline storage.Stack m = absurd (false≢true m)

  no_truth : (s : Storage) → may_pass s scope.Truth ≡ true → ⊥
  no_truth storage.Inline m = false≢true m
  no_truth storage.Reg m = false≢true m
  no_truth storage.Stack m = false≢true m

  set_typed : (d : Lval) (e : Expr) (at : Span) → Takes d (value e) → IsTyped (set_one d e at)
  set_typed d e at t = (lefts.one t, tt)

  -- ---- one parameter
  module _ (q : Param) (e : Expr) (at : Span) (h : IsVariable p g q.var) (plain : is_array (ref_of q.var).kind ≡ false) (may : is_passed (declared_of h.decl) ≡ true) where
    by_kind : (k : known.Kind) → kind_of h.decl.ty ≡ k → PassedAs k h.decl e → IsTyped (set_one (lval.Var (var_in inner q.var)) (expr_in outer e) at)
    by_kind scope.Int i t =
        let inline : is_inline_int (known_of (var_in inner q.var)) ≡ true = ap is_inline_int (there q.var h) ∙ (ap (inline_int h.decl.storage) i ∙ int_inline h.decl.storage (sym (ap (may_pass h.decl.storage) i) ∙ may)) in
        set_typed (lval.Var (var_in inner q.var)) (expr_in outer e) at (lefts.wanted integer (lefts.number inline) (copies_keep outer e integer t))
    by_kind scope.Truth i t = absurd (no_truth h.decl.storage (sym (ap (may_pass h.decl.storage) i) ∙ may))
    by_kind (scope.Word z) i t =
        set_typed (lval.Var (var_in inner q.var)) (expr_in outer e) at (lefts.wanted (word z) (lefts.variable (word_there q.var h z i)) (copies_keep outer e (word z) t))
    by_kind (scope.Array z) i t = absurd (false≢true (sym plain ∙ no_array q.var h z i))

    argument_typed : Passed q e → IsTyped (set_one (lval.Var (var_in inner q.var)) (expr_in outer e) at)
    argument_typed t = by_kind (kind_of h.decl.ty) refl (subst (λ d. PassedBy d e) h.is t)

  abbrev MayPass : Param → Type 0
  MayPass q = (d : Decl) → (out-Var q.var).decl ≡ Some d → is_passed (declared_of d) ≡ true

  pub arguments_typed : (at : Span) (ps : List Param) (es : List Expr) → InPairs Passed ps es → All (λ (q : Param). IsVariable p g q.var) ps → All MayPass ps → All IsTyped (argument_ops outer inner at ps es)
  arguments_typed at [] es t h m = All-nil IsTyped
  arguments_typed at (q ∷ ps) [] t h m = All-nil IsTyped
  arguments_typed at (q ∷ ps) (e ∷ es) (well.next one more) h m =
      by_kind_of (is_array (ref_of q.var).kind) refl (arguments_typed at ps es more (All-tail (λ (q : Param). IsVariable p g q.var) q ps h) (All-tail MayPass q ps m))
    where
      v : IsVariable p g q.var
      v = All-head (λ (q : Param). IsVariable p g q.var) q ps h

      by_kind_of : (b : Bool) → is_array (ref_of q.var).kind ≡ b → All IsTyped (argument_ops outer inner at ps es)
          → All IsTyped (if b then argument_ops outer inner at ps es else (set_one (lval.Var (var_in inner q.var)) (expr_in outer e) at ∷ argument_ops outer inner at ps es))
      by_kind_of true i rest = rest
      by_kind_of false i rest =
          All-cons IsTyped (set_one (lval.Var (var_in inner q.var)) (expr_in outer e) at) (argument_ops outer inner at ps es)
          (argument_typed q e at v i (All-head MayPass q ps m v.decl v.is) one) rest

  -- ---- one result
  takes_word : (d : Lval) (e : Expr) (z : Size) → Holds (word z) d → HasType (value e) (word z) → Says (value e) z → Takes d (value e)
  takes_word d e z (inl w) t s = lefts.wanted (word z) w t
  takes_word d e z (inr l) t s = lefts.left (word z) l (lefts.sized s) t

  module _ (d : Lval) (x : Var) (r : Ret) (at : Span) (h : IsVariable p g x) (plain : is_array (ref_of x).kind ≡ false) (may : is_returned (declared_of r.decl) ≡ true) (same : Returned r x) where
    abbrev y : Var
    y = var_in inner x

    own : same_kind (kind_of r.decl.ty) (kind_of h.decl.ty) ≡ true
    own = (declared_parts p g r.decl x h same).1

    value_word : (z : Size) → kind_of h.decl.ty ≡ scope.Word z → HasType (value (expr.Var y)) (word z)
    value_word z e =
        let goes : Goes (known_of y) (word z) = subst (λ k. Goes k (word z)) (sym (there x h)) (subst (λ k. KindGoes k (word z)) (sym e) refl) in
        subst (λ w. HasType (value w) (word z)) (expr.rolls-Var y)
        (judged.expression (subst (λ l. Types l (word z)) (sym (out-roll-Expr (Expr-F.Var y))) (judged.variable goes)))

    value_says : (z : Size) → kind_of h.decl.ty ≡ scope.Word z → Says (value (expr.Var y)) z
    value_says z e =
        subst (λ w. Says (value w) z) (expr.rolls-Var y)
        (judged.expression (subst (λ l. LayerSays l z) (sym (out-roll-Expr (Expr-F.Var y))) (judged.variable (word_there x h z e))))

    no_return : (s : Storage) (k : known.Kind) → k ≡ scope.Int → may_return s k ≡ true → ⊥
    no_return storage.Inline k e m = false≢true (sym (ap (may_return storage.Inline) e) ∙ m)
    no_return storage.Reg k e m = false≢true (sym (ap (may_return storage.Reg) e) ∙ m)
    no_return storage.Stack k e m = false≢true (sym (ap (may_return storage.Stack) e) ∙ m)

    no_truth_back : (s : Storage) (k : known.Kind) → k ≡ scope.Truth → may_return s k ≡ true → ⊥
    no_truth_back storage.Inline k e m = false≢true (sym (ap (may_return storage.Inline) e) ∙ m)
    no_truth_back storage.Reg k e m = false≢true (sym (ap (may_return storage.Reg) e) ∙ m)
    no_truth_back storage.Stack k e m = false≢true (sym (ap (may_return storage.Stack) e) ∙ m)

    abbrev Set : Type 0
    Set = IsTyped (set_one (lval_in outer d) (expr.Var y) at)

    given_by : (k : known.Kind) → kind_of r.decl.ty ≡ k → GivenAs k r.decl d → Set
    given_by scope.Int i t = absurd (no_return r.decl.storage (kind_of r.decl.ty) i may)
    given_by scope.Truth i t = absurd (no_truth_back r.decl.storage (kind_of r.decl.ty) i may)
    given_by (scope.Word z) i t =
        let e = word_same z (kind_of h.decl.ty) (subst (λ k. same_kind k (kind_of h.decl.ty) ≡ true) i own) in
        set_typed (lval_in outer d) (expr.Var y) at
        (takes_word (lval_in outer d) (expr.Var y) z (holds_kept (expr_in outer) (lval_in outer) (copies_turn outer) d (word z) t.1) (value_word z e) (value_says z e))
    given_by (scope.Array z) i t = absurd (false≢true (sym plain ∙ array_back (kind_of h.decl.ty) refl (subst (λ k. same_kind k (kind_of h.decl.ty) ≡ true) i own)))
      where
        array_back : (k : known.Kind) → kind_of h.decl.ty ≡ k → same_kind (scope.Array z) k ≡ true → is_array (ref_of x).kind ≡ true
        array_back scope.Int e s = absurd (false≢true s)
        array_back scope.Truth e s = absurd (false≢true s)
        array_back (scope.Word u) e s = absurd (false≢true s)
        array_back (scope.Array u) e s = no_array x h u e

    result_typed : Given r d → Set
    result_typed t = given_by (kind_of r.decl.ty) refl t

  abbrev MayReturn : Ret → Type 0
  MayReturn r = is_returned (declared_of r.decl) ≡ true

  by_array : (d : Lval) (x : Var) (r : Ret) (at : Span) (os : List Operation) (b : Bool) → is_array (ref_of x).kind ≡ b → IsVariable p g x → MayReturn r → Returned r x → Given r d → All IsTyped os
      → All IsTyped (if b then os else (set_one (lval_in outer d) (expr.Var (var_in inner x)) at ∷ os))
  by_array d x r at os true i h m s t rest = rest
  by_array d x r at os false i h m s t rest = All-cons IsTyped (set_one (lval_in outer d) (expr.Var (var_in inner x)) at) os (result_typed d x r at h i m s t) rest

  one_result : (d : Lval) (x : Var) (r : Ret) (at : Span) (os : List Operation) → IsVariable p g x → MayReturn r → Returned r x → Given r d → All IsTyped os → All IsTyped (result_op outer inner at d x os)
  one_result (lval.Skip s) x r at os h m w t rest = rest
  one_result (lval.Var v) x r at os h m w t rest = by_array (lval.Var v) x r at os (is_array (ref_of x).kind) refl h m w t rest
  one_result (lval.Cell v i) x r at os h m w t rest = by_array (lval.Cell v i) x r at os (is_array (ref_of x).kind) refl h m w t rest
  one_result (lval.Store a) x r at os h m w t rest = by_array (lval.Store a) x r at os (is_array (ref_of x).kind) refl h m w t rest

  pub results_typed : (at : Span) (rs : List Ret) (ds : List Lval) (xs : List Var) → InPairs Given rs ds → InPairs Returned rs xs → All MayReturn rs → All (IsVariable p g) xs → All IsTyped (result_ops outer inner at ds xs)
  results_typed at rs [] xs t w m h = All-nil IsTyped
  results_typed at rs (d ∷ ds) [] t w m h = All-nil IsTyped
  results_typed at [] (d ∷ ds) (x ∷ xs) t w m h = elim t [ ]
  results_typed at (r ∷ rs) (d ∷ ds) (x ∷ xs) (well.next one more) (well.next same others) m h =
      one_result d x r at (result_ops outer inner at ds xs) (All-head (IsVariable p g) x xs h) (All-head MayReturn r rs m) same one
      (results_typed at rs ds xs more others (All-tail MayReturn r rs m) (All-tail (IsVariable p g) x xs h))
