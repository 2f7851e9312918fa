-- Arguments and results of calls.
use Rattle.std.proofs.Common.{◌≡◌, ℕ, true, ◌&&◌, List, [], ◌∷◌, Option, Some, None, refl, sym, ap, ◌∙◌, subst, inl, inr, pos}
use Rattle.std.specs.Prelude.{◌⊎◌, All, Contains}
use Rattle.std.proofs.lemmas.Bool.{false≢true, and_parts}
use Rattle.std.proofs.lemmas.List.Elements.{All-head, All-tail}
use Rattle.jz_tree.specs.Span.{Span}
use Rattle.jz_tree.specs.Size.{Size}
use Rattle.jz_tree.specs.declared.expr.Expr.{Expr}
use Rattle.jz_tree.specs.declared.expr.Decl.{Decl}
use Rattle.jz_tree.specs.declared.expr.Var.{Var}
use Rattle.jz_tree.specs.declared.expr.Expr.TheOpen.{Ty-F}
use Rattle.jz_tree.specs.declared.expr.Expr.TheViews.{out-Expr, out-Ty}
use Rattle.jz_tree.specs.declared.stmt.Lval.{Lval}
use Rattle.jz_tree.specs.declared.stmt.Lval.TheVariants as lval
use Rattle.jz_tree.specs.declared.program.Param.{Param}
use Rattle.jz_tree.specs.declared.program.Ret.{Ret}
use Rattle.jz_type_names.specs.declared.kinds.Kind as known
use Rattle.jz_type_names.specs.declared.kinds.Kind.TheVariants as scope
use Rattle.jz_type_names.specs.Kinds.{kind_step, kind_of, number_layer, length_written, written_length, same_storage, same_kind, declared_of, whole_array}
use Rattle.jz_type_names.specs.Kinds as names
use Rattle.jz_type_storage.specs.Declarations.{may_return}
use Rattle.jz_type_sizes.specs.Calls.{same_length, agrees}
use Rattle.jz_judgement.specs.Places as place
use Rattle.jz_judgement.specs.Lefts.{Holds}
use Rattle.jz_judgement.specs.WellTyped.{InPairs, none, next, PassedAs, PassedBy, Passed, GivenAs, Given, Returned}
use Rattle.jz_judgement.proofs.Nothing.{size_same}
use Rattle.jz_meaning.specs.declared.access.Kind as meant
use Rattle.jz_meaning.specs.declared.access.Kind.TheVariants as kind
use Rattle.jz_meaning.specs.declared.value.Stuck as code
use Rattle.jz_meaning.specs.declared.value.Why.TheVariants.{Init}
use Rattle.jz_meaning.specs.Rules.{went}
use Rattle.jz_meaning.specs.Attempts.{and_then, defined}
use Rattle.jz_meaning.specs.States.{Value, word, boolean, integer, Store, put, State}
use Rattle.jz_meaning.specs.Values.{size_of, Ref, key_of, variable_value, array_kind, ref_of}
use Rattle.jz_meaning.specs.Assignments.{held, written}
use Rattle.jz_meaning.specs.Statements.{array_layer, array_passed, passed as pass, all_passed, given, all_given}
use Rattle.jz_run_laws.specs.Kinds.{kind_at, FitsSize, IsOfKind, HoldsKinds, IsOfKinds}
use Rattle.jz_run_laws.specs.DeclaredKinds.{kinds_of, LeftDeclared}
use Rattle.jz_run_laws.specs.Kept.{IfWent}
use Rattle.jz_run_laws.specs.Values.{IsAt}
use Rattle.jz_run_laws.proofs.Parts.{went_then, went_defined}
use Rattle.jz_run_laws.proofs.Expressions.{StoreFits}
use Rattle.jz_run_laws.proofs.Stores.{store_fits}
use Rattle.jz_run_laws.proofs.LeftSides.{written_keeps}
use Rattle.jz_texts.specs.Declared.{IsCountedDecl}
use Rattle.jz_typed_runs.proofs.KindsOf.{TyLayer, kind_by, kind_some, decl_is}
use Rattle.jz_typed_runs.proofs.Declaring.{IsKept, var_layer}
use Rattle.jz_typed_runs.proofs.Calling.{no_truth_returned, no_int_returned}
use Rattle.jz_typed_runs.proofs.OperatorCauses.{IfStuck}
use Rattle.jz_typed_runs.proofs.Causing.{stuck_first, stuck_then}
use Rattle.jz_stuck_runs.specs.Parts.{IsGiven, gives, gives_later}
use Rattle.jz_stuck_runs.specs.Lacking.{IsLacking}
use Rattle.jz_stuck_runs.proofs.Steps.{Lacks, weaker, stuck_any, first_in, later_in}
use Rattle.jz_stuck_runs.proofs.Expressions.{HasKept, after}
use Rattle.jz_stuck_runs.proofs.LeftSides.{IsLeft, LeftLacks, held_word, held_bool, held_number, fine_holds}

-- ---- declarations of arrays
abbrev Counts : TyLayer → Type 0
Counts x = (z : Size) → kind_step x ≡ scope.Array z → (n : ℕ) × (length_written x ≡ Some (pos n))

counts_of : (d : Decl) → IsCountedDecl d → Counts (out-Ty d.ty)
counts_of d h z e = ((h z e).count, (h z e).written)

-- ---- arguments
module _ (declared callee : List ℕ → Option Decl) (s : State) (h : IsOfKinds (kinds_of declared) s) where
  -- one of them lacks a value
  pub record OneLacks (es : List Expr) (w : code.Stuck) : Type 0 where
    pub argument : Expr
    pub of_call : Contains es argument
    pub lacks : IsLacking argument s w

  abbrev D : Expr → code.Stuck → Type 0
  D e = IsLacking e s

  put_held : (C : code.Stuck → Type 0) (k : meant.Kind) (p : Ref) (v : Value) (inner : Store) → IfStuck C (held p.span k v) → IfStuck C (and_then (held p.span k v) (λ h. went [] (put inner (key_of p) (Some h))))
  put_held C k p v inner g = stuck_any C (held p.span k v) (λ h. went [] (put inner (key_of p) (Some h))) g (λ h. tt)

  array_there : (at : Span) (z : Size) (n : ℕ) (p : Ref) (e : Expr) (v : Var) (inner : Store) → names.array_of e ≡ Some v → IfStuck (Lacks (D e)) (pass at (kind.Array z n) p e s inner)
  array_there at z n p e v inner is =
      subst (λ o. IfStuck (Lacks (D e)) (array_passed at n p o s.store inner)) (sym (ap array_layer (var_layer declared (out-Expr e) v is))) tt

  passed_by : (x : TyLayer) (d : Decl) (at : Span) (p : Ref) (e : Expr) (inner : Store) → HasKept declared e → Counts x → PassedAs (kind_step x) d e → IfStuck (Lacks (D e)) (pass at (kind_by x) p e s inner)
  passed_by Ty-F.Int d at p e inner a c t =
      after declared s h (D e) e place.integer None (λ v. and_then (held p.span kind.Int v) (λ h. went [] (put inner (key_of p) (Some h)))) a t tt (λ u l. l)
      (λ ns v is q. put_held (Lacks (D e)) kind.Int p v inner (held_number declared (D e) p.span kind.Int v refl q))
  passed_by Ty-F.Ty::Bool d at p e inner a c t =
      after declared s h (D e) e place.truth None (λ v. and_then (held p.span kind.Bool v) (λ h. went [] (put inner (key_of p) (Some h)))) a t tt (λ u l. l)
      (λ ns v is q. put_held (Lacks (D e)) kind.Bool p v inner (held_bool declared (D e) p.span kind.Bool v refl q))
  passed_by (Ty-F.Word z) d at p e inner a c t =
      after declared s h (D e) e (place.word z) (Some z) (λ v. and_then (held p.span (kind.Word z) v) (λ h. went [] (put inner (key_of p) (Some h)))) a t refl (λ u l. l)
      (λ ns v is q. put_held (Lacks (D e)) (kind.Word z) p v inner (held_word declared (D e) p.span (kind.Word z) z v refl q))
  passed_by (Ty-F.Array z n) d at p e inner a c t =
      let m = c z refl in
      subst (λ k. IfStuck (Lacks (D e)) (pass at k p e s inner)) (sym (ap (array_kind z) m.1)) (array_there at z m.0 p e t.0 inner t.1)

  passed_fine : (at : Span) (p : Param) (e : Expr) (inner : Store) → IsKept callee p.var → Passed p e → HasKept declared e → IfStuck (Lacks (D e)) (pass at (ref_of p.var).kind (ref_of p.var) e s inner)
  passed_fine at p e inner k t a =
      subst (λ m. IfStuck (Lacks (D e)) (pass at m (ref_of p.var) e s inner)) (sym (kind_some p.var k.decl k.some ∙ decl_is k.decl))
      (passed_by (out-Ty k.decl.ty) k.decl at (ref_of p.var) e inner a (counts_of k.decl k.counted) (subst (λ o. PassedBy o e) k.some t))

  pub all_passed_fine : (at : Span) {ps : List Param} {es : List Expr} (inner : Store) → InPairs Passed ps es → All (λ p. IsKept callee p.var) ps → All (HasKept declared) es → IfStuck (Lacks (OneLacks es)) (all_passed at ps es s inner)
  all_passed_fine at inner none k a = tt
  all_passed_fine at inner (next {a = p} {b = e} {as' = ps} {bs = es} t ts) k a =
      let C : code.Stuck → Type 0 = Lacks (OneLacks (e ∷ es)) in
      stuck_any C (pass at (ref_of p.var).kind (ref_of p.var) e s inner) (all_passed at ps es s)
      (weaker (Lacks (D e)) C (pass at (ref_of p.var).kind (ref_of p.var) e s inner) (λ w c i. record { argument = e; of_call = first_in e es; lacks = c i })
      (passed_fine at p e inner (All-head (λ p. IsKept callee p.var) p ps k) t (All-head (HasKept declared) e es a)))
      (λ x. weaker (Lacks (OneLacks es)) C (all_passed at ps es s x) (λ w c i. (let y = c i in record { argument = y.argument; of_call = later_in e es y.argument y.of_call; lacks = y.lacks }))
      (all_passed_fine at x ts (All-tail (λ p. IsKept callee p.var) p ps k) (All-tail (HasKept declared) e es a)))

-- ---- results
-- a result has the kind that the function says
abbrev SameResult : known.Kind → meant.Kind → Type 0
SameResult scope.Int m = Unit {0}
SameResult scope.Truth m = Unit {0}
SameResult (scope.Word z) m = m ≡ kind.Word z
SameResult (scope.Array z) m = (y : Size) × (n : ℕ) × (m ≡ kind.Array y n)

word_again : (z : Size) (x : TyLayer) → same_kind (scope.Word z) (kind_step x) ≡ true → kind_by x ≡ kind.Word z
word_again z Ty-F.Int e = absurd (false≢true e)
word_again z Ty-F.Ty::Bool e = absurd (false≢true e)
word_again z (Ty-F.Word y) e = ap (λ x. kind.Word x) (sym (size_same z y e))
word_again z (Ty-F.Array y n) e = absurd (false≢true e)

array_again : (z : Size) (x : TyLayer) → Counts x → same_kind (scope.Array z) (kind_step x) ≡ true → SameResult (scope.Array z) (kind_by x)
array_again z Ty-F.Int c e = absurd (false≢true e)
array_again z Ty-F.Ty::Bool c e = absurd (false≢true e)
array_again z (Ty-F.Word y) c e = absurd (false≢true e)
array_again z (Ty-F.Array y n) c e = let m = c y refl in (y, m.0, ap (array_kind y) m.1)

kind_again : (k : known.Kind) (x : TyLayer) → Counts x → same_kind k (kind_step x) ≡ true → SameResult k (kind_by x)
kind_again scope.Int x c e = tt
kind_again scope.Truth x c e = tt
kind_again (scope.Word z) x c e = word_again z x e
kind_again (scope.Array z) x c e = array_again z x c e

module _ (declared callee : List ℕ → Option Decl) (inner : Store) (held_there : HoldsKinds (kinds_of callee) inner) where
  -- the variable of the callee holds nothing, or the left side lacks a value
  abbrev pub Missing : Lval → Var → State → code.Stuck → Type 0
  Missing d x s w = ((inner (key_of (ref_of x)) ≡ None) × (w ≡ record { span = (ref_of x).span; why = Init })) ⊎ LeftLacks d s w

  word_read : (z : Size) (v : Value) → IsOfKind (kind.Word z) v → IsAt (place.word z) v
  word_read z (word y a) k = k.0
  word_read z (boolean c) k = absurd k
  word_read z (integer i) k = absurd k

  module _ (s : State) (h : IsOfKinds (kinds_of declared) s) where
    read_then : (z : Size) (d : Lval) (x : Var) (o : Option Value) → inner (key_of (ref_of x)) ≡ o → ((v : Value) → o ≡ Some v → IfStuck (Lacks (LeftLacks d s)) (written (Some z) d (Some v) s))
        → IfStuck (Lacks (Missing d x s)) (and_then (defined (ref_of x).span o) (λ v. written (Some z) d (Some v) s))
    read_then z d x None e f = λ i. inl (e, refl)
    read_then z d x (Some v) e f =
        stuck_first (Lacks (Missing d x s)) [] (written (Some z) d (Some v) s)
        (weaker (Lacks (LeftLacks d s)) (Lacks (Missing d x s)) (written (Some z) d (Some v) s) (λ w c i. inr (c i)) (f v refl))

    given_word : (z : Size) (d : Lval) (x : Var) → IsLeft declared d → Holds (place.word z) d → (ref_of x).kind ≡ kind.Word z → kind_at (kinds_of callee) (key_of (ref_of x)) ≡ (ref_of x).kind
        → IfStuck (Lacks (Missing d x s)) (given (kind.Word z) (ref_of x) d inner s)
    given_word z (lval.Skip at) x l g e k = tt
    given_word z d x l g e k =
        read_then z d x (inner (key_of (ref_of x))) refl
        (λ v is. fine_holds declared s h d (place.word z) (Some z) v l g refl (word_read z v (subst (λ m. IsOfKind m v) (k ∙ e) (held_there (key_of (ref_of x)) v is))))

    given_kind : (z : Size) (d : Lval) (x : Var) → IsLeft declared d → Holds (place.word z) d → (ref_of x).kind ≡ kind.Word z → kind_at (kinds_of callee) (key_of (ref_of x)) ≡ (ref_of x).kind
        → IfStuck (Lacks (Missing d x s)) (given (ref_of x).kind (ref_of x) d inner s)
    given_kind z d x l g e k = subst (λ m. IfStuck (Lacks (Missing d x s)) (given m (ref_of x) d inner s)) (sym e) (given_word z d x l g e k)

    array_given : (y : Size) (n : ℕ) (d : Lval) (x : Ref) (C : code.Stuck → Type 0) → IfStuck C (given (kind.Array y n) x d inner s)
    array_given y n (lval.Skip at) x C = tt
    array_given y n d x C = tt

    given_array : (y : Size) (n : ℕ) (d : Lval) (x : Var) → (ref_of x).kind ≡ kind.Array y n → IfStuck (Lacks (Missing d x s)) (given (ref_of x).kind (ref_of x) d inner s)
    given_array y n d x e = subst (λ m. IfStuck (Lacks (Missing d x s)) (given m (ref_of x) d inner s)) (sym e) (array_given y n d (ref_of x) (Lacks (Missing d x s)))

    given_by : (k : known.Kind) (r : Ret) (d : Lval) (x : Var) → may_return r.decl.storage k ≡ true → GivenAs k r.decl d → SameResult k (ref_of x).kind → (whole_array d ≡ None → IsLeft declared d)
        → kind_at (kinds_of callee) (key_of (ref_of x)) ≡ (ref_of x).kind → IfStuck (Lacks (Missing d x s)) (given (ref_of x).kind (ref_of x) d inner s)
    given_by scope.Int r d x m t e l k = absurd (no_int_returned r.decl.storage m)
    given_by scope.Truth r d x m t e l k = absurd (no_truth_returned r.decl.storage m)
    given_by (scope.Word z) r d x m t e l k = given_kind z d x (l t.0) t.1 e k
    given_by (scope.Array z) r d x m t e l k = given_array e.0 e.1 d x e.2

    given_fine : (r : Ret) (d : Lval) (x : Var) → may_return r.decl.storage (kind_of r.decl.ty) ≡ true → Given r d → Returned r x → IsKept callee x → (whole_array d ≡ None → IsLeft declared d)
        → IfStuck (Lacks (Missing d x s)) (given (ref_of x).kind (ref_of x) d inner s)
    given_fine r d x m t w k l =
        let same : (same_storage r.decl.storage k.decl.storage && (same_kind (kind_of r.decl.ty) (kind_of k.decl.ty) && same_length (written_length r.decl) (written_length k.decl))) ≡ true =
        subst (λ o. agrees r.decl o ≡ true) k.some w in
        let a = and_parts (same_storage r.decl.storage k.decl.storage) (same_kind (kind_of r.decl.ty) (kind_of k.decl.ty) && same_length (written_length r.decl) (written_length k.decl)) same in
        let b = and_parts (same_kind (kind_of r.decl.ty) (kind_of k.decl.ty)) (same_length (written_length r.decl) (written_length k.decl)) a.1 in
        let c : SameResult (kind_of r.decl.ty) (kind_by (out-Ty k.decl.ty)) = kind_again (kind_of r.decl.ty) (out-Ty k.decl.ty) (counts_of k.decl k.counted) b.0 in
        given_by (kind_of r.decl.ty) r d x m t (subst (SameResult (kind_of r.decl.ty)) (sym (kind_some x k.decl k.some ∙ decl_is k.decl)) c) l k.own_kind

    -- ---- the state behind one
    given_keeps : (d : Lval) (x : Var) (k : meant.Kind) → LeftDeclared (kinds_of declared) d → IfWent (IsOfKinds (kinds_of declared)) (given k (ref_of x) d inner s)
    given_keeps (lval.Skip at) x k e = h
    given_keeps d x (kind.Array z n) e = h
    given_keeps d x k e =
        let f : StoreFits inner = store_fits (kinds_of callee) inner held_there in
        went_then FitsSize (IsOfKinds (kinds_of declared)) (variable_value (ref_of x) inner) (λ v. written (size_of k) d (Some v) s)
        (went_defined FitsSize (ref_of x).span (inner (key_of (ref_of x))) (f (key_of (ref_of x)))) (λ v q. written_keeps (kinds_of declared) (size_of k) d (Some v) s e q h)

  -- ---- all results
  pub record OneMissing (ds : List Lval) (xs : List Var) (s : State) (w : code.Stuck) : Type 0 where
    pub left : Lval
    pub variable : Var
    pub state : State
    pub reached : IsGiven inner ds xs s left variable state
    pub lacks : Missing left variable state w

  pub all_given_fine : (at : Span) {rs : List Ret} {ds : List Lval} {xs : List Var} (s : State) → InPairs Given rs ds → InPairs Returned rs xs → All (IsKept callee) xs → All (λ r. may_return r.decl.storage (kind_of r.decl.ty) ≡ true) rs
      → All (λ d. whole_array d ≡ None → IsLeft declared d) ds → All (LeftDeclared (kinds_of declared)) ds → IsOfKinds (kinds_of declared) s → IfStuck (Lacks (OneMissing ds xs s)) (all_given at ds xs inner s)
  all_given_fine at s none none k m l e h = tt
  all_given_fine at s (next {a = r} {b = d} {as' = rs} {bs = ds} t ts) (next {b = x} {bs = xs} w ws) k m l e h =
      let C : code.Stuck → Type 0 = Lacks (OneMissing (d ∷ ds) (x ∷ xs) s) in
      stuck_then C (IsOfKinds (kinds_of declared)) (given (ref_of x).kind (ref_of x) d inner s) (all_given at ds xs inner)
      (weaker (Lacks (Missing d x s)) C (given (ref_of x).kind (ref_of x) d inner s) (λ u c i. record { left = d; variable = x; state = s; reached = gives; lacks = c i })
      (given_fine s h r d x (All-head (λ (r : Ret). may_return r.decl.storage (kind_of r.decl.ty) ≡ true) r rs m) t w (All-head (IsKept callee) x xs k) (All-head (λ d. whole_array d ≡ None → IsLeft declared d) d ds l)))
      (given_keeps s h d x (ref_of x).kind (All-head (LeftDeclared (kinds_of declared)) d ds e))
      (λ ns u is q. weaker (Lacks (OneMissing ds xs u)) C (all_given at ds xs inner u)
      (λ v c i. (let y = c i in record { left = y.left; variable = y.variable; state = y.state; reached = gives_later is y.reached; lacks = y.lacks }))
      (all_given_fine at u ts ws (All-tail (IsKept callee) x xs k) (All-tail (λ (r : Ret). may_return r.decl.storage (kind_of r.decl.ty) ≡ true) r rs m)
      (All-tail (λ d. whole_array d ≡ None → IsLeft declared d) d ds l) (All-tail (LeftDeclared (kinds_of declared)) d ds e) q))
