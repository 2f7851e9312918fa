-- What a function of a typed program returns is a word or an array, so that a result is stuck only
-- where it holds nothing.
use Rattle.std.proofs.Common.{◌≡◌, inl, inr, ℕ, ℤ, true, ◌&&◌, List, [], ◌∷◌, Option, Some, None, refl, sym, ◌∙◌, subst}
use Rattle.std.specs.Prelude.{◌⊎◌, All, Contains, pos, negsuc}
use Rattle.std.proofs.lemmas.Bool.{false≢true, and_parts}
use Rattle.std.proofs.lemmas.List.Elements.{All-nil, All-cons, All-head, All-tail, All-contains, All-contains_itself}
use Rattle.jz_tree.specs.Size.{Size}
use Rattle.jz_tree.specs.Span.{Span}
use Rattle.jz_tree.specs.Memory.{Memory}
use Rattle.jz_tree.specs.declared.expr.Storage.{Storage}
use Rattle.jz_tree.specs.declared.expr.Decl.{Decl}
use Rattle.jz_tree.specs.declared.expr.Var.{Var}
use Rattle.jz_tree.specs.declared.expr.Expr.TheOpen.{Ty-F}
use Rattle.jz_tree.specs.declared.expr.Expr.TheViews.{out-Expr, out-Ty}
use Rattle.jz_tree.specs.declared.program.Fun.{Fun}
use Rattle.jz_tree.specs.declared.program.Ret.{Ret}
use Rattle.jz_tree.specs.declared.program.Program.{Program}
use Rattle.jz_type_names.specs.declared.kinds.Kind as known
use Rattle.jz_type_names.specs.declared.kinds.Kind.TheVariants as scope
use Rattle.jz_type_names.specs.Kinds.{kind_step, kind_of, declared_of, number_layer, written_length, same_storage, same_kind}
use Rattle.jz_type_names.proofs.Empty.{passed}
use Rattle.jz_type_sizes.specs.Calls.{same_length, agrees}
use Rattle.jz_type_storage.specs.Declarations.{may_return, is_returned, unkept_ret}
use Rattle.jz_judgement.specs.WellTyped.{InPairs, none, next, Returned}
use Rattle.jz_types.specs.Carried.{declared_in}
use Rattle.jz_meaning.specs.RunLeaks.{Leak}
use Rattle.jz_meaning.specs.Rules.{stuck, went, End, Stuck, Goes}
use Rattle.jz_meaning.specs.declared.access.Kind.{Kind}
use Rattle.jz_meaning.specs.declared.access.Kind.TheVariants as kind
use Rattle.jz_meaning.specs.declared.value.Stuck as code
use Rattle.jz_meaning.specs.declared.value.Why.TheVariants.{Init}
use Rattle.jz_meaning.specs.Attempts.{Evaluation, and_then, defined}
use Rattle.jz_meaning.specs.States.{Value, word, boolean, integer, Store, State}
use Rattle.jz_meaning.specs.Values.{key_of, array_kind, ref_of}
use Rattle.jz_meaning.specs.Statements.{source}
use Rattle.jz_meaning.specs.Runs.{only_word, result_word, result_words, entry_state, body_of, IsRun}
use Rattle.jz_run_laws.specs.Kinds.{kind_at, IsOfKind, HoldsKinds, HoldsBytes, IsOfKinds}
use Rattle.jz_run_laws.specs.DeclaredKinds.{kinds_of}
use Rattle.jz_run_laws.specs.Texts.{FunctionDeclared}
use Rattle.jz_run_laws.proofs.Functions.{bodies_keep, entries_keep}
use Rattle.jz_run_laws.proofs.Texts.{texts_declare}
use Rattle.jz_typed_runs.specs.TypedTexts.{IsTypedText, kinds_in}
use Rattle.jz_typed_runs.specs.Stuck.{StopsAt, StopsBehind, EndsUnset, UnsetLaw}
use Rattle.jz_typed_runs.proofs.KindsOf.{TyLayer, kind_by, kind_some, decl_is}
use Rattle.jz_typed_runs.proofs.Declaring.{IsKept, declared_law}
use Rattle.jz_typed_runs.proofs.Calling.{no_truth_returned, no_int_returned}
use Rattle.jz_typed_runs.proofs.Numbers.{IsCallee, callees}
use Rattle.jz_typed_runs.proofs.Stopping.{stuck_law}

-- ---- what is returned holds neither truth values nor integers
abbrev HoldsWords : Kind → Type 0
HoldsWords kind.Undeclared = Unit {0}
HoldsWords kind.Int = ⊥
HoldsWords kind.Bool = ⊥
HoldsWords (kind.Word z) = Unit {0}
HoldsWords (kind.Array z n) = Unit {0}

array_holds : (z : Size) (o : Option ℤ) → HoldsWords (array_kind z o)
array_holds z None = tt
array_holds z (Some (pos n)) = tt
array_holds z (Some (negsuc n)) = tt

layer_holds : (s : Storage) (k : known.Kind) (x : TyLayer) → may_return s k ≡ true → same_kind k (kind_step x) ≡ true → HoldsWords (kind_by x)
layer_holds s scope.Int x h e = absurd (no_int_returned s h)
layer_holds s scope.Truth x h e = absurd (no_truth_returned s h)
layer_holds s (scope.Word z) Ty-F.Int h e = absurd (false≢true e)
layer_holds s (scope.Word z) Ty-F.Ty::Bool h e = absurd (false≢true e)
layer_holds s (scope.Word z) (Ty-F.Word y) h e = tt
layer_holds s (scope.Word z) (Ty-F.Array y n) h e = absurd (false≢true e)
layer_holds s (scope.Array z) Ty-F.Int h e = absurd (false≢true e)
layer_holds s (scope.Array z) Ty-F.Ty::Bool h e = absurd (false≢true e)
layer_holds s (scope.Array z) (Ty-F.Word y) h e = absurd (false≢true e)
layer_holds s (scope.Array z) (Ty-F.Array y n) h e = array_holds y (number_layer (out-Expr n))

module _ (declared : List ℕ → Option Decl) where
  record IsResult (v : Var) : Type 0 where
    pub own : kind_at (kinds_of declared) (key_of (ref_of v)) ≡ (ref_of v).kind
    pub words : HoldsWords (ref_of v).kind

  result_so : (r : Ret) (v : Var) → IsKept declared v → may_return r.decl.storage (kind_of r.decl.ty) ≡ true → Returned r v → IsResult v
  result_so r v k kept t =
      let same : (same_storage r.decl.storage k.decl.storage && (same_kind (kind_of r.decl.ty) (kind_of k.decl.ty) && same_length (written_length r.decl) (written_length k.decl))) ≡ true =
      subst (λ o. agrees r.decl o ≡ true) k.some t in
      let a = and_parts (same_storage r.decl.storage k.decl.storage) (same_kind (kind_of r.decl.ty) (kind_of k.decl.ty) && same_length (written_length r.decl) (written_length k.decl)) same in
      let b = and_parts (same_kind (kind_of r.decl.ty) (kind_of k.decl.ty)) (same_length (written_length r.decl) (written_length k.decl)) a.1 in
      record {
        own = k.own_kind;
        words = subst HoldsWords (sym (kind_some v k.decl k.some ∙ decl_is k.decl)) (layer_holds r.decl.storage (kind_of r.decl.ty) (out-Ty k.decl.ty) kept b.0);
      }

  results_so : (at : Span) {rs : List Ret} {vs : List Var} → InPairs Returned rs vs → All (IsKept declared) vs → All (λ r. unkept_ret at r ≡ []) rs → All IsResult vs
  results_so at none k u = All-nil IsResult
  results_so at (next {a = r} {b = v} {as' = rs} {bs = vs} t ts) k u =
      let kept : may_return r.decl.storage (kind_of r.decl.ty) ≡ true = passed (is_returned (declared_of r.decl)) at (All-head (λ r. unkept_ret at r ≡ []) r rs u) in
      All-cons IsResult v vs (result_so r v (All-head (IsKept declared) v vs k) kept t)
      (results_so at ts (All-tail (IsKept declared) v vs k) (All-tail (λ r. unkept_ret at r ≡ []) r rs u))

  -- ---- a result that is stuck
  abbrev Reason : Var → code.Stuck
  Reason v = record { span = (ref_of v).span; why = Init }

  record Lacks (vs : List Var) (store : Store) (w : code.Stuck) : Type 0 where
    pub variable : Var
    pub of_result : Contains vs variable
    pub unset : store (key_of (ref_of variable)) ≡ None
    pub told : w ≡ Reason variable

  abbrev IfOne : Var → Store → Evaluation Value → Type 0
  IfOne v store (went ns x) = Unit {0}
  IfOne v store (stuck w) = (store (key_of (ref_of v)) ≡ None) × (w ≡ Reason v)

  abbrev IfLacks : List Var → Store → Evaluation (List Value) → Type 0
  IfLacks vs store (went ns xs) = Unit {0}
  IfLacks vs store (stuck w) = Lacks vs store w

  abbrev IsWordValue : Value → Type 0
  IsWordValue (word z a) = Unit {0}
  IsWordValue (boolean c) = ⊥
  IsWordValue (integer i) = ⊥

  word_value : (k : Kind) (x : Value) → HoldsWords k → IsOfKind k x → IsWordValue x
  word_value kind.Undeclared x n h = absurd h
  word_value kind.Int x n h = absurd n
  word_value kind.Bool x n h = absurd n
  word_value (kind.Word z) (word y a) n h = tt
  word_value (kind.Word z) (boolean c) n h = absurd h
  word_value (kind.Word z) (integer i) n h = absurd h
  word_value (kind.Array z m) x n h = absurd h

  one_by : (v : Var) (store : Store) (o : Option Value) → store (key_of (ref_of v)) ≡ o → ((x : Value) → o ≡ Some x → IsWordValue x)
      → IfOne v store (and_then (defined (ref_of v).span o) (only_word (ref_of v).span))
  one_by v store None e h = (e, refl)
  one_by v store (Some (word z a)) e h = tt
  one_by v store (Some (boolean c)) e h = absurd (h (boolean c) refl)
  one_by v store (Some (integer i)) e h = absurd (h (integer i) refl)

  one_lacks : (v : Var) (store : Store) → IsResult v → HoldsKinds (kinds_of declared) store → IfOne v store (result_word v store)
  one_lacks v store r h =
      one_by v store (store (key_of (ref_of v))) refl
      (λ x e. word_value (ref_of v).kind x r.words (subst (λ k. IsOfKind k x) r.own (h (key_of (ref_of v)) x e)))

  with_rest : (v : Var) (vs : List Var) (store : Store) (one : Evaluation Value) (rest : Evaluation (List Value)) → IfOne v store one → IfLacks vs store rest
      → IfLacks (v ∷ vs) store (and_then one (λ x. and_then rest (λ xs. went [] (x ∷ xs))))
  with_rest v vs store (stuck w) rest o r =
      record { variable = v; of_result = All-head (Contains (v ∷ vs)) v vs (All-contains_itself (v ∷ vs)); unset = o.0; told = o.1 }
  with_rest v vs store (went ns x) (stuck w) o r =
      record {
        variable = r.variable;
        of_result = All-contains (Contains (v ∷ vs)) vs r.variable (All-tail (Contains (v ∷ vs)) v vs (All-contains_itself (v ∷ vs))) r.of_result;
        unset = r.unset;
        told = r.told;
      }
  with_rest v vs store (went ns x) (went ms xs) o r = tt

  results_lack : (vs : List Var) (store : Store) → All IsResult vs → HoldsKinds (kinds_of declared) store → IfLacks vs store (result_words vs store)
  results_lack [] store r h = tt
  results_lack (v ∷ vs) store r h =
      with_rest v vs store (result_word v store) (result_words vs store) (one_lacks v store (All-head IsResult v vs r) h) (results_lack vs store (All-tail IsResult v vs r) h)

-- ---- runs
module _ (q : Program) (f : Fun) (words : List Value) (memory : Memory) (n : ℕ) (w : code.Stuck) (typed : IsTypedText q) (bytes : HoldsBytes memory) (run : IsRun q f words memory n (Stuck w)) where
  ends_kept : (s : State) (m : ℕ) (l : Leak) → Goes source (body_of q f) n (entry_state f words memory) (End s m l) → IsOfKinds (kinds_in q f) s
  ends_kept s m l g =
      let all = declared_law q typed in
      let has = run.input.of_program in
      let d = All-contains (λ z. FunctionDeclared q.funs (kinds_in q z) z) q.funs f all has in
      bodies_keep (kinds_in q f) (body_of q f) n (entry_state f words memory) (End s m l) (texts_declare (kinds_in q) q f all has)
      (entries_keep (kinds_in q f) q f words memory d.params run.input bytes) g

  results_are : All (IsResult (declared_in q f)) f.result
  results_are =
      let c = All-contains (IsCallee q) q.funs f (callees q typed) run.input.of_program in
      results_so (declared_in q f) f.span c.well.0 c.results c.returned

  behind : StopsBehind q f words memory n w → EndsUnset q f words memory n w
  behind b =
      let k : Lacks (declared_in q f) f.result b.state.store w =
      subst (IfLacks (declared_in q f) f.result b.state.store) b.is_stuck
      (results_lack (declared_in q f) f.result b.state.store results_are (ends_kept b.state b.left b.leak b.goes).variables) in
      record {
        state = b.state;
        left = b.left;
        leak = b.leak;
        goes = b.goes;
        variable = k.variable;
        of_result = k.of_result;
        unset = k.unset;
        told = k.told;
      }

  either : StopsAt q f words memory n w ⊎ StopsBehind q f words memory n w → StopsAt q f words memory n w ⊎ EndsUnset q f words memory n w
  either (inl a) = inl a
  either (inr b) = inr (behind b)

pub unset_law : UnsetLaw
unset_law q f words memory n w typed bytes run = either q f words memory n w typed bytes run (stuck_law q f words memory n w bytes run)
