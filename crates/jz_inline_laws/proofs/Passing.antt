-- What typing gives of inline variables in a call: its arguments and its results.
use Rattle.std.proofs.Common.{◌≡◌, List, [], ◌∷◌, Some, None, Bool, true, false, refl, ap, sym, ◌∙◌, subst, inl, inr, if◌then◌else◌}
use Rattle.std.specs.Prelude.{◌⊎◌, All, is_none, option_map}
use Rattle.std.proofs.lemmas.Bool.{false≢true}
use Rattle.std.proofs.lemmas.List.Elements.{All-nil, All-cons, All-head, All-tail}
use Rattle.jz_tree.specs.Size.{Size}
use Rattle.jz_tree.specs.declared.expr.Storage.{Storage}
use Rattle.jz_tree.specs.declared.expr.Storage.TheVariants as storage
use Rattle.jz_tree.specs.declared.expr.Expr.{Expr}
use Rattle.jz_tree.specs.declared.expr.Decl.{Decl}
use Rattle.jz_tree.specs.declared.expr.Var.{Var}
use Rattle.jz_tree.specs.declared.expr.Expr.TheOpen.{Expr-F}
use Rattle.jz_tree.specs.declared.expr.Expr.TheViews.{out-Expr}
use Rattle.jz_tree.specs.declared.stmt.Lval.{Lval}
use Rattle.jz_tree.specs.declared.stmt.Lval.TheVariants as lval
use Rattle.jz_tree.specs.declared.program.Fun.{Fun}
use Rattle.jz_tree.specs.declared.program.Param.{Param}
use Rattle.jz_tree.specs.declared.program.Ret.{Ret}
use Rattle.jz_tree.specs.declared.program.Program.{Program}
use Rattle.jz_type_names.specs.declared.kinds.Kind as known
use Rattle.jz_type_names.specs.declared.kinds.Kind.TheVariants as scope
use Rattle.jz_type_names.specs.Kinds as names
use Rattle.jz_type_names.specs.Kinds.{declared_of, known_of, kind_of, written_length, inline_int, is_inline_int, same_storage, whole_array}
use Rattle.jz_type_storage.specs.Declarations.{may_pass, may_return, is_returned}
use Rattle.jz_type_sizes.specs.Calls.{is_declared}
use Rattle.jz_judgement.specs.Places.{truth, word}
use Rattle.jz_judgement.specs.WellTyped as well
use Rattle.jz_judgement.specs.WellTyped.{InPairs, PassedAs, PassedBy, Passed, GivenAs, Given, Returned, IsSkip}
use Rattle.jz_judgement.proofs.Nothing.{none_not, same_some, size_same}
use Rattle.jz_types.specs.Carried.{vars_in}
use Rattle.jz_meaning.specs.Values.{ref_of}
use Rattle.jz_bodies.specs.Calls.{is_array}
use Rattle.jz_bodies.proofs.Variables.{IsVariable, array_is, plain_is, known_is}
use Rattle.jz_bodies.proofs.Passing.{declared_parts, word_same, array_passed, array_used}
use Rattle.jz_unroll.proofs.Layers.{Layer as ExprLayer}
use Rattle.jz_unrolling_laws.specs.AskedLaws.{has_named}
use Rattle.jz_unrolling_laws.specs.CalledBodies.{ByTest, inlines_of, IsNamedVar, IsNamedLeft, IsNamedArgument, AreNamedArguments, IsPlainLeft, AreNamedResults}
use Rattle.jz_inline_laws.specs.InlineParts.{inline_in, IsPlainVar, IsOtherLeft, PassesInline, passes_array, passes_number, passes_value, GivesInline, gives_array, gives_value, PassAll, GiveAll}
use Rattle.jz_inline_laws.proofs.ClearVars.{IsClear, inline_var, plain_var}
use Rattle.jz_inline_laws.proofs.NamedParts.{cells_plain, IsUsed, LeftIs, plain_left, word_left, named_var, expr_named, expr_text, named_left}
use Rattle.jz_inline_laws.proofs.Assigning.{number_is}

-- ---- tests

by_test : (b : Bool) (A B : Type 0) → (b ≡ true → A) → (b ≡ false → B) → ByTest b A B
by_test true A B f g = f refl
by_test false A B f g = g refl

-- ---- arrays

if_there : (v w : Var) (b : Bool) → (if b then Some v else None) ≡ Some w → b ≡ true
if_there v w true e = refl
if_there v w false e = absurd (none_not w e)

-- what stands for an array as an argument is one
layer_there : (x : ExprLayer) (v : Var) → names.array_layer x ≡ Some v → names.is_array (known_of v) ≡ true
layer_there (Expr-F.Var w) v e = by_known (names.is_array (known_of w)) refl e
  where
    by_known : (b : Bool) → names.is_array (known_of w) ≡ b → (if b then Some w else None) ≡ Some v → names.is_array (known_of v) ≡ true
    by_known true k e = ap (λ u. names.is_array (known_of u)) (sym (same_some w v e)) ∙ k
    by_known false k e = absurd (none_not v e)
layer_there (Expr-F.Num n at) v e = absurd (none_not v e)
layer_there (Expr-F.Expr::Bool b at) v e = absurd (none_not v e)
layer_there (Expr-F.Cell w i) v e = absurd (none_not v e)
layer_there (Expr-F.Load a) v e = absurd (none_not v e)
layer_there (Expr-F.Neg a at) v e = absurd (none_not v e)
layer_there (Expr-F.Not a at) v e = absurd (none_not v e)
layer_there (Expr-F.Cast z s a at) v e = absurd (none_not v e)
layer_there (Expr-F.Bin o a b at) v e = absurd (none_not v e)

array_there : (x : Expr) (v : Var) → names.array_of x ≡ Some v → names.is_array (known_of v) ≡ true
array_there x v e = layer_there (out-Expr x) v e

array_same : (z : Size) (k : known.Kind) → names.same_kind (scope.Array z) k ≡ true → k ≡ scope.Array z
array_same z scope.Int h = absurd (false≢true h)
array_same z scope.Truth h = absurd (false≢true h)
array_same z (scope.Word y) h = absurd (false≢true h)
array_same z (scope.Array y) h = ap (λ x. scope.Array x) (sym (size_same z y h))

-- ---- declarations

kept_array : (s : Storage) (z : Size) → inline_int s (scope.Array z) ≡ false
kept_array storage.Inline z = refl
kept_array storage.Reg z = refl
kept_array storage.Stack z = refl

kept_word : (s : Storage) (z : Size) → inline_int s (scope.Word z) ≡ false
kept_word storage.Inline z = refl
kept_word storage.Reg z = refl
kept_word storage.Stack z = refl

kept_truth : (s : Storage) → inline_int s scope.Truth ≡ false
kept_truth storage.Inline = refl
kept_truth storage.Reg = refl
kept_truth storage.Stack = refl

kept_int : (s : Storage) → may_pass s scope.Int ≡ true → inline_int s scope.Int ≡ true
kept_int storage.Inline e = refl
kept_int storage.Reg e = absurd (false≢true e)
kept_int storage.Stack e = absurd (false≢true e)

-- ---- an argument

module _ (q : Program) (f g : Fun) where
  abbrev E : Expr → Type 0
  E x = All (IsClear f) (vars_in x)

  -- one parameter of the callee
  pub record IsParam (p : Param) : Type 0 where
    pub clear : IsClear g p.var
    pub own : IsVariable q g p.var
    pub passed : may_pass clear.decl.storage (kind_of clear.decl.ty) ≡ true

  record Argument (p : Param) (x : Expr) : Type 0 where
    passes : PassesInline (inline_in f) (inline_in g) p x
    named : IsNamedArgument (inlines_of f) (inlines_of g) p.var x

  module _ (p : Param) (h : IsParam p) (x : Expr) (u : E x) where
    known_so : (k : known.Kind) → kind_of h.clear.decl.ty ≡ k → is_inline_int (known_of p.var) ≡ inline_int h.clear.decl.storage k
    known_so k e = ap (λ o. is_inline_int (option_map declared_of o)) h.clear.is ∙ ap (inline_int h.clear.decl.storage) e

    -- the declaration is one
    same_kind : kind_of h.own.decl.ty ≡ kind_of h.clear.decl.ty
    same_kind = ap (λ (d : names.Known). kind_in d) (sym (known_is q g p.var h.own) ∙ ap (option_map declared_of) h.clear.is)
      where
        kind_in : names.Known → known.Kind
        kind_in None = scope.Int
        kind_in (Some d) = d.kind

    scalar : (k : known.Kind) → kind_of h.clear.decl.ty ≡ k → names.is_array_kind k ≡ false → is_array (ref_of p.var).kind ≡ false
    scalar k e a = plain_is q g p.var h.own (ap names.is_array_kind (same_kind ∙ e) ∙ a)

    value_named : is_array (ref_of p.var).kind ≡ false → IsNamedArgument (inlines_of f) (inlines_of g) p.var x
    value_named a =
        by_test (is_array (ref_of p.var).kind) _ _ (λ t. absurd (false≢true (sym a ∙ t)))
        (λ t. (named_var g p.var h.clear, ap is_none h.clear.cell, expr_text f x u))

    valued : (k : known.Kind) → kind_of h.clear.decl.ty ≡ k → names.is_array_kind k ≡ false → inline_int h.clear.decl.storage k ≡ false → has_named (inline_in f) x ≡ true → Argument p x
    valued k e a i n = record {
      passes = passes_value (scalar k e a) (plain_var g p.var h.clear (known_so k e ∙ i)) n;
      named = value_named (scalar k e a);
    }

    argument_as : (k : known.Kind) → kind_of h.clear.decl.ty ≡ k → PassedAs k h.clear.decl x → Argument p x
    argument_as scope.Int e t = record {
      passes = passes_number (scalar scope.Int e refl) (inline_var g p.var h.clear (known_so scope.Int e ∙ kept_int h.clear.decl.storage (subst (λ k. may_pass h.clear.decl.storage k ≡ true) e h.passed))) (number_is f x t u);
      named = value_named (scalar scope.Int e refl);
    }
    argument_as scope.Truth e t = valued scope.Truth e refl (kept_truth h.clear.decl.storage) (expr_named f x truth t u)
    argument_as (scope.Word z) e t = valued (scope.Word z) e refl (kept_word h.clear.decl.storage z) (expr_named f x (word z) t u)
    argument_as (scope.Array z) e (v, is, same) =
        let kind = array_is q g p.var h.own z (same_kind ∙ e) in
        let a : is_array (ref_of p.var).kind ≡ true = ap is_array kind.1 in
        let c = array_used (IsClear f) x v is u in
        record {
          passes = passes_array a;
          named =
              by_test (is_array (ref_of p.var).kind) _ _
              (λ t. (ref_of v, array_passed x v is, c.named ∙ cells_plain (known_of v) (array_there x v is), h.clear.named ∙ (known_so (scope.Array z) e ∙ kept_array h.clear.decl.storage z)))
              (λ t. absurd (false≢true (sym t ∙ a)));
        }

    argument_is : Passed p x → Argument p x
    argument_is t = argument_as (kind_of h.clear.decl.ty) refl (subst (λ o. PassedBy o x) h.clear.is t)

  pub arguments_are : (ps : List Param) (xs : List Expr) → InPairs Passed ps xs → All IsParam ps → All E xs
      → PassAll (inline_in f) (inline_in g) ps xs × AreNamedArguments (inlines_of f) (inlines_of g) ps xs
  arguments_are [] [] well.none h u = (tt, tt)
  arguments_are [] (x ∷ xs) t h u = elim t [ ]
  arguments_are (p ∷ ps) [] t h u = elim t [ ]
  arguments_are (p ∷ ps) (x ∷ xs) (well.next t ts) h u =
      let a = argument_is p (All-head IsParam p ps h) x (All-head E x xs u) t in
      let r = arguments_are ps xs ts (All-tail IsParam p ps h) (All-tail E x xs u) in
      ((a.passes, r.0), (a.named, r.1))

  -- ---- a result

  -- one variable that the callee gives back
  pub record IsReturned (v : Var) : Type 0 where
    pub clear : IsClear g v
    pub own : IsVariable q g v

  record Result (d : Lval) (v : Var) : Type 0 where
    gives : GivesInline (inline_in f) (inline_in g) d v
    other : IsOtherLeft (inline_in f) d
    named : IsNamedLeft (inlines_of f) d × IsPlainLeft (inlines_of f) d × IsNamedVar (inlines_of g) v × (inlines_of g (ref_of v).name ≡ false)

  no_inline : (s t : Storage) (k : known.Kind) → may_return s k ≡ true → same_storage s t ≡ true → (j : known.Kind) → inline_int t j ≡ false
  no_inline storage.Inline t k r e j = absurd (false≢true r)
  no_inline storage.Reg storage.Reg k r e j = refl
  no_inline storage.Reg storage.Stack k r e j = refl
  no_inline storage.Reg storage.Inline k r e j = absurd (false≢true e)
  no_inline storage.Stack storage.Reg k r e j = refl
  no_inline storage.Stack storage.Stack k r e j = refl
  no_inline storage.Stack storage.Inline k r e j = absurd (false≢true e)

  -- what is given back is not inline
  pub result_plain : (c : Decl) (v : Var) (h : IsReturned v) → is_declared c v ≡ true → is_returned (declared_of c) ≡ true → is_inline_int (known_of v) ≡ false
  result_plain c v h same r =
      let parts = declared_parts q g c v h.own same in
      ap is_inline_int (known_is q g v h.own) ∙ no_inline c.storage h.own.decl.storage (kind_of c.ty) r parts.0 (kind_of h.own.decl.ty)

  module _ (c : Decl) (v : Var) (h : IsReturned v) (same : is_declared c v ≡ true) (r : is_returned (declared_of c) ≡ true) (d : Lval) (u : IsUsed f d) where
    plain : is_inline_int (known_of v) ≡ false
    plain = result_plain c v h same r

    left_plain : (d : Lval) → IsUsed f d → LeftIs f d → IsPlainLeft (inlines_of f) d
    left_plain (lval.Skip at) u l = tt
    left_plain (lval.Var x) u l = (All-head (IsClear f) x [] u.vars).named ∙ l
    left_plain (lval.Cell x i) u l = tt
    left_plain (lval.Store a) u l = tt

    named_all : IsPlainLeft (inlines_of f) d → IsNamedLeft (inlines_of f) d × IsPlainLeft (inlines_of f) d × IsNamedVar (inlines_of g) v × (inlines_of g (ref_of v).name ≡ false)
    named_all l = (named_left f d u, l, named_var g v h.clear, h.clear.named ∙ plain)

    valued_result : is_array (ref_of v).kind ≡ false → LeftIs f d → Result d v
    valued_result a l = record {
      gives = gives_value a (plain_var g v h.clear plain) (plain_left f d u l);
      other = plain_left f d u l;
      named = named_all (left_plain d u l);
    }

    array_left : (d : Lval) → IsUsed f d → IsSkip d ⊎ ((x : Var) × (whole_array d ≡ Some x) × (is_declared c x ≡ true)) → IsPlainLeft (inlines_of f) d
    array_left (lval.Skip at) u t = tt
    array_left (lval.Var x) u (inl t) = absurd t
    array_left (lval.Var x) u (inr (y, is, s)) = (All-head (IsClear f) x [] u.vars).named ∙ cells_plain (known_of x) (if_there x y (names.is_array (known_of x)) is)
    array_left (lval.Cell x i) u t = tt
    array_left (lval.Store a) u t = tt

    no_whole : (x : Var) → None ≡ Some x → ⊥
    no_whole x e = none_not x e

    array_other : (d : Lval) → IsUsed f d → IsSkip d ⊎ ((x : Var) × (whole_array d ≡ Some x) × (is_declared c x ≡ true)) → IsOtherLeft (inline_in f) d
    array_other (lval.Skip at) u t = tt
    array_other (lval.Var x) u (inl t) = absurd t
    array_other (lval.Var x) u (inr (y, is, s)) = plain_var f x (All-head (IsClear f) x [] u.vars) (cells_plain (known_of x) (if_there x y (names.is_array (known_of x)) is))
    array_other (lval.Cell x i) u (inl t) = absurd t
    array_other (lval.Cell x i) u (inr (y, is, s)) = absurd (no_whole y is)
    array_other (lval.Store a) u (inl t) = absurd t
    array_other (lval.Store a) u (inr (y, is, s)) = absurd (no_whole y is)

    no_integer : (s : Storage) → may_return s scope.Int ≡ true → ⊥
    no_integer storage.Inline e = false≢true e
    no_integer storage.Reg e = false≢true e
    no_integer storage.Stack e = false≢true e

    no_flag : (s : Storage) → may_return s scope.Truth ≡ true → ⊥
    no_flag storage.Inline e = false≢true e
    no_flag storage.Reg e = false≢true e
    no_flag storage.Stack e = false≢true e

    result_as : (k : known.Kind) → kind_of c.ty ≡ k → GivenAs k c d → Result d v
    result_as scope.Int e t = absurd (no_integer c.storage (subst (λ k. may_return c.storage k ≡ true) e r))
    result_as scope.Truth e t = absurd (no_flag c.storage (subst (λ k. may_return c.storage k ≡ true) e r))
    result_as (scope.Word z) e t =
        let parts = declared_parts q g c v h.own same in
        let k = word_same z (kind_of h.own.decl.ty) (subst (λ k. names.same_kind k (kind_of h.own.decl.ty) ≡ true) e parts.1) in
        valued_result (plain_is q g v h.own (ap names.is_array_kind k)) (word_left f d z t.1)
    result_as (scope.Array z) e t =
        let parts = declared_parts q g c v h.own same in
        let k = array_same z (kind_of h.own.decl.ty) (subst (λ k. names.same_kind k (kind_of h.own.decl.ty) ≡ true) e parts.1) in
        record {
          gives = gives_array (ap is_array (array_is q g v h.own z k).1);
          other = array_other d u t;
          named = named_all (array_left d u t);
        }

  result_is : (r : Ret) (d : Lval) (v : Var) → Given r d → Returned r v → is_returned (declared_of r.decl) ≡ true → IsReturned v → IsUsed f d → Result d v
  result_is r d v t same k h u = result_as r.decl v h same k d u (kind_of r.decl.ty) refl t

  pub results_are : (rs : List Ret) (ds : List Lval) (vs : List Var) → InPairs Given rs ds → InPairs Returned rs vs → All (λ r. is_returned (declared_of r.decl) ≡ true) rs → All IsReturned vs → All (IsUsed f) ds
      → GiveAll (inline_in f) (inline_in g) ds vs × AreNamedResults (inlines_of f) (inlines_of g) ds vs × All (IsOtherLeft (inline_in f)) ds
  results_are [] [] [] well.none well.none k h u = (tt, tt, All-nil (IsOtherLeft (inline_in f)))
  results_are [] (d ∷ ds) vs t s k h u = elim t [ ]
  results_are [] [] (v ∷ vs) t s k h u = elim s [ ]
  results_are (r ∷ rs) [] vs t s k h u = elim t [ ]
  results_are (r ∷ rs) (d ∷ ds) [] t s k h u = elim s [ ]
  results_are (r ∷ rs) (d ∷ ds) (v ∷ vs) (well.next t ts) (well.next s ss) k h u =
      let a = result_is r d v t s (All-head (λ r. is_returned (declared_of r.decl) ≡ true) r rs k) (All-head IsReturned v vs h) (All-head (IsUsed f) d ds u) in
      let b = results_are rs ds vs ts ss (All-tail (λ r. is_returned (declared_of r.decl) ≡ true) r rs k) (All-tail IsReturned v vs h) (All-tail (IsUsed f) d ds u) in
      ((a.gives, b.0), (a.named, b.1), All-cons (IsOtherLeft (inline_in f)) d ds a.other b.2)

  -- none of them is inline
  pub results_plain : (rs : List Ret) (vs : List Var) → InPairs Returned rs vs → All (λ r. is_returned (declared_of r.decl) ≡ true) rs → All IsReturned vs → All (IsPlainVar (inline_in g)) vs
  results_plain [] [] well.none k h = All-nil (IsPlainVar (inline_in g))
  results_plain [] (v ∷ vs) s k h = elim s [ ]
  results_plain (r ∷ rs) [] s k h = elim s [ ]
  results_plain (r ∷ rs) (v ∷ vs) (well.next s ss) k h =
      let a = All-head IsReturned v vs h in
      All-cons (IsPlainVar (inline_in g)) v vs (plain_var g v a.clear (result_plain r.decl v a s (All-head (λ r. is_returned (declared_of r.decl) ≡ true) r rs k)))
      (results_plain rs vs ss (All-tail (λ r. is_returned (declared_of r.decl) ≡ true) r rs k) (All-tail IsReturned v vs h))
