-- The arguments and results of a call of which nothing passes a limit have what unrolling asks for, and the callee's inline parameters have numbers.
use Rattle.std.proofs.Common.{◌≡◌, ℕ, ℤ, List, [], ◌∷◌, Some, None, Bool, true, false, refl, ap, sym, ◌∙◌, subst, inl, inr, if◌then◌else◌}
use Rattle.std.specs.Prelude.{is_some}
use Rattle.std.proofs.lemmas.Bool.{false≢true}
use Rattle.std.proofs.lemmas.List.Elements.{All-nil, All-cons}
use Rattle.jz_tree.specs.Span.{Span}
use Rattle.jz_tree.specs.declared.expr.Expr.{Expr}
use Rattle.jz_tree.specs.declared.expr.Expr.TheVariants as expr
use Rattle.jz_tree.specs.declared.expr.Var.{Var}
use Rattle.jz_tree.specs.declared.stmt.Lval.{Lval}
use Rattle.jz_tree.specs.declared.stmt.Lval.TheVariants as lval
use Rattle.jz_tree.specs.declared.program.Fun.{Fun}
use Rattle.jz_tree.specs.declared.program.Param.{Param}
use Rattle.jz_integers.specs.Integers.{KnownNumbers, the_number}
use Rattle.jz_integers.specs.declared.constant.Constant.TheVariants as constant
use Rattle.jz_meaning.specs.declared.access.Kind.{Kind}
use Rattle.jz_meaning.specs.declared.access.Kind.TheVariants as kind
use Rattle.jz_meaning.specs.Values.{ref_of}
use Rattle.jz_inline_laws.specs.Calls as called
use Rattle.jz_limits.specs.declared.limit.Limit.{Limit}
use Rattle.jz_limits.specs.declared.operands.Role.TheVariants as role
use Rattle.jz_limits.specs.Values.{is_int, with_number, number_in}
use Rattle.jz_limits.specs.Asked.{told, asked_if, left_access, asked}
use Rattle.jz_limits.specs.Walks.{is_array, copied_to, one_argument, argument_limits, with_argument, with_arguments, one_result, result_limits}
use Rattle.jz_unroll.specs.Values.{left_has_values}
use Rattle.jz_unroll.specs.Unrolling.{HasValue}
use Rattle.jz_inline_laws.specs.CalledBodies.{ByTest, inlines_of, FitsArgument, FitArguments, IsGiven, FitsResult, FitResults}
use Rattle.jz_inline_laws.specs.InlineParts.{inline_in, IsInlineVar, IsPlainVar, IsOtherLeft, IsInlineNumber, PassesInline, passes_array, passes_number, passes_value, GivesInline, gives_array, gives_value, PassAll, GiveAll}
use Rattle.jz_inline_laws.specs.InlineBodies.{HasInlineParam}
use Rattle.jz_inline_laws.proofs.ClearVars.{ints_same}
use Rattle.jz_walked_laws.proofs.Ones.{nothing_both}
use Rattle.jz_walked_laws.proofs.AskedParts.{number_known, expr_known, left_known, no_target, assign_asked}
use Rattle.jz_walked_laws.proofs.Knowing.{Keeps, keeps_same, keeps_on, keeps_number, at_itself}
use Rattle.jz_walked_laws.proofs.Operations.{target_asked}

-- ---- tests

by_true : (b : Bool) (A B : Type 0) → b ≡ true → A → ByTest b A B
by_true true A B e a = a
by_true false A B e a = absurd (false≢true e)

by_false : (b : Bool) (A B : Type 0) → b ≡ false → B → ByTest b A B
by_false true A B e a = absurd (false≢true (sym e))
by_false false A B e a = a

-- both have the same arrays
arrays_same : (k : Kind) → called.is_array k ≡ is_array k
arrays_same kind.Undeclared = refl
arrays_same kind.Int = refl
arrays_same kind.Bool = refl
arrays_same (kind.Word z) = refl
arrays_same (kind.Array z n) = refl

array_int : (k : Kind) → called.is_array k ≡ true → is_int k ≡ false
array_int kind.Undeclared e = refl
array_int kind.Int e = absurd (false≢true e)
array_int kind.Bool e = refl
array_int (kind.Word z) e = refl
array_int (kind.Array z n) e = refl

-- ---- arguments

module _ (f g : Fun) (e : KnownNumbers) where
  param_int : (p : Param) → IsInlineVar (inline_in g) p.var → is_int (ref_of p.var).kind ≡ true
  param_int p h = sym (ints_same (ref_of p.var).kind) ∙ h.number.int

  -- what is copied, where the parameter is no array
  copy_asked : (at : Span) (p : Param) (x : Expr) → called.is_array (ref_of p.var).kind ≡ false → one_argument e at p.var x ≡ [] → asked e (copied_to (lval.Var p.var) x at) ≡ []
  copy_asked at p x a t = subst (λ b. (if b then [] else asked e (copied_to (lval.Var p.var) x at)) ≡ []) (sym (arrays_same (ref_of p.var).kind) ∙ a) t

  number_copied : (at : Span) (p : Param) (x : Expr) → IsInlineVar (inline_in g) p.var → IsInlineNumber (inline_in f) x → asked e (copied_to (lval.Var p.var) x at) ≡ [] → (n : ℤ) × HasValue e x (constant.Int n)
  number_copied at p x h n t = number_known (inline_in f) e x n (target_asked g e p.var None x None at h t).0

  value_copied : (at : Span) (p : Param) (x : Expr) → IsPlainVar (inline_in g) p.var → asked e (copied_to (lval.Var p.var) x at) ≡ [] → (told e x).widths None ≡ []
  value_copied at p x h t =
      (assign_asked (inline_in g) e (lval.Var p.var ∷ []) None x None at (no_target (inline_in g) e (lval.Var p.var ∷ []) (All-cons (IsOtherLeft (inline_in g)) (lval.Var p.var) [] h (All-nil (IsOtherLeft (inline_in g))))) t).value

  -- the number that an inline parameter has
  pub record Passed (p : Param) (x : Expr) : Type 0 where
    pub fits : FitsArgument (inlines_of f) e p.var x
    pub number : is_int (ref_of p.var).kind ≡ true → (n : ℤ) × (number_in e x ≡ Some n)

  not_int : {A : Type 0} (p : Param) → is_int (ref_of p.var).kind ≡ false → is_int (ref_of p.var).kind ≡ true → A
  not_int p a b = absurd (false≢true (sym a ∙ b))

  passed : (at : Span) (p : Param) (x : Expr) → PassesInline (inline_in f) (inline_in g) p x → one_argument e at p.var x ≡ [] → Passed p x
  passed at p x (passes_array a) t = record {
    fits = by_true (called.is_array (ref_of p.var).kind) _ _ a tt;
    number = not_int p (array_int (ref_of p.var).kind a);
  }
  passed at p x (passes_number a h n) t =
      let k = number_copied at p x h n (copy_asked at p x a t) in
      record {
        fits = by_false (called.is_array (ref_of p.var).kind) _ _ a (by_true (is_int (ref_of p.var).kind) _ _ (param_int p h) (n.inline, k));
        number = λ i. (k.0, ap the_number k.1.1);
      }
  passed at p x (passes_value a h n) t = record {
    fits = by_false (called.is_array (ref_of p.var).kind) _ _ a (by_false (is_int (ref_of p.var).kind) _ _ h.kind (expr_known (inline_in f) e x n (value_copied at p x h (copy_asked at p x a t))));
    number = not_int p h.kind;
  }

  -- ---- all of them

  abbrev pub AllPassed : List Param → List Expr → Type 0
  AllPassed [] [] = Unit {0}
  AllPassed (p ∷ ps) (x ∷ xs) = Passed p x × AllPassed ps xs
  AllPassed _ _ = ⊥

  pub all_passed : (at : Span) (ps : List Param) (xs : List Expr) → PassAll (inline_in f) (inline_in g) ps xs → argument_limits e at ps xs ≡ [] → AllPassed ps xs
  all_passed at [] [] h t = tt
  all_passed at [] (x ∷ xs) h t = absurd h
  all_passed at (p ∷ ps) [] h t = absurd h
  all_passed at (p ∷ ps) (x ∷ xs) h t =
      let s = nothing_both (one_argument e at p.var x) (argument_limits e at ps xs) t in (passed at p x h.0 s.0, all_passed at ps xs h.1 s.1)

  pub all_fit : (ps : List Param) (xs : List Expr) → AllPassed ps xs → FitArguments (inlines_of f) e ps xs
  all_fit [] [] h = tt
  all_fit [] (x ∷ xs) h = absurd h
  all_fit (p ∷ ps) [] h = absurd h
  all_fit (p ∷ ps) (x ∷ xs) h = (h.0.fits, all_fit ps xs h.1)

  -- ---- what the callee begins with

  argument_keeps : (p : Param) (x : Expr) (inner : KnownNumbers) → Passed p x → Keeps inner (with_argument e p.var x inner)
  argument_keeps p x inner h = by_int (is_int (ref_of p.var).kind) refl
    where
      by_int : (b : Bool) → is_int (ref_of p.var).kind ≡ b → Keeps inner (if b then with_number inner p.var (number_in e x) else inner)
      by_int true i = let n = h.number i in subst (λ z. Keeps inner (with_number inner p.var z)) (sym n.1) (keeps_number inner p.var n.0)
      by_int false i = keeps_same inner

  arguments_keep : (ps : List Param) (xs : List Expr) (inner : KnownNumbers) → AllPassed ps xs → Keeps inner (with_arguments e ps xs inner)
  arguments_keep [] [] inner h = keeps_same inner
  arguments_keep [] (x ∷ xs) inner h = absurd h
  arguments_keep (p ∷ ps) [] inner h = absurd h
  arguments_keep (p ∷ ps) (x ∷ xs) inner h =
      let k = with_argument e p.var x inner in
      keeps_on inner k (with_arguments e ps xs k) (argument_keeps p x inner h.0) (arguments_keep ps xs k h.1)

  argument_given : (p : Param) (x : Expr) (inner : KnownNumbers) (n : List ℕ) → Passed p x → (ref_of p.var).name ≡ n → IsInlineVar (inline_in g) p.var → is_some (with_argument e p.var x inner n 0) ≡ true
  argument_given p x inner n h name v =
      let i = param_int p v in
      let z = h.number i in
      ap (λ b. is_some ((if b then with_number inner p.var (number_in e x) else inner) n 0)) i
      ∙ (ap (λ b. is_some (if b then number_in e x else inner n 0)) (at_itself p.var n v.copy name) ∙ ap is_some z.1)

  -- each inline parameter has a number
  pub parameters_given : (ps : List Param) (xs : List Expr) (inner : KnownNumbers) (n : List ℕ) → AllPassed ps xs → HasInlineParam (inline_in g) ps n → is_some (with_arguments e ps xs inner n 0) ≡ true
  parameters_given [] [] inner n h p = absurd p
  parameters_given [] (x ∷ xs) inner n h p = absurd h
  parameters_given (p ∷ ps) [] inner n h k = absurd h
  parameters_given (p ∷ ps) (x ∷ xs) inner n h (inl k) = arguments_keep ps xs (with_argument e p.var x inner) h.1 n 0 (argument_given p x inner n h.0 k.0 k.1)
  parameters_given (p ∷ ps) (x ∷ xs) inner n h (inr k) = parameters_given ps xs (with_argument e p.var x inner) n h.1 k

  -- ---- results

  left_given : (at : Span) (d : Lval) (v : Var) → IsOtherLeft (inline_in f) d → asked e (copied_to d (expr.Var v) at) ≡ [] → left_has_values (inline_in f) e d ≡ true
  left_given at d v h t =
      let one = All-cons (IsOtherLeft (inline_in f)) d [] h (All-nil (IsOtherLeft (inline_in f))) in
      let a = assign_asked (inline_in f) e (d ∷ []) None (expr.Var v) None at (no_target (inline_in f) e (d ∷ []) one) t in
      left_known (inline_in f) e d h (nothing_both (asked_if e role.Operand None (left_access d)).widths [] a.lefts).0

  is_given : (at : Span) (d : Lval) (v : Var) → GivesInline (inline_in f) (inline_in g) d v → (called.is_array (ref_of v).kind ≡ false → asked e (copied_to d (expr.Var v) at) ≡ []) → IsGiven (inlines_of f) e d v
  is_given at d v (gives_array a) t = by_true (called.is_array (ref_of v).kind) _ _ a tt
  is_given at d v (gives_value a h l) t = by_false (called.is_array (ref_of v).kind) _ _ a (left_given at d v l (t a))

  result_asked : (at : Span) (d : Lval) (v : Var) (ls : List Limit) → (if is_array (ref_of v).kind then [] else ls) ≡ [] → called.is_array (ref_of v).kind ≡ false → ls ≡ []
  result_asked at d v ls t a = subst (λ b. (if b then [] else ls) ≡ []) (sym (arrays_same (ref_of v).kind) ∙ a) t

  result_fits : (at : Span) (d : Lval) (v : Var) → GivesInline (inline_in f) (inline_in g) d v → one_result e at d v ≡ [] → FitsResult (inlines_of f) e d v
  result_fits at (lval.Skip s) v h t = tt
  result_fits at (lval.Var w) v h t = is_given at (lval.Var w) v h (result_asked at (lval.Var w) v _ t)
  result_fits at (lval.Cell w i) v h t = is_given at (lval.Cell w i) v h (result_asked at (lval.Cell w i) v _ t)
  result_fits at (lval.Store a) v h t = is_given at (lval.Store a) v h (result_asked at (lval.Store a) v _ t)

  pub results_fit : (at : Span) (ds : List Lval) (vs : List Var) → GiveAll (inline_in f) (inline_in g) ds vs → result_limits e at ds vs ≡ [] → FitResults (inlines_of f) e ds vs
  results_fit at [] [] h t = tt
  results_fit at [] (v ∷ vs) h t = absurd h
  results_fit at (d ∷ ds) [] h t = absurd h
  results_fit at (d ∷ ds) (v ∷ vs) h t =
      let s = nothing_both (one_result e at d v) (result_limits e at ds vs) t in (result_fits at d v h.0 s.0, results_fit at ds vs h.1 s.1)
