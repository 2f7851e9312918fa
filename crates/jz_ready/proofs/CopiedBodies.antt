-- A body whose calls are copies of what they call is fit by the kinds of the copies.
use Rattle.std.proofs.Common.{◌≡◌, ℕ, suc, ◌+◌, List, [], ◌∷◌, Some, None, Bool, true, false, ◌&&◌, refl, ap, sym, ◌∙◌, subst, bytes_eq, inl, inr}
use Rattle.std.specs.Prelude.{All, Contains, slice_get, if◌then◌else◌}
use Rattle.std.proofs.lemmas.Bool.{and_parts, false≢true}
use Rattle.std.proofs.lemmas.List.Elements.{All-nil, All-cons, All-head, All-tail, All-contains}
use Rattle.jz_tree.proofs.Texts.{bytes_eq-true}
use Rattle.jz_tree.specs.Span.{Span}
use Rattle.jz_tree.specs.declared.expr.Expr.{Expr}
use Rattle.jz_tree.specs.declared.expr.Expr.TheVariants as expr
use Rattle.jz_tree.specs.declared.expr.Var.{Var}
use Rattle.jz_tree.specs.declared.expr.Expr.TheOpen.{Expr-F}
use Rattle.jz_tree.specs.declared.stmt.Lval.{Lval}
use Rattle.jz_tree.specs.declared.stmt.Lval.TheVariants as lval
use Rattle.jz_tree.specs.declared.program.Fun.{Fun}
use Rattle.jz_tree.specs.declared.program.Param.{Param}
use Rattle.jz_tree.specs.declared.program.Program.{Program}
use Rattle.jz_runs.specs.Trees.{done, op, quiet, choose, loop, each, call}
use Rattle.jz_meaning.specs.Assignments.{as_expr}
use Rattle.jz_meaning.specs.Shapes.{Shape}
use Rattle.jz_meaning.specs.Statements.{Operation, Block, array_of}
use Rattle.jz_meaning.specs.Values.{ref_of}
use Rattle.jz_run_laws.specs.Kinds.{Kinds}
use Rattle.jz_typed_runs.specs.TypedTexts.{IsTypedText, kinds_in}
use Rattle.jz_bodies.specs.Scopes.{is_over}
use Rattle.jz_bodies.specs.Calls.{is_array, of_array, of_value, IsArgument, AreArguments, IsFixed, IsResult, AreResults}
use Rattle.jz_bodies.specs.Bodies.{IsBody}
use Rattle.jz_bodies.specs.Declared.{scopes_in}
use Rattle.jz_bodies.proofs.Whole as whole
use Rattle.jz_bodies.proofs.Whole.{all_known}
use Rattle.jz_pass.specs.Copying.{copies, inlined}
use Rattle.jz_pass.specs.Operations.{in_turn}
use Rattle.jz_scalars.specs.Names.{Names, var_in, expr_in, lval_in}
use Rattle.jz_scalars.specs.Calls.{name_or, callee_names, set_one, call_place, argument_ops, result_op, result_ops, names_of_callee, inline_calls}
use Rattle.jz_scalars.proofs.Reading.{over_is}
use Rattle.jz_scalars.proofs.Renaming.{in_var}
use Rattle.jz_arrays.specs.Arrays.{IsRead}
use Rattle.jz_ready.specs.CopiedKinds.{kind_in}
use Rattle.jz_ready.proofs.FixedParts.{IsFixedBody, shape_var, fixed_cell, fixed_load, access_shape_is}
use Rattle.jz_ready.proofs.FixedStatements.{own_sorts}
use Rattle.jz_ready.proofs.CopyNumbers.{Numbered}
use Rattle.jz_ready.proofs.FitParts.{FitIf, FitLeft, FitAssign, FitOperation, IsFit}
use Rattle.jz_ready.proofs.CopiedParts.{array_is, Follows, expr_fit, left_fit, operation_fit, test_fit}

in_turn_fit : (kinds : Kinds) (os : List Operation) (rest : Block) → All (FitOperation kinds) os → IsFit kinds rest → IsFit kinds (in_turn os rest)
in_turn_fit kinds [] rest h r = r
in_turn_fit kinds (o ∷ os) rest h r = (All-head (FitOperation kinds) o os h, in_turn_fit kinds os rest (All-tail (FitOperation kinds) o os h) r)

-- ---- a call of g in a body of f

module _ (p : Program) (kinds : Kinds) (f g : Fun) (kf : whole.IsKnown p f) (kg : whole.IsKnown p g) (outer : Names) (outer_follows : Follows p kinds f outer) where
  abbrev Args : List Param → List Expr → Type 0
  Args = AreArguments (scopes_in p f) (scopes_in p g)

  -- ---- names

  module _ (j : ℕ) (own : (n : List ℕ) → kinds n j ≡ kinds_in p g n 0) where
    -- the array that is passed has the kind of the parameter
    passed : (q : Param) (e : Expr) (n : List ℕ) → IsArgument (scopes_in p f) (scopes_in p g) (ref_of q.var) e → (bytes_eq (ref_of q.var).name n && is_array (ref_of q.var).kind) ≡ true
        → kinds (outer (name_or n (array_of e))).0 (outer (name_or n (array_of e))).1 ≡ kinds_in p g n 0
    passed q e n (of_value na nc rd fx st so) t = absurd (false≢true (sym na ∙ (and_parts (bytes_eq (ref_of q.var).name n) (is_array (ref_of q.var).kind) t).1))
    passed q e n (of_array {y} is ao yk ha s1 s2 hr) t =
        let name : (ref_of q.var).name ≡ n = bytes_eq-true (ref_of q.var).name n (and_parts (bytes_eq (ref_of q.var).name n) (is_array (ref_of q.var).kind) t).0 in
        ap (λ o. kinds (outer (name_or n o)).0 (outer (name_or n o)).1) ao
        ∙ (outer_follows y.name ∙ ((array_is p f kf y ha).kind ∙ (yk ∙ (sym is ∙ (sym (array_is p g kg (ref_of q.var) hr).kind ∙ ap (λ m. kinds_in p g m 0) name)))))

    named : (ps : List Param) (es : List Expr) → Args ps es → (n : List ℕ) → kinds (callee_names outer j ps es n).0 (callee_names outer j ps es n).1 ≡ kinds_in p g n 0
    named [] es h n = own n
    named (q ∷ ps) [] h n = own n
    named (q ∷ ps) (e ∷ es) h n = by_name (bytes_eq (ref_of q.var).name n && is_array (ref_of q.var).kind) refl (named ps es h.1 n)
      where
        by_name : (b : Bool) → (bytes_eq (ref_of q.var).name n && is_array (ref_of q.var).kind) ≡ b
            → kinds (callee_names outer j ps es n).0 (callee_names outer j ps es n).1 ≡ kinds_in p g n 0
            → kinds (if b then outer (name_or n (array_of e)) else callee_names outer j ps es n).0 (if b then outer (name_or n (array_of e)) else callee_names outer j ps es n).1 ≡ kinds_in p g n 0
        by_name true t later = passed q e n h.0 t
        by_name false t later = later

  -- ---- the copies of arguments and results

  module _ (inner : Names) (inner_follows : Follows p kinds g inner) where
    set_fit : (d : Lval) (e : Expr) (at : Span) → FitLeft kinds d → FitIf kinds (Some e) → FitAssign kinds (d ∷ []) None e None
    set_fit d e at l v = record { lefts = All-cons (FitLeft kinds) d [] l (All-nil (FitLeft kinds)); value = v; condition = (tt, tt); operation = tt }

    argument_fit : (q : Param) (e : Expr) (at : Span) → is_array (ref_of q.var).kind ≡ false → IsArgument (scopes_in p f) (scopes_in p g) (ref_of q.var) e → FitOperation kinds (set_one (lval.Var (var_in inner q.var)) (expr_in outer e) at)
    argument_fit q e at plain (of_array is ao yk ha s1 s2 hr) = absurd (false≢true (sym plain ∙ ap is_array is))
    argument_fit q e at plain (of_value na nc rd fx st so) =
        set_fit (lval.Var (var_in inner q.var)) (expr_in outer e) at
        (left_fit p kinds g kg inner inner_follows (lval.Var q.var) (st, so) (ap (λ (s : Shape). s.fixed) (shape_var (own_sorts p g) q.var)))
        (expr_fit p kinds f kf outer outer_follows e rd fx)

    arguments_fit : (ps : List Param) (es : List Expr) (at : Span) → Args ps es → All (FitOperation kinds) (argument_ops outer inner at ps es)
    arguments_fit [] es at h = All-nil (FitOperation kinds)
    arguments_fit (q ∷ ps) [] at h = All-nil (FitOperation kinds)
    arguments_fit (q ∷ ps) (e ∷ es) at h = by_kind (is_array (ref_of q.var).kind) refl (arguments_fit ps es at h.1)
      where
        by_kind : (b : Bool) → is_array (ref_of q.var).kind ≡ b → All (FitOperation kinds) (argument_ops outer inner at ps es)
            → All (FitOperation kinds) (if b then argument_ops outer inner at ps es else (set_one (lval.Var (var_in inner q.var)) (expr_in outer e) at ∷ argument_ops outer inner at ps es))
        by_kind true i rest = rest
        by_kind false i rest = All-cons (FitOperation kinds) (set_one (lval.Var (var_in inner q.var)) (expr_in outer e) at) (argument_ops outer inner at ps es) (argument_fit q e at i h.0) rest

    result_read : (v : Var) → (scopes_in p g).has_scalar (ref_of v) ≡ true → FitIf kinds (Some (expr.Var (var_in inner v)))
    result_read v h =
        subst (λ x. FitIf kinds (Some x)) (in_var inner v)
        (expr_fit p kinds g kg inner inner_follows (expr.Var v)
        (ap (is_over (scopes_in p g).has_scalar (scopes_in p g).has_array) (sym (expr.rolls-Var v)) ∙ (over_is (scopes_in p g).has_scalar (scopes_in p g).has_array (Expr-F.Var v) ∙ h))
        (ap (λ (s : Shape). s.fixed) (shape_var (own_sorts p g) v)))

    left_fixed : (d : Lval) → IsFixed (scopes_in p f) (scopes_in p g) d → IsRead (own_sorts p f) (as_expr d)
    left_fixed (lval.Skip at) h = tt
    left_fixed (lval.Var v) h = ap (λ (s : Shape). s.fixed) (shape_var (own_sorts p f) v)
    left_fixed (lval.Cell v i) h = fixed_cell (own_sorts p f) v i ∙ h
    left_fixed (lval.Store a) h = fixed_load (own_sorts p f) a ∙ (ap (λ (s : Shape). s.fixed) (access_shape_is (own_sorts p f) a) ∙ h)

    given_fit : (d : Lval) (v : Var) (at : Span) → is_array (ref_of v).kind ≡ false → IsResult (scopes_in p f) (scopes_in p g) d v → FitOperation kinds (set_one (lval_in outer d) (expr.Var (var_in inner v)) at)
    given_fit d v at plain (inl t) = absurd (false≢true (sym plain ∙ t))
    given_fit d v at plain (inr (na, nc, hs, w, fx)) =
        set_fit (lval_in outer d) (expr.Var (var_in inner v)) at (left_fit p kinds f kf outer outer_follows d w (left_fixed d fx)) (result_read v hs)

    by_array : (d : Lval) (v : Var) (at : Span) (os : List Operation) (b : Bool) → is_array (ref_of v).kind ≡ b → IsResult (scopes_in p f) (scopes_in p g) d v → All (FitOperation kinds) os
        → All (FitOperation kinds) (if b then os else (set_one (lval_in outer d) (expr.Var (var_in inner v)) at ∷ os))
    by_array d v at os true i h r = r
    by_array d v at os false i h r = All-cons (FitOperation kinds) (set_one (lval_in outer d) (expr.Var (var_in inner v)) at) os (given_fit d v at i h) r

    one_fit : (d : Lval) (v : Var) (at : Span) (os : List Operation) → IsResult (scopes_in p f) (scopes_in p g) d v → All (FitOperation kinds) os → All (FitOperation kinds) (result_op outer inner at d v os)
    one_fit (lval.Skip s) v at os h r = r
    one_fit (lval.Var w) v at os h r = by_array (lval.Var w) v at os (is_array (ref_of v).kind) refl h r
    one_fit (lval.Cell w i) v at os h r = by_array (lval.Cell w i) v at os (is_array (ref_of v).kind) refl h r
    one_fit (lval.Store a) v at os h r = by_array (lval.Store a) v at os (is_array (ref_of v).kind) refl h r

    results_fit : (ds : List Lval) (vs : List Var) (at : Span) → AreResults (scopes_in p f) (scopes_in p g) ds vs → All (FitOperation kinds) (result_ops outer inner at ds vs)
    results_fit [] vs at h = All-nil (FitOperation kinds)
    results_fit (d ∷ ds) [] at h = All-nil (FitOperation kinds)
    results_fit (d ∷ ds) (v ∷ vs) at h = one_fit d v at (result_ops outer inner at ds vs) h.0 (results_fit ds vs at h.1)

-- ---- bodies

-- fs: the functions of the copies
module _ (p : Program) (h : IsTypedText p) (fs : List Fun) where
  abbrev K : Kinds
  K n c = kind_in p (slice_get fs c) n

  abbrev known : (g : Fun) → Contains p.funs g → whole.IsKnown p g
  known g has = All-contains (whole.IsKnown p) p.funs g (all_known p h.typed h.text) has

  abbrev Fixed : Fun → Block → Type 0
  Fixed = IsFixedBody (own_sorts p) (Contains p.funs)

  abbrev Body : Fun → Block → Type 0
  Body g t = IsBody (scopes_in p) (scopes_in p g) t

  -- before what is fit
  pub copies_fit : (t : Block) (g : Fun) (names : Names) (c : ℕ) (rest : Block) → Contains p.funs g → Follows p K g names → Numbered fs c t → Body g t → Fixed g t → IsFit K rest → IsFit K (inlined inline_calls names c t rest)
  copies_fit done g names c rest has ns n b x r = r
  copies_fit (op o t) g names c rest has ns n b x r = (operation_fit p K g (known g has) names ns o b.0 x.0, copies_fit t g names c rest has ns n b.1 x.1 r)
  copies_fit (quiet o t) g names c rest has ns n b x r = absurd b
  copies_fit (choose q y z t) g names c rest has ns n b x r = (
    test_fit p K g (known g has) names ns q b.0 x.0,
    copies_fit y g names c done has ns n.0 b.1 x.1 tt,
    copies_fit z g names (c + copies y) done has ns n.1 b.2 x.2 tt,
    copies_fit t g names (c + copies y + copies z) rest has ns n.2 b.3 x.3 r,
  )
  copies_fit (loop w y q z t) g names c rest has ns n b x r = (
    test_fit p K g (known g has) names ns q b.0 x.0,
    copies_fit y g names c done has ns n.0 b.1 x.1 tt,
    copies_fit z g names (c + copies y) done has ns n.1 b.2 x.2 tt,
    copies_fit t g names (c + copies y + copies z) rest has ns n.2 b.3 x.3 r,
  )
  copies_fit (each i z t) g names c rest has ns n b x r = (copies_fit z g names c done has ns n.0 b.1 x.0 tt, copies_fit t g names (c + copies z) rest has ns n.1 b.2 x.1 r)
  copies_fit (call q z t) g names c rest has ns n b x r =
      let inner : Names = names_of_callee names c q in
      let kg = known g has in
      let kc = known q.callee x.0 in
      let own : (m : List ℕ) → K m c ≡ kinds_in p q.callee m 0 = λ m. ap (λ o. kind_in p o m) n.0 in
      let follows : Follows p K q.callee inner = named p K g q.callee kg kc names ns c own q.callee.params q.args b.0.arguments in
      let given : List Operation = result_ops names inner (call_place q.to q.at) q.to q.callee.result in
      let last : Block = inlined inline_calls names (suc c + copies z) t rest in
      let behind : IsFit K last = copies_fit t g names (suc c + copies z) rest has ns n.2 b.2 x.2 r in
      let back = in_turn_fit K given last (results_fit p K g q.callee kg kc names ns inner follows q.to q.callee.result (call_place q.to q.at) b.0.results) behind in
      let body = copies_fit z q.callee inner (suc c) (in_turn given last) x.0 follows n.1 b.1 x.1 back in
      in_turn_fit K (argument_ops names inner (call_place q.to q.at) q.callee.params q.args) (quiet (inline_calls.mark names c q) (inlined inline_calls inner (suc c) z (in_turn given last)))
      (arguments_fit p K g q.callee kg kc names ns inner follows q.callee.params q.args (call_place q.to q.at) b.0.arguments) body
