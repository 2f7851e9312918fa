-- How many numbers an expression leaks, in each state that a run of a typed program comes to.
use Rattle.std.proofs.Common.{◌≡◌, ℕ, true, List, [], ◌++◌, Option, Some, None, flat_map, bytes_eq, refl, sym, subst, inl}
use Rattle.std.specs.Prelude.{All, slice_index_or, is_some, option_map}
use Rattle.std.proofs.lemmas.Bool.{false≢true}
use Rattle.std.proofs.lemmas.List.Elements.{All-head, All-contains}
use Rattle.jz_tree.specs.Span.{Span}
use Rattle.jz_tree.specs.declared.expr.Expr.{Expr}
use Rattle.jz_tree.specs.declared.expr.Decl.{Decl}
use Rattle.jz_tree.specs.declared.expr.Var.{Var}
use Rattle.jz_tree.specs.declared.stmt.Lval.{Lval}
use Rattle.jz_tree.specs.declared.stmt.Rhs.TheVariants as rhs
use Rattle.jz_tree.specs.declared.stmt.Stmt.{Stmt}
use Rattle.jz_tree.specs.declared.stmt.StmtKind.TheOpen.{StmtKind-F}
use Rattle.jz_tree.specs.declared.program.Fun.{Fun}
use Rattle.jz_tree.specs.declared.program.Program.{Program}
use Rattle.jz_type_names.specs.Scopes.{function_named}
use Rattle.jz_type_names.specs.Parts.{Layer, layer_of, statements_of, exprs_of, left_exprs, left_vars, called_by}
use Rattle.jz_type_names.proofs.Empty.{both, all_empty, no_member}
use Rattle.jz_resolve.specs.Programs.{resolved_program}
use Rattle.jz_type_sizes.specs.Mismatches.{among}
use Rattle.jz_type_storage.specs.Declarations.{unkept, is_kept, unkept_param, unkept_ret, unkept_in, wrongly_kept}
use Rattle.jz_type_storage.specs.Settings.{wrongly_set}
use Rattle.jz_types.specs.Callees.{callee_of, callee_by}
use Rattle.jz_judgement.specs.WellTyped.{Calls, WellTyped, WellTypedIn, IsWellTyped}
use Rattle.jz_judgement.specs.WellTyped as well
use Rattle.jz_types.specs.Carried.{vars_in, used_by, declared_in}
use Rattle.jz_types.specs.Guarantees.{HasRows, HasCopies}
use Rattle.jz_types.specs.TypedPrograms.{IsTypedProgram}
use Rattle.jz_types.specs.declared.fault.TypeRule.TheVariants.{Storage}
use Rattle.jz_types.proofs.RowsHeld.{rows_held}
use Rattle.jz_meaning.specs.States.{State}
use Rattle.jz_meaning.proofs.ShapeLemmas.{counted}
use Rattle.jz_run_laws.specs.Kinds.{IsOfKinds, sorts_of}
use Rattle.jz_run_laws.proofs.Stores.{kinds_sorted}
use Rattle.jz_row_laws.specs.Numbers.{IsFixed}
use Rattle.jz_texts.specs.Declared.{IsFunction}
use Rattle.jz_texts.proofs.Lists.{parted}
use Rattle.jz_texts.proofs.Declaring.{declarations_law, well_typed_law}
use Rattle.jz_typed_runs.specs.TypedTexts.{IsTypedText, kinds_in}
use Rattle.jz_typed_runs.specs.Reached.{operation, test, bounds, arguments, results}
use Rattle.jz_typed_runs.specs.Runs.{SourcePart, KeepsKinds, NumbersLaw}
use Rattle.jz_typed_runs.proofs.Declaring.{IsKept, flat_parted, found, kept_used, kept_params}
use Rattle.jz_typed_runs.proofs.Calling.{arguments_fixed, results_fixed}
use Rattle.jz_typed_runs.proofs.Fixing.{IfCall, row_of, layer_fixed}
use Rattle.jz_typed_runs.proofs.Runs.{reached}

-- ---- what a program keeps where
kept_where : (q : Program) → IsTypedProgram q → wrongly_kept q ≡ []
kept_where q h =
    let z = resolved_program h.source in
    subst (λ z. wrongly_kept z ≡ []) (sym h.same)
    (both (wrongly_kept z) (wrongly_set z) (no_member (wrongly_kept z ++ wrongly_set z) (λ at c. h.typed Storage at (inl c)))).0

rows_of : (q : Program) → IsTypedProgram q → All (λ f. All (HasRows q.funs) (statements_of f.body)) q.funs
rows_of q h = subst (λ z. All (λ f. All (HasRows z.funs) (statements_of f.body)) z.funs) (sym h.same) (rows_held h.source h.typed)

-- ---- what a call knows of its callee
pub record IsCallee (q : Program) (g : Fun) : Type 0 where
  pub params : All (λ p. IsKept (declared_in q g) p.var) g.params
  pub results : All (IsKept (declared_in q g)) g.result
  pub passed : All (λ p. unkept_param p ≡ []) g.params
  pub returned : All (λ r. unkept_ret g.span r ≡ []) g.rets
  pub well : WellTypedIn (among q.funs) g

abbrev IfCallee : Program → Option Fun → Type 0
IfCallee q None = Unit {0}
IfCallee q (Some g) = IsCallee q g

module _ (q : Program) (h : IsTypedText q) where
  callee_so : (g : Fun) → All (λ p. IsKept (declared_in q g) p.var) g.params → All (IsKept (declared_in q g)) g.result → unkept_in g ≡ [] → WellTypedIn (among q.funs) g → IsCallee q g
  unfolding unkept_in
  callee_so g p r u w =
      let a = both (flat_map unkept_param g.params) (flat_map (unkept is_kept) g.vars ++ flat_map (unkept_ret g.span) g.rets) u in
      let b = both (flat_map (unkept is_kept) g.vars) (flat_map (unkept_ret g.span) g.rets) a.1 in
      record { params = p; results = r; passed = all_empty unkept_param g.params a.0; returned = all_empty (unkept_ret g.span) g.rets b.1; well = w }

  pub callees : All (IsCallee q) q.funs
  callees =
      let names = declarations_law q h.typed h.text in
      let typed = well_typed_law q h.typed in
      let kept = all_empty unkept_in q.funs (kept_where q h.typed) in
      λ i d lt. callee_so _ (kept_params q _ (h.text i d lt) (names i d lt)) (kept_used q _ (h.text i d lt) (names i d lt)).1 (kept i d lt) (typed i d lt)

  module _ (f : Fun) where
    abbrev declared : List ℕ → Option Decl
    declared = declared_in q f

    abbrev Fx : Expr → Type 0
    Fx e = IsFixed (sorts_of (kinds_in q f)) e

    abbrev Kept : Var → Type 0
    Kept v = IsKept declared v

    called_so : (o : Option Fun) (to : List Lval) (n : List ℕ) (args : List Expr) (at : Span) → IfCallee q o → Calls o to args
        → HasCopies (option_map callee_of o) (StmtKind-F.Assign to None (rhs.Call n args at) None) → (o ≡ None → ⊥) → All Kept (flat_map vars_in args)
        → All Fx (flat_map left_exprs to) × All Fx args
    called_so None to n args at c t copies there k = absurd (there refl)
    called_so (Some g) to n args at c (well.called inline given passed) copies there k = (
      results_fixed declared (declared_in q g) g.span given c.well.0 c.results c.returned copies.1,
      arguments_fixed declared (declared_in q g) passed c.params c.passed copies.0 k,
    )

    some_there : {A : Type 0} (o : Option A) → is_some o ≡ true → o ≡ None → ⊥
    some_there None e is = false≢true e
    some_there (Some x) e is = some_not x is
      where
        some_not : {A : Type 0} (x : A) → Some x ≡ None → ⊥
        some_not x e = cc

    call_so : (k : Layer) → WellTyped (among q.funs) k → HasCopies (callee_by q.funs k) k → All (IsFunction q) (called_by k) → All Kept (used_by k) → IfCall declared (among q.funs) k
    call_so (StmtKind-F.Assign to None (rhs.Call n args at) None) (well.assigned r c) copies there k =
        let t = parted Kept (flat_map vars_in (flat_map left_exprs to ++ args ++ [])) (flat_map left_vars to) k in
        let u = flat_parted Kept (flat_map left_exprs to ++ args) [] t.0 in
        let v = flat_parted Kept (flat_map left_exprs to) args u.0 in
        called_so (function_named n q.funs) to n args at (found (IsCallee q) (λ g. bytes_eq n g.name) q.funs callees) r copies
        (some_there (function_named n q.funs) (All-head (IsFunction q) (n, at) [] there)) v.1
    call_so (StmtKind-F.Assign to None (rhs.Call n args at) (Some c)) w copies there k = tt
    call_so (StmtKind-F.Assign to (Some o) (rhs.Call n args at) c) w copies there k = tt
    call_so (StmtKind-F.Assign to None (rhs.Value e) c) w copies there k = tt
    call_so (StmtKind-F.Assign to (Some o) (rhs.Value e) c) w copies there k = tt
    call_so (StmtKind-F.Assign to None (rhs.Intrinsic n args at) c) w copies there k = tt
    call_so (StmtKind-F.Assign to (Some o) (rhs.Intrinsic n args at) c) w copies there k = tt
    call_so (StmtKind-F.If c a b) w copies there k = tt
    call_so (StmtKind-F.While p c b) w copies there k = tt
    call_so (StmtKind-F.For i from down to b) w copies there k = tt
    call_so (StmtKind-F.Mark vs) w copies there k = tt

    statement_fixed : (s : Stmt) → WellTyped (among q.funs) (layer_of s) → HasRows q.funs s → All (IsFunction q) (called_by (layer_of s)) → All Kept (used_by (layer_of s)) → All Fx (exprs_of (layer_of s))
    statement_fixed s w r c k =
        layer_fixed declared (among q.funs) (layer_of s) (λ n. row_of declared (among q.funs) s n r.0) w k (call_so (layer_of s) w r.1 c k)

  abbrev FixedOf : Fun → Type 0
  FixedOf f = All (λ s. All (IsFixed (sorts_of (kinds_in q f))) (exprs_of (layer_of s))) (statements_of f.body)

  fun_fixed : (f : Fun) → WellTypedIn (among q.funs) f → All (HasRows q.funs) (statements_of f.body) → All (λ s. All (IsFunction q) (called_by (layer_of s))) (statements_of f.body)
      → All (λ s. All (IsKept (declared_in q f)) (used_by (layer_of s))) (statements_of f.body) → FixedOf f
  fun_fixed f w r c k = λ j s l. statement_fixed f (slice_index_or (statements_of f.body) j s) (w.1 j s l) (r j s l) (c j s l) (k j s l)

  pub all_fixed : All FixedOf q.funs
  all_fixed =
      let names = declarations_law q h.typed h.text in
      let typed = well_typed_law q h.typed in
      let rows = rows_of q h.typed in
      λ i d lt. fun_fixed (slice_index_or q.funs i d) (typed i d lt) (rows i d lt) (names i d lt).called (kept_used q (slice_index_or q.funs i d) (h.text i d lt) (names i d lt)).0

-- the state of the function that does something
pub own_kinds : (q : Program) (g : Fun) (p : SourcePart) (s : State) → KeepsKinds q g p s → IsOfKinds (kinds_in q g) s
own_kinds q g (operation o) s k = k
own_kinds q g (test c) s k = k
own_kinds q g (bounds f) s k = k
own_kinds q g (arguments c) s k = k
own_kinds q g (results c t) s k = k.0

pub numbers : NumbersLaw
numbers q f words memory n g p s e w ns v typed comes stands is =
    let r = reached q f words memory n g p s typed comes in
    let all = All-contains (λ z. All (λ t. All (IsFixed (sorts_of (kinds_in q z))) (exprs_of (layer_of t))) (statements_of z.body)) q.funs g (all_fixed q typed) r.0 in
    let one = All-contains (λ t. All (IsFixed (sorts_of (kinds_in q g))) (exprs_of (layer_of t))) (statements_of g.body) stands.statement all stands.of_function in
    let fixed = All-contains (IsFixed (sorts_of (kinds_in q g))) (exprs_of (layer_of stands.statement)) e one stands.of_statement in
    counted (sorts_of (kinds_in q g)) e w s ns v (kinds_sorted (kinds_in q g) s.store (own_kinds q g p s r.1).variables) fixed is
