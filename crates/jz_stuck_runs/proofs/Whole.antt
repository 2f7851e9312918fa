-- Each part of a run of a typed program, and each run.
use Rattle.std.proofs.Common.{◌≡◌, ℕ, true, List, [], ◌∷◌, Option, Some, None, flat_map, refl, inl, inr}
use Rattle.std.specs.Prelude.{◌⊎◌, All}
use Rattle.std.proofs.lemmas.List.Elements.{All-nil, All-head, All-weaker, All-contains}
use Rattle.jz_tree.specs.Span.{Span}
use Rattle.jz_tree.specs.Spellings.{spelled}
use Rattle.jz_tree.specs.declared.expr.BinOp.{BinOp}
use Rattle.jz_tree.specs.declared.expr.Expr.{Expr}
use Rattle.jz_tree.specs.declared.expr.Decl.{Decl}
use Rattle.jz_tree.specs.declared.expr.Var.{Var}
use Rattle.jz_tree.specs.declared.stmt.Lval.{Lval}
use Rattle.jz_tree.specs.declared.stmt.Rhs.TheVariants as rhs
use Rattle.jz_tree.specs.declared.stmt.StmtKind.TheOpen.{StmtKind-F}
use Rattle.jz_tree.specs.declared.program.Fun.{Fun}
use Rattle.jz_tree.specs.declared.program.Ret.{Ret}
use Rattle.jz_tree.specs.declared.program.Program.{Program}
use Rattle.jz_type_names.specs.Kinds.{declared_of, whole_array, array_of, kind_of}
use Rattle.jz_type_names.specs.Parts.{left_exprs, left_vars}
use Rattle.jz_type_names.proofs.Empty.{both, all_empty, one_not, passed}
use Rattle.jz_type_storage.specs.Declarations.{may_return, is_returned, unkept_ret}
use Rattle.jz_type_sizes.specs.Mismatches.{among}
use Rattle.jz_type_rows.specs.Copies.{place_of_array, array_left, array_arg}
use Rattle.jz_select.specs.Shapes.{whichever}
use Rattle.jz_judgement.specs.WellTyped as well
use Rattle.jz_judgement.specs.WellTyped.{WellTyped, Calls}
use Rattle.jz_types.specs.Carried.{declared_in}
use Rattle.jz_meaning.specs.declared.value.Stuck as code
use Rattle.jz_meaning.specs.declared.value.Why.TheVariants.{Init}
use Rattle.jz_meaning.specs.Rules.{went}
use Rattle.jz_meaning.specs.Attempts.{and_then}
use Rattle.jz_meaning.specs.States.{empty_store, State}
use Rattle.jz_meaning.specs.Statements.{Operation, assign, instruction, unset, meaningless, Condition, Counter, Call, does, tests, counts, number_in, values_between, all_passed, enters, leaves, source}
use Rattle.jz_run_laws.specs.Kinds.{IsOfKinds}
use Rattle.jz_run_laws.specs.DeclaredKinds.{LeftDeclared, ParamDeclared}
use Rattle.jz_run_laws.specs.OneSize.{IsNoArray}
use Rattle.jz_run_laws.proofs.Calls.{calls_leave}
use Rattle.jz_run_laws.proofs.Uncut.{typed_law}
use Rattle.jz_bodies.proofs.Variables.{flat_parts}
use Rattle.jz_typed_runs.specs.TypedTexts.{IsTypedText, kinds_in}
use Rattle.jz_typed_runs.specs.Reached.{operation, test, bounds, arguments, results}
use Rattle.jz_typed_runs.specs.Runs.{SourcePart, KeepsKinds}
use Rattle.jz_typed_runs.specs.Stuck.{IsStuckAt, StopsAt, EndsUnset}
use Rattle.jz_typed_runs.proofs.OperatorCauses.{IfStuck}
use Rattle.jz_typed_runs.proofs.Causing.{is_stuck}
use Rattle.jz_typed_runs.proofs.Ending.{unset_law}
use Rattle.jz_typed_runs.proofs.Numbers.{IsCallee, callees}
use Rattle.jz_typed_runs.proofs.Runs.{reached}
use Rattle.jz_stuck_runs.specs.Parts as part
use Rattle.jz_stuck_runs.specs.Parts.{returned_to}
use Rattle.jz_stuck_runs.specs.Lacking as lacking
use Rattle.jz_stuck_runs.specs.Lacking.{IsLacking, LacksValue, PartLaw, StopsLacking, RunLaw}
use Rattle.jz_stuck_runs.proofs.Steps.{Lacks, weaker, stuck_any}
use Rattle.jz_stuck_runs.proofs.Expressions.{Kept, HasKept, bool_fine, number_fine}
use Rattle.jz_stuck_runs.proofs.Statements.{InlineNumber, IsGood, AreGood, IsReady, all_ready}
use Rattle.jz_stuck_runs.proofs.LeftSides.{IsLeft}
use Rattle.jz_stuck_runs.proofs.Trees.{OperationOf, TestOf, CounterOf, CallOf, PartOf, assign_parts, holds, part_of}
use Rattle.jz_stuck_runs.proofs.Calls.{OneLacks, all_passed_fine, Missing, OneMissing, all_given_fine}
use Rattle.jz_stuck_runs.proofs.Assignments.{assigned_fine}
use Rattle.jz_stuck_runs.proofs.Instructing.{instructed_fine}

pub no_array_there : (o : Option Var) → place_of_array o ≡ [] → o ≡ None
no_array_there None e = refl
no_array_there (Some v) e = absurd (one_not _ [] e)

-- left sides that are no arrays as a whole
pub lefts_are : (q : Program) (f : Fun) (to : List Lval) → All (HasKept (declared_in q f)) (flat_map left_exprs to) → All (Kept (declared_in q f)) (flat_map left_vars to) → All InlineNumber (flat_map left_vars to)
    → All (λ d. whole_array d ≡ None → IsLeft (declared_in q f) d) to
lefts_are q f to e v n =
    let a = flat_parts (HasKept (declared_in q f)) left_exprs to e in
    let b = flat_parts (Kept (declared_in q f)) left_vars to v in
    let c = flat_parts InlineNumber left_vars to n in
    λ i d lt p. record { vars = b i d lt; exprs = a i d lt; inline = c i d lt; part = p }

pub plain_lefts : (to : List Lval) → flat_map array_left to ≡ [] → All (λ d. whole_array d ≡ None) to
plain_lefts to e = All-weaker (λ d. array_left d ≡ []) (λ d. whole_array d ≡ None) (λ d h. no_array_there (whole_array d) h) to (all_empty array_left to e)

pub with_parts : (declared : List ℕ → Option Decl) (to : List Lval) → All (λ d. whole_array d ≡ None → IsLeft declared d) to → All (λ d. whole_array d ≡ None) to → All (IsLeft declared) to
with_parts declared to a b = λ i d lt. a i d lt (b i d lt)

module _ (q : Program) (f : Fun) (s : State) (h : IsOfKinds (kinds_in q f) s) where
  abbrev declared : List ℕ → Option Decl
  declared = declared_in q f

  -- ---- operations
  assign_fine : (to : List Lval) (o : Option BinOp) (e : Expr) (c : Option Expr) (at : Span) → IsGood q f (StmtKind-F.Assign to o (rhs.Value e) c)
      → IfStuck (Lacks (LacksValue (operation (assign to o e c at)) s)) (does (assign to o e c at) s)
  assign_fine to o e c at g = by_type g.typed
    where
      by_type : WellTyped (among q.funs) (StmtKind-F.Assign to o (rhs.Value e) c) → IfStuck (Lacks (LacksValue (operation (assign to o e c at)) s)) (does (assign to o e c at) s)
      by_type (well.assigned v t) =
          let p = assign_parts q f to o (rhs.Value e) (e ∷ []) c refl g in
          let l = with_parts declared to (lefts_are q f to p.lefts p.vars p.inline) (plain_lefts to g.copied) in
          assigned_fine declared s h to o e c at l (All-head (HasKept declared) e [] p.rights) p.conds g.declared.0 v t g.row

  instruct_fine : (to : List Lval) (n : List ℕ) (args : List Expr) (at : Span) → IsGood q f (StmtKind-F.Assign to None (rhs.Intrinsic n args at) None)
      → IfStuck (Lacks (LacksValue (operation (instruction to n args at)) s)) (does (instruction to n args at) s)
  instruct_fine to n args at g = by_type g.typed
    where
      by_type : WellTyped (among q.funs) (StmtKind-F.Assign to None (rhs.Intrinsic n args at) None) → IfStuck (Lacks (LacksValue (operation (instruction to n args at)) s)) (does (instruction to n args at) s)
      by_type (well.assigned v t) =
          let p = assign_parts q f to None (rhs.Intrinsic n args at) args None refl g in
          let no = both (flat_map array_left to) (flat_map array_arg args) g.copied in
          let l = with_parts declared to (lefts_are q f to p.lefts p.vars p.inline) (plain_lefts to no.0) in
          let plain = All-weaker (λ e. array_arg e ≡ []) IsNoArray (λ e x. no_array_there (array_of e) x) args (all_empty array_arg args no.1) in
          let r = g.row refl in
          instructed_fine declared s h to n args at l p.rights plain g.declared.0 (whichever r.0) (spelled n) refl v r.1

  operation_fine : (o : Operation) → OperationOf q f o → IfStuck (Lacks (LacksValue (operation o) s)) (does o s)
  operation_fine (assign to o e c at) g = assign_fine to o e c at g
  operation_fine (instruction to n args at) g = instruct_fine to n args at g
  operation_fine (unset xs) g = absurd g
  operation_fine (meaningless at) g = absurd g

  -- ---- tests and bounds
  test_fine : (c : Condition) → TestOf q f c → IfStuck (Lacks (LacksValue (test c) s)) (tests c s)
  test_fine c g = bool_fine declared s h (LacksValue (test c) s) c.at c.cond g.kept g.typed (λ u l. lacking.evaluated part.asked l)

  bounds_fine : (k : Counter) → CounterOf q f k → IfStuck (Lacks (LacksValue (bounds k) s)) (counts k s)
  bounds_fine k g =
      let D : code.Stuck → Type 0 = LacksValue (bounds k) s in
      stuck_any (Lacks D) (number_in k.at k.from s) (λ a. and_then (number_in k.at k.to s) (λ b. went [] (values_between k.down a b)))
      (number_fine declared s h D k.at k.from g.from g.from_typed (λ u l. lacking.evaluated part.first l))
      (λ a. stuck_any (Lacks D) (number_in k.at k.to s) (λ b. went [] (values_between k.down a b))
      (number_fine declared s h D k.at k.to g.to g.to_typed (λ u l. lacking.evaluated part.last l)) (λ b. tt))

  -- ---- calls
  module _ (c : Call) (ready : IsCallee q c.callee) (g : CallOf q f c) where
    enters_fine : IfStuck (Lacks (LacksValue (arguments c) s)) (enters c s)
    enters_fine = by_type g.calls
      where
        by_type : Calls (Some c.callee) c.to c.args → IfStuck (Lacks (LacksValue (arguments c) s)) (enters c s)
        by_type (well.called k given passed) =
            let D : code.Stuck → Type 0 = LacksValue (arguments c) s in
            let E : code.Stuck → Type 0 = OneLacks declared (declared_in q c.callee) s h c.args in
            stuck_any (Lacks D) (all_passed c.at c.callee.params c.args s empty_store) (λ inner. went [] (record { store = inner; memory = s.memory }))
            (weaker (Lacks E) (Lacks D) (all_passed c.at c.callee.params c.args s empty_store) (λ u x i. (let y = x i in lacking.evaluated (part.argument y.of_call) y.lacks))
            (all_passed_fine declared (declared_in q c.callee) s h c.at empty_store passed ready.params g.parts.rights))
            (λ inner. tt)

    returned_all : All (λ r. may_return r.decl.storage (kind_of r.decl.ty) ≡ true) c.callee.rets
    returned_all = All-weaker (λ r. unkept_ret c.callee.span r ≡ []) (λ (r : Ret). may_return r.decl.storage (kind_of r.decl.ty) ≡ true) (λ r e. passed (is_returned (declared_of r.decl)) c.callee.span e) c.callee.rets ready.returned

    -- the caller's state when the callee has ended
    start_kept : (t : State) → All (ParamDeclared (kinds_in q c.callee)) c.callee.params → IsOfKinds (kinds_in q c.callee) t → IsOfKinds (kinds_in q f) (returned_to c s t)
    start_kept t params k =
        let none : Call = record { to = []; callee = record (c.callee) { result = [] }; args = c.args; at = c.at } in
        calls_leave (kinds_in q f) (kinds_in q c.callee) none s t (record { lefts = All-nil (LeftDeclared (kinds_in q f)); params = params; arrays = g.arrays }) h k

    leaves_fine : (t : State) → All (ParamDeclared (kinds_in q c.callee)) c.callee.params → IsOfKinds (kinds_in q c.callee) t → IfStuck (Lacks (LacksValue (results c t) s)) (leaves c s t)
    leaves_fine t params k = by_type g.calls
      where
        told : (u : code.Stuck) (x : OneMissing declared (declared_in q c.callee) t.store k.variables c.to c.callee.result (returned_to c s t) u) → LacksValue (results c t) s u
        told u x = by_reason x.lacks
          where
            by_reason : Missing declared (declared_in q c.callee) t.store k.variables x.left x.variable x.state u → LacksValue (results c t) s u
            by_reason (inl e) = lacking.unset x.reached e.0 e.1
            by_reason (inr l) = lacking.evaluated (part.result x.reached l.of_left) l.lacks

        by_type : Calls (Some c.callee) c.to c.args → IfStuck (Lacks (LacksValue (results c t) s)) (leaves c s t)
        by_type (well.called n given passed) =
            weaker (Lacks (OneMissing declared (declared_in q c.callee) t.store k.variables c.to c.callee.result (returned_to c s t))) (Lacks (LacksValue (results c t) s)) (leaves c s t) (λ u x i. told u (x i))
            (all_given_fine declared (declared_in q c.callee) t.store k.variables c.at (returned_to c s t) given ready.well.0 ready.results returned_all
            (lefts_are q f c.to g.parts.lefts g.parts.vars g.parts.inline) g.lefts (start_kept t params k))

-- ---- parts
part_fine : (q : Program) (g : Fun) (p : SourcePart) (s : State) (w : code.Stuck) → IsTypedText q → PartOf q g p → KeepsKinds q g p s → IsStuckAt source p s w → w.why ≡ Init → LacksValue p s w
part_fine q g (operation o) s w h k a is i = is_stuck (Lacks (LacksValue (operation o) s)) (does o s) w is (operation_fine q g s a o k) i
part_fine q g (test c) s w h k a is i = is_stuck (Lacks (LacksValue (test c) s)) (tests c s) w is (test_fine q g s a c k) i
part_fine q g (bounds c) s w h k a is i = is_stuck (Lacks (LacksValue (bounds c) s)) (counts c s) w is (bounds_fine q g s a c k) i
part_fine q g (arguments c) s w h k a is i =
    let ready = All-contains (IsCallee q) q.funs c.callee (callees q h) k.of_program in
    is_stuck (Lacks (LacksValue (arguments c) s)) (enters c s) w is (enters_fine q g s a c ready k) i
part_fine q g (results c t) s w h k a is i =
    let ready = All-contains (IsCallee q) q.funs c.callee (callees q h) k.of_program in
    let known = All-contains (IsReady q) q.funs c.callee (all_ready q h) k.of_program in
    is_stuck (Lacks (LacksValue (results c t) s)) (leaves c s t) w is (leaves_fine q g s a.0 c ready k t known.declared.params a.1) i

all_good : (q : Program) → IsTypedText q → All (AreGood q) q.funs
all_good q h = λ i f lt. (all_ready q h i f lt).good

pub part_law : PartLaw
part_law q f words memory n g p s w typed comes is i =
    let never = typed_law q typed.typed in
    let a = holds q never (all_good q typed) f comes.input.of_program in
    part_fine q g p s w typed (part_of q never (all_good q typed) comes.comes a) (reached q f words memory n g p s typed comes).1 is i

-- ---- runs
pub run_law : RunLaw
run_law q f words memory n w typed bytes run i = by_part (unset_law q f words memory n w typed bytes run)
  where
    by_part : StopsAt q f words memory n w ⊎ EndsUnset q f words memory n w → StopsLacking q f words memory n w ⊎ EndsUnset q f words memory n w
    by_part (inl x) = inl (record {
      fun = x.fun;
      part = x.part;
      state = x.state;
      comes = x.comes;
      is_stuck = x.is_stuck;
      lacks = part_law q f words memory n x.fun x.part x.state w typed x.comes x.is_stuck i;
    })
    by_part (inr x) = inr x
