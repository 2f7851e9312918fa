-- The tree of copies: each part is over variables with their declarations, and the heads of copies mark what they may.
use Rattle.std.proofs.Common.{◌≡◌, ℕ, zero, suc, ◌+◌, List, [], ◌∷◌, ◌++◌, Option, Some, None, map, flat_map, Bool, true, false, ◌&&◌, ◌||◌, refl, ap, sym, ◌∙◌, subst, bytes_eq, inl, inr, if◌then◌else◌, append-nil}
use Rattle.std.specs.Prelude.{◌⊎◌, All, Contains, slice_get, option_map, option_to_list}
use Rattle.std.proofs.lemmas.Bool.{and_parts, false≢true}
use Rattle.std.proofs.lemmas.List.Elements.{All-nil, All-cons, All-head, All-tail, All-contains}
use Rattle.jz_tree.proofs.Texts.{bytes_eq-true}
use Rattle.jz_tree.specs.Span.{Span}
use Rattle.jz_tree.specs.declared.expr.BinOp.{BinOp}
use Rattle.jz_tree.specs.declared.expr.Decl.{Decl}
use Rattle.jz_tree.specs.declared.expr.Expr.{Expr}
use Rattle.jz_tree.specs.declared.expr.Expr.TheVariants as expr
use Rattle.jz_tree.specs.declared.expr.Storage.{Storage}
use Rattle.jz_tree.specs.declared.expr.Storage.TheVariants as storage
use Rattle.jz_tree.specs.declared.expr.Var.{Var}
use Rattle.jz_tree.specs.declared.stmt.Lval.{Lval}
use Rattle.jz_tree.specs.declared.stmt.Lval.TheVariants as lval
use Rattle.jz_tree.specs.declared.stmt.Rhs.{Rhs}
use Rattle.jz_tree.specs.declared.stmt.Rhs.TheVariants as rhs
use Rattle.jz_tree.specs.declared.stmt.StmtKind.TheOpen.{StmtKind-F}
use Rattle.jz_tree.specs.declared.program.Fun.{Fun}
use Rattle.jz_tree.specs.declared.program.Param.{Param}
use Rattle.jz_tree.specs.declared.program.Program.{Program}
use Rattle.jz_type_names.specs.declared.kinds.Kind as scoped
use Rattle.jz_type_names.specs.declared.kinds.Kind.TheVariants as scope
use Rattle.jz_type_names.specs.Kinds as typed
use Rattle.jz_type_names.specs.Kinds.{Known, declared_of, known_of, kind_of, written_length, same_storage, same_kind, is_array_kind}
use Rattle.jz_type_names.specs.Parts.{exprs_of, left_exprs, left_vars, left_cells}
use Rattle.jz_type_names.proofs.Empty.{both, all_empty}
use Rattle.jz_type_rows.specs.Indexes.{indexed_at, indexed_in, indexed_by}
use Rattle.jz_type_sizes.specs.Calls.{same_length, agrees, is_declared}
use Rattle.jz_judgement.proofs.Nothing.{size_same}
use Rattle.jz_judgement.specs.WellTyped as well
use Rattle.jz_judgement.specs.WellTyped.{InPairs, PassedBy, Passed, Calls}
use Rattle.jz_types.specs.Carried.{declared_in, known_in as known_named}
use Rattle.jz_runs.specs.Trees.{done, op, quiet, choose, loop, each, call}
use Rattle.jz_meaning.specs.declared.access.Kind.{Kind}
use Rattle.jz_meaning.specs.declared.access.Kind.TheVariants as kind
use Rattle.jz_meaning.specs.States.{Key}
use Rattle.jz_meaning.specs.Values.{Ref, ref_of, declared_kind, kind_or}
use Rattle.jz_meaning.specs.Statements.{Operation, assign, instruction, unset, meaningless, Block, array_of}
use Rattle.jz_run_laws.specs.Kinds.{Kinds}
use Rattle.jz_texts.proofs.Lists.{parted}
use Rattle.jz_typed_runs.specs.TypedTexts.{IsTypedText, kinds_in}
use Rattle.jz_typed_runs.proofs.Declaring.{kept_used, kept_own, kept_params}
use Rattle.jz_bodies.specs.Calls.{is_array, of_array, of_value, IsArgument, AreArguments, IsResult, AreResults}
use Rattle.jz_bodies.specs.Bodies.{IsOperation, IsBody}
use Rattle.jz_bodies.specs.Declared.{scopes_in}
use Rattle.jz_bodies.proofs.Passing.{array_passed, array_used}
use Rattle.jz_bodies.proofs.Refs.{ref_name, ref_kind}
use Rattle.jz_bodies.proofs.Variables.{flat_parts}
use Rattle.jz_bodies.proofs.Whole as whole
use Rattle.jz_bodies.proofs.Whole.{all_known, bodies_law}
use Rattle.jz_bodies.specs.Typed.{IsTypedFunction}
use Rattle.jz_types.specs.TypedPrograms.{IsTypedProgram}
use Rattle.jz_texts.specs.Texts.{IsText}
use Rattle.jz_meaning.specs.Runs.{body_of}
use Rattle.jz_inline.specs.Functions.{own_names, inlined_body}
use Rattle.jz_pass.specs.Copying.{copies, inlined}
use Rattle.jz_pass.specs.Operations.{in_turn}
use Rattle.jz_inline.specs.Names.{Names, var_in, expr_in, lval_in, op_in}
use Rattle.jz_inline.specs.Calls.{name_or, callee_names, set_one, call_place, argument_ops, result_op, result_ops, names_of_callee, inline_calls}
use Rattle.jz_copied_types.proofs.Copying.{known_in}
use Rattle.jz_ready.specs.CopiedKinds.{callees_of, kind_in, copied_kinds}
use Rattle.jz_ready.proofs.CopyNumbers.{Numbered, numbered}
use Rattle.jz_standing.specs.Typing.{AreMarks}
use Rattle.jz_stuck_runs.proofs.Trees.{assign_parts}
use Rattle.jz_copied_variables.specs.Variables.{stack_array, is_framed, framed_in, frame_of, is_lent, own_known, known_at, IsSeen, IsOver, LeftOver, OverOperation, OverBody}
use Rattle.jz_copied_variables.specs.VariableLaws.{CopiesHaveVariables}
use Rattle.jz_copied_variables.proofs.Over.{variable_over, over_in, if_over_in, left_over_in, lefts_over_in, all_over_in}
use Rattle.jz_copied_variables.proofs.Seen.{mark_seen, Follows, seen_in}
use Rattle.jz_copied_variables.proofs.Legal.{legal}
use Rattle.jz_copied_variables.proofs.Source.{Kept, HasKept, Indexed, At, expr_over, if_over, all_over, left_over, lefts_over, array_same}
use Rattle.jz_copied_variables.proofs.Layers.{OperationOf, HoldsParts, holds}

-- ---- of a tree
module _ (P : Var → Type 0) (frame : Key → Bool) where
  in_turn_over : (os : List Operation) (rest : Block) → All (OverOperation P frame) os → OverBody P frame rest → OverBody P frame (in_turn os rest)
  in_turn_over [] rest h r = r
  in_turn_over (o ∷ os) rest h r = (All-head (OverOperation P frame) o os h, in_turn_over os rest (All-tail (OverOperation P frame) o os h) r)

-- ---- statements of the text
module _ (p : Program) (g : Fun) where
  abbrev Q : Var → Type 0
  Q v = Kept p g v

  abbrev E : Expr → Type 0
  E e = HasKept p g e

  abbrev Ix : Expr → Type 0
  Ix e = Indexed p g e

  abbrev C : Var × Expr → Type 0
  C c = At p g c

  -- the indexes of the parts of an assignment
  record AreIndexed (to : List Lval) (es : List Expr) (c : Option Expr) : Type 0 where
    pub lefts : All (λ d. All Ix (left_exprs d)) to
    pub cells : All (λ d. All C (left_cells d)) to
    pub rights : All Ix es
    pub conds : All Ix (option_to_list c)

  indexed_parts : (to : List Lval) (o : Option BinOp) (from : Rhs) (es : List Expr) (c : Option Expr) → exprs_of (StmtKind-F.Assign to o from c) ≡ flat_map left_exprs to ++ es ++ option_to_list c
      → indexed_by (StmtKind-F.Assign to o from c) ≡ [] → AreIndexed to es c
  indexed_parts to o from es c is h =
      let s = both (flat_map indexed_at (flat_map left_cells to)) (flat_map indexed_in (exprs_of (StmtKind-F.Assign to o from c))) h in
      let a = subst (All Ix) is (all_empty indexed_in (exprs_of (StmtKind-F.Assign to o from c)) s.1) in
      let b = parted Ix (flat_map left_exprs to ++ es) (option_to_list c) a in
      let d = parted Ix (flat_map left_exprs to) es b.0 in
      record {
        lefts = flat_parts Ix left_exprs to d.0;
        cells = flat_parts C left_cells to (all_empty indexed_at (flat_map left_cells to) s.0);
        rights = d.1;
        conds = b.1;
      }

  -- what is known of each operation
  operation_over : (frame : Key → Bool) (o : Operation) → OperationOf p g o → IsOperation (scopes_in p g) o → OverOperation Q frame o
  operation_over frame (assign to o e c at) k w =
      let s = assign_parts p g to o (rhs.Value e) (e ∷ []) c refl k.good in
      let x = indexed_parts to o (rhs.Value e) (e ∷ []) c refl k.indexed in (
        lefts_over p g to (flat_parts E left_exprs to s.lefts) (flat_parts Q left_vars to s.vars) w.0 x.lefts x.cells,
        expr_over p g e (All-head E e [] s.rights) w.1 (All-head Ix e [] x.rights),
        if_over p g c s.conds w.2 x.conds,
      )
  operation_over frame (instruction to n args at) k w =
      let s = assign_parts p g to None (rhs.Intrinsic n args at) args None refl k.good in
      let x = indexed_parts to None (rhs.Intrinsic n args at) args None refl k.indexed in
      (lefts_over p g to (flat_parts E left_exprs to s.lefts) (flat_parts Q left_vars to s.vars) w.0 x.lefts x.cells, all_over p g args s.rights w.1 x.rights)
  operation_over frame (unset vs) k w = absurd w
  operation_over frame (meaningless at) k w = absurd w

-- an operation in a copy
module _ (P Q : Var → Type 0) (frame : Key → Bool) (names : Names) (f : (v : Var) → P v → Q (var_in names v)) where
  operation_in : (o : Operation) → OverOperation P frame o → OverOperation Q frame (op_in names o)
  operation_in (assign to o e c at) h = (lefts_over_in names P Q f to h.0, over_in names P Q f h.1, if_over_in names P Q f c h.2)
  operation_in (instruction to n args at) h = (lefts_over_in names P Q f to h.0, all_over_in names P Q f args h.1)
  operation_in (unset vs) h = absurd h
  operation_in (meaningless at) h = absurd h

-- ---- a call of g in a body of f
storages_same : (a b : Storage) → same_storage a b ≡ true → a ≡ b
storages_same storage.Reg storage.Reg h = refl
storages_same storage.Stack storage.Stack h = refl
storages_same storage.Inline storage.Inline h = refl
storages_same a b h = absurd (false≢true h)

kinds_alike : (a b : scoped.Kind) → same_kind a b ≡ true → a ≡ b
kinds_alike scope.Int scope.Int h = refl
kinds_alike scope.Truth scope.Truth h = refl
kinds_alike (scope.Word y) (scope.Word z) h = ap (λ x. scope.Word x) (size_same y z h)
kinds_alike (scope.Array y) (scope.Array z) h = ap (λ x. scope.Array x) (size_same y z h)
kinds_alike a b h = absurd (false≢true h)

declared_alike : (c d : Decl) → c.storage ≡ d.storage → kind_of c.ty ≡ kind_of d.ty → Some (declared_of c) ≡ Some (declared_of d)
declared_alike c d s k = λ i. Some (record { storage = s i; kind = k i })

module _ (p : Program) (kinds : Kinds) (frame : Key → Bool) (store : Key → Known) (f g : Fun) (kf : whole.IsKnown p f) (kg : whole.IsKnown p g) (outer : Names) (outer_follows : Follows p kinds frame store f outer) where
  abbrev X : Expr → Type 0
  X e = HasKept p f e

  abbrev Y : Var → Type 0
  Y v = Kept p g v

  abbrev Args : List Param → List Expr → Type 0
  Args = AreArguments (scopes_in p f) (scopes_in p g)

  -- ---- the array that is passed
  abbrev Alike : List ℕ → List ℕ → Type 0
  Alike m n = (kinds_in p f m 0 ≡ kinds_in p g n 0) × (is_framed (declared_in p f m) ≡ is_framed (declared_in p g n)) × (known_named p f m ≡ known_named p g n)

  -- of a parameter with its declaration, and of the array that is passed
  alike_by : (q : Param) (kq : Y q.var) (v : Var) (kv : Kept p f v) → is_declared kq.decl v ≡ true → (ref_of v).kind ≡ (ref_of q.var).kind → Alike (ref_of v).name (ref_of q.var).name
  alike_by q kq v kv d same =
      let there : declared_in p f (ref_of v).name ≡ Some kv.decl = ap (declared_in p f) (ref_name v) ∙ (sym kv.carries ∙ kv.some) in
      let here : declared_in p g (ref_of q.var).name ≡ Some kq.decl = ap (declared_in p g) (ref_name q.var) ∙ (sym kq.carries ∙ kq.some) in
      let agreed = and_parts (same_storage kq.decl.storage kv.decl.storage) (same_kind (kind_of kq.decl.ty) (kind_of kv.decl.ty) && same_length (written_length kq.decl) (written_length kv.decl)) (subst (λ o. agrees kq.decl o ≡ true) kv.some d) in
      let stored = storages_same kq.decl.storage kv.decl.storage agreed.0 in
      let typed_alike = kinds_alike (kind_of kq.decl.ty) (kind_of kv.decl.ty) (and_parts (same_kind (kind_of kq.decl.ty) (kind_of kv.decl.ty)) (same_length (written_length kq.decl) (written_length kv.decl)) agreed.1).0 in
      let kv_kind : (ref_of v).kind ≡ declared_kind kv.decl = ref_kind v ∙ ap (λ o. kind_or (option_map declared_kind o)) kv.some in
      let kq_kind : (ref_of q.var).kind ≡ declared_kind kq.decl = ref_kind q.var ∙ ap (λ o. kind_or (option_map declared_kind o)) kq.some in
      let kinds_same : declared_kind kv.decl ≡ declared_kind kq.decl = sym kv_kind ∙ (same ∙ kq_kind) in (
        ap (λ o. kind_or (option_map declared_kind o)) there ∙ (kinds_same ∙ sym (ap (λ o. kind_or (option_map declared_kind o)) here)),
        ap is_framed there ∙ (ap (stack_array kv.decl.storage) kinds_same ∙ (sym (ap (λ s. stack_array s (declared_kind kq.decl)) stored) ∙ sym (ap is_framed here))),
        ap (option_map declared_of) there ∙ (sym (declared_alike kq.decl kv.decl stored typed_alike) ∙ sym (ap (option_map declared_of) here)),
      )

  passed_by : (q : Param) (kq : Y q.var) (e : Expr) → X e → (k : scoped.Kind) → kind_of kq.decl.ty ≡ k → is_array_kind k ≡ true → well.PassedAs k kq.decl e → (y : Ref) → array_of e ≡ Some y → y.kind ≡ (ref_of q.var).kind → Alike y.name (ref_of q.var).name
  passed_by q kq e x (scope.Array z) i a t y is same =
      let v = t.0 in
      let r : ref_of v ≡ y = same_item (ref_of v) y (sym (array_passed e v t.1) ∙ is) in
      subst (λ (c : Ref). Alike c.name (ref_of q.var).name) r (alike_by q kq v (array_used (Kept p f) e v t.1 x) t.2 (ap (λ (c : Ref). c.kind) r ∙ same))
    where
      same_item : (a b : Ref) → Some a ≡ Some b → a ≡ b
      same_item a b e = cc
  passed_by q kq e x scope.Int i a t y is same = absurd (false≢true a)
  passed_by q kq e x scope.Truth i a t y is same = absurd (false≢true a)
  passed_by q kq e x (scope.Word z) i a t y is same = absurd (false≢true a)

  array_alike : (q : Param) → Y q.var → (e : Expr) → X e → Passed q e → IsArgument (scopes_in p f) (scopes_in p g) (ref_of q.var) e → is_array (ref_of q.var).kind ≡ true → Alike (name_or (ref_of q.var).name (array_of e)) (ref_of q.var).name
  array_alike q kq e x t (of_value na nc rd fx st so) a = absurd (false≢true (sym na ∙ a))
  array_alike q kq e x t (of_array {y} is ao yk ha s1 s2 hr) a =
      let array : is_array_kind (kind_of kq.decl.ty) ≡ true = sym (ap typed.is_array (ap (option_map declared_of) kq.some)) ∙ (array_same p g q.var kq ∙ a) in
      let s : PassedBy (Some kq.decl) e = subst (λ o. PassedBy o e) kq.some t in
      subst (λ o. Alike (name_or (ref_of q.var).name o) (ref_of q.var).name) (sym ao) (passed_by q kq e x (kind_of kq.decl.ty) refl array s y ao (yk ∙ sym is))

  module _ (j : ℕ) where
    abbrev At_n : List ℕ → List ℕ × ℕ → Type 0
    At_n n m =
        (kinds m.0 m.1 ≡ kinds_in p g n 0) × (frame (record { name = m.0; copy = m.1; cell = None }) ≡ is_framed (declared_in p g n))
        × (store (record { name = m.0; copy = m.1; cell = None }) ≡ known_named p g n)

    named : (ps : List Param) (es : List Expr) → Args ps es → InPairs Passed ps es → All (λ (q : Param). Y q.var) ps → All X es → (n : List ℕ) → (is_lent ps n ≡ false → At_n n (n, j)) → At_n n (callee_names outer j ps es n)
    named [] es h t k x n own = own refl
    named (q ∷ ps) [] h t k x n own = absurd h
    named (q ∷ ps) (e ∷ es) h (well.next one more) k x n own =
        by_name (bytes_eq (ref_of q.var).name n && is_array (ref_of q.var).kind) refl own (λ later. named ps es h.1 more (All-tail (λ (q : Param). Y q.var) q ps k) (All-tail X e es x) n later)
      where
        here : (bytes_eq (ref_of q.var).name n && is_array (ref_of q.var).kind) ≡ true → At_n n (outer (name_or n (array_of e)))
        here b =
            let s = and_parts (bytes_eq (ref_of q.var).name n) (is_array (ref_of q.var).kind) b in
            let same : (ref_of q.var).name ≡ n = bytes_eq-true (ref_of q.var).name n s.0 in
            let a = subst (λ m. Alike (name_or m (array_of e)) m) same (array_alike q (All-head (λ (q : Param). Y q.var) q ps k) e (All-head X e es x) one h.0 s.1) in
            let o = outer_follows (name_or n (array_of e)) in
            (o.0 ∙ a.0, o.1 ∙ a.1, o.2 ∙ a.2)

        by_name : (b : Bool) → (bytes_eq (ref_of q.var).name n && is_array (ref_of q.var).kind) ≡ b → ((b || is_lent ps n) ≡ false → At_n n (n, j)) → ((is_lent ps n ≡ false → At_n n (n, j)) → At_n n (callee_names outer j ps es n))
            → At_n n (if b then outer (name_or n (array_of e)) else callee_names outer j ps es n)
        by_name true t last later = here t
        by_name false t last later = later last

  -- ---- the copies of arguments and results
  module _ (inner : Names) (inner_follows : Follows p kinds frame store g inner) where
    abbrev S : Var → Type 0
    S v = IsSeen kinds frame store v

    out_seen : (v : Var) → Kept p f v → S (var_in outer v)
    out_seen = seen_in p kinds frame store f (legal p f kf) outer outer_follows

    in_seen : (v : Var) → Y v → S (var_in inner v)
    in_seen = seen_in p kinds frame store g (legal p g kg) inner inner_follows

    abbrev O : Operation → Type 0
    O = OverOperation S frame

    set_over : (d : Lval) (e : Expr) (at : Span) → LeftOver S d → IsOver S e → O (set_one d e at)
    set_over d e at l v = (All-cons (LeftOver S) d [] l (All-nil (LeftOver S)), v, tt)

    plain_in : (v : Var) → Y v → is_array (ref_of v).kind ≡ false → typed.is_array (known_of (var_in inner v)) ≡ false
    plain_in v k a = ap typed.is_array (known_in inner v) ∙ (array_same p g v k ∙ a)

    argument_over : (q : Param) (e : Expr) (at : Span) → Y q.var → X e → Indexed p f e → is_array (ref_of q.var).kind ≡ false → IsArgument (scopes_in p f) (scopes_in p g) (ref_of q.var) e → O (set_one (lval.Var (var_in inner q.var)) (expr_in outer e) at)
    argument_over q e at k x i plain (of_array is ao yk ha s1 s2 hr) = absurd (false≢true (sym plain ∙ ap is_array is))
    argument_over q e at k x i plain (of_value na nc rd fx st so) =
        set_over (lval.Var (var_in inner q.var)) (expr_in outer e) at (in_seen q.var k, plain_in q.var k plain) (over_in outer (Kept p f) S out_seen (expr_over p f e x rd i))

    arguments_over : (ps : List Param) (es : List Expr) (at : Span) → Args ps es → All (λ (q : Param). Y q.var) ps → All X es → All (Indexed p f) es → All O (argument_ops outer inner at ps es)
    arguments_over [] es at h k x i = All-nil O
    arguments_over (q ∷ ps) [] at h k x i = All-nil O
    arguments_over (q ∷ ps) (e ∷ es) at h k x i =
        by_kind (is_array (ref_of q.var).kind) refl (arguments_over ps es at h.1 (All-tail (λ (q : Param). Y q.var) q ps k) (All-tail X e es x) (All-tail (Indexed p f) e es i))
      where
        by_kind : (b : Bool) → is_array (ref_of q.var).kind ≡ b → All O (argument_ops outer inner at ps es)
            → All O (if b then argument_ops outer inner at ps es else (set_one (lval.Var (var_in inner q.var)) (expr_in outer e) at ∷ argument_ops outer inner at ps es))
        by_kind true t rest = rest
        by_kind false t rest =
            All-cons O (set_one (lval.Var (var_in inner q.var)) (expr_in outer e) at) (argument_ops outer inner at ps es)
            (argument_over q e at (All-head (λ (q : Param). Y q.var) q ps k) (All-head X e es x) (All-head (Indexed p f) e es i) t h.0) rest

    abbrev L : Lval → Type 0
    L d = All X (left_exprs d) × All (Kept p f) (left_vars d) × All (Indexed p f) (left_exprs d) × All (At p f) (left_cells d)

    given_over : (d : Lval) (v : Var) (at : Span) → L d → Y v → is_array (ref_of v).kind ≡ false → IsResult (scopes_in p f) (scopes_in p g) d v → O (set_one (lval_in outer d) (expr.Var (var_in inner v)) at)
    given_over d v at l k plain (inl t) = absurd (false≢true (sym plain ∙ t))
    given_over d v at l k plain (inr (na, nc, hs, w, fx)) =
        set_over (lval_in outer d) (expr.Var (var_in inner v)) at
        (left_over_in outer (Kept p f) S out_seen d (left_over p f d l.0 l.1 w l.2 l.3)) (variable_over S (var_in inner v) (in_seen v k) (plain_in v k plain))

    by_array : (d : Lval) (v : Var) (at : Span) (os : List Operation) (b : Bool) → is_array (ref_of v).kind ≡ b → L d → Y v → IsResult (scopes_in p f) (scopes_in p g) d v → All O os
        → All O (if b then os else (set_one (lval_in outer d) (expr.Var (var_in inner v)) at ∷ os))
    by_array d v at os true i l k h r = r
    by_array d v at os false i l k h r = All-cons O (set_one (lval_in outer d) (expr.Var (var_in inner v)) at) os (given_over d v at l k i h) r

    one_over : (d : Lval) (v : Var) (at : Span) (os : List Operation) → L d → Y v → IsResult (scopes_in p f) (scopes_in p g) d v → All O os → All O (result_op outer inner at d v os)
    one_over (lval.Skip s) v at os l k h r = r
    one_over (lval.Var w) v at os l k h r = by_array (lval.Var w) v at os (is_array (ref_of v).kind) refl l k h r
    one_over (lval.Cell w i) v at os l k h r = by_array (lval.Cell w i) v at os (is_array (ref_of v).kind) refl l k h r
    one_over (lval.Store a) v at os l k h r = by_array (lval.Store a) v at os (is_array (ref_of v).kind) refl l k h r

    results_over : (ds : List Lval) (vs : List Var) (at : Span) → AreResults (scopes_in p f) (scopes_in p g) ds vs → All L ds → All Y vs → All O (result_ops outer inner at ds vs)
    results_over [] vs at h l k = All-nil O
    results_over (d ∷ ds) [] at h l k = All-nil O
    results_over (d ∷ ds) (v ∷ vs) at h l k = one_over d v at (result_ops outer inner at ds vs) (All-head L d ds l) (All-head Y v vs k) h.0 (results_over ds vs at h.1 (All-tail L d ds l) (All-tail Y v vs k))

    -- ---- the head of the copy
    marks_over : (vs : List Var) → All Y vs → AreMarks frame (map (var_in inner) vs)
    marks_over [] k = tt
    marks_over (v ∷ vs) k = (mark_seen kinds frame (var_in inner v) (in_seen v (All-head Y v vs k)), marks_over vs (All-tail Y v vs k))

-- ---- bodies
-- fs: the functions of the copies
abbrev OwnStore : Program → List Fun → (Key → Known) → Type 0
OwnStore p fs store =
    (c : ℕ) (g : Fun) (n : List ℕ) → slice_get fs c ≡ Some g → is_lent g.params n ≡ false → store (record { name = n; copy = c; cell = None }) ≡ known_named p g n

module _ (p : Program) (h : IsTypedText p) (fs : List Fun) (store : Key → Known) (own_store : OwnStore p fs store) where
  abbrev K : Kinds
  K n c = kind_in p (slice_get fs c) n

  abbrev F : Key → Bool
  F k = framed_in p (slice_get fs k.copy) k.name

  abbrev pub Seen : Var → Type 0
  Seen v = IsSeen K F store v

  abbrev known : (g : Fun) → Contains p.funs g → whole.IsKnown p g
  known g has = All-contains (whole.IsKnown p) p.funs g (all_known p h.typed h.text) has

  abbrev Body : Fun → Block → Type 0
  Body g t = IsBody (scopes_in p) (scopes_in p g) t

  passed_of : (g : Fun) (to : List Lval) (args : List Expr) → Calls (Some g) to args → InPairs Passed g.params args
  passed_of g to args (well.called c r a) = a

  four : (g : Fun) (to : List Lval) → All (λ d. All (HasKept p g) (left_exprs d)) to → All (λ d. All (Kept p g) (left_vars d)) to → All (λ d. All (Indexed p g) (left_exprs d)) to → All (λ d. All (At p g) (left_cells d)) to
      → All (λ d. All (HasKept p g) (left_exprs d) × All (Kept p g) (left_vars d) × All (Indexed p g) (left_exprs d) × All (At p g) (left_cells d)) to
  four g to a b c d = λ i x l. (a i x l, b i x l, c i x l, d i x l)

  -- before what is over
  copies_over : (t : Block) (g : Fun) (names : Names) (c : ℕ) (rest : Block) → Contains p.funs g → Follows p K F store g names → Numbered fs c t → Body g t → HoldsParts p g t → OverBody Seen F rest → OverBody Seen F (inlined inline_calls names c t rest)
  copies_over done g names c rest has ns n b x r = r
  copies_over (op o t) g names c rest has ns n b x r =
      let seen = seen_in p K F store g (legal p g (known g has)) names ns in
      (operation_in (Kept p g) Seen F names seen o (operation_over p g F o x.0 b.0), copies_over t g names c rest has ns n b.1 x.1 r)
  copies_over (quiet o t) g names c rest has ns n b x r = absurd b
  copies_over (choose q y z t) g names c rest has ns n b x r = (
    over_in names (Kept p g) Seen (seen_in p K F store g (legal p g (known g has)) names ns) (expr_over p g q.cond x.0.kept b.0 x.0.indexed),
    copies_over y g names c done has ns n.0 b.1 x.1 tt,
    copies_over z g names (c + copies y) done has ns n.1 b.2 x.2 tt,
    copies_over t g names (c + copies y + copies z) rest has ns n.2 b.3 x.3 r,
  )
  copies_over (loop w y q z t) g names c rest has ns n b x r = (
    over_in names (Kept p g) Seen (seen_in p K F store g (legal p g (known g has)) names ns) (expr_over p g q.cond x.0.kept b.0 x.0.indexed),
    copies_over y g names c done has ns n.0 b.1 x.1 tt,
    copies_over z g names (c + copies y) done has ns n.1 b.2 x.2 tt,
    copies_over t g names (c + copies y + copies z) rest has ns n.2 b.3 x.3 r,
  )
  copies_over (each i z t) g names c rest has ns n b x r = (copies_over z g names c done has ns n.0 b.1 x.0 tt, copies_over t g names (c + copies z) rest has ns n.1 b.2 x.1 r)
  copies_over (call q z t) g names c rest has ns n b x r =
      let inner : Names = names_of_callee names c q in
      let kg = known g has in
      let kc = known q.callee x.0.of_program in
      let s = assign_parts p g q.to None (rhs.Call x.0.name q.args x.0.place) q.args None refl x.0.said.good in
      let y = indexed_parts p g q.to None (rhs.Call x.0.name q.args x.0.place) q.args None refl x.0.said.indexed in
      let params = kept_params p q.callee kc.text kc.names in
      let vars = (parted (Kept p q.callee) (map (λ (v : Param). v.var) q.callee.params) q.callee.vars (kept_own p q.callee kc.text kc.names)).1 in
      let own : (m : List ℕ) → is_lent q.callee.params m ≡ false → (K m c ≡ kinds_in p q.callee m 0) × (F (record { name = m; copy = c; cell = None }) ≡ is_framed (declared_in p q.callee m)) × (store (record { name = m; copy = c; cell = None }) ≡ known_named p q.callee m) =
      λ m t. (ap (λ o. kind_in p o m) n.0, ap (λ o. framed_in p o m) n.0, own_store c q.callee m n.0 t) in
      let follows : Follows p K F store q.callee inner = λ m. named p K F store g q.callee kg kc names ns c q.callee.params q.args b.0.arguments (passed_of q.callee q.to q.args x.0.calls) params s.rights m (own m) in
      let lefts = four g q.to (flat_parts (HasKept p g) left_exprs q.to s.lefts) (flat_parts (Kept p g) left_vars q.to s.vars) y.lefts y.cells in
      let given : List Operation = result_ops names inner (call_place q.to q.at) q.to q.callee.result in
      let last : Block = inlined inline_calls names (suc c + copies z) t rest in
      let behind : OverBody Seen F last = copies_over t g names (suc c + copies z) rest has ns n.2 b.2 x.2 r in
      let back = in_turn_over Seen F given last (results_over p K F store g q.callee kg kc names ns inner follows q.to q.callee.result (call_place q.to q.at) b.0.results lefts (kept_used p q.callee kc.text kc.names).1) behind in
      let deeper : HoldsParts p q.callee z = subst (HoldsParts p q.callee) (sym x.1) (holds p h q.callee x.0.of_program) in
      let body = copies_over z q.callee inner (suc c) (in_turn given last) x.0.of_program follows n.1 b.1 deeper back in
      in_turn_over Seen F (argument_ops names inner (call_place q.to q.at) q.callee.params q.args) (quiet (inline_calls.mark names c q) (inlined inline_calls inner (suc c) z (in_turn given last)))
      (arguments_over p K F store g q.callee kg kc names ns inner follows q.callee.params q.args (call_place q.to q.at) b.0.arguments params s.rights y.rights)
      (marks_over p K F store g q.callee kg kc names ns inner follows q.callee.vars vars, body)

-- ---- the whole
module _ (p : Program) (f : Fun) (typed : IsTypedProgram p) (text : IsText p) (has : Contains p.funs f) where
  read : IsTypedText p
  read = record { typed = typed; text = text }

  abbrev fs : List Fun
  fs = f ∷ callees_of (body_of p f)

  body_numbered : Numbered fs 1 (body_of p f)
  body_numbered = subst (λ l. Numbered (f ∷ l) 1 (body_of p f)) (append-nil (callees_of (body_of p f))) (numbered (body_of p f) (f ∷ []) [] 1 refl)

  -- what is declared in each copy by itself
  own_store : OwnStore p fs (known_at p f)
  own_store zero g n e t = ap (λ x. known_named p x n) (same_item f g e)
    where
      same_item : (x y : Fun) → Some x ≡ Some y → x ≡ y
      same_item x y e = cc
  own_store (suc c) g n e t = ap (λ o. own_known p o n) e ∙ ap (λ b. if b then None else known_named p g n) t

  body_over : OverBody (IsSeen (copied_kinds p f) (frame_of p f) (known_at p f)) (frame_of p f) (inlined_body p f)
  body_over =
      let b = All-contains (IsTypedFunction p) p.funs f (bodies_law p typed text) has in
      copies_over p read fs (known_at p f) own_store (body_of p f) f own_names 1 done has (λ n. (refl, refl, refl)) body_numbered b.body (holds p read f has) tt

pub copies_have_variables : CopiesHaveVariables
copies_have_variables p f typed text has = body_over p f typed text has
