-- What typing gives of each statement and of each function.
use Rattle.std.proofs.Common.{◌≡◌, ℕ, Bool, true, false, not, ◌&&◌, ◌||◌, List, [], ◌∷◌, ◌++◌, Option, Some, None, map, flat_map, length, refl, sym, ap, ◌∙◌, subst, inl, inr, if◌then◌else◌, bytes_eq}
use Rattle.std.specs.Prelude.{◌⊎◌, All, option_map, option_to_list, is_some, nat_le, slice_index_or}
use Rattle.std.specs.List.{list_all, zip}
use Rattle.std.specs.FinMap.{empty, get-empty}
use Rattle.std.proofs.lemmas.Bool.{and_parts, false≢true, or_left, or_right}
use Rattle.std.proofs.lemmas.List.Elements.{All-nil, All-cons, All-head, All-tail, All-map, All-weaker}
use Rattle.jz_tree.specs.Span.{Span}
use Rattle.jz_tree.specs.Size.{Size}
use Rattle.jz_tree.specs.Memory.{Memory}
use Rattle.jz_tree.specs.declared.expr.BinOp.{BinOp}
use Rattle.jz_tree.specs.declared.expr.Storage.{Storage}
use Rattle.jz_tree.specs.declared.expr.Storage.TheVariants as storage
use Rattle.jz_tree.specs.declared.expr.Expr.{Expr}
use Rattle.jz_tree.specs.declared.expr.Decl.{Decl}
use Rattle.jz_tree.specs.declared.expr.Var.{Var}
use Rattle.jz_tree.specs.declared.expr.Expr.TheViews.{out-Var}
use Rattle.jz_tree.specs.declared.stmt.Lval.{Lval}
use Rattle.jz_tree.specs.declared.stmt.Rhs.{Rhs}
use Rattle.jz_tree.specs.declared.stmt.Rhs.TheVariants as rhs
use Rattle.jz_tree.specs.declared.stmt.Stmt.{Stmt}
use Rattle.jz_tree.specs.declared.stmt.StmtKind.TheOpen.{StmtKind-F}
use Rattle.jz_tree.specs.declared.program.Fun.{Fun}
use Rattle.jz_tree.specs.declared.program.FunKind.{FunKind}
use Rattle.jz_tree.specs.declared.program.FunKind.TheVariants as fun_kind
use Rattle.jz_tree.specs.declared.program.Param.{Param}
use Rattle.jz_tree.specs.declared.program.Ret.{Ret}
use Rattle.jz_tree.specs.declared.program.Program.{Program}
use Rattle.jz_tree.specs.declared.intrinsic.Instance.{Instance}
use Rattle.jz_tree.specs.Spellings.{spelled}
use Rattle.jz_row_laws.specs.Places.{Answers}
use Rattle.jz_row_laws.specs.Shape as rowed
use Rattle.jz_row_laws.specs.Shape.TheVariants as shapes
use Rattle.jz_row_laws.specs.Shapes.{conditional, whichever, kind_layer, named_shape}
use Rattle.jz_type_names.specs.declared.kinds.Kind as known
use Rattle.jz_type_names.specs.declared.kinds.Kind.TheVariants as scope
use Rattle.jz_type_names.specs.Kinds.{declared_of, known_of, kind_of, is_inline_int, inline_int, is_word_kind, is_register_word, is_array_kind, same_storage, same_kind, array_of, whole_array}
use Rattle.jz_type_names.specs.Scopes.{variables_of, constant_place, function_named}
use Rattle.jz_type_names.specs.Parts.{Layer, layer_of, statements_of, exprs_of, set_by, left_exprs, right_exprs, left_vars, called_by}
use Rattle.jz_type_names.proofs.Empty.{both, passed, all_empty, no_member, one_not}
use Rattle.jz_run_laws.specs.Declarations.{is_kept, is_passed, is_returned, unkept, unkept_by, unkept_param, unkept_ret, unkept_in, wrongly_kept}
use Rattle.jz_run_laws.specs.Settings.{wrongly_set}
use Rattle.jz_type_sizes.specs.Signatures.{instance_signature}
use Rattle.jz_type_sizes.specs.declared.signatures.Role.{Role}
use Rattle.jz_type_sizes.specs.declared.signatures.Role.TheVariants as role
use Rattle.jz_type_sizes.specs.Intrinsics.{size_of_intrinsic}
use Rattle.jz_type_sizes.specs.Calls.{is_callee}
use Rattle.jz_type_sizes.specs.Mismatches.{among, callee_from}
use Rattle.jz_run_laws.specs.Callee.{Callee}
use Rattle.jz_run_laws.specs.Callees.{callee_of, callee_by, entered_by, left_by}
use Rattle.jz_run_laws.specs.Copies.{place_of_array, array_arg, array_left, given_results, numbers_back, passed_from, not_back, not_passed, passed_twice, passed_wrongly, wrong_arguments, copied_by_call, copied_by}
use Rattle.jz_run_laws.specs.Exports.{is_exported, has_shape, is_word_param, is_word_result, misshapen_places}
use Rattle.jz_run_laws.specs.Matching.{needs_row}
use Rattle.jz_run_laws.specs.Programs.{of_statement, in_body, in_functions, in_statements}
use Rattle.jz_run_laws.specs.Numbering.{values_of}
use Rattle.jz_run_laws.specs.Numbering as numbering
use Rattle.jz_run_laws.specs.ResolvePrograms.{counted_ret, resolved_whole, resolved_program}
use Rattle.jz_judgement.specs.Places.{integer, truth, unsized}
use Rattle.jz_judgement.specs.WellTyped as typed
use Rattle.jz_judgement.specs.WellTyped.{InPairs, Passed, Given, Returned, Calls, Instructs, Output, Operand, role_place, RightSide, WellTyped, WellTypedIn, IsWellTyped}
use Rattle.jz_judgement.proofs.Nothing.{none_not}
use Rattle.jz_run_laws.specs.TypedPrograms.{IsTypedProgram}
use Rattle.jz_run_laws.specs.TypeRule.TheVariants as rule
use Rattle.jz_run_laws.specs.Guarantees as guarantees
use Rattle.jz_run_laws.specs.Guarantees.{HasRow, HasCopies, HasRows}
use Rattle.jz_run_laws.specs.Carried.{vars_in, used_by, declared_in, Carries}
use Rattle.jz_run_laws.proofs.RowsHeld.{rows_held}
use Rattle.jz_run_laws.proofs.ProgramsKept.{decl_known}
use Rattle.jz_meaning.specs.declared.access.Kind.TheVariants as kind
use Rattle.jz_meaning.specs.States.{Value}
use Rattle.jz_meaning.specs.Values.{ref_of}
use Rattle.jz_meaning.specs.Shapes.{integers, HoldsSorts}
use Rattle.jz_meaning.specs.Runs.{IsInput, entry_state}
use Rattle.jz_run_laws.specs.Kinds.{HoldsBytes, sort_of_kind}
use Rattle.jz_run_laws.specs.DeclaredKinds.{kinds_of, ParamDeclared}
use Rattle.jz_run_laws.proofs.Declarations.{declarations_give}
use Rattle.jz_run_laws.specs.Depths.{HasNoRecursion}
use Rattle.jz_run_laws.proofs.Uncut.{typed_law}
use Rattle.jz_run_laws.proofs.Functions.{entries_keep}
use Rattle.jz_run_laws.proofs.Stores.{kinds_sorted}
use Rattle.jz_run_laws.proofs.Parts.{there_is}
use Rattle.jz_texts.specs.Texts.{IsPlain, IsUnmarked, IsTextFun, IsText}
use Rattle.jz_texts.specs.Declared.{HasDeclarations}
use Rattle.jz_texts.proofs.Lists.{parted, unmapped}
use Rattle.jz_texts.proofs.Declaring.{declarations_law, well_typed_law}
use Rattle.jz_bodies.specs.Scopes.{Scope, Reads, ReadsIf, AllRead, AllWritten}
use Rattle.jz_bodies.specs.Calls.{IsCall}
use Rattle.jz_bodies.specs.Bodies.{AreReturned}
use Rattle.jz_bodies.specs.Declared.{is_one, is_among, scopes_in}
use Rattle.jz_bodies.specs.Typed.{IsTypedFunction, BodiesLaw}
use Rattle.jz_bodies.proofs.Refs.{is_one-refl}
use Rattle.jz_bodies.proofs.Owning.{owned, zero_copies, own_is, apart_is}
use Rattle.jz_texts.specs.Declared as texts
use Rattle.jz_bodies.proofs.Trees.{IsRight, IsStatement, StatementsAre, found, body_is}
use Rattle.jz_bodies.proofs.Variables.{flat_parts, IsVariable, IsOwn, counted_variables, own_variable, used_variable, int_kind, known_is, plain_is, scope_is}
use Rattle.jz_bodies.proofs.Reading.{reads, has_scalar}
use Rattle.jz_bodies.proofs.Writing.{IsSet, all_set, IsUsed, LeftIs, IsPart, sets_scalar, all_written, holds_is, flag_is, leaves_is, values_are, Typed, value_type}
use Rattle.jz_row_laws.proofs.Copied.{Matches, selected_matches, no_free}
use Rattle.jz_bodies.proofs.Passing.{all_found, arguments_are, results_are, word_same, declared_parts}
use Rattle.jz_bodies.proofs.Lending.{once_pairs, sets_is, once_is}

-- ---- what is known of a function

pub record IsKnown (q : Program) (f : Fun) : Type 0 where
  pub text : IsTextFun f
  pub names : HasDeclarations q f
  pub well : WellTypedIn (among q.funs) f
  pub copied : All (λ s. copied_by q.funs (layer_of s) ≡ []) (statements_of f.body)
  pub rows : All (HasRows q.funs) (statements_of f.body)
  pub kept : unkept_in f ≡ []

copied_none : (q : Program) → IsTypedProgram q → in_statements (copied_by q.funs) q ≡ []
copied_none q h = subst (λ z. in_statements (copied_by z.funs) z ≡ []) (sym h.same) (no_member (in_statements (copied_by (resolved_program h.source).funs) (resolved_program h.source)) (λ at c. h.typed rule.ArrayCopy at c))

kept_none : (q : Program) → IsTypedProgram q → wrongly_kept q ≡ []
kept_none q h =
    subst (λ z. wrongly_kept z ≡ []) (sym h.same)
    (both (wrongly_kept (resolved_program h.source)) (wrongly_set (resolved_program h.source))
    (no_member (wrongly_kept (resolved_program h.source) ++ wrongly_set (resolved_program h.source)) (λ at c. h.typed rule.Storage at (inl c)))).0

all_rows : (q : Program) → IsTypedProgram q → All (λ f. All (HasRows q.funs) (statements_of f.body)) q.funs
all_rows q h = subst (λ z. All (λ f. All (HasRows z.funs) (statements_of f.body)) z.funs) (sym h.same) (rows_held h.source h.typed)

pub all_known : (q : Program) → IsTypedProgram q → IsText q → All (IsKnown q) q.funs
all_known q h text =
    let names = declarations_law q h text in
    let well = well_typed_law q h in
    let copied = all_empty (in_body (copied_by q.funs)) q.funs (copied_none q h) in
    let rows = all_rows q h in
    let kept = all_empty unkept_in q.funs (kept_none q h) in
    λ i f l. record {
      text = text i f l;
      names = names i f l;
      well = well i f l;
      copied = all_empty (of_statement (copied_by q.funs)) _ (copied i f l);
      rows = rows i f l;
      kept = kept i f l;
    }

-- ---- its variables

all_among : (vs : List Var) → All (λ v. is_among (ref_of v) vs ≡ true) vs
all_among [] = All-nil (λ v. is_among (ref_of v) [] ≡ true)
all_among (w ∷ vs) =
    All-cons (λ v. is_among (ref_of v) (w ∷ vs) ≡ true) w vs (or_left (is_one (ref_of w) (ref_of w)) (is_among (ref_of w) vs) (is_one-refl (ref_of w)))
    (All-weaker (λ v. is_among (ref_of v) vs ≡ true) (λ v. is_among (ref_of v) (w ∷ vs) ≡ true) (λ v e. or_right (is_one (ref_of v) (ref_of w)) (is_among (ref_of v) vs) e) vs (all_among vs))

module _ (q : Program) (f : Fun) (k : IsKnown q f) where
  all_own : All (IsOwn q f) (variables_of f)
  all_own =
      let counted = counted_variables q f k.names in
      λ i v l. record { carries = k.names.own i v l; plain = k.text.declared i v l; has = k.text.declarations i v l; counted = counted i v l }

  pub own_variables : All (IsVariable q f) (variables_of f)
  own_variables = λ i v l. own_variable q f _ (all_own i v l) (all_among (variables_of f) i v l)

  pub own_params : All (λ p. IsVariable q f p.var) f.params
  own_params = unmapped (IsVariable q f) (λ (p : Param). p.var) f.params (parted (IsVariable q f) (map (λ p. p.var) f.params) f.vars own_variables).0

  pub used_variables : All (λ s. All (IsVariable q f) (used_by (layer_of s))) (statements_of f.body)
  used_variables = λ i s l j v m. used_variable q f _ all_own (k.names.carried.0 i s l j v m) (k.text.used.0 i s l j v m) (k.names.named.0 i s l j v m)

  pub returned_variables : All (IsVariable q f) f.result
  returned_variables = λ j v m. used_variable q f _ all_own (k.names.carried.1 j v m) (k.text.used.1 j v m) (k.names.named.1 j v m)

  -- ---- what may be declared
  kept_parts : (flat_map unkept_param f.params ≡ []) × (flat_map (unkept_ret f.span) f.rets ≡ [])
  unfolding unkept_in
  kept_parts =
      let a = both (flat_map unkept_param f.params) (flat_map (unkept is_kept) f.vars ++ flat_map (unkept_ret f.span) f.rets) k.kept in
      (a.0, (both (flat_map (unkept is_kept) f.vars) (flat_map (unkept_ret f.span) f.rets) a.1).1)

  param_kept : (p : Param) → unkept_param p ≡ [] → (d : Decl) → (out-Var p.var).decl ≡ Some d → is_passed (declared_of d) ≡ true
  param_kept p e d is =
      passed (is_passed (declared_of d)) (out-Var p.var).span (subst (λ o. unkept_by is_passed (option_map declared_of o) (out-Var p.var).span ≡ []) is e)

  pub params_kept : All (λ p. (d : Decl) → (out-Var p.var).decl ≡ Some d → is_passed (declared_of d) ≡ true) f.params
  params_kept = All-weaker (λ p. unkept_param p ≡ []) (λ p. (d : Decl) → (out-Var p.var).decl ≡ Some d → is_passed (declared_of d) ≡ true) param_kept f.params (all_empty unkept_param f.params kept_parts.0)

  pub rets_kept : All (λ r. is_returned (declared_of r.decl) ≡ true) f.rets
  rets_kept = All-weaker (λ r. unkept_ret f.span r ≡ []) (λ r. is_returned (declared_of r.decl) ≡ true) (λ r e. passed (is_returned (declared_of r.decl)) f.span e) f.rets (all_empty (unkept_ret f.span) f.rets kept_parts.1)

-- ---- statements

function_there : (o : Option Fun) → is_some o ≡ true → (g : Fun) × (o ≡ Some g)
function_there None e = absurd (false≢true e)
function_there (Some g) e = (g, refl)

abbrev NoValue : Rhs → Type 0
NoValue (rhs.Value e) = ⊥
NoValue (rhs.Call n args at) = Unit {0}
NoValue (rhs.Intrinsic n args at) = Unit {0}

free_conditional : (to : List Lval) (o : Option BinOp) (r : Rhs) (c : Expr) → NoValue r → conditional to o r c ≡ shapes.Free
free_conditional [] o r c n = refl
free_conditional (d ∷ []) None (rhs.Value e) c n = absurd n
free_conditional (d ∷ []) None (rhs.Call m args at) c n = refl
free_conditional (d ∷ []) None (rhs.Intrinsic m args at) c n = refl
free_conditional (d ∷ []) (Some o) r c n = refl
free_conditional (d ∷ b ∷ ds) o r c n = refl

inline_kind : (s : Storage) (k : known.Kind) → inline_int s k ≡ true → k ≡ scope.Int
inline_kind storage.Inline scope.Int e = refl
inline_kind s k e = absurd (false≢true e)

no_array_there : (o : Option Var) → place_of_array o ≡ [] → o ≡ None
no_array_there None e = refl
no_array_there (Some v) e = absurd (one_not _ [] e)

callee_inline : (k : FunKind) → is_callee k ≡ true → is_exported k ≡ false
callee_inline fun_kind.Inline e = refl
callee_inline fun_kind.Export e = absurd (false≢true e)

module _ (q : Program) (all : All (IsKnown q) q.funs) (f : Fun) (k : IsKnown q f) where
  abbrev X : Scope
  X = scopes_in q f

  abbrev V : Var → Type 0
  V = IsVariable q f

  abbrev E : Expr → Type 0
  E e = All V (vars_in e)

  abbrev own : All (λ p. V p.var) f.params
  own = own_params q f k

  abbrev Used : Lval → Type 0
  Used d = IsUsed q f own d

  -- ---- parts of a statement
  lefts_used : (to : List Lval) → All E (flat_map left_exprs to) → All V (flat_map left_vars to) → All (IsSet f) (flat_map left_vars to) → All Used to
  lefts_used to e v s =
      let a = flat_parts E left_exprs to e in
      let b = flat_parts V left_vars to v in
      let c = flat_parts (IsSet f) left_vars to s in
      λ i d l. record { vars = b i d l; set = c i d l; exprs = a i d l }

  parts_none : (to : List Lval) → flat_map array_left to ≡ [] → All IsPart to
  parts_none to e = All-weaker (λ d. array_left d ≡ []) IsPart (λ d h. no_array_there (whole_array d) h) to (all_empty array_left to e)

  -- ---- intrinsics
  output_is : (z : Option Size) (r : Role) (d : Lval) → Output z r d → IsPart d → LeftIs d
  output_is None role.Flag d h n = flag_is d h n
  output_is None role.Value d h n = leaves_is d unsized h n
  output_is None role.Count d h n = holds_is d _ h n
  output_is None role.Condition d h n = flag_is d h n
  output_is None role.Address d h n = holds_is d _ h.1 n
  output_is None role.Byte d h n = holds_is d _ h n
  output_is (Some z) role.Flag d h n = flag_is d h n
  output_is (Some z) role.Value d h n = holds_is d _ h n
  output_is (Some z) role.Count d h n = holds_is d _ h n
  output_is (Some z) role.Condition d h n = flag_is d h n
  output_is (Some z) role.Address d h n = holds_is d _ h.1 n
  output_is (Some z) role.Byte d h n = holds_is d _ h n

  outputs_are : (z : Option Size) (rs : List Role) (ds : List Lval) → InPairs (Output z) rs ds → All IsPart ds → All LeftIs ds
  outputs_are z [] [] typed.none n = All-nil LeftIs
  outputs_are z [] (d ∷ ds) h n = elim h [ ]
  outputs_are z (r ∷ rs) [] h n = elim h [ ]
  outputs_are z (r ∷ rs) (d ∷ ds) (typed.next h hs) n = All-cons LeftIs d ds (output_is z r d h (All-head IsPart d ds n)) (outputs_are z rs ds hs (All-tail IsPart d ds n))

  operand_reads : (z : Option Size) (r : Role) (e : Expr) → Operand z r e → array_arg e ≡ [] → E e → Reads X e
  operand_reads z r e (inl a) n u = absurd (false≢true (sym (ap is_some (no_array_there (array_of e) n)) ∙ a))
  operand_reads z r e (inr t) n u = reads q f e (role_place z r) t u

  operands_read : (z : Option Size) (rs : List Role) (es : List Expr) → InPairs (Operand z) rs es → All (λ e. array_arg e ≡ []) es → All E es → AllRead X es
  operands_read z [] [] typed.none n u = tt
  operands_read z [] (e ∷ es) h n u = elim h [ ]
  operands_read z (r ∷ rs) [] h n u = elim h [ ]
  operands_read z (r ∷ rs) (e ∷ es) (typed.next h hs) n u =
      (operand_reads z r e h (All-head (λ e. array_arg e ≡ []) e es n) (All-head E e es u), operands_read z rs es hs (All-tail (λ e. array_arg e ≡ []) e es n) (All-tail E e es u))

  instructs_by : (i : Option Instance) (to : List Lval) (args : List Expr) (answers : Answers) → Instructs (option_map instance_signature i) to args → Matches (named_shape (whichever answers) i to args)
      → flat_map array_left to ≡ [] → flat_map array_arg args ≡ [] → All Used to → All E args → AllWritten X to × AllRead X args
  instructs_by None to args answers h m n o u v = absurd (no_free m)
  instructs_by (Some i) to args answers (typed.instance_of outs ins) m n o u v =
      let g = instance_signature i in
      let z = size_of_intrinsic g to args in
      (all_written q f own to u (outputs_are z g.results to outs (parts_none to n)), operands_read z g.arguments args ins (all_empty array_arg args o) v)

  -- ---- calls
  module _ (g : Fun) (kg : IsKnown q g) (to : List Lval) (args : List Expr) (at : Span) (u : All Used to) (v : All E args) (calls : Calls (Some g) to args)
      (copied : copied_by_call (Some (callee_of g)) to args ≡ []) (enters : All guarantees.Enters (zip (map entered_by g.params) args)) (leaves : All guarantees.Leaves (zip (map left_by g.result) to)) where
    abbrev c : Callee
    c = callee_of g

    inline : is_exported g.kind ≡ false
    inline = by_call calls
      where
        by_call : Calls (Some g) to args → is_exported g.kind ≡ false
        by_call (typed.called is rs ps) = callee_inline g.kind is

    wrongly : (flat_map (not_back c.written (numbers_back args (given_results c to))) (passed_from 0 args) ≡ []) × (passed_twice c.written [] (passed_from 0 args) ≡ [])
    wrongly =
        let a = (both (flat_map (not_passed args) (given_results c to)) (wrong_arguments c to args) copied).1 in
        let b : passed_wrongly c to args ≡ [] = subst (λ (x : Bool). (if x then flat_map array_arg args else passed_wrongly c to args) ≡ []) inline a in
        both (flat_map (not_back c.written (numbers_back args (given_results c to))) (passed_from 0 args)) (passed_twice c.written [] (passed_from 0 args)) b

    abbrev own_g : All (IsVariable q g) (variables_of g)
    own_g = own_variables q g kg

    pub call_is : IsCall X (scopes_in q g) (record { to = to; callee = g; args = args; at = at })
    call_is = by_call calls
      where
        by_call : Calls (Some g) to args → IsCall X (scopes_in q g) (record { to = to; callee = g; args = args; at = at })
        by_call (typed.called is rs ps) = record {
          scope = scope_is q g own_g;
          zero = zero_copies q g kg.text.declared;
          owned = owned q g;
          apart = apart_is g kg.names.differ;
          own = own_is q g;
          arguments = arguments_are q f g own (own_params q g kg) g.params args ps (own_params q g kg) (params_kept q g kg) v enters;
          results = results_are q f g own (own_params q g kg) g.rets to g.result rs kg.well.0 (rets_kept q g kg) (returned_variables q g kg) u leaves;
          sets = sets_is q f g own own_g kg.names.differ args to c.returned (λ i d l. (u i d l).set) (all_found q f g own g.params args ps (own_params q g kg) v) (all_empty (not_back c.written (numbers_back args (given_results c to))) (passed_from 0 args) wrongly.0);
          once = once_is q f g own own_g kg.names.differ args (all_found q f g own g.params args ps (own_params q g kg) v) (once_pairs c.written [] (passed_from 0 args) wrongly.1);
        }

  known_named : (n : List ℕ) (g : Fun) → function_named n q.funs ≡ Some g → IsKnown q g
  known_named n g e = there_is (IsKnown q) (function_named n q.funs) g e (found (IsKnown q) (λ h. bytes_eq n h.name) q.funs all)

  -- ---- one statement
  abbrev RowAt : Layer → Type 0
  RowAt x = needs_row x ≡ true → (answers : Answers) × Matches (kind_layer (whichever answers) x)

  value_reads : (to : List Lval) (o : Option BinOp) (e : Expr) (cond : Option Expr) → (to ≡ []) ⊎ Typed e → RowAt (StmtKind-F.Assign to o (rhs.Value e) cond) → E e → Reads X e
  value_reads to o e cond (inr t) row u = reads q f e t.0 t.1 u
  value_reads to o e None (inl n) row u =
      let r : RowAt (StmtKind-F.Assign [] o (rhs.Value e) None) = subst (λ x. RowAt (StmtKind-F.Assign x o (rhs.Value e) None)) n row in
      absurd (no_free (r refl).1)
  value_reads to o e (Some x) (inl n) row u =
      let r : RowAt (StmtKind-F.Assign [] o (rhs.Value e) (Some x)) = subst (λ y. RowAt (StmtKind-F.Assign y o (rhs.Value e) (Some x))) n row in
      absurd (no_free (r refl).1)

  reads_if : (cond : Option Expr) → typed.Condition cond → All E (option_to_list cond) → ReadsIf X cond
  reads_if None h u = tt
  reads_if (Some e) h u = reads q f e truth h (All-head E e [] u)

  -- what is known of the expressions of an assignment
  assigned_parts : (to : List Lval) (o : Option BinOp) (from : Rhs) (cond : Option Expr) → All V (used_by (StmtKind-F.Assign to o from cond)) → All E (flat_map left_exprs to) × All E (right_exprs from) × All E (option_to_list cond) × All V (flat_map left_vars to)
  assigned_parts to o from cond h =
      let a = parted V (flat_map vars_in (exprs_of (StmtKind-F.Assign to o from cond))) (flat_map left_vars to) h in
      let b = flat_parts V vars_in (exprs_of (StmtKind-F.Assign to o from cond)) a.0 in
      let c = parted E (flat_map left_exprs to ++ right_exprs from) (option_to_list cond) b in
      let d = parted E (flat_map left_exprs to) (right_exprs from) c.0 in
      (d.0, d.1, c.1, a.1)

  no_row : {s : rowed.Shape} → s ≡ shapes.Free → (answers : Answers) × Matches s → ⊥
  no_row e m = no_free (subst Matches e m.1)

  right_is : (to : List Lval) (o : Option BinOp) (from : Rhs) (cond : Option Expr) → RightSide (callee_from (among q.funs) from) to o from → typed.Condition cond → copied_by q.funs (StmtKind-F.Assign to o from cond) ≡ []
      → RowAt (StmtKind-F.Assign to o from cond) → HasCopies (callee_by q.funs (StmtKind-F.Assign to o from cond)) (StmtKind-F.Assign to o from cond)
      → All V (used_by (StmtKind-F.Assign to o from cond)) → All (IsSet f) (flat_map left_vars to) → All (texts.IsFunction q) (called_by (StmtKind-F.Assign to o from cond)) → IsRight q (scopes_in q) (IsKnown q) X to o from cond
  right_is to o (rhs.Value e) cond h t n row copies used set names =
      let p = assigned_parts to o (rhs.Value e) cond used in
      let u = lefts_used to p.0 p.3 set in
      (all_written q f own to u (values_are to o e h (parts_none to n)), value_reads to o e cond (value_type to o e h) row (All-head E e [] p.1), reads_if cond t p.2)
  right_is to None (rhs.Call m args at) None h t n row copies used set names =
      let p = assigned_parts to None (rhs.Call m args at) None used in
      let u = lefts_used to p.0 p.3 set in
      let found = function_there (function_named m q.funs) (All-head (texts.IsFunction q) (m, at) [] names) in
      let g = found.0 in
      let e = found.1 in
      let kg = known_named m g e in
      let callee : option_map callee_of (function_named m q.funs) ≡ Some (callee_of g) = ap (option_map callee_of) e in
      let both : HasCopies (Some (callee_of g)) (StmtKind-F.Assign to None (rhs.Call m args at) None) = subst (λ x. HasCopies x (StmtKind-F.Assign to None (rhs.Call m args at) None)) callee copies in
      record {
        callee = g;
        named = e;
        known = kg;
        is = call_is g kg to args at u p.1 (subst (λ x. Calls x to args) e h) (subst (λ x. copied_by_call x to args ≡ []) callee n) both.0 both.1;
      }
  right_is to None (rhs.Call m args at) (Some x) h t n row copies used set names = absurd (no_row (free_conditional to None (rhs.Call m args at) x tt) (row refl))
  right_is to (Some o) (rhs.Call m args at) None h t n row copies used set names = absurd (no_free (row refl).1)
  right_is to (Some o) (rhs.Call m args at) (Some x) h t n row copies used set names = absurd (no_row (free_conditional to (Some o) (rhs.Call m args at) x tt) (row refl))
  right_is to None (rhs.Intrinsic m args at) None h t n row copies used set names =
      let p = assigned_parts to None (rhs.Intrinsic m args at) None used in
      let u = lefts_used to p.0 p.3 set in
      let none = both (flat_map array_left to) (flat_map array_arg args) n in
      let r = row refl in
      instructs_by (spelled m) to args r.0 h r.1 none.0 none.1 u p.1
  right_is to None (rhs.Intrinsic m args at) (Some x) h t n row copies used set names = absurd (no_row (free_conditional to None (rhs.Intrinsic m args at) x tt) (row refl))
  right_is to (Some o) (rhs.Intrinsic m args at) None h t n row copies used set names = absurd (no_free (row refl).1)
  right_is to (Some o) (rhs.Intrinsic m args at) (Some x) h t n row copies used set names = absurd (no_row (free_conditional to (Some o) (rhs.Intrinsic m args at) x tt) (row refl))

  -- the counter of a loop
  counter_is : (i : Var) → V i → is_inline_int (known_of i) ≡ true → (X.sets_scalar (ref_of i) ≡ true) × (X.sorts (ref_of i).name (ref_of i).copy ≡ integers)
  counter_is i h e =
      let inline : inline_int h.decl.storage (kind_of h.decl.ty) ≡ true = ap is_inline_int (sym (known_is q f i h)) ∙ e in
      let int = inline_kind h.decl.storage (kind_of h.decl.ty) inline in
      let plain = plain_is q f i h (ap is_array_kind int) in
      let is : (ref_of i).kind ≡ kind.Int = int_kind q f i h int in
      (sets_scalar q f own i h plain, h.sort ∙ ap sort_of_kind is)

  statement_by : (x : Layer) → WellTyped (among q.funs) x → copied_by q.funs x ≡ [] → RowAt x → HasCopies (callee_by q.funs x) x → All V (used_by x) → All (IsSet f) (set_by x) → IsUnmarked x → All (texts.IsFunction q) (called_by x) → IsStatement q (scopes_in q) (IsKnown q) X x
  statement_by (StmtKind-F.Assign to o from cond) (typed.assigned h t) n row copies used set m names = right_is to o from cond h t n row copies used set names
  statement_by (StmtKind-F.If c a b) (typed.branch t) n row copies used set m names = reads q f c truth t (All-head E c [] (flat_parts V vars_in (c ∷ []) (parted V (flat_map vars_in (c ∷ [])) [] used).0))
  statement_by (StmtKind-F.While p c b) (typed.loop t) n row copies used set m names = reads q f c truth t (All-head E c [] (flat_parts V vars_in (c ∷ []) (parted V (flat_map vars_in (c ∷ [])) [] used).0))
  statement_by (StmtKind-F.For i from down to b) (typed.rounds e s t) n row copies used set m names =
      let p = parted V (flat_map vars_in (from ∷ to ∷ [])) (i ∷ []) used in
      let es = flat_parts V vars_in (from ∷ to ∷ []) p.0 in
      let c = counter_is i (All-head V i [] p.1) e in
      λ at. (reads q f from integer s (All-head E from (to ∷ []) es), reads q f to integer t (All-head E to [] (All-tail E from (to ∷ []) es)), c.0, c.1)
  statement_by (StmtKind-F.Mark vs) h n row copies used set m names = absurd m

  statement_is : (s : Stmt) → WellTyped (among q.funs) (layer_of s) → copied_by q.funs (layer_of s) ≡ [] → HasRows q.funs s → All V (used_by (layer_of s)) → All (IsSet f) (set_by (layer_of s)) → IsUnmarked (layer_of s)
      → All (texts.IsFunction q) (called_by (layer_of s)) → IsStatement q (scopes_in q) (IsKnown q) X (layer_of s)
  statement_is s h n rows used set m names = statement_by (layer_of s) h n (λ e. (let r = rows.0 e in selected_matches s.kind r.0 r.1)) rows.1 used set m names

  pub statements_are : StatementsAre q (scopes_in q) (IsKnown q) f
  statements_are =
      let used = used_variables q f k in
      let set = all_set f in
      λ i s l. statement_is (slice_index_or (statements_of f.body) i s) (k.well.1 i s l) (k.copied i s l) (k.rows i s l) (used i s l) (set i s l) (k.text.unmarked i s l) (k.names.called i s l)

-- ---- what is given back

word_kind : (k : known.Kind) → is_word_kind k ≡ true → (z : Size) × (k ≡ scope.Word z)
word_kind scope.Int e = absurd (false≢true e)
word_kind scope.Truth e = absurd (false≢true e)
word_kind (scope.Word z) e = (z, refl)
word_kind (scope.Array z) e = absurd (false≢true e)

abbrev IsWord : Ret → Type 0
IsWord r = is_word_result r ≡ true

abbrev ReturnsWords : Fun → Type 0
ReturnsWords f = is_exported f.kind ≡ true → All IsWord f.rets

each_so : {A : Type 0} (test : A → Bool) (xs : List A) → list_all test xs ≡ true → All (λ x. test x ≡ true) xs
each_so test [] e = All-nil (λ x. test x ≡ true)
each_so test (x ∷ xs) e = let p = and_parts (test x) (list_all test xs) e in All-cons (λ y. test y ≡ true) x xs p.0 (each_so test xs p.1)

not_or : (a b : Bool) → (not a || b) ≡ true → a ≡ true → b ≡ true
not_or true b e f = e
not_or false b e f = absurd (false≢true f)

shape_words : (f : Fun) → misshapen_places f ≡ [] → ReturnsWords f
shape_words f e x =
    let shape = not_or (is_exported f.kind) (has_shape f) (passed (not (is_exported f.kind) || has_shape f) f.span e) x in
    each_so is_word_result f.rets (and_parts (nat_le (length f.params) 6 && nat_le (length f.rets) 2 && list_all is_word_param f.params) (list_all is_word_result f.rets) shape).1

module _ (p : Program) where
  abbrev values : numbering.Values
  values = values_of p.consts

  counted_words : (r : Ret) → IsWord r → IsWord (counted_ret values r)
  counted_words r e = ap is_register_word (decl_known values (Some r.decl)) ∙ e

  resolved_words : (f : Fun) → ReturnsWords f → ReturnsWords (resolved_whole (constant_place p.consts) values f)
  resolved_words f h x = All-map IsWord (counted_ret values) f.rets (All-weaker IsWord (λ r. IsWord (counted_ret values r)) counted_words f.rets (h x))

  all_words : in_functions misshapen_places p ≡ [] → All ReturnsWords (resolved_program p).funs
  all_words e =
      All-map ReturnsWords (resolved_whole (constant_place p.consts) values) p.funs
      (All-weaker (λ f. misshapen_places f ≡ []) (λ f. ReturnsWords (resolved_whole (constant_place p.consts) values f)) (λ f h. resolved_words f (shape_words f h)) p.funs (all_empty misshapen_places p.funs e))

returns_words : (q : Program) → IsTypedProgram q → All ReturnsWords q.funs
returns_words q h =
    subst (λ z. All ReturnsWords z.funs) (sym h.same)
    (all_words h.source (no_member (in_functions misshapen_places h.source) (λ at c. h.typed rule.ExportShape at c)))

module _ (q : Program) (f : Fun) where
  returned_is : (rs : List Ret) (vs : List Var) → InPairs Returned rs vs → All IsWord rs → All (IsVariable q f) vs → AreReturned (scopes_in q f) vs
  returned_is [] [] typed.none w h = tt
  returned_is [] (v ∷ vs) t w h = elim t [ ]
  returned_is (r ∷ rs) [] t w h = elim t [ ]
  returned_is (r ∷ rs) (v ∷ vs) (typed.next same rest) w h =
      let k = All-head (IsVariable q f) v vs h in
      let z = word_kind (kind_of r.decl.ty) (and_parts (same_storage r.decl.storage storage.Reg) (is_word_kind (kind_of r.decl.ty)) (All-head IsWord r rs w)).1 in
      let parts = declared_parts q f r.decl v k same in
      let kv = word_same z.0 (kind_of k.decl.ty) (subst (λ x. same_kind x (kind_of k.decl.ty) ≡ true) z.1 parts.1) in
      (has_scalar q f v k (plain_is q f v k (ap is_array_kind kv)), returned_is rs vs rest (All-tail IsWord r rs w) (All-tail (IsVariable q f) v vs h))

  -- ---- the beginning
  params_declared : IsKnown q f → All (ParamDeclared (kinds_of (declared_in q f))) f.params
  params_declared k =
      let carried = unmapped (Carries (declared_in q f)) (λ (p : Param). p.var) f.params (parted (Carries (declared_in q f)) (map (λ p. p.var) f.params) f.vars k.names.own).0 in
      let plain = unmapped IsPlain (λ (p : Param). p.var) f.params (parted IsPlain (map (λ p. p.var) f.params) f.vars k.text.declared).0 in
      λ i p l. declarations_give (declared_in q f) _ (carried i p l) (plain i p l).1

  no_bytes : HoldsBytes empty
  no_bytes a b e = absurd (none_not b (sym (get-empty _ a) ∙ e))

  entered_sorts : IsKnown q f → (words : List Value) (memory : Memory) → IsInput q f words → HoldsSorts (scopes_in q f).sorts (entry_state f words memory).store
  entered_sorts k words memory i =
      kinds_sorted (kinds_of (declared_in q f)) (entry_state f words memory).store
      (entries_keep (kinds_of (declared_in q f)) q f words empty (params_declared k) i no_bytes).variables

-- ---- functions

function_is : (q : Program) → HasNoRecursion q → (all : All (IsKnown q) q.funs) (f : Fun) → IsKnown q f → ReturnsWords f → IsTypedFunction q f
function_is q never all f k w = record {
  scope = scope_is q f (own_variables q f k);
  zero = zero_copies q f k.text.declared;
  body = body_is q (scopes_in q) (IsKnown q) never (statements_are q all) f k;
  returned = λ x. returned_is q f f.rets f.result k.well.0 (w x) (returned_variables q f k);
  entered = entered_sorts q f k;
}

pub bodies_law : BodiesLaw
bodies_law q h text =
    let all = all_known q h text in
    let words = returns_words q h in
    λ i f l. function_is q (typed_law q h) all _ (all i f l) (words i f l)
