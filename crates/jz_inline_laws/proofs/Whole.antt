-- What typing gives of inline variables in each function of a typed text.
use Rattle.std.proofs.Common.{◌≡◌, ℕ, List, [], ◌∷◌, ◌++◌, Some, None, Bool, true, false, not, ◌&&◌, ◌||◌, map, length, bytes_eq, refl, sym, ap, ◌∙◌, subst, inl, inr}
use Rattle.std.specs.Prelude.{All, Contains, option_map, nat_le, slice_index_or}
use Rattle.std.specs.List.{list_all}
use Rattle.std.proofs.lemmas.Bool.{and_parts, false≢true}
use Rattle.std.proofs.lemmas.List.Elements.{All-nil, All-cons, All-head, All-tail, All-map, All-weaker, All-contains, All-contains_itself}
use Rattle.jz_tree.specs.Span.{Span}
use Rattle.jz_tree.specs.declared.expr.Storage.{Storage}
use Rattle.jz_tree.specs.declared.expr.Storage.TheVariants as storage
use Rattle.jz_tree.specs.declared.expr.Expr.{Expr}
use Rattle.jz_tree.specs.declared.expr.Ty.{Ty}
use Rattle.jz_tree.specs.declared.expr.Access.{Access}
use Rattle.jz_tree.specs.declared.expr.Decl.{Decl}
use Rattle.jz_tree.specs.declared.expr.Var.{Var}
use Rattle.jz_tree.specs.declared.expr.Expr.TheOpen.{Var-F}
use Rattle.jz_tree.specs.declared.expr.Expr.TheViews.{out-Var}
use Rattle.jz_tree.specs.declared.stmt.Lval.{Lval}
use Rattle.jz_tree.specs.declared.stmt.Rhs.TheVariants as rhs
use Rattle.jz_tree.specs.declared.stmt.StmtKind.TheOpen.{StmtKind-F}
use Rattle.jz_tree.specs.declared.program.Fun.{Fun}
use Rattle.jz_tree.specs.declared.program.Param.{Param}
use Rattle.jz_tree.specs.declared.program.Program.{Program}
use Rattle.jz_type_names.specs.declared.kinds.Kind as known
use Rattle.jz_type_names.specs.declared.kinds.Kind.TheVariants as scope
use Rattle.jz_type_names.specs.Kinds.{Known, declared_of, known_of, inline_int, is_inline_int, is_register_word, is_word_kind, same_storage}
use Rattle.jz_type_names.specs.Scopes.{constant_place, function_named}
use Rattle.jz_type_names.specs.Parts.{layer_of, statements_of}
use Rattle.jz_type_names.proofs.Empty.{both, passed, all_empty, no_member}
use Rattle.jz_type_storage.specs.Declarations.{wrongly_kept}
use Rattle.jz_type_storage.specs.Settings.{wrongly_set_in, wrongly_set}
use Rattle.jz_type_storage.specs.Paths.{flow_of_all, has_to_be_set, IsReadUnsetIn}
use Rattle.jz_type_storage.specs.InnerSurely.{after}
use Rattle.jz_type_storage.specs.InnerWalks.{members}
use Rattle.jz_type_storage.proofs.Adding.{none_member}
use Rattle.jz_type_sizes.specs.Mismatches.{among}
use Rattle.jz_type_rows.specs.Exports.{is_exported, has_shape, is_word_param, is_word_result, misshapen_places}
use Rattle.jz_type_rows.specs.Programs.{in_functions}
use Rattle.jz_resolve.specs.Numbering.{values_of}
use Rattle.jz_resolve.specs.Numbering as numbering
use Rattle.jz_resolve.specs.Programs.{counted_var, counted_param, resolved_whole, resolved_program}
use Rattle.jz_judgement.specs.WellTyped as well
use Rattle.jz_judgement.specs.WellTyped.{Calls, WellTyped}
use Rattle.jz_types.specs.Carried.{vars_in}
use Rattle.jz_types.specs.TypedPrograms.{IsTypedProgram}
use Rattle.jz_types.specs.declared.fault.TypeRule.TheVariants as rule
use Rattle.jz_types.proofs.ProgramsKept.{decl_known, var_out}
use Rattle.jz_run_laws.proofs.Parts.{there_is}
use Rattle.jz_run_laws.proofs.Uncut.{typed_law}
use Rattle.jz_row_laws.proofs.Copied.{selected_matches}
use Rattle.jz_texts.proofs.Lists.{parted, unmapped}
use Rattle.jz_bodies.proofs.Owning.{apart_is}
use Rattle.jz_bodies.proofs.Trees.{found}
use Rattle.jz_bodies.proofs.Whole as whole
use Rattle.jz_bodies.proofs.Whole.{all_known, own_params, returned_variables, params_kept, rets_kept}
use Rattle.jz_typed_runs.specs.TypedTexts.{IsTypedText}
use Rattle.jz_inline_laws.specs.InlineParts.{inline_in, IsPlainVar}
use Rattle.jz_inline_laws.specs.InlineBodies.{IsInlineFun, InlineLaw}
use Rattle.jz_inline_laws.proofs.ClearVars.{IsClear, plain_var, clear_own, clear_all, clear_results, not_asked}
use Rattle.jz_inline_laws.proofs.SetBefore.{none_unset, Known as Set}
use Rattle.jz_inline_laws.proofs.NamedParts.{IsUsed}
use Rattle.jz_inline_laws.proofs.Assigning.{assigned_parts}
use Rattle.jz_inline_laws.proofs.Passing.{IsParam, IsReturned, arguments_are, results_are, results_plain}
use Rattle.jz_inline_laws.proofs.Bodies.{CallsInline, IsFine, body_holds}

-- ---- what the rules of typing leave

none_set_wrongly : (q : Program) → IsTypedProgram q → wrongly_set q ≡ []
none_set_wrongly q h =
    let z = resolved_program h.source in
    subst (λ z. wrongly_set z ≡ []) (sym h.same)
    (both (wrongly_kept z) (wrongly_set z) (no_member (wrongly_kept z ++ wrongly_set z) (λ at c. h.typed rule.Storage at (inl c)))).1

none_read_early : (q : Program) → IsTypedProgram q → (at : Span) → IsReadUnsetIn q at → ⊥
none_read_early q h = subst (λ z. (at : Span) → IsReadUnsetIn z at → ⊥) (sym h.same) (λ at c. h.typed rule.Storage at (inr c))

-- ---- parameters of exported functions are words

abbrev IsWord : Param → Type 0
IsWord p = is_word_param p ≡ true

abbrev TakesWords : Fun → Type 0
TakesWords f = is_exported f.kind ≡ true → All IsWord f.params

each_so : {A : Type 0} (test : A → Bool) (xs : List A) → list_all test xs ≡ true → All (λ x. test x ≡ true) xs
each_so test [] e = All-nil (λ x. test x ≡ true)
each_so test (x ∷ xs) e = let p = and_parts (test x) (list_all test xs) e in All-cons (λ y. test y ≡ true) x xs p.0 (each_so test xs p.1)

not_or : (a b : Bool) → (not a || b) ≡ true → a ≡ true → b ≡ true
not_or true b e f = e
not_or false b e f = absurd (false≢true f)

shape_words : (f : Fun) → misshapen_places f ≡ [] → TakesWords f
shape_words f e x =
    let shape = not_or (is_exported f.kind) (has_shape f) (passed (not (is_exported f.kind) || has_shape f) f.span e) x in
    let three = (and_parts (nat_le (length f.params) 6 && nat_le (length f.rets) 2 && list_all is_word_param f.params) (list_all is_word_result f.rets) shape).0 in
    each_so is_word_param f.params (and_parts (nat_le (length f.params) 6 && nat_le (length f.rets) 2) (list_all is_word_param f.params) three).1

module _ (p : Program) where
  abbrev values : numbering.Values
  values = values_of p.consts

  var_known : (v : Var) → known_of (counted_var values v) ≡ known_of v
  var_known v = ap (λ (y : Var-F Expr Ty Access Decl Var). option_map declared_of y.decl) (var_out values v) ∙ decl_known values (out-Var v).decl

  counted_words : (q : Param) → IsWord q → IsWord (counted_param values q)
  counted_words q e = ap is_register_word (var_known q.var) ∙ e

  resolved_words : (f : Fun) → TakesWords f → TakesWords (resolved_whole (constant_place p.consts) values f)
  resolved_words f h x = All-map IsWord (counted_param values) f.params (All-weaker IsWord (λ r. IsWord (counted_param values r)) counted_words f.params (h x))

  all_words : in_functions misshapen_places p ≡ [] → All TakesWords (resolved_program p).funs
  all_words e =
      All-map TakesWords (resolved_whole (constant_place p.consts) values) p.funs
      (All-weaker (λ f. misshapen_places f ≡ []) (λ f. TakesWords (resolved_whole (constant_place p.consts) values f)) (λ f h. resolved_words f (shape_words f h)) p.funs (all_empty misshapen_places p.funs e))

takes_words : (q : Program) → IsTypedProgram q → All TakesWords q.funs
takes_words q h =
    subst (λ z. All TakesWords z.funs) (sym h.same)
    (all_words h.source (no_member (in_functions misshapen_places h.source) (λ at c. h.typed rule.ExportShape at c)))

no_word : (s : Storage) (k : known.Kind) → is_word_kind k ≡ true → inline_int s k ≡ false
no_word s scope.Int e = absurd (false≢true e)
no_word s scope.Truth e = absurd (false≢true e)
no_word s (scope.Array z) e = absurd (false≢true e)
no_word storage.Inline (scope.Word z) e = refl
no_word storage.Reg (scope.Word z) e = refl
no_word storage.Stack (scope.Word z) e = refl

word_plain : (k : Known) → is_register_word k ≡ true → is_inline_int k ≡ false
word_plain None e = absurd (false≢true e)
word_plain (Some d) e = no_word d.storage d.kind (and_parts (same_storage d.storage storage.Reg) (is_word_kind d.kind) e).1

-- ---- calls

module _ (q : Program) (all : All (whole.IsKnown q) q.funs) where
  within : (n : List ℕ) (g : Fun) → function_named n q.funs ≡ Some g → Contains q.funs g
  within n g e = there_is (Contains q.funs) (function_named n q.funs) g e (found (Contains q.funs) (λ h. bytes_eq n h.name) q.funs (All-contains_itself q.funs))

  module _ (f g : Fun) (k : whole.IsKnown q g) where
    params_clear : All (λ p. IsClear g p.var) g.params
    params_clear = unmapped (IsClear g) (λ (p : Param). p.var) g.params (parted (IsClear g) (map (λ p. p.var) g.params) g.vars (clear_own q g k)).0

    all_params : All (IsParam q f g) g.params
    all_params =
        let clear = params_clear in
        let own = own_params q g k in
        let kept = params_kept q g k in
        λ i p l. record { clear = clear i p l; own = own i p l; passed = kept i p l (clear i p l).decl (clear i p l).is }

    all_returned : All (IsReturned q f g) g.result
    all_returned =
        let clear = clear_results q g k in
        let own = returned_variables q g k in
        λ i v l. record { clear = clear i v l; own = own i v l }

    call_by : (to : List Lval) (args : List Expr) → Contains q.funs g → Calls (Some g) to args → All (IsUsed f) to → All (λ e. All (IsClear f) (vars_in e)) args → CallsInline q f g to args
    call_by to args has (well.called is rs ps) u v =
        let a = arguments_are q f g g.params args ps all_params v in
        let r = results_are q f g g.rets to g.result rs k.well.0 (rets_kept q g k) all_returned u in
        record {
          among = has;
          named = λ at. record { apart = apart_is g k.names.differ; arguments = a.1; results = r.1 };
          passes = a.0;
          gives = r.0;
          lefts = r.2;
        }

  call_is : (f g : Fun) (to : List Lval) (n : List ℕ) (args : List Expr) (at : Span) → function_named n q.funs ≡ Some g → IsFine q f (StmtKind-F.Assign to None (rhs.Call n args at) None) → CallsInline q f g to args
  call_is f g to n args at e fine =
      let has = within n g e in
      let u = assigned_parts f to None (rhs.Call n args at) None fine.clear in
      call_by f g (All-contains (whole.IsKnown q) q.funs g all has) to args has (subst (λ o. Calls o to args) e (calls_of fine.typed)) u.0 u.1
    where
      calls_of : WellTyped (among q.funs) (StmtKind-F.Assign to None (rhs.Call n args at) None) → Calls (function_named n q.funs) to args
      calls_of (well.assigned h t) = h

-- ---- functions

module _ (q : Program) (h : IsTypedText q) where
  fine : (f : Fun) → whole.IsKnown q f → All (λ s. IsFine q f (layer_of s)) (statements_of f.body)
  fine f k =
      let clear = clear_all q f k in
      λ i s l. record {
        typed = k.well.1 i s l;
        row = λ e. (let r = (k.rows i s l).0 e in selected_matches (slice_index_or (statements_of f.body) i s).kind r.0 r.1);
        clear = clear i s l;
        unmarked = k.text.unmarked i s l;
        called = k.names.called i s l;
      }

  -- before the body nothing is set but what need not be
  need_not : (f : Fun) (n : List ℕ) → Set (has_to_be_set f) (members []) n ≡ true → has_to_be_set f n ≡ false
  need_not f n e = not_true (has_to_be_set f n) (sym (ap (λ b. b || not (has_to_be_set f n)) (none_member n)) ∙ e)
    where
      not_true : (b : Bool) → not b ≡ true → b ≡ false
      not_true true e = absurd (false≢true e)
      not_true false e = refl

  plain_params : (f : Fun) → (ps : List Param) → All (λ p. IsClear f p.var) ps → All IsWord ps → All (λ p. IsPlainVar (inline_in f) p.var) ps
  plain_params f [] c w = All-nil (λ p. IsPlainVar (inline_in f) p.var)
  plain_params f (p ∷ ps) c w =
      All-cons (λ p. IsPlainVar (inline_in f) p.var) p ps (plain_var f p.var (All-head (λ (p : Param). IsClear f p.var) p ps c) (word_plain (known_of p.var) (All-head IsWord p ps w)))
      (plain_params f ps (All-tail (λ (p : Param). IsClear f p.var) p ps c) (All-tail IsWord p ps w))

  function_is : (all : All (whole.IsKnown q) q.funs) (f : Fun) → whole.IsKnown q f → Contains q.funs f → TakesWords f → wrongly_set_in f.body ≡ [] → IsInlineFun q f
  function_is all f k has words set =
      record {
        before = Set (has_to_be_set f) (members []);
        behind = Set (has_to_be_set f) (after (has_to_be_set f) (flow_of_all f.body) (members []));
        given = λ n i e. not_asked q f k n i (need_not f n e);
        body = body_holds q f (call_is q all f) (typed_law q h.typed) (fine f k) set (members []) (none_unset f (λ at r. none_read_early q h.typed at (record { function = f; among = has; read = r })));
        results = results_plain q f f f.rets f.result k.well.0 (rets_kept q f k) (all_returned q all f f k);
        exported = λ x. plain_params f f.params (params_clear q all f f k) (words x);
      }

pub inline_law : InlineLaw
inline_law q h =
    let all = all_known q h.typed h.text in
    let words = takes_words q h.typed in
    let set = all_empty (λ (f : Fun). wrongly_set_in f.body) q.funs (none_set_wrongly q h.typed) in
    let has = All-contains_itself q.funs in
    λ i f l. function_is q h all (slice_index_or q.funs i f) (all i f l) (has i f l) (words i f l) (set i f l)
