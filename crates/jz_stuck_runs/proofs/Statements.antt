-- What typing gives of each statement of a function.
use Rattle.std.proofs.Common.{◌≡◌, Bool, true, List, [], ◌++◌, Option, Some, None, map, flat_map, bytes_eq, refl, sym, ap, ◌∙◌, subst}
use Rattle.std.specs.Prelude.{All, is_some, option_map, option_and_then, slice_index_or}
use Rattle.std.specs.Option.{option_or}
use Rattle.std.proofs.lemmas.Bool.{false≢true}
use Rattle.std.proofs.lemmas.List.Elements.{All-append, All-map, All-weaker}
use Rattle.jz_tree.specs.declared.expr.Storage.{Storage}
use Rattle.jz_tree.specs.declared.expr.Storage.TheVariants as storage
use Rattle.jz_tree.specs.declared.expr.Decl.{Decl}
use Rattle.jz_tree.specs.declared.expr.Var.{Var}
use Rattle.jz_tree.specs.declared.expr.Expr.TheViews.{out-Var}
use Rattle.jz_tree.specs.declared.program.Fun.{Fun}
use Rattle.jz_tree.specs.declared.program.Param.{Param}
use Rattle.jz_tree.specs.declared.program.Program.{Program}
use Rattle.jz_type_names.specs.declared.kinds.Kind as known
use Rattle.jz_type_names.specs.declared.kinds.Kind.TheVariants as scope
use Rattle.jz_type_names.specs.declared.kinds.Declared.{Declared}
use Rattle.jz_type_names.specs.Kinds.{Known, declared_of, known_of, is_inline_int, inline_int}
use Rattle.jz_type_names.specs.Scopes.{variables_of, constant_place}
use Rattle.jz_type_names.specs.Parts.{Layer, layer_of, statements_of, called_by}
use Rattle.jz_type_names.proofs.Empty.{both, passed, all_empty}
use Rattle.jz_resolve.specs.Numbering.{constant_decl}
use Rattle.jz_select.specs.Places.{Answers}
use Rattle.jz_select.specs.Shapes.{whichever, kind_layer}
use Rattle.jz_type_storage.specs.Declarations.{may_keep, may_pass, is_kept, is_passed, unkept, unkept_by, unkept_param, unkept_ret, unkept_in}
use Rattle.jz_type_sizes.specs.Mismatches.{among}
use Rattle.jz_type_rows.specs.Copies.{copied_by}
use Rattle.jz_type_rows.specs.Matching.{needs_row}
use Rattle.jz_judgement.specs.Lefts.{NumberKind, IsNumber}
use Rattle.jz_judgement.specs.WellTyped.{WellTyped}
use Rattle.jz_types.specs.Carried.{used_by, Carries, declared_in}
use Rattle.jz_run_laws.specs.Texts.{StatementDeclared, FunctionDeclared}
use Rattle.jz_row_laws.proofs.Copied.{Matches, selected_matches}
use Rattle.jz_texts.specs.Texts.{HasDecl, IsUnmarked}
use Rattle.jz_texts.specs.Declared.{IsNamedIn, IsFunction}
use Rattle.jz_typed_runs.specs.TypedTexts.{IsTypedText, kinds_in}
use Rattle.jz_typed_runs.proofs.Declaring.{IsKept, kept_used, declared_law}
use Rattle.jz_bodies.proofs.Variables.{found_item}
use Rattle.jz_bodies.proofs.Whole as whole
use Rattle.jz_bodies.proofs.Whole.{all_known}

-- ---- integers are inline
abbrev pub InlineKnown : Known → Type 0
InlineKnown k = IsNumber k → is_inline_int k ≡ true

abbrev pub InlineNumber : Var → Type 0
InlineNumber v = InlineKnown (known_of v)

kept_inline : (s : Storage) (k : known.Kind) → may_keep s k ≡ true → NumberKind k → inline_int s k ≡ true
kept_inline storage.Inline scope.Int e n = refl
kept_inline storage.Reg scope.Int e n = absurd (false≢true e)
kept_inline storage.Stack scope.Int e n = absurd (false≢true e)
kept_inline s scope.Truth e n = absurd n
kept_inline s (scope.Word z) e n = absurd n
kept_inline s (scope.Array z) e n = absurd n

passed_inline : (s : Storage) (k : known.Kind) → may_pass s k ≡ true → NumberKind k → inline_int s k ≡ true
passed_inline s scope.Int e n = kept_inline s scope.Int e n
passed_inline s scope.Truth e n = absurd n
passed_inline s (scope.Word z) e n = absurd n
passed_inline s (scope.Array z) e n = absurd n

-- the declaration of a variable of the function
record IsFine (v : Var) : Type 0 where
  pub decl : Decl
  pub some : (out-Var v).decl ≡ Some decl
  pub inline : InlineKnown (Some (declared_of decl))

fine_by : (test : Declared → Bool) → ((d : Declared) → test d ≡ true → InlineKnown (Some d)) → (v : Var) → HasDecl v → unkept test v ≡ [] → IsFine v
fine_by test good v h e = by_decl (out-Var v).decl refl h
  where
    by_decl : (o : Option Decl) → (out-Var v).decl ≡ o → is_some o ≡ true → IsFine v
    by_decl None i s = absurd (false≢true s)
    by_decl (Some d) i s = record {
      decl = d;
      some = i;
      inline = good (declared_of d) (passed (test (declared_of d)) (out-Var v).span (subst (λ o. unkept_by test (option_map declared_of o) (out-Var v).span ≡ []) i e));
    }

two_facts : {A : Type 0} (P Q R : A → Type 0) → ((a : A) → P a → Q a → R a) → (xs : List A) → All P xs → All Q xs → All R xs
two_facts P Q R f xs h k = λ i d lt. f _ (h i d lt) (k i d lt)

module _ (q : Program) (f : Fun) (k : whole.IsKnown q f) where
  kept_parts : (flat_map unkept_param f.params ≡ []) × (flat_map (unkept is_kept) f.vars ≡ [])
  unfolding unkept_in
  kept_parts =
      let a = both (flat_map unkept_param f.params) (flat_map (unkept is_kept) f.vars ++ flat_map (unkept_ret f.span) f.rets) k.kept in
      (a.0, (both (flat_map (unkept is_kept) f.vars) (flat_map (unkept_ret f.span) f.rets) a.1).0)

  abbrev IsRight : Var → Type 0
  IsRight v = HasDecl v → IsFine v

  param_right : (p : Param) → unkept_param p ≡ [] → IsRight p.var
  param_right p e = λ h. fine_by is_passed (λ d t. passed_inline d.storage d.kind t) p.var h e

  var_right : (v : Var) → unkept is_kept v ≡ [] → IsRight v
  var_right v e = λ h. fine_by is_kept (λ d t. kept_inline d.storage d.kind t) v h e

  all_right : All IsRight (variables_of f)
  all_right =
      All-append IsRight (map (λ p. p.var) f.params) f.vars
      (All-map IsRight (λ (p : Param). p.var) f.params (All-weaker (λ p. unkept_param p ≡ []) (λ p. IsRight p.var) param_right f.params (all_empty unkept_param f.params kept_parts.0)))
      (All-weaker (λ v. unkept is_kept v ≡ []) IsRight var_right f.vars (all_empty (unkept is_kept) f.vars kept_parts.1))

  all_fine : All IsFine (variables_of f)
  all_fine = two_facts IsRight HasDecl IsFine (λ v r h. r h) (variables_of f) all_right k.text.declarations

  used_inline : (v : Var) → Carries (declared_in q f) v → IsNamedIn f v → InlineNumber v
  used_inline v c n =
      let own : IsFine n.0 = (found_item (λ y. bytes_eq (out-Var v).name (out-Var y).name) (λ y. true) IsFine (variables_of f) n.0 n.1 all_fine).1 in
      let some : (out-Var v).decl ≡ Some own.decl =
      c ∙ ap (λ o. option_or (option_and_then (λ u. (out-Var u).decl) o) (option_map (λ at. constant_decl) (constant_place q.consts (out-Var v).name))) n.1
      ∙ ap (λ o. option_or o (option_map (λ at. constant_decl) (constant_place q.consts (out-Var v).name))) own.some in
      subst InlineKnown (sym (ap (option_map declared_of) some)) own.inline

-- ---- one statement, without those that stand in it
pub record IsGood (q : Program) (f : Fun) (x : Layer) : Type 0 where
  pub typed : WellTyped (among q.funs) x
  pub declared : StatementDeclared q.funs (kinds_in q f) x
  pub kept : All (IsKept (declared_in q f)) (used_by x)
  pub inline : All InlineNumber (used_by x)
  pub copied : copied_by q.funs x ≡ []
  pub row : needs_row x ≡ true → (answers : Answers) × Matches (kind_layer (whichever answers) x)
  pub unmarked : IsUnmarked x
  pub called : All (IsFunction q) (called_by x)

abbrev pub AreGood : Program → Fun → Type 0
AreGood q f = All (λ s. IsGood q f (layer_of s)) (statements_of f.body)

fun_good : (q : Program) (f : Fun) → whole.IsKnown q f → FunctionDeclared q.funs (kinds_in q f) f → AreGood q f
fun_good q f k d =
    let used = kept_used q f k.text k.names in
    λ i s l. record {
      typed = k.well.1 i s l;
      declared = d.statements i s l;
      kept = used.0 i s l;
      inline = λ j v m. used_inline q f k _ (k.names.carried.0 i s l j v m) (k.names.named.0 i s l j v m);
      copied = k.copied i s l;
      row = λ e. (let r = (k.rows i s l).0 e in selected_matches (slice_index_or (statements_of f.body) i s).kind r.0 r.1);
      unmarked = k.text.unmarked i s l;
      called = k.names.called i s l;
    }

-- ---- functions
pub record IsReady (q : Program) (f : Fun) : Type 0 where
  pub known : whole.IsKnown q f
  pub declared : FunctionDeclared q.funs (kinds_in q f) f
  pub good : AreGood q f

pub all_ready : (q : Program) → IsTypedText q → All (IsReady q) q.funs
all_ready q h =
    let known = all_known q h.typed h.text in
    let declared = declared_law q h in
    λ i f l. record { known = known i f l; declared = declared i f l; good = fun_good q _ (known i f l) (declared i f l) }
