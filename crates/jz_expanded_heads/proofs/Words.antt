-- The parameters and the results of an export function are words in registers.
use Rattle.std.proofs.Common.{◌≡◌, ◌≤◌, ℕ, Bool, true, false, not, ◌&&◌, ◌||◌, List, [], ◌∷◌, length, map, Some, sym, ap, ◌∙◌, subst, arith}
use Rattle.std.specs.Prelude.{All, option_map, nat_le}
use Rattle.std.specs.List.{list_all}
use Rattle.std.proofs.lemmas.Bool.{and_parts, false≢true}
use Rattle.std.proofs.lemmas.Bool.Decides.{nat_tests}
use Rattle.std.proofs.lemmas.List.{length-map}
use Rattle.std.proofs.lemmas.List.Elements.{All-nil, All-cons, All-map, All-weaker}
use Rattle.jz_tree.specs.declared.expr.Expr.{Expr}
use Rattle.jz_tree.specs.declared.expr.Ty.{Ty}
use Rattle.jz_tree.specs.declared.expr.Access.{Access}
use Rattle.jz_tree.specs.declared.expr.Decl.{Decl}
use Rattle.jz_tree.specs.declared.expr.Var.{Var}
use Rattle.jz_tree.specs.declared.expr.Expr.TheOpen.{Var-F}
use Rattle.jz_tree.specs.declared.expr.Expr.TheViews.{out-Var}
use Rattle.jz_tree.specs.declared.program.Fun.{Fun}
use Rattle.jz_tree.specs.declared.program.Param.{Param}
use Rattle.jz_tree.specs.declared.program.Ret.{Ret}
use Rattle.jz_tree.specs.declared.program.Program.{Program}
use Rattle.jz_type_names.specs.Kinds.{declared_of, known_of, is_register_word}
use Rattle.jz_type_names.specs.Scopes.{constant_place}
use Rattle.jz_type_names.proofs.Empty.{passed, all_empty, no_member}
use Rattle.jz_type_rows.specs.Exports.{is_exported, has_shape, is_word_param, is_word_result, misshapen_places}
use Rattle.jz_type_rows.specs.Programs.{in_functions}
use Rattle.jz_resolve.specs.Numbering.{values_of}
use Rattle.jz_resolve.specs.Numbering as numbering
use Rattle.jz_resolve.specs.Programs.{counted_var, counted_param, counted_ret, resolved_whole, resolved_program}
use Rattle.jz_types.specs.TypedPrograms.{IsTypedProgram}
use Rattle.jz_types.specs.declared.fault.TypeRule.TheVariants as rule
use Rattle.jz_types.proofs.ProgramsKept.{decl_known, var_out}

abbrev pub IsWord : Param → Type 0
IsWord p = is_word_param p ≡ true

abbrev pub IsWordRet : Ret → Type 0
IsWordRet r = is_word_result r ≡ true

pub record HasWords (f : Fun) : Type 0 where
  pub params : All IsWord f.params
  pub rets : All IsWordRet f.rets
  pub few_params : length f.params ≤ 6
  pub few_rets : length f.rets ≤ 2

abbrev pub IfExported : Fun → Type 0
IfExported f = is_exported f.kind ≡ true → HasWords f

each_so : {A : Type 0} (test : A → Bool) (xs : List A) → list_all test xs ≡ true → All (λ x. test x ≡ true) xs
each_so test [] e = All-nil (λ x. test x ≡ true)
each_so test (x ∷ xs) e = let p = and_parts (test x) (list_all test xs) e in All-cons (λ y. test y ≡ true) x xs p.0 (each_so test xs p.1)

not_or : (a b : Bool) → (not a || b) ≡ true → a ≡ true → b ≡ true
not_or true b e f = e
not_or false b e f = absurd (false≢true f)

at_most : (a b : ℕ) → nat_le a b ≡ true → a ≤ b
at_most a b h = grind (arith, nat_tests, h)

few_mapped : {A B : Type 0} (f : A → B) (xs : List A) (n : ℕ) → length xs ≤ n → length (map f xs) ≤ n
few_mapped f xs n h = subst (λ m. m ≤ n) (sym (length-map xs f)) h

shape_words : (f : Fun) → misshapen_places f ≡ [] → IfExported f
shape_words f e x =
    let shape = not_or (is_exported f.kind) (has_shape f) (passed (not (is_exported f.kind) || has_shape f) f.span e) x in
    let both = and_parts (nat_le (length f.params) 6 && nat_le (length f.rets) 2 && list_all is_word_param f.params) (list_all is_word_result f.rets) shape in
    let three = and_parts (nat_le (length f.params) 6 && nat_le (length f.rets) 2) (list_all is_word_param f.params) both.0 in
    let counts = and_parts (nat_le (length f.params) 6) (nat_le (length f.rets) 2) three.0 in
    record {
      params = each_so is_word_param f.params three.1;
      rets = each_so is_word_result f.rets both.1;
      few_params = at_most (length f.params) 6 counts.0;
      few_rets = at_most (length f.rets) 2 counts.1;
    }

module _ (p : Program) where
  abbrev values : numbering.Values
  values = values_of p.consts

  var_known : (v : Var) → known_of (counted_var values v) ≡ known_of v
  var_known v = ap (λ (y : Var-F Expr Ty Access Decl Var). option_map declared_of y.decl) (var_out values v) ∙ decl_known values (out-Var v).decl

  counted_words : (q : Param) → IsWord q → IsWord (counted_param values q)
  counted_words q e = ap is_register_word (var_known q.var) ∙ e

  counted_rets : (r : Ret) → IsWordRet r → IsWordRet (counted_ret values r)
  counted_rets r e = ap is_register_word (decl_known values (Some r.decl)) ∙ e

  resolved_words : (f : Fun) → IfExported f → IfExported (resolved_whole (constant_place p.consts) values f)
  resolved_words f h x = record {
    params = All-map IsWord (counted_param values) f.params (All-weaker IsWord (λ q. IsWord (counted_param values q)) counted_words f.params (h x).params);
    rets = All-map IsWordRet (counted_ret values) f.rets (All-weaker IsWordRet (λ r. IsWordRet (counted_ret values r)) counted_rets f.rets (h x).rets);
    few_params = few_mapped (counted_param values) f.params 6 (h x).few_params;
    few_rets = few_mapped (counted_ret values) f.rets 2 (h x).few_rets;
  }

  all_words : in_functions misshapen_places p ≡ [] → All IfExported (resolved_program p).funs
  all_words e =
      All-map IfExported (resolved_whole (constant_place p.consts) values) p.funs
      (All-weaker (λ f. misshapen_places f ≡ []) (λ f. IfExported (resolved_whole (constant_place p.consts) values f)) (λ f h. resolved_words f (shape_words f h)) p.funs (all_empty misshapen_places p.funs e))

pub exported_words : (q : Program) → IsTypedProgram q → All IfExported q.funs
exported_words q h =
    subst (λ z. All IfExported z.funs) (sym h.same)
    (all_words h.source (no_member (in_functions misshapen_places h.source) (λ at c. h.typed rule.ExportShape at c)))
