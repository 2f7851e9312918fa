-- The parameters of an export function are words in registers.
use Rattle.std.proofs.Common.{◌≡◌, Bool, true, false, not, ◌&&◌, ◌||◌, List, [], ◌∷◌, length, Option, Some, None, refl, sym, ap, ◌∙◌, subst}
use Rattle.std.specs.Prelude.{All, option_map, nat_le}
use Rattle.std.specs.List.{list_all}
use Rattle.std.proofs.lemmas.Bool.{and_parts, false≢true}
use Rattle.std.proofs.lemmas.List.Elements.{All-nil, All-cons, All-map, All-weaker}
use Rattle.jz_tree.specs.declared.expr.Storage.{Storage}
use Rattle.jz_tree.specs.declared.expr.Storage.TheVariants as storage
use Rattle.jz_tree.specs.declared.expr.Decl.{Decl}
use Rattle.jz_tree.specs.declared.expr.Expr.{Expr}
use Rattle.jz_tree.specs.declared.expr.Ty.{Ty}
use Rattle.jz_tree.specs.declared.expr.Access.{Access}
use Rattle.jz_tree.specs.declared.expr.Var.{Var}
use Rattle.jz_tree.specs.declared.expr.Expr.TheOpen.{Var-F}
use Rattle.jz_tree.specs.declared.expr.Expr.TheViews.{out-Var}
use Rattle.jz_tree.specs.declared.program.Fun.{Fun}
use Rattle.jz_tree.specs.declared.program.Param.{Param}
use Rattle.jz_tree.specs.declared.program.Program.{Program}
use Rattle.jz_type_names.specs.Kinds.{declared_of, known_of, kind_of, is_word_kind, is_register_word, same_storage}
use Rattle.jz_type_names.specs.Scopes.{constant_place}
use Rattle.jz_type_names.proofs.Empty.{passed, all_empty, no_member}
use Rattle.jz_type_rows.specs.Exports.{is_exported, has_shape, is_word_param, is_word_result, misshapen_places}
use Rattle.jz_type_rows.specs.Programs.{in_functions}
use Rattle.jz_resolve.specs.Numbering.{values_of}
use Rattle.jz_resolve.specs.Numbering as numbering
use Rattle.jz_resolve.specs.Programs.{counted_var, counted_param, resolved_whole, resolved_program}
use Rattle.jz_types.specs.TypedPrograms.{IsTypedProgram}
use Rattle.jz_types.specs.declared.fault.TypeRule.TheVariants as rule
use Rattle.jz_types.proofs.ProgramsKept.{decl_known, var_out}
use Rattle.jz_meaning.specs.declared.access.Kind.{Kind}
use Rattle.jz_meaning.specs.Values.{Ref, ref_of}
use Rattle.jz_distinct.specs.Declared.{kept_as, kept_by}
use Rattle.jz_compiling.specs.SignatureLaws.{IsUnstacked}

abbrev IsWord : Param → Type 0
IsWord p = is_word_param p ≡ true

abbrev TakesWords : Fun → Type 0
TakesWords f = is_exported f.kind ≡ true → All IsWord f.params

each_so : {A : Type 0} (test : A → Bool) (xs : List A) → list_all test xs ≡ true → All (λ x. test x ≡ true) xs
each_so test [] e = All-nil (λ x. test x ≡ true)
each_so test (x ∷ xs) e = let p = and_parts (test x) (list_all test xs) e in All-cons (λ y. test y ≡ true) x xs p.0 (each_so test xs p.1)

not_or : (a b : Bool) → (not a || b) ≡ true → a ≡ true → b ≡ true
not_or true b e f = e
not_or false b e f = absurd (false≢true f)

shape_words : (f : Fun) → misshapen_places f ≡ [] → TakesWords f
shape_words f e x =
    let shape = not_or (is_exported f.kind) (has_shape f) (passed (not (is_exported f.kind) || has_shape f) f.span e) x in
    let three = (and_parts (nat_le (length f.params) 6 && nat_le (length f.rets) 2 && list_all is_word_param f.params) (list_all is_word_result f.rets) shape).0 in
    each_so is_word_param f.params (and_parts (nat_le (length f.params) 6 && nat_le (length f.rets) 2) (list_all is_word_param f.params) three).1

module _ (p : Program) where
  abbrev values : numbering.Values
  values = values_of p.consts

  var_known : (v : Var) → known_of (counted_var values v) ≡ known_of v
  var_known v = ap (λ (y : Var-F Expr Ty Access Decl Var). option_map declared_of y.decl) (var_out values v) ∙ decl_known values (out-Var v).decl

  counted_words : (q : Param) → IsWord q → IsWord (counted_param values q)
  counted_words q e = ap is_register_word (var_known q.var) ∙ e

  resolved_words : (f : Fun) → TakesWords f → TakesWords (resolved_whole (constant_place p.consts) values f)
  resolved_words f h x = All-map IsWord (counted_param values) f.params (All-weaker IsWord (λ q. IsWord (counted_param values q)) counted_words f.params (h x))

  all_words : in_functions misshapen_places p ≡ [] → All TakesWords (resolved_program p).funs
  all_words e =
      All-map TakesWords (resolved_whole (constant_place p.consts) values) p.funs
      (All-weaker (λ f. misshapen_places f ≡ []) (λ f. TakesWords (resolved_whole (constant_place p.consts) values f)) (λ f h. resolved_words f (shape_words f h)) p.funs (all_empty misshapen_places p.funs e))

takes_words : (q : Program) → IsTypedProgram q → All TakesWords q.funs
takes_words q h =
    subst (λ z. All TakesWords z.funs) (sym h.same)
    (all_words h.source (no_member (in_functions misshapen_places h.source) (λ at c. h.typed rule.ExportShape at c)))

-- so none is in the frame
by_storage : (s : Storage) (k : Kind) (x : Ref) → same_storage s storage.Reg ≡ true → kept_as s k x ≡ []
by_storage storage.Reg k x e = refl
by_storage storage.Stack k x e = cc
by_storage storage.Inline k x e = refl

by_declaration : (d : Option Decl) (x : Ref) → is_register_word (option_map declared_of d) ≡ true → kept_by d x ≡ []
by_declaration None x e = refl
by_declaration (Some d) x e = by_storage d.storage x.kind x (and_parts (same_storage d.storage storage.Reg) (is_word_kind (kind_of d.ty)) e).0

pub unstacked : (q : Program) → IsTypedProgram q → All (λ f. is_exported f.kind ≡ true → All IsUnstacked f.params) q.funs
unstacked q h =
    All-weaker TakesWords (λ f. is_exported f.kind ≡ true → All IsUnstacked f.params)
    (λ f w x. All-weaker IsWord IsUnstacked (λ p e. by_declaration (out-Var p.var).decl (ref_of p.var) e) f.params (w x)) q.funs (takes_words q h)
