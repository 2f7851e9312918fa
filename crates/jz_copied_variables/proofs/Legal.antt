-- What a function of a typed text declares may be declared.
use Rattle.std.proofs.Common.{◌≡◌, ℕ, List, [], ◌∷◌, ◌++◌, Option, Some, None, true, false, map, flat_map, bytes_eq, refl, sym, ap, ◌∙◌, subst}
use Rattle.std.specs.Prelude.{All, is_some, option_map, option_and_then}
use Rattle.std.specs.Option.{option_or}
use Rattle.std.proofs.lemmas.Bool.{false≢true}
use Rattle.std.proofs.lemmas.List.Elements.{All-append, All-map, All-weaker}
use Rattle.jz_tree.specs.declared.expr.Storage.{Storage}
use Rattle.jz_tree.specs.declared.expr.Storage.TheVariants as storage
use Rattle.jz_tree.specs.declared.expr.Decl.{Decl}
use Rattle.jz_tree.specs.declared.expr.Var.{Var}
use Rattle.jz_tree.specs.declared.expr.Ty.TheVariants as ty
use Rattle.jz_tree.specs.declared.expr.Expr.TheOpen.{Ty-F}
use Rattle.jz_tree.specs.declared.expr.Expr.TheViews.{out-Var, out-roll-Ty}
use Rattle.jz_tree.specs.declared.program.Fun.{Fun}
use Rattle.jz_tree.specs.declared.program.Param.{Param}
use Rattle.jz_tree.specs.declared.program.Program.{Program}
use Rattle.jz_type_names.specs.declared.kinds.Kind as known
use Rattle.jz_type_names.specs.declared.kinds.Kind.TheVariants as scope
use Rattle.jz_type_names.specs.Kinds.{kind_step, kind_of, declared_of}
use Rattle.jz_type_names.specs.Scopes.{variables_of, variable_named, constant_place}
use Rattle.jz_type_names.proofs.Empty.{both, passed, all_empty}
use Rattle.jz_resolve.specs.Numbering.{constant_decl}
use Rattle.jz_type_storage.specs.Declarations.{may_keep, may_pass, is_kept, is_passed, unkept, unkept_by, unkept_param, unkept_ret, unkept_in}
use Rattle.jz_judgement.proofs.Nothing.{same_some}
use Rattle.jz_texts.specs.Texts.{HasDecl}
use Rattle.jz_bodies.proofs.Variables.{found_item}
use Rattle.jz_bodies.proofs.Whole as whole
use Rattle.jz_bodies.proofs.Whole.{params_kept}
use Rattle.jz_copied_variables.proofs.Seen.{IsLegal}

abbrev Legal : Var → Type 0
Legal v = (d : Decl) → (out-Var v).decl ≡ Some d → is_kept (declared_of d) ≡ true

-- and it has a declaration
record IsRight (v : Var) : Type 0 where
  pub has : HasDecl v
  pub legal : Legal v

passed_kept : (s : Storage) (k : known.Kind) → may_pass s k ≡ true → may_keep s k ≡ true
passed_kept s scope.Truth h = absurd (false≢true h)
passed_kept s scope.Int h = h
passed_kept s (scope.Word z) h = h
passed_kept s (scope.Array z) h = h

-- a constant is an inline integer
int_kind : kind_of ty.Int ≡ scope.Int
int_kind = ap (λ t. kind_of t) (sym ty.rolls-Int) ∙ ap kind_step (out-roll-Ty Ty-F.Int)

module _ (q : Program) (f : Fun) (k : whole.IsKnown q f) where
  kept_vars : flat_map (unkept is_kept) f.vars ≡ []
  unfolding unkept_in
  kept_vars =
      let a = both (flat_map unkept_param f.params) (flat_map (unkept is_kept) f.vars ++ flat_map (unkept_ret f.span) f.rets) k.kept in
      (both (flat_map (unkept is_kept) f.vars) (flat_map (unkept_ret f.span) f.rets) a.1).0

  var_legal : (v : Var) → unkept is_kept v ≡ [] → Legal v
  var_legal v e d is = passed (is_kept (declared_of d)) (out-Var v).span (subst (λ o. unkept_by is_kept (option_map declared_of o) (out-Var v).span ≡ []) is e)

  param_legal : (p : Param) → ((d : Decl) → (out-Var p.var).decl ≡ Some d → is_passed (declared_of d) ≡ true) → Legal p.var
  param_legal p h d is = passed_kept d.storage (declared_of d).kind (h d is)

  all_legal : All Legal (variables_of f)
  all_legal =
      All-append Legal (map (λ p. p.var) f.params) f.vars
      (All-map Legal (λ (p : Param). p.var) f.params (All-weaker (λ p. (d : Decl) → (out-Var p.var).decl ≡ Some d → is_passed (declared_of d) ≡ true) (λ p. Legal p.var) param_legal f.params (params_kept q f k)))
      (All-weaker (λ v. unkept is_kept v ≡ []) Legal var_legal f.vars (all_empty (unkept is_kept) f.vars kept_vars))

  all_right : All IsRight (variables_of f)
  all_right = λ i v lt. record { has = k.text.declarations i v lt; legal = all_legal i v lt }

  abbrev constant_of : List ℕ → Option Decl
  constant_of n = option_map (λ at. constant_decl) (constant_place q.consts n)

  of_constant : {A : Type 0} (o : Option A) (d : Decl) → option_map (λ at. constant_decl) o ≡ Some d → is_kept (declared_of d) ≡ true
  of_constant None d e = absurd cc
  of_constant (Some at) d e = subst (λ x. is_kept (declared_of x) ≡ true) (same_some constant_decl d e) (ap (may_keep storage.Inline) int_kind)

  of_variable : (w : Var) (n : List ℕ) (d : Decl) (o : Option Decl) → IsRight w → (out-Var w).decl ≡ o → option_or o (constant_of n) ≡ Some d → is_kept (declared_of d) ≡ true
  of_variable w n d None h i e = absurd (false≢true (sym (ap is_some i) ∙ h.has))
  of_variable w n d (Some c) h i e = h.legal d (i ∙ e)

  by_name : (n : List ℕ) (d : Decl) (o : Option Var) → variable_named n (variables_of f) ≡ o → option_or (option_and_then (λ v. (out-Var v).decl) o) (constant_of n) ≡ Some d → is_kept (declared_of d) ≡ true
  by_name n d None i e = of_constant (constant_place q.consts n) d e
  by_name n d (Some w) i e =
      of_variable w n d (out-Var w).decl (found_item (λ y. bytes_eq n (out-Var y).name) (λ y. true) IsRight (variables_of f) w i all_right).1 refl e

  pub legal : IsLegal q f
  legal n d e = by_name n d (variable_named n (variables_of f)) refl e
