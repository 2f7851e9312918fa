-- The length of each array of a typed program is a number.
use Rattle.std.proofs.Common.{◌≡◌, ℕ, ◌≤◌, ℤ, List, [], ◌∷◌, ◌++◌, Bool, true, ◌&&◌, ◌||◌, Option, Some, None, map, flat_map, refl, sym, ap, ap₂, ◌∙◌, subst, arith}
use Rattle.std.specs.Prelude.{pos, negsuc, nat_le, All, is_some, option_map, option_to_list}
use Rattle.std.proofs.lemmas.Bool.{false≢true, and_parts}
use Rattle.std.proofs.lemmas.Bool.Decides.{nat_tests}
use Rattle.std.proofs.lemmas.List.{map-append}
use Rattle.std.proofs.lemmas.List.Elements.{All-map, All-weaker}
use Rattle.jz_tree.specs.Span.{Span}
use Rattle.jz_tree.specs.Size.{Size}
use Rattle.jz_tree.specs.declared.expr.Expr.{Expr}
use Rattle.jz_tree.specs.declared.expr.Expr.TheVariants as expr
use Rattle.jz_tree.specs.declared.expr.Ty.{Ty}
use Rattle.jz_tree.specs.declared.expr.Access.{Access}
use Rattle.jz_tree.specs.declared.expr.Decl.{Decl}
use Rattle.jz_tree.specs.declared.expr.Var.{Var}
use Rattle.jz_tree.specs.declared.expr.Expr.TheOpen.{Expr-F, Ty-F, Var-F}
use Rattle.jz_tree.specs.declared.expr.Expr.TheViews.{out-Expr, out-Ty, out-Var, out-roll-Ty, out-roll-Expr}
use Rattle.jz_tree.specs.declared.program.Fun.{Fun}
use Rattle.jz_tree.specs.declared.program.Param.{Param}
use Rattle.jz_tree.specs.declared.program.Ret.{Ret}
use Rattle.jz_tree.specs.declared.program.Program.{Program}
use Rattle.jz_type_names.specs.declared.kinds.Kind.TheVariants as kind
use Rattle.jz_type_names.specs.Kinds.{kind_step, kind_of, number_layer, length_written}
use Rattle.jz_type_names.specs.Order.{unless, earliest}
use Rattle.jz_type_names.specs.Scopes.{Name, constant_place, variable_place}
use Rattle.jz_type_names.specs.Parts.{span_of, length_layer}
use Rattle.jz_type_names.specs.Names.{is_constant, var_decl, param_decl, ret_decls, decls_of}
use Rattle.jz_type_names.proofs.Empty.{both, passed, all_empty}
use Rattle.jz_types.specs.Numbering.{Values, value_with, values_of, length_of}
use Rattle.jz_types.specs.ResolvePrograms.{counted_length, counted_by, counted_layer, counted_decl, counted_var, counted_param, counted_ret}
use Rattle.jz_judgement.specs.Lengths.{is_length, unbuilt, length_wrong, decl_wrong, fun_lengths}
use Rattle.jz_judgement.specs.Mismatches.{constant_wrong, mismatched_as_read}
use Rattle.jz_types.proofs.ProgramsKept.{var_out}
use Rattle.jz_texts.specs.Declared.{IsCountedDecl}
use Rattle.jz_texts.proofs.Resolved.{H}

abbrev VarLayer : Type 0
VarLayer = Var-F Expr Ty Access Decl Var

abbrev TyLayer : Type 0
TyLayer = Ty-F Expr Ty Access Decl Var

-- ---- a number that may be a length
record IsLength (n : Option ℤ) : Type 0 where
  pub count : ℕ
  pub least : 1 ≤ count
  pub most : count ≤ 65536
  pub same : n ≡ Some (pos count)

at_most : (n : ℕ) → (nat_le 1 n && nat_le n 65536) ≡ true → (1 ≤ n) × (n ≤ 65536)
at_most n h = let p = and_parts (nat_le 1 n) (nat_le n 65536) h in (least n p.0, most n p.1)
  where
    least : (n : ℕ) → nat_le 1 n ≡ true → 1 ≤ n
    least n h = grind (arith, nat_tests)

    most : (n : ℕ) → nat_le n 65536 ≡ true → n ≤ 65536
    most n h = grind (arith, nat_tests)

a_length : (n : Option ℤ) → is_length n ≡ true → IsLength n
a_length None h = absurd (false≢true h)
a_length (Some (negsuc n)) h = absurd (false≢true h)
a_length (Some (pos n)) h = let p = at_most n h in record { count = n; least = p.0; most = p.1; same = refl }

only_length : (us : List Span) (c : Bool) → us ≡ [] → (is_some (earliest us) || c) ≡ true → c ≡ true
only_length us c e h = subst (λ xs. (is_some (earliest xs) || c) ≡ true) e h

no_rest : (us : List Span) → us ++ [] ≡ [] → us ≡ []
no_rest us e = (both us [] e).0

-- ---- a declaration
module _ (constant : Name → Bool) (values : Values) where
  length_so : (e : Expr) → length_wrong constant (value_with values) e ≡ [] → IsLength (value_with values e)
  length_so e h =
      let p = both (unbuilt constant e) (unless (is_some (earliest (unbuilt constant e)) || is_length (value_with values e)) (span_of e)) h in
      a_length (value_with values e)
      (only_length (unbuilt constant e) (is_length (value_with values e)) p.0
      (passed (is_some (earliest (unbuilt constant e)) || is_length (value_with values e)) (span_of e) p.1))

  number_out : (n : ℤ) (at : Span) → number_layer (out-Expr (expr.Num n at)) ≡ Some n
  number_out n at = ap (λ e. number_layer (out-Expr e)) (sym (expr.rolls-Num n at)) ∙ ap number_layer (out-roll-Expr (Expr-F.Num n at))

  counted_number : (e : Expr) (k : Option ℤ) (n : ℕ) → k ≡ Some (pos n) → number_layer (out-Expr (counted_length k e)) ≡ Some (pos n)
  counted_number e k n is = ap (λ x. number_layer (out-Expr (counted_length x e))) is ∙ number_out (pos n) (span_of e)

  abbrev HasLengthTy : Ty → Type 0
  HasLengthTy t = (n : ℕ) × (1 ≤ n) × (n ≤ 65536) × (length_written (out-Ty t) ≡ Some (pos n))

  layer_length : (x : TyLayer) → flat_map (length_wrong constant (value_with values)) (length_layer x) ≡ [] → (z : Size) → kind_of (counted_layer values x) ≡ kind.Array z → HasLengthTy (counted_layer values x)
  layer_length Ty-F.Int h z e = absurd (clash (sym (ap kind_step (out-roll-Ty Ty-F.Int)) ∙ e))
    where
      clash : kind.Int ≡ kind.Array z → ⊥
      clash e = cc
  layer_length Ty-F.Ty::Bool h z e = absurd (clash (sym (ap kind_step (out-roll-Ty Ty-F.Ty::Bool)) ∙ e))
    where
      clash : kind.Truth ≡ kind.Array z → ⊥
      clash e = cc
  layer_length (Ty-F.Word y) h z e = absurd (clash (sym (ap kind_step (out-roll-Ty (Ty-F.Word y))) ∙ e))
    where
      clash : kind.Word y ≡ kind.Array z → ⊥
      clash e = cc
  layer_length (Ty-F.Array y e) h z k =
      let l = length_so e (no_rest (length_wrong constant (value_with values) e) h) in
      (l.count, l.least, l.most, ap length_written (out-roll-Ty (Ty-F.Array y (counted_by values e))) ∙ counted_number e (value_with values e) l.count l.same)

  decl_length : (d : Decl) → decl_wrong constant (value_with values) d ≡ [] → IsCountedDecl (counted_decl values d)
  decl_length d h z e =
      let l = layer_length (out-Ty d.ty) h z e in
      record { count = l.0; least = l.1; most = l.2; written = l.3 }

-- ---- the declarations of a function
module _ (values : Values) where
  some_counted : (o : Option Decl) → option_to_list (option_map (counted_decl values) o) ≡ map (counted_decl values) (option_to_list o)
  some_counted None = refl
  some_counted (Some d) = refl

  var_counted : (v : Var) → var_decl (counted_var values v) ≡ map (counted_decl values) (var_decl v)
  var_counted v = ap (λ (y : VarLayer). option_to_list y.decl) (var_out values v) ∙ some_counted (out-Var v).decl

  vars_counted : (vs : List Var) → flat_map var_decl (map (counted_var values) vs) ≡ map (counted_decl values) (flat_map var_decl vs)
  vars_counted [] = refl
  vars_counted (v ∷ vs) = ap₂ (λ x y. x ++ y) (var_counted v) (vars_counted vs) ∙ sym (map-append (counted_decl values) (var_decl v) (flat_map var_decl vs))

  params_counted : (ps : List Param) → flat_map param_decl (map (counted_param values) ps) ≡ map (counted_decl values) (flat_map param_decl ps)
  params_counted [] = refl
  params_counted (p ∷ ps) = ap₂ (λ x y. x ++ y) (var_counted p.var) (params_counted ps) ∙ sym (map-append (counted_decl values) (param_decl p) (flat_map param_decl ps))

  rets_counted : (rs : List Ret) → ret_decls (map (counted_ret values) rs) ≡ map (counted_decl values) (ret_decls rs)
  rets_counted [] = refl
  rets_counted (r ∷ rs) = ap (λ ds. counted_decl values r.decl ∷ ds) (rets_counted rs)

decls_counted : (p : Program) (f : Fun) → decls_of (H p f) ≡ map (counted_decl (values_of p.consts)) (decls_of f)
decls_counted p f =
    let values = values_of p.consts in
    ap₂ (λ x y. x ++ y)
    (ap₂ (λ x y. x ++ y) (params_counted values f.params) (rets_counted values f.rets) ∙ sym (map-append (counted_decl values) (flat_map param_decl f.params) (ret_decls f.rets)))
    (vars_counted values f.vars)
    ∙ sym (map-append (counted_decl values) (flat_map param_decl f.params ++ ret_decls f.rets) (flat_map var_decl f.vars))

fun_length : (p : Program) (f : Fun) → fun_lengths (constant_place p.consts) (length_of p.consts) f ≡ [] → All IsCountedDecl (decls_of (H p f))
unfolding fun_lengths
fun_length p f e =
    let constant = is_constant (constant_place p.consts) (variable_place f) in
    let values = values_of p.consts in
    subst (All IsCountedDecl) (sym (decls_counted p f))
    (All-map IsCountedDecl (counted_decl values) (decls_of f)
    (All-weaker (λ d. decl_wrong constant (value_with values) d ≡ []) (λ d. IsCountedDecl (counted_decl values d)) (decl_length constant values) (decls_of f)
    (all_empty (decl_wrong constant (value_with values)) (decls_of f) e)))

pub lengths_so : (p : Program) → mismatched_as_read (length_of p.consts) p ≡ [] → All (λ f. All IsCountedDecl (decls_of (H p f))) p.funs
lengths_so p e =
    let h = both (flat_map constant_wrong p.consts) (flat_map (fun_lengths (constant_place p.consts) (length_of p.consts)) p.funs) e in
    All-weaker (λ f. fun_lengths (constant_place p.consts) (length_of p.consts) f ≡ []) (λ f. All IsCountedDecl (decls_of (H p f))) (fun_length p) p.funs
    (all_empty (fun_lengths (constant_place p.consts) (length_of p.consts)) p.funs h.1)
