-- An expression that has a type reads what the function has.
use Rattle.std.proofs.Common.{◌≡◌, Bool, true, false, not, ◌&&◌, [], refl, sym, ap, ◌∙◌, subst}
use Rattle.std.specs.Prelude.{All}
use Rattle.std.proofs.lemmas.List.Elements.{All-head, All-tail}
use Rattle.std.proofs.lemmas.Bool.{and_from, not_from_false}
use Rattle.jz_tree.specs.Size.{Size}
use Rattle.jz_tree.specs.declared.expr.Expr.{Expr}
use Rattle.jz_tree.specs.declared.expr.Ty.{Ty}
use Rattle.jz_tree.specs.declared.expr.Access.{Access}
use Rattle.jz_tree.specs.declared.expr.Decl.{Decl}
use Rattle.jz_tree.specs.declared.expr.Var.{Var}
use Rattle.jz_tree.specs.declared.expr.Expr.TheOpen.{Expr-F}
use Rattle.jz_tree.specs.declared.expr.Expr.TheViews.{out-Expr, out-Access, roll-Expr, roll-Access, out-roll-Expr, roll-out-Expr, roll-out-Access}
use Rattle.jz_tree.specs.declared.expr.Expr.TheFolds.{map-Expr, para-roll-Expr, para-roll-Access, ind-Expr}
use Rattle.jz_tree.specs.declared.program.Fun.{Fun}
use Rattle.jz_tree.specs.declared.program.Program.{Program}
use Rattle.jz_type_names.specs.Kinds.{known_of}
use Rattle.jz_type_names.specs.Scopes.{variables_of}
use Rattle.jz_judgement.specs.Places.{Place, index, stated, Goes, IsArrayOf}
use Rattle.jz_judgement.specs.HasType as judged
use Rattle.jz_judgement.specs.HasType.{AccessLayer, value, HasType, Types, Accesses}
use Rattle.jz_run_laws.specs.Carried.{vars_in}
use Rattle.jz_meaning.specs.Values.{Ref, ref_of}
use Rattle.jz_run_laws.proofs.Sizes.{types_of, left_type, right_type}
use Rattle.jz_texts.proofs.Lists.{parted}
use Rattle.jz_texts.proofs.Variables.{layer_vars, vars_rolled}
use Rattle.jz_bodies.specs.Scopes.{Scope, known_step, is_over, is_access_over, Reads}
use Rattle.jz_bodies.specs.Calls.{is_array}
use Rattle.jz_bodies.specs.Declared.{is_among, scopes_in}
use Rattle.jz_bodies.proofs.Variables.{IsVariable, scalar_goes, array_known}

abbrev Layer : Type 0
Layer = Expr-F Expr Ty Access Decl Var

-- ---- the variables of an expression

pub vars_is : (e : Expr) → vars_in e ≡ layer_vars (out-Expr e)
vars_is e = ap vars_in (sym (roll-out-Expr e)) ∙ vars_rolled (out-Expr e)

-- ---- what a layer reads

module _ (scalar array : Ref → Bool) where
  pub access_over : (a : Access) → is_access_over scalar array a ≡ is_over scalar array (out-Access a).at
  access_over a = ap (is_access_over scalar array) (sym (roll-out-Access a)) ∙ para-roll-Access Bool (Unit {0}) Bool (Unit {0}) (Unit {0}) (known_step scalar array) (λ t. tt) (λ a. a.at.1) (λ d. tt) (λ v. tt) (out-Access a)

  abbrev pub layer_over : Layer → Bool
  layer_over (Expr-F.Num n at) = true
  layer_over (Expr-F.Expr::Bool b at) = true
  layer_over (Expr-F.Var v) = scalar (ref_of v)
  layer_over (Expr-F.Cell v i) = array (ref_of v) && is_over scalar array i
  layer_over (Expr-F.Load a) = is_over scalar array (out-Access a).at
  layer_over (Expr-F.Neg a at) = is_over scalar array a
  layer_over (Expr-F.Not a at) = is_over scalar array a
  layer_over (Expr-F.Cast z s a at) = is_over scalar array a
  layer_over (Expr-F.Bin o a b at) = is_over scalar array a && is_over scalar array b

  paired : Layer → Expr-F (Expr × Bool) (Ty × Unit {0}) (Access × Bool) (Decl × Unit {0}) (Var × Unit {0})
  paired x = map-Expr _ _ _ _ _ _ _ _ _ _ (λ y. (y, is_over scalar array y)) (λ y. (y, tt)) (λ y. (y, is_access_over scalar array y)) (λ y. (y, tt)) (λ y. (y, tt)) x

  over_step : (x : Layer) → is_over scalar array (roll-Expr x) ≡ known_step scalar array (paired x)
  unfolding paired
  over_step x = para-roll-Expr Bool (Unit {0}) Bool (Unit {0}) (Unit {0}) (known_step scalar array) (λ t. tt) (λ a. a.at.1) (λ d. tt) (λ v. tt) x

  pub over_rolled : (x : Layer) → is_over scalar array (roll-Expr x) ≡ layer_over x
  unfolding paired
  over_rolled (Expr-F.Num n at) = over_step (Expr-F.Num n at)
  over_rolled (Expr-F.Expr::Bool b at) = over_step (Expr-F.Expr::Bool b at)
  over_rolled (Expr-F.Var v) = over_step (Expr-F.Var v)
  over_rolled (Expr-F.Cell v i) = over_step (Expr-F.Cell v i)
  over_rolled (Expr-F.Load a) = over_step (Expr-F.Load a) ∙ access_over a
  over_rolled (Expr-F.Neg a at) = over_step (Expr-F.Neg a at)
  over_rolled (Expr-F.Not a at) = over_step (Expr-F.Not a at)
  over_rolled (Expr-F.Cast z s a at) = over_step (Expr-F.Cast z s a at)
  over_rolled (Expr-F.Bin o a b at) = over_step (Expr-F.Bin o a b at)

-- ---- accesses
pub access_index : (a : AccessLayer) (p : Place) → Accesses a p → HasType (value a.at) index
access_index a p (judged.sized z e t h) = h
access_index a p (judged.bare e h) = h

-- ---- expressions of a function
module _ (q : Program) (f : Fun) where
  abbrev X : Scope
  X = scopes_in q f

  abbrev V : Var → Type 0
  V = IsVariable q f

  pub has_scalar : (v : Var) → V v → is_array (ref_of v).kind ≡ false → X.has_scalar (ref_of v) ≡ true
  has_scalar v h e = and_from (not (is_array (ref_of v).kind)) (is_among (ref_of v) (variables_of f)) (not_from_false (is_array (ref_of v).kind) e) h.among

  pub has_array : (v : Var) → V v → is_array (ref_of v).kind ≡ true → X.has_array (ref_of v) ≡ true
  has_array v h e = and_from (is_array (ref_of v).kind) (is_among (ref_of v) (variables_of f)) e h.among

  pub known_scalar : (v : Var) (p : Place) → V v → Goes (known_of v) p → X.has_scalar (ref_of v) ≡ true
  known_scalar v p h g = has_scalar v h (scalar_goes q f v h p g)

  pub known_array : (v : Var) (z : Size) → V v → IsArrayOf z (known_of v) → X.has_array (ref_of v) ≡ true
  known_array v z h g = has_array v h (ap is_array (array_known q f v h z g).1)

  abbrev Law : Expr → Type 0
  Law e = (p : Place) → HasType (value e) p → All V (vars_in e) → Reads X e

  abbrev Proved : Type 0
  Proved = Expr-F ((e : Expr) × Law e) (Ty × Unit {0}) ((a : Access) × Law (out-Access a).at) (Decl × Unit {0}) (Var × Unit {0})

  abbrev bare : Proved → Layer
  bare y = map-Expr _ _ _ _ _ Expr Ty Access Decl Var (λ e. e.0) (λ e. e.0) (λ e. e.0) (λ e. e.0) (λ e. e.0) y

  layer_reads : (y : Proved) (p : Place) → Types (bare y) p → All V (layer_vars (bare y)) → layer_over X.has_scalar X.has_array (bare y) ≡ true
  unfolding layer_vars
  layer_reads (Expr-F.Num n at) p t h = refl
  layer_reads (Expr-F.Expr::Bool b at) p t h = refl
  layer_reads (Expr-F.Var v) p (judged.variable g) h = known_scalar v.0 p (All-head V v.0 [] h) g
  layer_reads (Expr-F.Cell v i) p (judged.cell z g w x) h =
      and_from (X.has_array (ref_of v.0)) (is_over X.has_scalar X.has_array i.0) (known_array v.0 z (All-head V v.0 (vars_in i.0) h) g) (i.1 index x (All-tail V v.0 (vars_in i.0) h))
  layer_reads (Expr-F.Load a) p (judged.load x) h = a.1 index (access_index (out-Access a.0) p x) h
  layer_reads (Expr-F.Neg a at) p (judged.negated k x) h = a.1 p x h
  layer_reads (Expr-F.Not a at) p (judged.inverted x) h = a.1 p x h
  layer_reads (Expr-F.Cast z s a at) p (judged.cast y t says x) h = a.1 (stated y) x h
  layer_reads (Expr-F.Bin o a b at) p (judged.operation x) h =
      let l = left_type o (value a.0) (value b.0) p x in
      let r = right_type o (value a.0) (value b.0) p x in
      let parts = parted V (vars_in a.0) (vars_in b.0) h in
      and_from (is_over X.has_scalar X.has_array a.0) (is_over X.has_scalar X.has_array b.0) (a.1 l.0 l.1 parts.0) (b.1 r.0 r.1 parts.1)

  expr_case : (y : Proved) → Law (roll-Expr (bare y))
  expr_case y p t h =
      over_rolled X.has_scalar X.has_array (bare y)
      ∙ layer_reads y p (subst (λ x. Types x p) (out-roll-Expr (bare y)) (types_of (roll-Expr (bare y)) p t)) (subst (All V) (vars_rolled (bare y)) h)

  pub reads : (e : Expr) → Law e
  reads =
      ind-Expr Law (λ t. Unit {0}) (λ a. Law (out-Access a).at) (λ d. Unit {0}) (λ v. Unit {0})
      (λ x y is. subst (λ z. Law (roll-Expr z)) is (expr_case y))
      (λ x y is. tt)
      (λ x y is. subst (λ z. Law (out-Access (roll-Access z)).at) is y.at.1)
      (λ x y is. tt)
      (λ x y is. tt)

  pub reads_at : (a : Access) → HasType (value (out-Access a).at) index → All V (vars_in (out-Access a).at) → is_access_over X.has_scalar X.has_array a ≡ true
  reads_at a t h = access_over X.has_scalar X.has_array a ∙ reads (out-Access a).at index t h
