-- Why an expression of a typed program is stuck, in each state that a run comes to.
use Rattle.std.proofs.Common.{ℕ, List, [], ◌∷◌, Option, flat_map, sym, ap, ◌∙◌, subst}
use Rattle.std.specs.Prelude.{All, Contains, slice_index_or}
use Rattle.std.proofs.lemmas.List.Elements.{All-nil, All-cons, All-head, All-tail, All-contains, All-contains_itself}
use Rattle.jz_tree.specs.declared.expr.Expr.{Expr}
use Rattle.jz_tree.specs.declared.expr.Ty.{Ty}
use Rattle.jz_tree.specs.declared.expr.Access.{Access}
use Rattle.jz_tree.specs.declared.expr.Decl.{Decl}
use Rattle.jz_tree.specs.declared.expr.Var.{Var}
use Rattle.jz_tree.specs.declared.expr.Expr.TheOpen.{Expr-F, Access-F}
use Rattle.jz_tree.specs.declared.expr.Expr.TheViews.{out-roll-Expr, roll-Expr, out-Access, out-roll-Access, roll-Access}
use Rattle.jz_tree.specs.declared.expr.Expr.TheFolds.{ind-Expr, map-Expr, map-Access}
use Rattle.jz_tree.specs.declared.program.Fun.{Fun}
use Rattle.jz_tree.specs.declared.program.Program.{Program}
use Rattle.jz_type_names.specs.Parts.{layer_of, statements_of, exprs_of, set_by}
use Rattle.jz_judgement.specs.HasType.{Layer}
use Rattle.jz_types.specs.Carried.{vars_in, used_by, declared_in}
use Rattle.jz_meaning.specs.Values.{ref_of}
use Rattle.jz_run_laws.specs.DeclaredKinds.{IsDeclared}
use Rattle.jz_run_laws.specs.Counted as counted
use Rattle.jz_run_laws.specs.Counted.{Each, EachLayer, IsCounted, counted_decl}
use Rattle.jz_run_laws.proofs.Parts.{AnyOf}
use Rattle.jz_texts.proofs.Lists.{parted}
use Rattle.jz_texts.proofs.Variables.{layer_vars, vars_rolled}
use Rattle.jz_texts.proofs.Declaring.{declarations_law}
use Rattle.jz_typed_runs.specs.TypedTexts.{IsTypedText, kinds_in}
use Rattle.jz_typed_runs.specs.Causes.{ReachedCauseLaw}
use Rattle.jz_typed_runs.proofs.KindsOf.{counted_so}
use Rattle.jz_typed_runs.proofs.Declaring.{IsKept, kept_used}
use Rattle.jz_typed_runs.proofs.Runs.{reached}
use Rattle.jz_typed_runs.proofs.Numbers.{own_kinds}
use Rattle.jz_typed_runs.proofs.Causing.{cause_law}

-- ---- what holds of the variables of an expression
module _ (P : Var → Type 0) where
  abbrev pub Of : Expr → Type 0
  Of e = All P (vars_in e) → Each P e

  abbrev OfAccess : Access → Type 0
  OfAccess a = Of (out-Access a).at

  abbrev Proved : Type 0
  Proved = Expr-F ((e : Expr) × Of e) ((t : Ty) × AnyOf t) ((a : Access) × OfAccess a) ((d : Decl) × AnyOf d) ((v : Var) × AnyOf v)

  abbrev bare : Proved → Layer
  bare y = map-Expr _ _ _ _ _ _ _ _ _ _ (λ e. e.0) (λ e. e.0) (λ e. e.0) (λ e. e.0) (λ e. e.0) y

  layer_each : (y : Proved) → All P (layer_vars (bare y)) → EachLayer P (bare y)
  unfolding layer_vars
  layer_each (Expr-F.Num n at) h = counted.number
  layer_each (Expr-F.Expr::Bool b at) h = counted.bool
  layer_each (Expr-F.Var v) h = counted.variable (All-head P v.0 [] h)
  layer_each (Expr-F.Cell v e) h = counted.cell (All-head P v.0 (vars_in e.0) h) (e.1 (All-tail P v.0 (vars_in e.0) h))
  layer_each (Expr-F.Load a) h = counted.load (a.1 h)
  layer_each (Expr-F.Neg a at) h = counted.negated (a.1 h)
  layer_each (Expr-F.Not a at) h = counted.inverted (a.1 h)
  layer_each (Expr-F.Cast z sign a at) h = counted.cast (a.1 h)
  layer_each (Expr-F.Bin o a b at) h =
      let t = parted P (vars_in a.0) (vars_in b.0) h in
      counted.operation (a.1 t.0) (b.1 t.1)

  expr_case : (y : Proved) → Of (roll-Expr (bare y))
  expr_case y = λ h.
      counted.expression (subst (EachLayer P) (sym (out-roll-Expr (bare y))) (layer_each y (subst (All P) (vars_rolled (bare y)) h)))

  abbrev ProvedAccess : Type 0
  ProvedAccess = Access-F ((e : Expr) × Of e) ((t : Ty) × AnyOf t) ((a : Access) × OfAccess a) ((d : Decl) × AnyOf d) ((v : Var) × AnyOf v)

  abbrev bare_access : ProvedAccess → Access-F Expr Ty Access Decl Var
  bare_access y = map-Access _ _ _ _ _ Expr Ty Access Decl Var (λ e. e.0) (λ e. e.0) (λ e. e.0) (λ e. e.0) (λ e. e.0) y

  access_case : (y : ProvedAccess) → OfAccess (roll-Access (bare_access y))
  access_case y = subst (λ (x : Access-F Expr Ty Access Decl Var). Of x.at) (sym (out-roll-Access (bare_access y))) y.at.1

  pub each_by : (e : Expr) → Of e
  each_by =
      ind-Expr Of (λ t. AnyOf t) OfAccess (λ d. AnyOf d) (λ x. AnyOf x)
      (λ x y is. subst (λ z. Of (roll-Expr z)) is (expr_case y))
      (λ x y is. tt)
      (λ x y is. subst (λ z. OfAccess (roll-Access z)) is (access_case y))
      (λ x y is. tt)
      (λ x y is. tt)

  pub flat_all : (xs : List Expr) → All P (flat_map vars_in xs) → All (λ e. All P (vars_in e)) xs
  flat_all [] h = All-nil (λ e. All P (vars_in e))
  flat_all (x ∷ xs) h =
      let t = parted P (vars_in x) (flat_map vars_in xs) h in
      All-cons (λ e. All P (vars_in e)) x xs t.0 (flat_all xs t.1)

-- ---- variables that carry their declarations
pub kept_counted : (declared : List ℕ → Option Decl) (v : Var) → IsKept declared v → IsCounted v
kept_counted declared v k = ap counted_decl k.some ∙ counted_so k.decl k.counted

abbrev KeptOf : Program → Fun → Type 0
KeptOf q g = All (λ st. All (IsKept (declared_in q g)) (used_by (layer_of st))) (statements_of g.body)

all_kept : (q : Program) → IsTypedText q → All (KeptOf q) q.funs
all_kept q h =
    let names = declarations_law q h.typed h.text in
    λ i d lt. (kept_used q (slice_index_or q.funs i d) (h.text i d lt) (names i d lt)).0

pub reached_causes : ReachedCauseLaw
reached_causes q f words memory n g p s e at z w typed comes stands t wanted is =
    let r = reached q f words memory n g p s typed comes in
    let all = All-contains (KeptOf q) q.funs g (all_kept q typed) r.0 in
    let k = layer_of stands.statement in
    let one = All-contains (λ st. All (IsKept (declared_in q g)) (used_by (layer_of st))) (statements_of g.body) stands.statement all stands.of_function in
    let each = flat_all (IsKept (declared_in q g)) (exprs_of k) (parted (IsKept (declared_in q g)) (flat_map vars_in (exprs_of k)) (set_by k) one).0 in
    let kept : All (IsKept (declared_in q g)) (vars_in e) = All-contains (λ e. All (IsKept (declared_in q g)) (vars_in e)) (exprs_of k) e each stands.of_statement in
    cause_law (kinds_in q g) s (vars_in e) e at z w (own_kinds q g p s r.1)
    (each_by IsCounted e (λ i d lt. kept_counted (declared_in q g) _ (kept i d lt)))
    (each_by (λ v. IsDeclared (kinds_in q g) (ref_of v)) e (λ i d lt. (kept i d lt).own_kind))
    (each_by (Contains (vars_in e)) e (All-contains_itself (vars_in e))) t wanted is
