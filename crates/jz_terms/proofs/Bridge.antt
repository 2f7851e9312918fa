-- An expression means what its term means.
use Rattle.std.proofs.Common.{◌≡◌, Some, refl, ap, sym, ◌∙◌, subst}
use Rattle.x64_insn.specs.Size.TheVariants.{S64}
use Rattle.jz_tree.specs.declared.expr.Expr.{Expr}
use Rattle.jz_tree.specs.declared.expr.Ty.{Ty}
use Rattle.jz_tree.specs.declared.expr.Access.{Access}
use Rattle.jz_tree.specs.declared.expr.Decl.{Decl}
use Rattle.jz_tree.specs.declared.expr.Var.{Var}
use Rattle.jz_tree.specs.declared.expr.Expr.TheOpen.{Expr-F, Access-F}
use Rattle.jz_tree.specs.declared.expr.Expr.TheViews.{roll-Expr, roll-Access}
use Rattle.jz_tree.specs.declared.expr.Expr.TheFolds.{fold-Ty, fold-Decl, fold-roll-Expr, fold-roll-Access, para-roll-Expr, para-roll-Access, ind-Expr, map-Expr, map-Access}
use Rattle.jz_meaning.specs.declared.access.Kind.{Kind}
use Rattle.jz_meaning.specs.Values.{Ref, MemoryAccess, Meaning, expr_step as meaning_step, ty_step, access_step as meaning_access, decl_step, var_step, meaning_of, ref_of, access_of}
use Rattle.jz_terms.specs.Terms.{Place, Term, term_step, place_step, term_of, place_of, means}

abbrev pub Layer : Type 0
Layer = Expr-F Expr Ty Access Decl Var

abbrev kind_of_ty : Ty → Kind
kind_of_ty = fold-Ty _ _ _ _ _ meaning_step ty_step meaning_access decl_step var_step

abbrev kind_of_decl : Decl → Kind
kind_of_decl = fold-Decl _ _ _ _ _ meaning_step ty_step meaning_access decl_step var_step

abbrev meaning_layer : Layer → Meaning
meaning_layer x = meaning_step (map-Expr _ _ _ _ _ Meaning Kind MemoryAccess Kind Ref meaning_of kind_of_ty access_of kind_of_decl ref_of x)

meaning_is : (x : Layer) → meaning_of (roll-Expr x) ≡ meaning_layer x
meaning_is x = fold-roll-Expr _ _ _ _ _ meaning_step ty_step meaning_access decl_step var_step x

abbrev access_layer : Access-F Expr Ty Access Decl Var → MemoryAccess
access_layer x = meaning_access (map-Access _ _ _ _ _ Meaning Kind MemoryAccess Kind Ref meaning_of kind_of_ty access_of kind_of_decl ref_of x)

access_is : (x : Access-F Expr Ty Access Decl Var) → access_of (roll-Access x) ≡ access_layer x
access_is x = fold-roll-Access _ _ _ _ _ meaning_step ty_step meaning_access decl_step var_step x

abbrev pub term_layer : Layer → Term
term_layer x = term_step (map-Expr _ _ _ _ _ _ _ _ _ _ (λ y. (y, term_of y)) (λ y. (y, tt)) (λ y. (y, place_of y)) (λ y. (y, tt)) (λ y. (y, tt)) x)

pub term_is : (x : Layer) → term_of (roll-Expr x) ≡ term_layer x
term_is x = para-roll-Expr Term (Unit {0}) Place (Unit {0}) (Unit {0}) term_step (λ t. tt) place_step (λ d. tt) (λ v. tt) x

pub place_is : (x : Access-F Expr Ty Access Decl Var) → place_of (roll-Access x) ≡ record { spot = record { size = x.size; unaligned = x.unaligned; span = x.span }; at = term_of x.at }
place_is x = para-roll-Access Term (Unit {0}) Place (Unit {0}) (Unit {0}) term_step (λ t. tt) place_step (λ d. tt) (λ v. tt) x

-- the access that a place is
abbrev pub access_at : Place → MemoryAccess
access_at p = record { size = p.spot.size; at = (means p.at).run (Some S64); unaligned = p.spot.unaligned; span = p.spot.span }

abbrev ExprLaw : Expr → Type 0
ExprLaw e = meaning_of e ≡ means (term_of e)

abbrev AccessLaw : Access → Type 0
AccessLaw a = access_of a ≡ access_at (place_of a)

abbrev Any : {A : Type 0} → A → Type 0
Any y = Unit {0}

abbrev Known : Type 0
Known = Expr-F ((e : Expr) × ExprLaw e) ((t : Ty) × Any t) ((a : Access) × AccessLaw a) ((d : Decl) × Any d) ((v : Var) × Any v)

abbrev bare : Known → Layer
bare y = map-Expr _ _ _ _ _ _ _ _ _ _ (λ e. e.0) (λ e. e.0) (λ e. e.0) (λ e. e.0) (λ e. e.0) y

layer_law : (y : Known) → meaning_layer (bare y) ≡ means (term_layer (bare y))
layer_law (Expr-F.Num i at) = refl
layer_law (Expr-F.Expr::Bool c at) = refl
layer_law (Expr-F.Var v) = refl
layer_law (Expr-F.Cell v e) = ap (λ m. meaning_step (Expr-F.Cell (ref_of v.0) m)) e.1
layer_law (Expr-F.Load a) = ap (λ m. meaning_step (Expr-F.Load m)) a.1
layer_law (Expr-F.Neg e at) = ap (λ m. meaning_step (Expr-F.Neg m at)) e.1
layer_law (Expr-F.Not e at) = ap (λ m. meaning_step (Expr-F.Not m at)) e.1
layer_law (Expr-F.Cast z sign e at) = ap (λ m. meaning_step (Expr-F.Cast z sign m at)) e.1
layer_law (Expr-F.Bin op a b at) = ap (λ m. meaning_step (Expr-F.Bin op m (meaning_of b.0) at)) a.1 ∙ ap (λ m. meaning_step (Expr-F.Bin op (means (term_of a.0)) m at)) b.1

expr_case : (y : Known) → ExprLaw (roll-Expr (bare y))
expr_case y = meaning_is (bare y) ∙ layer_law y ∙ ap means (sym (term_is (bare y)))

abbrev KnownAccess : Type 0
KnownAccess = Access-F ((e : Expr) × ExprLaw e) ((t : Ty) × Any t) ((a : Access) × AccessLaw a) ((d : Decl) × Any d) ((v : Var) × Any v)

abbrev bare_access : KnownAccess → Access-F Expr Ty Access Decl Var
bare_access y = map-Access _ _ _ _ _ _ _ _ _ _ (λ e. e.0) (λ e. e.0) (λ e. e.0) (λ e. e.0) (λ e. e.0) y

access_case : (y : KnownAccess) → AccessLaw (roll-Access (bare_access y))
access_case y = access_is (bare_access y) ∙ ap (λ (m : Meaning). record { size = y.size; at = m.run (Some S64); unaligned = y.unaligned; span = y.span }) y.at.1 ∙ ap access_at (sym (place_is (bare_access y)))

pub term_so : (e : Expr) → meaning_of e ≡ means (term_of e)
term_so =
    ind-Expr ExprLaw Any AccessLaw Any Any
    (λ x y is. subst (λ z. ExprLaw (roll-Expr z)) is (expr_case y))
    (λ x y is. tt)
    (λ x y is. subst (λ z. AccessLaw (roll-Access z)) is (access_case y))
    (λ x y is. tt)
    (λ x y is. tt)
