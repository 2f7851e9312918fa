-- The variables of an expression by its outermost layer, and lists of them.
use Rattle.std.proofs.Common.{◌≡◌, ℕ, List, [], ◌∷◌, ◌++◌, map, get_or, refl, sym, ap, ap₂, ◌∙◌, subst}
use Rattle.std.specs.Prelude.{All, Contains, flat_map}
use Rattle.std.proofs.lemmas.List.{map-append}
use Rattle.std.proofs.lemmas.List.Elements.{All-nil, All-cons, All-head, All-tail, All-append, All-contains}
use Rattle.jz_tree.specs.declared.expr.Expr.{Expr}
use Rattle.jz_tree.specs.declared.expr.Ty.{Ty}
use Rattle.jz_tree.specs.declared.expr.Access.{Access}
use Rattle.jz_tree.specs.declared.expr.Decl.{Decl}
use Rattle.jz_tree.specs.declared.expr.Var.{Var}
use Rattle.jz_tree.specs.declared.expr.Expr.TheOpen.{Expr-F}
use Rattle.jz_tree.specs.declared.expr.Expr.TheViews.{out-Access, roll-Expr, roll-Access}
use Rattle.jz_tree.specs.declared.expr.Expr.TheFolds.{fold-roll-Expr, fold_out-Var, fold_out-Access, fold-Ty, fold-Decl, fold-Var, fold-Access, map-Expr, ind-Expr}
use Rattle.jz_type_names.specs.Parts.{names_in}
use Rattle.jz_types.proofs.NamesKept.{layer_names, names_at}
use Rattle.jz_meaning.specs.Values.{ref_of}
use Rattle.jz_compiled.specs.Layout.{Name}
use Rattle.jz_compiled.specs.Showing.{expression_names}
use Rattle.jz_compiled.proofs.KindLemmas.{name_is, copy_is}
use Rattle.jz_item_names.specs.Names.{key_name, keys_step, keys_in}

abbrev pub Layer : Type 0
Layer = Expr-F Expr Ty Access Decl Var

-- ---- by layers
var_keyed : Var → Name
var_keyed = fold-Var _ _ _ _ _ keys_step (λ t. tt) (λ a. a.at) (λ d. tt) (λ v. (v.name, v.copy))

access_keyed : Access → List Name
access_keyed = fold-Access _ _ _ _ _ keys_step (λ t. tt) (λ a. a.at) (λ d. tt) (λ v. (v.name, v.copy))

keyed_var : (v : Var) → var_keyed v ≡ key_name v
unfolding var_keyed
keyed_var v = fold_out-Var _ _ _ _ _ keys_step (λ t. tt) (λ a. a.at) (λ d. tt) (λ v. (v.name, v.copy)) v ∙ ap₂ (λ (n : List ℕ) (c : ℕ). (n, c)) (sym (name_is v)) (sym (copy_is v))

keyed_access : (a : Access) → access_keyed a ≡ keys_in (out-Access a).at
unfolding access_keyed
keyed_access a = fold_out-Access _ _ _ _ _ keys_step (λ t. tt) (λ a. a.at) (λ d. tt) (λ v. (v.name, v.copy)) a

abbrev pub layer_keys : Layer → List Name
layer_keys (Expr-F.Num n at) = []
layer_keys (Expr-F.Expr::Bool b at) = []
layer_keys (Expr-F.Var v) = key_name v ∷ []
layer_keys (Expr-F.Cell v i) = key_name v ∷ keys_in i
layer_keys (Expr-F.Load a) = keys_in (out-Access a).at
layer_keys (Expr-F.Neg a at) = keys_in a
layer_keys (Expr-F.Not a at) = keys_in a
layer_keys (Expr-F.Cast z s a at) = keys_in a
layer_keys (Expr-F.Bin o a b at) = keys_in a ++ keys_in b

keys_rolled : (x : Layer) → keys_in (roll-Expr x) ≡ keys_step (map-Expr _ _ _ _ _ (List Name) (Unit {0}) (List Name) (Unit {0}) Name keys_in (fold-Ty _ _ _ _ _ keys_step (λ t. tt) (λ a. a.at) (λ d. tt) (λ v. (v.name, v.copy))) access_keyed (fold-Decl _ _ _ _ _ keys_step (λ t. tt) (λ a. a.at) (λ d. tt) (λ v. (v.name, v.copy))) var_keyed x)
unfolding var_keyed access_keyed
keys_rolled x = fold-roll-Expr _ _ _ _ _ keys_step (λ t. tt) (λ a. a.at) (λ d. tt) (λ v. (v.name, v.copy)) x

pub keys_at : (x : Layer) → keys_in (roll-Expr x) ≡ layer_keys x
keys_at (Expr-F.Num n at) = keys_rolled (Expr-F.Num n at)
keys_at (Expr-F.Expr::Bool b at) = keys_rolled (Expr-F.Expr::Bool b at)
keys_at (Expr-F.Var v) = keys_rolled (Expr-F.Var v) ∙ ap (λ (m : Name). m ∷ []) (keyed_var v)
keys_at (Expr-F.Cell v i) = keys_rolled (Expr-F.Cell v i) ∙ ap (λ (m : Name). m ∷ keys_in i) (keyed_var v)
keys_at (Expr-F.Load a) = keys_rolled (Expr-F.Load a) ∙ keyed_access a
keys_at (Expr-F.Neg a at) = keys_rolled (Expr-F.Neg a at)
keys_at (Expr-F.Not a at) = keys_rolled (Expr-F.Not a at)
keys_at (Expr-F.Cast z s a at) = keys_rolled (Expr-F.Cast z s a at)
keys_at (Expr-F.Bin o a b at) = keys_rolled (Expr-F.Bin o a b at)

-- the names of the text, which typing keeps by their places
abbrev pub layer_texts : Layer → List (List ℕ)
layer_texts (Expr-F.Num n at) = []
layer_texts (Expr-F.Expr::Bool b at) = []
layer_texts (Expr-F.Var v) = (ref_of v).name ∷ []
layer_texts (Expr-F.Cell v i) = (ref_of v).name ∷ expression_names i
layer_texts (Expr-F.Load a) = expression_names (out-Access a).at
layer_texts (Expr-F.Neg a at) = expression_names a
layer_texts (Expr-F.Not a at) = expression_names a
layer_texts (Expr-F.Cast z s a at) = expression_names a
layer_texts (Expr-F.Bin o a b at) = expression_names a ++ expression_names b

texts_of : (x : Layer) → map (λ n. n.0) (layer_names x) ≡ layer_texts x
texts_of (Expr-F.Num n at) = refl
texts_of (Expr-F.Expr::Bool b at) = refl
texts_of (Expr-F.Var v) = ap (λ (n : List ℕ). n ∷ []) (sym (name_is v))
texts_of (Expr-F.Cell v i) = ap (λ (n : List ℕ). n ∷ expression_names i) (sym (name_is v))
texts_of (Expr-F.Load a) = refl
texts_of (Expr-F.Neg a at) = refl
texts_of (Expr-F.Not a at) = refl
texts_of (Expr-F.Cast z s a at) = refl
texts_of (Expr-F.Bin o a b at) = map-append (λ n. n.0) (names_in a) (names_in b)

pub texts_at : (x : Layer) → expression_names (roll-Expr x) ≡ layer_texts x
texts_at x = ap (map (λ n. n.0)) (names_at x) ∙ texts_of x

-- ---- induction over expressions
module _ (Law : Expr → Type 0) where
  abbrev pub Proved : Type 0
  Proved = Expr-F ((e : Expr) × Law e) (Ty × Unit {0}) ((a : Access) × Law (out-Access a).at) (Decl × Unit {0}) (Var × Unit {0})

  abbrev pub bare : Proved → Layer
  bare y = map-Expr _ _ _ _ _ Expr Ty Access Decl Var (λ e. e.0) (λ e. e.0) (λ e. e.0) (λ e. e.0) (λ e. e.0) y

  pub by_layers : ((y : Proved) → Law (roll-Expr (bare y))) → (e : Expr) → Law e
  by_layers case =
      ind-Expr Law (λ t. Unit {0}) (λ a. Law (out-Access a).at) (λ d. Unit {0}) (λ v. Unit {0})
      (λ x y is. subst (λ z. Law (roll-Expr z)) is (case y))
      (λ x y is. tt)
      (λ x y is. subst (λ z. Law (out-Access (roll-Access z)).at) is y.at.1)
      (λ x y is. tt)
      (λ x y is. tt)

-- ---- lists
module _ {A : Type 0} (P : A → Type 0) where
  pub parts : (xs ys : List A) → All P (xs ++ ys) → All P xs × All P ys
  parts [] ys h = (All-nil P, h)
  parts (x ∷ xs) ys h =
      let rest = parts xs ys (All-tail P x (xs ++ ys) h) in
      (All-cons P x xs (All-head P x (xs ++ ys) h) rest.0, rest.1)

  pub both : (as' bs xs ys : List A) → (All P as' → All P xs) → (All P bs → All P ys) → All P (as' ++ bs) → All P (xs ++ ys)
  both as' bs xs ys f g h = let p = parts as' bs h in All-append P xs ys (f p.0) (g p.1)

  -- item by item
  pub each : {X Y : Type 0} (f : X → List A) (g : Y → List A) (t : X → Y) → ((x : X) → All P (f x) → All P (g (t x))) → (xs : List X) → All P (flat_map f xs) → All P (flat_map g (map t xs))
  each f g t one [] h = h
  each f g t one (x ∷ xs) h = both (f x) (flat_map f xs) (g (t x)) (flat_map g (map t xs)) (one x) (each f g t one xs) h

-- what all of a list have, all of another one have that is within it
pub within : {A : Type 0} (as' bs cs : List A) → All (Contains as') bs → All (Contains bs) cs → All (Contains as') cs
within as' bs cs f g k d lt = let i = g k d lt in All-contains (Contains as') bs (get_or cs k d) f i
