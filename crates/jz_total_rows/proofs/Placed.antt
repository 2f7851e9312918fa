-- The homes of the variables of a function.
use Rattle.std.proofs.Common.{◌≡◌, ℕ, zero, suc, ◌+◌, ◌<◌, List, [], ◌∷◌, ◌++◌, map, Option, Some, None, refl, sym, ap, ◌∙◌, subst, arith}
use Rattle.std.specs.Prelude.{slice_get, option_map}
use Rattle.std.specs.List.{flat_map, range_with_len}
use Rattle.jz_tree.specs.declared.expr.Decl.{Decl}
use Rattle.jz_tree.specs.declared.expr.Storage.{Storage}
use Rattle.jz_tree.specs.declared.expr.Storage.TheVariants as storage
use Rattle.jz_tree.specs.declared.expr.Expr.TheViews.{out-Var}
use Rattle.jz_tree.specs.declared.expr.Var.{Var}
use Rattle.jz_tree.specs.declared.program.Fun.{Fun}
use Rattle.jz_type_names.specs.declared.kinds.Declared.{Declared}
use Rattle.jz_type_names.specs.declared.kinds.Kind as known
use Rattle.jz_type_names.specs.declared.kinds.Kind.TheVariants as scope
use Rattle.jz_type_names.specs.Kinds.{declared_of, known_of}
use Rattle.jz_type_names.specs.Scopes.{variables_of}
use Rattle.jz_meaning.specs.declared.access.Kind.{Kind}
use Rattle.jz_meaning.specs.declared.access.Kind.TheVariants as kind
use Rattle.jz_meaning.specs.Values.{key_of, cell_key, ref_of}
use Rattle.jz_homes.specs.Homes.{Homes}
use Rattle.jz_declared.specs.Declared.{AreDeclared, Held, Kept, a_flag as held_flag, a_scalar as kept_scalar, an_array as kept_array, own_key, word_at, held_as, held_by, held_for, held_of, kept_as, kept_by, kept_for, kept_of}
use Rattle.jz_total_rows.specs.Expanded as expanded
use Rattle.jz_total_rows.specs.Expanded.{IsDeclared, HasHome}
use Rattle.jz_total_rows.specs.Variables.{IsPlaced, a_word, a_flag, a_scalar, an_array, AreOneName, Names, itself, a_cell, VariablesHaveHomes}

-- ---- lists
same_item : {A : Type 0} (x y : A) → Some x ≡ Some y → x ≡ y
same_item x y e = cc

get_first : {A : Type 0} (xs ys : List A) (i : ℕ) (h : A) → slice_get xs i ≡ Some h → slice_get (xs ++ ys) i ≡ Some h
get_first [] ys i h e = absurd cc
get_first (x ∷ xs) ys zero h e = e
get_first (x ∷ xs) ys (suc i) h e = get_first xs ys i h e

get_later : {A : Type 0} (xs ys : List A) (i : ℕ) (h : A) → slice_get ys i ≡ Some h → (m : ℕ) × (slice_get (xs ++ ys) m ≡ Some h)
get_later [] ys i h e = (i, e)
get_later (x ∷ xs) ys i h e = let r = get_later xs ys i h e in (suc r.0, r.1)

get_flat : {A B : Type 0} (g : A → List B) (xs : List A) (n i : ℕ) (x : A) (h : B) → slice_get xs n ≡ Some x → slice_get (g x) i ≡ Some h → (m : ℕ) × (slice_get (flat_map g xs) m ≡ Some h)
get_flat g [] n i x h e f = absurd cc
get_flat g (y ∷ ys) zero i x h e f = (i, get_first (g y) (flat_map g ys) i h (subst (λ w. slice_get (g w) i ≡ Some h) (sym (same_item y x e)) f))
get_flat g (y ∷ ys) (suc n) i x h e f = let r = get_flat g ys n i x h e f in get_later (g y) (flat_map g ys) r.0 h r.1

get_range : {B : Type 0} (g : ℕ → B) (a n i j : ℕ) → i < n → a + i ≡ j → slice_get (map g (range_with_len a n)) i ≡ Some (g j)
get_range g a zero i j lt e = absurd (omega arith)
get_range g a (suc n) zero j lt e = let q : a ≡ j = omega arith in ap (λ k. Some (g k)) q
get_range g a (suc n) (suc i) j lt e = get_range g (a + 1) n i j (omega arith) (omega arith)

-- ---- declarations
record HasDecl (v : Var) (s : Storage) : Type 0 where
  pub decl : Decl
  pub there : (out-Var v).decl ≡ Some decl
  pub storage : decl.storage ≡ s

has_decl : (v : Var) (s : Storage) (k : known.Kind) → IsDeclared v s k → HasDecl v s
has_decl v s k e = by_decl (out-Var v).decl refl e
  where
    by_decl : (d : Option Decl) → (out-Var v).decl ≡ d → option_map declared_of d ≡ Some (record { storage = s; kind = k }) → HasDecl v s
    by_decl None q e = absurd cc
    by_decl (Some d) q e = record { decl = d; there = q; storage = ap (λ (k : Declared). k.storage) (same_item (declared_of d) (record { storage = s; kind = k }) e) }

-- what is held of a variable of this storage and kind
held_is : (x : Var) (s : Storage) (k : Kind) → HasDecl x s → (ref_of x).kind ≡ k → held_for x ≡ held_as s k (ref_of x)
held_is x s k d e = ap (λ o. held_by o (ref_of x)) d.there ∙ (λ i. held_as (d.storage i) (e i) (ref_of x))

kept_is : (x : Var) (s : Storage) (k : Kind) → HasDecl x s → (ref_of x).kind ≡ k → kept_for x ≡ kept_as s k (ref_of x)
kept_is x s k d e = ap (λ o. kept_by o (ref_of x)) d.there ∙ (λ i. kept_as (d.storage i) (e i) (ref_of x))

same_key : (x v : Var) (c : Option ℕ) → AreOneName x v → (ref_of v).cell ≡ c → key_of (ref_of v) ≡ record { name = (ref_of x).name; copy = (ref_of x).copy; cell = c }
same_key x v c e f = λ i. record { name = e.0 i; copy = e.1 i; cell = f i }

same_cell_key : (x v : Var) (i : ℕ) → AreOneName x v → cell_key (ref_of v) i ≡ cell_key (ref_of x) i
same_cell_key x v i e = λ j. record { name = e.0 j; copy = e.1 j; cell = Some i }

module _ (f : Fun) (home : Homes) (n : ℕ) (x v : Var) (h : AreDeclared (held_of f) (kept_of f) home) (at : slice_get (variables_of f) n ≡ Some x) where
  held_at : (i : ℕ) (g : Held) (l : List Held) → held_for x ≡ l → slice_get l i ≡ Some g → (m : ℕ) × (slice_get (held_of f) m ≡ Some g)
  held_at i g l e k = get_flat held_for (variables_of f) n i x g at (subst (λ w. slice_get w i ≡ Some g) (sym e) k)

  kept_at : (i : ℕ) (g : Kept) (l : List Kept) → kept_for x ≡ l → slice_get l i ≡ Some g → (m : ℕ) × (slice_get (kept_of f) m ≡ Some g)
  kept_at i g l e k = get_flat kept_for (variables_of f) n i x g at (subst (λ w. slice_get w i ≡ Some g) (sym e) k)

  -- of the same declaration
  module _ (e : AreOneName x v) (c : (ref_of v).cell ≡ None) (d : known_of v ≡ known_of x) (q : (ref_of v).kind ≡ (ref_of x).kind) where
    own_is : key_of (ref_of v) ≡ own_key (ref_of x)
    own_is = same_key x v None e c

    declared_too : (s : Storage) (k : known.Kind) → IsDeclared v s k → IsDeclared x s k
    declared_too s k i = sym d ∙ i

    kind_too : (k : Kind) → (ref_of v).kind ≡ k → (ref_of x).kind ≡ k
    kind_too k m = sym q ∙ m

    by_place : IsPlaced v → HasHome home v
    by_place (a_word z i k) =
        let m = kind_too (kind.Word z) k in
        let g = word_at z (own_key (ref_of x)) in
        let r = held_at 0 g (g ∷ []) (held_is x storage.Reg (kind.Word z) (has_decl x storage.Reg (scope.Word z) (declared_too storage.Reg (scope.Word z) i)) m) refl in
        expanded.a_word z r.0 i k (ap home own_is ∙ h.held r.0 g r.1)
    by_place (a_flag i k) =
        let m = kind_too kind.Bool k in
        let g : Held = record { key = own_key (ref_of x); what = held_flag } in
        let r = held_at 0 g (g ∷ []) (held_is x storage.Reg kind.Bool (has_decl x storage.Reg scope.Truth (declared_too storage.Reg scope.Truth i)) m) refl in
        expanded.a_flag r.0 i k (ap home own_is ∙ h.held r.0 g r.1)
    by_place (a_scalar z i k) =
        let m = kind_too (kind.Word z) k in
        let g = kept_scalar (ref_of x) z in
        let r = kept_at 0 g (g ∷ []) (kept_is x storage.Stack (kind.Word z) (has_decl x storage.Stack (scope.Word z) (declared_too storage.Stack (scope.Word z) i)) m) refl in
        expanded.a_scalar z r.0 i k (ap home own_is ∙ h.kept r.0 0 g r.1 (omega arith))
    by_place (an_array z k i m lt) =
        let o = kind_too (kind.Array z k) m in
        let g = kept_array (ref_of x) z k in
        let r = kept_at 0 g (g ∷ []) (kept_is x storage.Stack (kind.Array z k) (has_decl x storage.Stack (scope.Array z) (declared_too storage.Stack (scope.Array z) i)) o) refl in
        expanded.an_array z k r.0 i (m, lt, λ j less. ap home (same_cell_key x v j e) ∙ h.kept r.0 j g r.1 less)

  by_name : Names x v → HasHome home v
  by_name (itself e c d q p) = by_place e c d q p
  by_name (a_cell z k i e c lt d m o p) =
      let g = word_at z (cell_key (ref_of x) i) in
      let r =
      held_at i g (map (λ j. word_at z (cell_key (ref_of x) j)) (range_with_len 0 k)) (held_is x storage.Reg (kind.Array z k) (has_decl x storage.Reg (scope.Array z) d) m)
      (get_range (λ j. word_at z (cell_key (ref_of x) j)) 0 k i i lt (omega arith)) in
      expanded.a_word z r.0 o p (ap home (same_key x v (Some i) e c) ∙ h.held r.0 g r.1)

pub variables_have_homes : VariablesHaveHomes
variables_have_homes f home n x v h at m = by_name f home n x v h at m
