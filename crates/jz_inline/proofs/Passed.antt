-- One parameter more whose array is elsewhere in a copy.
use Rattle.std.proofs.Common.{◌≡◌, ◌<◌, ◌≤◌, ◌+◌, ℕ, List, [], ◌∷◌, length, drop, get_or, Option, Some, None, Bool, true, false, refl, ap, sym, ◌∙◌, inl, inr}
use Rattle.std.specs.Prelude.{if◌then◌else◌, ◌&&◌, slice_get}
use Rattle.std.specs.Str.{bytes_eq}
use Rattle.std.specs.Option.{option_or}
use Rattle.std.proofs.lemmas.List.{drop_more, drop_all}
use Rattle.std.proofs.lemmas.Option.{slice_get_within, get_or_from_slice_get, slice_get_cases}
use Rattle.jz_tree.proofs.Texts.{bytes_eq-sym, bytes_eq-true}
use Rattle.jz_tree.specs.declared.expr.Expr.{Expr}
use Rattle.jz_tree.specs.declared.expr.Var.{Var}
use Rattle.jz_tree.specs.declared.expr.Expr.TheViews.{out-Var, roll-out-Var}
use Rattle.jz_tree.specs.declared.program.Param.{Param}
use Rattle.jz_type_names.specs.Scopes.{or_named}
use Rattle.jz_meaning.specs.Values.{ref_of}
use Rattle.jz_meaning.specs.Statements.{array_of}
use Rattle.jz_bodies.specs.Calls.{is_array}
use Rattle.jz_inline.specs.Names.{Names}
use Rattle.jz_inline.specs.Calls.{name_or, callee_names}
use Rattle.jz_inline.specs.CopiedNames.{renamed_or}
use Rattle.jz_inline.specs.declared.names.Renamed.{Renamed}
use Rattle.jz_inline.proofs.Reading.{ref_rolled}

pub ref_name : (v : Var) → (ref_of v).name ≡ (out-Var v).name
ref_name v = ap (λ r. r.name) (ap ref_of (sym (roll-out-Var v)) ∙ ref_rolled (out-Var v))

-- ---- what is left of a list
module _ {A : Type 0} where
  pub at_item : (xs : List A) (i : ℕ) (x : A) → i < length xs → x ≡ get_or xs i x → drop i xs ≡ x ∷ drop (i + 1) xs
  at_item xs i x there e = drop_more xs i x there ∙ ap (λ y. y ∷ drop (i + 1) xs) (sym e)

  pub at_got : (xs : List A) (i : ℕ) (x : A) → slice_get xs i ≡ Some x → drop i xs ≡ x ∷ drop (i + 1) xs
  at_got xs i x e = drop_more xs i x (slice_get_within xs i x e) ∙ ap (λ y. y ∷ drop (i + 1) xs) (get_or_from_slice_get xs i x x e)

  pub at_end : (xs : List A) (i : ℕ) → length xs ≤ i → drop i xs ≡ []
  at_end xs i past = drop_all i xs past

  pub at_none : (xs : List A) (i : ℕ) → slice_get xs i ≡ None → drop i xs ≡ []
  at_none xs i e = elim (slice_get_cases xs i).1 [
    | inl w ↦ absurd (let clash : None ≡ Some w.0 = sym e ∙ w.2 in cc)
    | inr w ↦ at_end xs i w.0
  ]

and_true : (b : Bool) → (b && true) ≡ b
and_true true = refl
and_true false = refl

and_false : (b : Bool) → (b && false) ≡ false
and_false true = refl
and_false false = refl

-- the first item of a name counts
first_counts : (o : Option Renamed) (b : Bool) (r : Renamed) (x y : List ℕ × ℕ) → (b ≡ true → (r.name, r.copy) ≡ x) → renamed_or (option_or o (if b then Some r else None)) y ≡ renamed_or o (if b then x else y)
first_counts (Some q) b r x y h = refl
first_counts None true r x y h = h refl
first_counts None false r x y h = refl

module _ (names : Names) (j : ℕ) where
  pub one_passed : (ps : List Param) (es : List Expr) (p : Param) (e : Expr) (old new : List ℕ → Option Renamed) (name : List ℕ) (r : Renamed) (n : List ℕ)
      → (ref_of p.var).name ≡ name
      → is_array (ref_of p.var).kind ≡ true
      → new ≡ or_named old name (Some r)
      → (r.name, r.copy) ≡ names (name_or name (array_of e))
      → renamed_or (new n) (callee_names names j ps es n) ≡ renamed_or (old n) (callee_names names j (p ∷ ps) (e ∷ es) n)
  one_passed ps es p e old new name r n called array added place =
      let test : (bytes_eq (ref_of p.var).name n && is_array (ref_of p.var).kind) ≡ bytes_eq n name =
      ap (λ a. bytes_eq a n && is_array (ref_of p.var).kind) called ∙ ap (λ t. bytes_eq name n && t) array ∙ and_true (bytes_eq name n) ∙ bytes_eq-sym name n in
      ap (λ f. renamed_or (f n) (callee_names names j ps es n)) added
      ∙ first_counts (old n) (bytes_eq n name) r (names (name_or n (array_of e))) (callee_names names j ps es n)
      (λ same. place ∙ ap (λ m. names (name_or m (array_of e))) (sym (bytes_eq-true n name same)))
      ∙ ap (λ b. renamed_or (old n) (if b then names (name_or n (array_of e)) else callee_names names j ps es n)) (sym test)

  pub one_other : (ps : List Param) (es : List Expr) (p : Param) (e : Expr) (n : List ℕ) → is_array (ref_of p.var).kind ≡ false → callee_names names j (p ∷ ps) (e ∷ es) n ≡ callee_names names j ps es n
  one_other ps es p e n other =
      ap (λ b. if b then names (name_or n (array_of e)) else callee_names names j ps es n)
      (ap (λ t. bytes_eq (ref_of p.var).name n && t) other ∙ and_false (bytes_eq (ref_of p.var).name n))

  pub none_left : (ps : List Param) (n : List ℕ) → callee_names names j ps [] n ≡ (n, j)
  none_left [] n = refl
  none_left (p ∷ ps) n = refl
