-- The number of the first function of a name: with one function more, and beside that function itself.
use Rattle.std.proofs.Common.{◌≡◌, ℕ, suc, ◌<◌, ◌⊎◌, inl, inr, Bool, true, false, List, [], ◌∷◌, ◌++◌, Option, Some, None, length, flat_map, get_or, refl, sym, ap, ◌∙◌, cond, arith}
use Rattle.std.specs.Prelude.{if◌then◌else◌, is_some, option_map, option_to_list}
use Rattle.std.specs.Str.{bytes_eq}
use Rattle.jz_tree.proofs.Texts.{bytes_eq-sym, bytes_eq-true}
use Rattle.jz_tree.specs.declared.program.Fun.{Fun}
use Rattle.jz_tree.specs.Span.{Span}
use Rattle.jz_tree.specs.declared.stmt.Stmt.{Stmt}
use Rattle.jz_type_names.specs.Scopes.{Name, function_named}
use Rattle.jz_type_names.specs.Parts.{called_by, layer_of}
use Rattle.jz_type_storage.specs.Numbers.{number_named}
use Rattle.jz_type_storage.specs.InnerNumbers.{called_number, numbers_by}

or_number : Option ℕ → Bool → ℕ → Option ℕ
or_number None b k = if b then Some k else None
or_number (Some j) b k = Some j

or_number-suc : (o : Option ℕ) (b : Bool) (k : ℕ) → option_map suc (or_number o b k) ≡ or_number (option_map suc o) b (suc k)
unfolding or_number
or_number-suc None b k = elim b as (λ b. option_map suc (if b then Some k else None) ≡ (if b then Some (suc k) else None)) [ true ↦ refl | false ↦ refl ]
or_number-suc (Some j) b k = refl

number-push : (n : List ℕ) (fs : List Fun) (f : Fun) → number_named n (fs ++ f ∷ []) ≡ or_number (number_named n fs) (bytes_eq n f.name) (length fs)
unfolding or_number
number-push n [] f =
    elim (bytes_eq n f.name) as (λ b. (if b then Some 0 else option_map suc None) ≡ (if b then Some 0 else None)) [ true ↦ refl | false ↦ refl ]
number-push n (g ∷ fs) f =
    elim (bytes_eq n g.name) as (λ b. (if b then Some 0 else option_map suc (number_named n (fs ++ f ∷ []))) ≡ or_number (if b then Some 0 else option_map suc (number_named n fs)) (bytes_eq n f.name) (suc (length fs)))
    [ true ↦ refl | false ↦ ap (option_map suc) (number-push n fs f) ∙ or_number-suc (number_named n fs) (bytes_eq n f.name) (length fs) ]

or_other : (o : Option ℕ) (k : ℕ) → or_number o false k ≡ o
unfolding or_number
or_other None k = refl
or_other (Some j) k = refl

or_there : (o : Option ℕ) (b : Bool) (k : ℕ) → is_some o ≡ true → or_number o b k ≡ o
unfolding or_number
or_there None b k h = cc
or_there (Some j) b k h = refl

or_new : (o : Option ℕ) (b : Bool) (k : ℕ) → o ≡ None → b ≡ true → or_number o b k ≡ Some k
unfolding or_number
or_new o b k p q = ap (λ o. or_number o b k) p ∙ ap (λ b. or_number None b k) q

module _ (fs : List Fun) (f : Fun) (old : List ℕ → Option ℕ) (held : (n : List ℕ) → old n ≡ number_named n fs) where
  number-other : (n : List ℕ) → bytes_eq f.name n ≡ false → old n ≡ number_named n (fs ++ f ∷ [])
  number-other n e =
      held n
      ∙ sym (number-push n fs f ∙ (ap (λ b. or_number (number_named n fs) b (length fs)) (bytes_eq-sym n f.name ∙ e) ∙ or_other (number_named n fs) (length fs)))

  pub number_more : (k : ℕ) (new : List ℕ → Option ℕ) → old f.name ≡ None → k ≡ length fs
      → ((q : List ℕ) → new q ≡ cond (bytes_eq f.name q) (Some k) (old q))
      → (n : List ℕ) → new n ≡ number_named n (fs ++ f ∷ [])
  number_more k new free len put n =
      let split : (b : Bool) → bytes_eq f.name n ≡ b → cond b (Some k) (old n) ≡ number_named n (fs ++ f ∷ []) =
      λ b. elim b as (λ b. bytes_eq f.name n ≡ b → cond b (Some k) (old n) ≡ number_named n (fs ++ f ∷ [])) [
        | true ↦ λ e.
            let none : number_named n fs ≡ None = sym (held n) ∙ (ap old (sym (bytes_eq-true f.name n e)) ∙ free)
            in ap Some len ∙ sym (number-push n fs f ∙ or_new _ _ (length fs) none (bytes_eq-sym n f.name ∙ e))
        | false ↦ λ e. number-other n e
      ]
      in put n ∙ split (bytes_eq f.name n) refl

  pub number_kept : is_some (old f.name) ≡ true → (n : List ℕ) → old n ≡ number_named n (fs ++ f ∷ [])
  number_kept there n =
      let split : (b : Bool) → bytes_eq f.name n ≡ b → old n ≡ number_named n (fs ++ f ∷ []) =
      λ b. elim b as (λ b. bytes_eq f.name n ≡ b → old n ≡ number_named n (fs ++ f ∷ [])) [
        | true ↦ λ e.
            let some : is_some (number_named n fs) ≡ true = ap is_some (sym (held n)) ∙ (ap (λ q. is_some (old q)) (sym (bytes_eq-true f.name n e)) ∙ there)
            in held n ∙ sym (number-push n fs f ∙ or_there _ _ (length fs) some)
        | false ↦ λ e. number-other n e
      ]
      in split (bytes_eq f.name n) refl

-- the function that stands there
pub record At (fs : List Fun) (i : ℕ) (f : Fun) : Type 0 where
  pub within : i < length fs
  pub is : get_or fs i f ≡ f

-- a name with the first function of it
pub record Named (n : List ℕ) (fs : List Fun) : Type 0 where
  pub function : Fun
  pub number : ℕ
  pub named : function_named n fs ≡ Some function
  pub numbered : number_named n fs ≡ Some number
  pub there : At fs number function
  pub same : n ≡ function.name

abbrev Nobody : List ℕ → List Fun → Type 0
Nobody n fs = (function_named n fs ≡ None) × (number_named n fs ≡ None)

named_first : (n : List ℕ) (f : Fun) (fs : List Fun) → bytes_eq n f.name ≡ true → Named n (f ∷ fs)
named_first n f fs e = record {
  function = f;
  number = 0;
  named = ap (λ b. cond b (Some f) (function_named n fs)) e;
  numbered = ap (λ b. cond b (Some 0) (option_map suc (number_named n fs))) e;
  there = record { within = omega arith; is = refl };
  same = bytes_eq-true n f.name e;
}

named_later : (n : List ℕ) (f : Fun) (fs : List Fun) → bytes_eq n f.name ≡ false → Named n fs → Named n (f ∷ fs)
named_later n f fs e m = record {
  function = m.function;
  number = suc m.number;
  named = ap (λ b. cond b (Some f) (function_named n fs)) e ∙ m.named;
  numbered = ap (λ b. cond b (Some 0) (option_map suc (number_named n fs))) e ∙ ap (option_map suc) m.numbered;
  there = record { within = let lt = m.there.within in omega (arith, lt); is = m.there.is };
  same = m.same;
}

nobody_later : (n : List ℕ) (f : Fun) (fs : List Fun) → bytes_eq n f.name ≡ false → Nobody n fs → Nobody n (f ∷ fs)
nobody_later n f fs e m =
    (ap (λ b. cond b (Some f) (function_named n fs)) e ∙ m.0, ap (λ b. cond b (Some 0) (option_map suc (number_named n fs))) e ∙ ap (option_map suc) m.1)

pub named_or_nobody : (n : List ℕ) (fs : List Fun) → Nobody n fs ⊎ Named n fs
named_or_nobody n [] = inl (refl, refl)
named_or_nobody n (f ∷ fs) =
    let split : (b : Bool) → bytes_eq n f.name ≡ b → Nobody n (f ∷ fs) ⊎ Named n (f ∷ fs) =
    λ b. elim b as (λ b. bytes_eq n f.name ≡ b → Nobody n (f ∷ fs) ⊎ Named n (f ∷ fs)) [
      | true ↦ λ e. inr (named_first n f fs e)
      | false ↦ λ e. elim (named_or_nobody n fs) [ inl m ↦ inl (nobody_later n f fs e m) | inr m ↦ inr (named_later n f fs e m) ]
    ]
    in split (bytes_eq n f.name) refl

none_some : {A : Type 0} (o : Option A) (a : A) → o ≡ None → o ≡ Some a → ⊥
none_some o a p q = cc

pub named_by_function : (n : List ℕ) (fs : List Fun) (g : Fun) → function_named n fs ≡ Some g → Named n fs
named_by_function n fs g h = elim (named_or_nobody n fs) [ inl m ↦ absurd (none_some _ g m.0 h) | inr m ↦ m ]

pub named_by_number : (n : List ℕ) (fs : List Fun) (k : ℕ) → number_named n fs ≡ Some k → Named n fs
named_by_number n fs k h = elim (named_or_nobody n fs) [ inl m ↦ absurd (none_some _ k m.1 h) | inr m ↦ m ]

-- ---- what one statement calls
append_none : (xs : List ℕ) → xs ≡ xs ++ []
append_none [] = refl
append_none (x ∷ xs) = ap (λ ys. x ∷ ys) (append_none xs)

pub called_some : (fs : List Fun) (s : Stmt) (cs : List Name) (n : List ℕ) (at : Span) (k : ℕ) (old new : List ℕ)
    → cs ≡ called_by (layer_of s) → cs ≡ (n, at) ∷ [] → number_named n fs ≡ Some k → new ≡ old ++ k ∷ [] → new ≡ old ++ numbers_by fs s
unfolding numbers_by
called_some fs s cs n at k old new p q h e =
    e ∙ ap (λ l. old ++ l) (sym (ap (flat_map (called_number fs)) (sym p ∙ q) ∙ ap (λ o. option_to_list o ++ []) h))

pub called_unknown : (fs : List Fun) (s : Stmt) (cs : List Name) (n : List ℕ) (at : Span) (old : List ℕ)
    → cs ≡ called_by (layer_of s) → cs ≡ (n, at) ∷ [] → number_named n fs ≡ None → old ≡ old ++ numbers_by fs s
unfolding numbers_by
called_unknown fs s cs n at old p q h =
    append_none old ∙ ap (λ l. old ++ l) (sym (ap (flat_map (called_number fs)) (sym p ∙ q) ∙ ap (λ o. option_to_list o ++ []) h))

pub called_none : (fs : List Fun) (s : Stmt) (cs : List Name) (old : List ℕ) → cs ≡ called_by (layer_of s) → cs ≡ [] → old ≡ old ++ numbers_by fs s
unfolding numbers_by
called_none fs s cs old p q = append_none old ∙ ap (λ l. old ++ l) (sym (ap (flat_map (called_number fs)) (sym p ∙ q)))
