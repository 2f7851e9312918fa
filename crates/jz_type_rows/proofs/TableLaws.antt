-- One name more in a table.
use Rattle.std.proofs.Common.{◌≡◌, ℕ, ◌+◌, Bool, true, false, ◌||◌, List, [], ◌∷◌, ◌++◌, length, Option, Some, None, refl, sym, ap, ◌∙◌, cond, arith}
use Rattle.std.specs.Prelude.{if◌then◌else◌, nat_eq}
use Rattle.std.proofs.lemmas.Bool.Decides.{nat_tests}
use Rattle.std.specs.Option.{option_map, option_or}
use Rattle.std.specs.List.{list_any}
use Rattle.std.specs.Str.{bytes_eq}
use Rattle.indexmap.specs.IndexSet.{insert_key}
use Rattle.jz_type_names.specs.Scopes.{or_named}
use Rattle.jz_type_rows.specs.Callees.{index_where}

-- ---- sets
or_true : (a : Bool) → (a || true) ≡ true
or_true true = refl
or_true false = refl

pub or_false : (a : Bool) → (a || false) ≡ a
or_false true = refl
or_false false = refl

pub any-push : {A : Type 0} (test : A → Bool) (xs : List A) (x : A) → list_any test (xs ++ x ∷ []) ≡ (list_any test xs || test x)
any-push test [] x = or_false (test x)
any-push test (y ∷ xs) x =
    elim (test y) as (λ b. (b || list_any test (xs ++ x ∷ [])) ≡ ((b || list_any test xs) || test x)) [ true ↦ refl | false ↦ any-push test xs x ]

pub set_more : {A : Type 0} (eq : A → A → Bool) → ((a b : A) → eq a b ≡ true → a ≡ b) → (keys ns : List A) (m : A) (more : List A)
    → more ≡ insert_key eq keys m → (k : A) → list_any (eq k) keys ≡ list_any (eq k) ns → list_any (eq k) more ≡ list_any (eq k) (ns ++ m ∷ [])
set_more eq same keys ns m more e k held =
    let split : (b c : Bool) → list_any (eq m) keys ≡ b → eq k m ≡ c → list_any (eq k) (if b then keys else keys ++ m ∷ []) ≡ (list_any (eq k) ns || c) =
    λ b c. elim b as (λ b. list_any (eq m) keys ≡ b → eq k m ≡ c → list_any (eq k) (if b then keys else keys ++ m ∷ []) ≡ (list_any (eq k) ns || c)) [
      | true ↦ elim c as (λ c. list_any (eq m) keys ≡ true → eq k m ≡ c → list_any (eq k) keys ≡ (list_any (eq k) ns || c)) [
        | true ↦ λ p q. ap (λ z. list_any (eq z) keys) (same k m q) ∙ (p ∙ sym (or_true (list_any (eq k) ns)))
        | false ↦ λ p q. held ∙ sym (or_false (list_any (eq k) ns))
      ]
      | false ↦ λ p q. any-push (eq k) keys m ∙ (ap (λ a. a || eq k m) held ∙ ap (λ d. list_any (eq k) ns || d) q)
    ]
    in ap (list_any (eq k)) e ∙ (split _ _ refl refl ∙ sym (any-push (eq k) ns m))

pub nat_eq-true : (a b : ℕ) → nat_eq a b ≡ true → a ≡ b
nat_eq-true a b h = grind (arith, nat_tests)

-- ---- first places
shifted : (o : Option ℕ) (b : Bool) (n k : ℕ) → k ≡ n + 1 → option_map (λ i. i + 1) (option_or o (if b then Some n else None)) ≡ option_or (option_map (λ i. i + 1) o) (if b then Some k else None)
shifted None true n k e = ap Some (sym e)
shifted None false n k e = refl
shifted (Some i) b n k e = refl

place-push : {A : Type 0} (test : A → Bool) (xs : List A) (x : A) → index_where test (xs ++ x ∷ []) ≡ option_or (index_where test xs) (if test x then Some (length xs) else None)
place-push test [] x =
    let first : Option ℕ = Some 0
    in let none : Option ℕ = None
    in elim (test x) as (λ b. cond b first none ≡ cond b first none) [ true ↦ refl | false ↦ refl ]
place-push test (y ∷ xs) x =
    let first : Option ℕ = Some 0
    in elim (test y)
    as (λ b. cond b first (option_map (λ i. i + 1) (index_where test (xs ++ x ∷ []))) ≡ option_or (cond b first (option_map (λ i. i + 1) (index_where test xs))) (if test x then Some (length (y ∷ xs)) else None))
    [ true ↦ refl | false ↦ ap (option_map (λ i. i + 1)) (place-push test xs x) ∙ shifted (index_where test xs) (test x) (length xs) (length (y ∷ xs)) (omega arith) ]

pub places_more : (ns : List (List ℕ)) (m : List ℕ) (old new : List ℕ → Option ℕ) (at : ℕ) → at ≡ length ns → ((n : List ℕ) → old n ≡ index_where (bytes_eq n) ns)
    → new ≡ or_named old m (Some at) → (n : List ℕ) → new n ≡ index_where (bytes_eq n) (ns ++ m ∷ [])
places_more ns m old new at long held e n =
    ap (λ t. t n) e
    ∙ (ap (λ o. option_or o (if bytes_eq n m then Some at else None)) (held n)
    ∙ (ap (λ k. option_or (index_where (bytes_eq n) ns) (if bytes_eq n m then Some k else None)) long ∙ sym (place-push (bytes_eq n) ns m)))
