-- What passes a test, as far as a loop has come.
use Rattle.std.proofs.Common.{◌≡◌, ℕ, zero, suc, ◌+◌, ◌<◌, ◌≤◌, Bool, true, List, [], ◌∷◌, length, get_or, take, refl, sym, ap, ◌∙◌, subst, arith, add-one}
use Rattle.std.specs.Prelude.{map}
use Rattle.std.specs.List.{list_all}
use Rattle.std.proofs.lemmas.Bool.{and_parts, and_from}
use Rattle.std.proofs.lemmas.List.{take_all}
use Rattle.jz_listing.specs.Listable.{parts_fit}

passed : {A : Type 0} (test : A → Bool) (xs : List A) (i : ℕ) (d : A) → i < length xs → list_all test (take i xs) ≡ true → test (get_or xs i d) ≡ true → list_all test (take (suc i) xs) ≡ true
passed test [] i d lt h k = absurd (omega (arith, lt))
passed test (x ∷ xs) zero d lt h k = and_from (test x) (list_all test []) k refl
passed test (x ∷ xs) (suc i) d lt h k =
    let p = and_parts (test x) (list_all test (take i xs)) h in
    and_from (test x) (list_all test (take (suc i) xs)) p.0 (passed test xs i d (omega (arith, lt)) p.1 k)

pub pass_more : {A : Type 0} (test : A → Bool) (xs : List A) (i : ℕ) (d : A) → i < length xs → list_all test (take i xs) ≡ true → test (get_or xs i d) ≡ true → list_all test (take (i + 1) xs) ≡ true
pass_more test xs i d lt h k = rw add-one (passed test xs i d lt h k)

pub pass_all : {A : Type 0} (test : A → Bool) (xs ys : List A) (i : ℕ) → ys ≡ xs → length ys ≤ i → list_all test (take i ys) ≡ true → list_all test xs ≡ true
pass_all test xs ys i same le h = subst (λ zs. list_all test zs ≡ true) (take_all i ys le ∙ same) h

-- ---- of parts
part_passed : {A : Type 0} (fits : A → Bool) (xs : List A) (i : ℕ) (d : A) → i < length xs → parts_fit (map fits (take i xs)) ≡ true → fits (get_or xs i d) ≡ true → parts_fit (map fits (take (suc i) xs)) ≡ true
part_passed fits [] i d lt h k = absurd (omega (arith, lt))
part_passed fits (x ∷ xs) zero d lt h k = and_from (fits x) (parts_fit []) k refl
part_passed fits (x ∷ xs) (suc i) d lt h k =
    let p = and_parts (fits x) (parts_fit (map fits (take i xs))) h in
    and_from (fits x) (parts_fit (map fits (take (suc i) xs))) p.0 (part_passed fits xs i d (omega (arith, lt)) p.1 k)

pub part_more : {A : Type 0} (fits : A → Bool) (xs : List A) (i : ℕ) (x : A) → i < length xs → x ≡ get_or xs i x → parts_fit (map fits (take i xs)) ≡ true → fits x ≡ true → parts_fit (map fits (take (i + 1) xs)) ≡ true
part_more fits xs i x lt is h k = rw add-one (part_passed fits xs i x lt h (sym (ap fits is) ∙ k))

pub part_all : {A : Type 0} (fits : A → Bool) (xs ys : List A) (i : ℕ) → ys ≡ xs → length ys ≤ i → parts_fit (map fits (take i ys)) ≡ true → parts_fit (map fits xs) ≡ true
part_all fits xs ys i same le h = subst (λ zs. parts_fit (map fits zs) ≡ true) (take_all i ys le ∙ same) h
