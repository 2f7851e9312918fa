-- The order of placing.
use Rattle.std.proofs.Common.{◌≡◌, ◌≢◌, ℕ, zero, suc, ◌+◌, ◌<◌, ◌≤◌, Bool, true, false, not, List, [], ◌∷◌, ◌++◌, IsTrue, IsFalse, length, get_or, cond, refl, sym, ap, ◌∙◌, subst, arith, add-zero, zero-add, add-one, append_assoc, append-nil}
use Rattle.std.specs.List.{All, filter, range_with_len}
use Rattle.std.proofs.lemmas.List.Elements.{All-append, All-filter, All-from_get_or, All-weaker, All-nil, All-cons}
use Rattle.std.proofs.lemmas.List.FromFn.{length-range_with_len, get_or-range_with_len}
use Rattle.jz_ir.specs.declared.code.Op.{Op}
use Rattle.jz_ir.specs.Places.{has_need, order_of}

-- one after another, each apart from all that follow
pub data Apart : List ℕ → Type 0 where
  no_more : Apart []
  apart_more : {x : ℕ} {xs : List ℕ} → All (λ y. x ≢ y) xs → Apart xs → Apart (x ∷ xs)

pub distinct : (xs : List ℕ) → Apart xs → (i j : ℕ) → i < j → j < length xs → get_or xs i 0 ≢ get_or xs j 0
distinct [] a i j l k = absurd (omega arith)
distinct (x ∷ xs) (apart_more h a) zero zero l k = absurd (omega arith)
distinct (x ∷ xs) (apart_more h a) zero (suc j) l k = h j 0 (omega arith)
distinct (x ∷ xs) (apart_more h a) (suc i) zero l k = absurd (omega arith)
distinct (x ∷ xs) (apart_more h a) (suc i) (suc j) l k = distinct xs a i j (omega arith) (omega arith)

pub filter_suc : (p : ℕ → Bool) (a n : ℕ) → filter p (range_with_len a (suc n)) ≡ filter p (range_with_len a n) ++ cond (p (a + n)) ((a + n) ∷ []) []
filter_suc p a zero = rw (add-zero a) refl
filter_suc p a (suc n) =
    let e : (a + 1) + n ≡ a + suc n = omega arith in
    let h = subst (λ x. filter p (range_with_len (a + 1) (suc n)) ≡ filter p (range_with_len (a + 1) n) ++ cond (p x) (x ∷ []) []) e (filter_suc p (a + 1) n) in
    front (p a) a _ _ _ h
  where
    front : (b : Bool) (x : ℕ) (xs ys zs : List ℕ) → xs ≡ ys ++ zs → cond b (x ∷ xs) xs ≡ cond b (x ∷ ys) ys ++ zs
    front true x xs ys zs e = ap (λ t. x ∷ t) e
    front false x xs ys zs e = e

-- a loop that takes those that pass
pub filter_more : (p : ℕ → Bool) (k : ℕ) → filter p (range_with_len 0 (k + 1)) ≡ filter p (range_with_len 0 k) ++ cond (p k) (k ∷ []) []
filter_more p k = rw (add-one k) (filter_suc p 0 k ∙ ap (λ x. filter p (range_with_len 0 k) ++ cond (p x) (x ∷ []) []) (zero-add k))

in_range : (a n : ℕ) → All (λ v. v < a + n) (range_with_len a n)
in_range a n = All-from_get_or (λ v. v < a + n) (range_with_len a n) 0 (λ i l. let k : i < n = omega (arith, length-range_with_len a n) in rw (get_or-range_with_len a n i 0 k) (omega arith))

from_range : (a n : ℕ) → All (λ v. a ≤ v) (range_with_len a n)
from_range a n = All-from_get_or (λ v. a ≤ v) (range_with_len a n) 0 (λ i l. let k : i < n = omega (arith, length-range_with_len a n) in rw (get_or-range_with_len a n i 0 k) (omega arith))

apart_filter : (p : ℕ → Bool) (a n : ℕ) → Apart (filter p (range_with_len a n))
apart_filter p a zero = no_more
apart_filter p a (suc n) = front (p a) a (filter p (range_with_len (a + 1) n)) (All-weaker (λ v. a + 1 ≤ v) (λ y. a ≢ y) (λ y l e. omega arith) _ (All-filter p (λ v. a + 1 ≤ v) (range_with_len (a + 1) n) (from_range (a + 1) n))) (apart_filter p (a + 1) n)
  where
    front : (b : Bool) (x : ℕ) (xs : List ℕ) → All (λ y. x ≢ y) xs → Apart xs → Apart (cond b (x ∷ xs) xs)
    front true x xs h a' = apart_more h a'
    front false x xs h a' = a'

apart_append : (xs ys : List ℕ) → Apart xs → Apart ys → All (λ x. All (λ y. x ≢ y) ys) xs → Apart (xs ++ ys)
apart_append [] ys a b h = b
apart_append (x ∷ xs) ys (apart_more k a) b h = apart_more (All-append (λ y. x ≢ y) xs ys k (h 0 0 (omega arith))) (apart_append xs ys a b (λ i d l. h (suc i) d (omega arith)))

passes : (p : ℕ → Bool) (xs : List ℕ) → All (λ v. IsTrue (p v)) (filter p xs)
passes p [] = All-nil (λ v. IsTrue (p v))
passes p (x ∷ xs) = front (p x) refl (passes p xs)
  where
    front : (b : Bool) → p x ≡ b → All (λ v. IsTrue (p v)) (filter p xs) → All (λ v. IsTrue (p v)) (cond b (x ∷ filter p xs) (filter p xs))
    front true e h = All-cons (λ v. IsTrue (p v)) x (filter p xs) e h
    front false e h = h

pub order_below : (ops : List Op) (n : ℕ) → All (λ v. v < n) (order_of ops n)
order_below ops n =
    let r = All-weaker (λ v. v < 0 + n) (λ v. v < n) (λ v l. omega arith) _ (in_range 0 n) in
    All-append (λ v. v < n) _ _ (All-filter (has_need ops) (λ v. v < n) (range_with_len 0 n) r) (All-filter (λ v. not (has_need ops v)) (λ v. v < n) (range_with_len 0 n) r)

pub order_distinct : (ops : List Op) (n i j : ℕ) → i < j → j < length (order_of ops n) → get_or (order_of ops n) i 0 ≢ get_or (order_of ops n) j 0
order_distinct ops n = distinct (order_of ops n) (apart_append _ _ (apart_filter (has_need ops) 0 n) (apart_filter (λ v. not (has_need ops v)) 0 n)
    (All-weaker (λ v. IsTrue (has_need ops v)) (λ x. All (λ y. x ≢ y) (filter (λ v. not (has_need ops v)) (range_with_len 0 n)))
    (λ x t. All-weaker (λ v. IsTrue (not (has_need ops v))) (λ y. x ≢ y) (λ y f e. let g : IsTrue (not (has_need ops x)) = subst (λ z. IsTrue (not (has_need ops z))) (sym e) f in clash (has_need ops x) t g) _ (passes (λ v. not (has_need ops v)) (range_with_len 0 n)))
    _ (passes (has_need ops) (range_with_len 0 n))))
  where
    clash : (b : Bool) → IsTrue b → IsTrue (not b) → ⊥
    clash true t f = cc
    clash false t f = cc

pub with_one : (p : ℕ → Bool) (k : ℕ) (front old new : List ℕ) → IsTrue (p k) → old ≡ front ++ filter p (range_with_len 0 k) → new ≡ old ++ k ∷ [] → new ≡ front ++ filter p (range_with_len 0 (k + 1))
with_one p k front old new t e f = f ∙ ap (λ x. x ++ k ∷ []) e ∙ append_assoc front (filter p (range_with_len 0 k)) (k ∷ []) ∙ ap (λ x. front ++ x) (sym (filter_more p k ∙ ap (λ b. filter p (range_with_len 0 k) ++ cond b (k ∷ []) []) t))

pub without_it : (p : ℕ → Bool) (k : ℕ) (front old new : List ℕ) → IsFalse (p k) → old ≡ front ++ filter p (range_with_len 0 k) → new ≡ old → new ≡ front ++ filter p (range_with_len 0 (k + 1))
without_it p k front old new t e f = f ∙ e ∙ ap (λ x. front ++ x) (sym (filter_more p k ∙ ap (λ b. filter p (range_with_len 0 k) ++ cond b (k ∷ []) []) t ∙ append-nil (filter p (range_with_len 0 k))))
