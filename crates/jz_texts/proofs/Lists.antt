-- Lists whose items stand in an order, and parts of lists.
use Rattle.std.proofs.Common.{zero, suc, List, [], ◌∷◌, ◌++◌, map, arith}
use Rattle.std.specs.Prelude.{All, AllPairs}
use Rattle.std.proofs.lemmas.List.Elements.{All-nil, All-cons, All-head, All-tail}
use Rattle.std.proofs.lemmas.List.Kept.{AllPairs-cons}
use Rattle.jz_tree.specs.Span.{Span}

module _ {A : Type 0} (R : A → A → Type 0) where
  pub pairs_nil : AllPairs R []
  pairs_nil i j d lt within = absurd (omega arith)

  pub pairs_head : (x : A) (xs : List A) → AllPairs R (x ∷ xs) → All (R x) xs
  pairs_head x xs h k d within = h zero (suc k) d (omega arith) (omega arith)

  pub pairs_tail : (x : A) (xs : List A) → AllPairs R (x ∷ xs) → AllPairs R xs
  pairs_tail x xs h i j d lt within = h (suc i) (suc j) d (omega arith) (omega arith)

-- of what a function makes of the items
pub unmapped : {A B : Type 0} (P : B → Type 0) (f : A → B) (xs : List A) → All P (map f xs) → All (λ x. P (f x)) xs
unmapped P f [] h = All-nil (λ x. P (f x))
unmapped P f (x ∷ xs) h = All-cons (λ x. P (f x)) x xs (All-head P (f x) (map f xs) h) (unmapped P f xs (All-tail P (f x) (map f xs) h))

pub pairs_map : {A B : Type 0} (R : B → B → Type 0) (f : A → B) (xs : List A) → AllPairs (λ x y. R (f x) (f y)) xs → AllPairs R (map f xs)
pairs_map R f [] h = pairs_nil R
pairs_map {A = A} R f (x ∷ xs) h =
    AllPairs-cons R (f x) (map f xs) (mapped xs (pairs_head (λ x y. R (f x) (f y)) x xs h)) (pairs_map R f xs (pairs_tail (λ x y. R (f x) (f y)) x xs h))
  where
    mapped : (ys : List A) → All (λ y. R (f x) (f y)) ys → All (R (f x)) (map f ys)
    mapped [] k = All-nil (R (f x))
    mapped (y ∷ ys) k = All-cons (R (f x)) (f y) (map f ys) (All-head (λ y. R (f x) (f y)) y ys k) (mapped ys (All-tail (λ y. R (f x) (f y)) y ys k))

pub pairs_unmap : {A B : Type 0} (R : B → B → Type 0) (f : A → B) (xs : List A) → AllPairs R (map f xs) → AllPairs (λ x y. R (f x) (f y)) xs
pairs_unmap R f [] h = pairs_nil (λ x y. R (f x) (f y))
pairs_unmap R f (x ∷ xs) h =
    AllPairs-cons (λ x y. R (f x) (f y)) x xs (unmapped (R (f x)) f xs (pairs_head R (f x) (map f xs) h)) (pairs_unmap R f xs (pairs_tail R (f x) (map f xs) h))

pub parted : {A : Type 0} (P : A → Type 0) (xs ys : List A) → All P (xs ++ ys) → All P xs × All P ys
parted P [] ys h = (All-nil P, h)
parted P (x ∷ xs) ys h =
    let t = parted P xs ys (All-tail P x (xs ++ ys) h) in
    (All-cons P x xs (All-head P x (xs ++ ys) h) t.0, t.1)

-- ---- parts of a list, in its order
pub data IsPart : List Span → List Span → Type 0 where
  nothing : {ys : List Span} → IsPart [] ys
  kept : {x : Span} {xs ys : List Span} → IsPart xs ys → IsPart (x ∷ xs) (x ∷ ys)
  passed : {y : Span} {xs ys : List Span} → IsPart xs ys → IsPart xs (y ∷ ys)

pub behind : (us : List Span) {xs ys : List Span} → IsPart xs ys → IsPart xs (us ++ ys)
behind [] h = h
behind (u ∷ us) h = passed (behind us h)

pub part_append : {us vs xs ys : List Span} → IsPart us vs → IsPart xs ys → IsPart (us ++ xs) (vs ++ ys)
part_append (nothing {ys = vs}) k = behind vs k
part_append (kept h) k = kept (part_append h k)
part_append (passed h) k = passed (part_append h k)

pub part_all : (P : Span → Type 0) {xs ys : List Span} → IsPart xs ys → All P ys → All P xs
part_all P nothing a = All-nil P
part_all P (kept {x} {xs} {ys} h) a = All-cons P x xs (All-head P x ys a) (part_all P h (All-tail P x ys a))
part_all P (passed {y} {xs} {ys} h) a = part_all P h (All-tail P y ys a)

pub part_pairs : (R : Span → Span → Type 0) {xs ys : List Span} → IsPart xs ys → AllPairs R ys → AllPairs R xs
part_pairs R nothing a = pairs_nil R
part_pairs R (kept {x} {xs} {ys} h) a = AllPairs-cons R x xs (part_all (R x) h (pairs_head R x ys a)) (part_pairs R h (pairs_tail R x ys a))
part_pairs R (passed {y} {xs} {ys} h) a = part_pairs R h (pairs_tail R y ys a)
