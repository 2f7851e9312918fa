-- Where a need stands among needs in order.
use Rattle.std.proofs.Common.{◌≡◌, ◌≢◌, ℕ, zero, suc, ◌+◌, ◌<◌, ◌≤◌, ◌⊎◌, inl, inr, Bool, true, false, List, [], ◌∷◌, ◌++◌, IsTrue, length, get_or, take, drop, nat_eq, nat_lt, refl, sym, ap, ◌∙◌, subst, arith, add-one, drop-cons}
use Rattle.std.specs.Prelude.{if◌then◌else◌}
use Rattle.std.specs.List.{All, AllPairs}
use Rattle.std.proofs.lemmas.Bool.{lt-ltb, ltb-true}
use Rattle.std.proofs.lemmas.Bool.Decides.{eqb_tells}
use Rattle.std.proofs.lemmas.List.Kept.{AllPairs-cons}
use Rattle.std.proofs.lemmas.List.Elements.{All-nil, All-cons, All-weaker}
use Rattle.jz_ir.specs.declared.code.Need.{Need}
use Rattle.jz_ir.specs.declared.code.Op.{Op}
use Rattle.jz_ir.specs.Order.{number_of}
use Rattle.jz_alloc.specs.declared.needs.Needed.{Needed}
use Rattle.jz_alloc.specs.Needs.{need_before, needed_by}
use Rattle.jz_alloc.specs.InnerNeeds.{insert_need, add_needs, need_list}
use Rattle.jz_fit.specs.InnerAnswers.{Ascend}

-- ---- what is before stays before
abbrev Lexical : (l c p l' c' p' : ℕ) → Type 0
Lexical l c p l' c' p' = (l < l') ⊎ ((l ≡ l') × ((c < c') ⊎ ((c ≡ c') × (p < p'))))

abbrev lexical : (l c p l' c' p' : ℕ) → Bool
lexical l c p l' c' p' = if nat_eq l l' then (if nat_eq c c' then nat_lt p p' else nat_lt c c') else nat_lt l l'

tells : (x y : ℕ) → ((x ≡ y) × (nat_eq x y ≡ true)) ⊎ ((x ≢ y) × (nat_eq x y ≡ false))
tells x y = elim (eqb_tells x y) [ inl p ↦ inl (p.1, p.0) | inr p ↦ inr (p.1, p.0) ]

to_lexical : (l c p l' c' p' : ℕ) → IsTrue (lexical l c p l' c' p') → Lexical l c p l' c' p'
to_lexical l c p l' c' p' h = elim (tells l l') [
  | inl x ↦ elim (tells c c') [
    | inl y ↦ (let e = rw (x.1, y.1) at h in inr (x.0, inr (y.0, ltb-true p p' e)))
    | inr y ↦ (let e = rw (x.1, y.1) at h in inr (x.0, inl (ltb-true c c' e)))
  ]
  | inr x ↦ (let e = rw x.1 at h in inl (ltb-true l l' e))
]

unequal : (x y : ℕ) → x < y → nat_eq x y ≡ false
unequal x y l = elim (tells x y) [ inl p ↦ absurd (omega (arith, p.0, l)) | inr p ↦ p.1 ]

equal : (x y : ℕ) → x ≡ y → nat_eq x y ≡ true
equal x y e = elim (tells x y) [ inl p ↦ p.1 | inr p ↦ absurd (p.0 e) ]

from_lexical : (l c p l' c' p' : ℕ) → Lexical l c p l' c' p' → IsTrue (lexical l c p l' c' p')
from_lexical l c p l' c' p' (inl x) = rw (unequal l l' x) (lt-ltb l l' x)
from_lexical l c p l' c' p' (inr (e, inl x)) = rw (equal l l' e, unequal c c' x) (lt-ltb c c' x)
from_lexical l c p l' c' p' (inr (e, inr (f, x))) = rw (equal l l' e, equal c c' f) (lt-ltb p p' x)

lexical_on : {l c p l' c' p' l2 c2 p2 : ℕ} → Lexical l c p l' c' p' → Lexical l' c' p' l2 c2 p2 → Lexical l c p l2 c2 p2
lexical_on (inl x) (inl y) = inl (omega (arith, x, y))
lexical_on (inl x) (inr y) = inl (omega (arith, x, y.0))
lexical_on (inr x) (inl y) = inl (omega (arith, x.0, y))
lexical_on (inr (e, inl x)) (inr (f, inl y)) = inr (e ∙ f, inl (omega (arith, x, y)))
lexical_on (inr (e, inl x)) (inr (f, inr y)) = inr (e ∙ f, inl (omega (arith, x, y.0)))
lexical_on (inr (e, inr x)) (inr (f, inl y)) = inr (e ∙ f, inl (omega (arith, x.0, y)))
lexical_on (inr (e, inr x)) (inr (f, inr y)) = inr (e ∙ f, inr (x.0 ∙ y.0, omega (arith, x.1, y.1)))

before_on : (a b c : Needed) → IsTrue (need_before a b) → IsTrue (need_before b c) → IsTrue (need_before a c)
before_on a b c h k = from_lexical _ _ _ _ _ _ (lexical_on (to_lexical a.span.line a.span.col (number_of a.place) b.span.line b.span.col (number_of b.place) h) (to_lexical b.span.line b.span.col (number_of b.place) c.span.line c.span.col (number_of c.place) k))

-- ---- lists in order
abbrev Before : Needed → Needed → Type 0
Before a b = IsTrue (need_before a b)

pub nothing_ascends : Ascend []
nothing_ascends i j d l k = absurd (omega (arith, k))

rest_ascends : (x : Needed) (xs : List Needed) → Ascend (x ∷ xs) → Ascend xs
rest_ascends x xs a i j d l k = a (suc i) (suc j) d (omega (arith, l)) (omega (arith, k))

first_before : (x : Needed) (xs : List Needed) → Ascend (x ∷ xs) → All (Before x) xs
first_before x xs a i d l = a 0 (suc i) d (omega arith) (omega (arith, l))

insert_all : (P : Needed → Type 0) (n : Needed) (xs : List Needed) → P n → All P xs → All P (insert_need n xs)
insert_all P n [] h a = All-cons P n [] h (All-nil P)
insert_all P n (x ∷ xs) h a = go (need_before x n) (need_before n x) (insert_all P n xs h (λ i d l. a (suc i) d (omega arith)))
  where
    go : (b c : Bool) → All P (insert_need n xs) → All P (if b then x ∷ insert_need n xs else (if c then n ∷ (x ∷ xs) else x ∷ xs))
    go true c r = All-cons P x (insert_need n xs) (a 0 x (omega arith)) r
    go false true r = All-cons P n (x ∷ xs) h a
    go false false r = a

pub insert_ascends : (n : Needed) (xs : List Needed) → Ascend xs → Ascend (insert_need n xs)
insert_ascends n [] a = AllPairs-cons Before n [] (All-nil (Before n)) nothing_ascends
insert_ascends n (x ∷ xs) a = go (need_before x n) (need_before n x) refl refl (insert_ascends n xs (rest_ascends x xs a))
  where
    go : (b c : Bool) → need_before x n ≡ b → need_before n x ≡ c → Ascend (insert_need n xs) → Ascend (if b then x ∷ insert_need n xs else (if c then n ∷ (x ∷ xs) else x ∷ xs))
    go true c e f k = AllPairs-cons Before x (insert_need n xs) (insert_all (Before x) n xs e (first_before x xs a)) k
    go false true e f k = AllPairs-cons Before n (x ∷ xs) (All-cons (Before n) x xs f (All-weaker (Before x) (Before n) (λ m h. before_on n x m f h) xs (first_before x xs a))) a
    go false false e f k = a

-- ---- behind one that stands before the need
past : (n : Needed) (xs : List Needed) (m : ℕ) (y : Needed) → Ascend xs → m < length xs → y ≡ get_or xs m y → IsTrue (need_before y n) → insert_need n xs ≡ take (suc m) xs ++ insert_need n (drop (suc m) xs)
past n [] m y a lt e h = absurd (omega (arith, lt))
past n (x ∷ xs) zero y a lt e h = let t : need_before x n ≡ true = subst (λ z. IsTrue (need_before z n)) e h in rw t refl
past n (x ∷ xs) (suc m) y a lt e h =
    let t : need_before x n ≡ true = before_on x y n (subst (λ z. Before x z) (sym e) (first_before x xs a m y (omega (arith, lt)))) h in
    let r : x ∷ insert_need n xs ≡ x ∷ (take (suc m) xs ++ insert_need n (drop (suc m) xs)) = ap (λ z. x ∷ z) (past n xs m y (rest_ascends x xs a) (omega (arith, lt)) e h) in
    rw t r

pub behind : (n : Needed) (xs : List Needed) (m : ℕ) (y : Needed) → Ascend xs → m < length xs → y ≡ get_or xs m y → IsTrue (need_before y n) → insert_need n xs ≡ take (m + 1) xs ++ insert_need n (drop (m + 1) xs)
behind n xs m y a lt e h = subst (λ k. insert_need n xs ≡ take k xs ++ insert_need n (drop k xs)) (sym (add-one m)) (past n xs m y a lt e h)

-- ---- needs of one operation after another
pub adds_ascend : (v : ℕ) (ks : List Need) (ns : List Needed) → Ascend ns → Ascend (add_needs v ks ns)
adds_ascend v [] ns a = a
adds_ascend v (k ∷ ks) ns a = adds_ascend v ks _ (go (nat_eq k.variable v))
  where
    go : (b : Bool) → Ascend (if b then insert_need (needed_by k) ns else ns)
    go true = insert_ascends (needed_by k) ns a
    go false = a

-- one need more
pub more_needs : (v : ℕ) (ks : List Need) (i : ℕ) (d : Need) (old new all : List Needed) → i < length ks → add_needs v (drop i ks) old ≡ all → new ≡ (if nat_eq (get_or ks i d).variable v then insert_need (needed_by (get_or ks i d)) old else old) → add_needs v (drop (i + 1) ks) new ≡ all
more_needs v ks i d old new all lt h e =
    ap (add_needs v (drop (i + 1) ks)) e ∙ ap (λ k. add_needs v (get_or ks i d ∷ drop k ks) old) (add-one i) ∙ ap (λ z. add_needs v z old) (sym (drop-cons ks i d lt)) ∙ h

-- the needs of one operation more
pub more_ops : (v : ℕ) (ops : List Op) (i : ℕ) (o : Op) (old new all : List Needed) → i < length ops → o ≡ get_or ops i o → need_list v (drop i ops) old ≡ all → new ≡ add_needs v o.needs old → need_list v (drop (i + 1) ops) new ≡ all
more_ops v ops i o old new all lt is h e =
    ap (need_list v (drop (i + 1) ops)) (e ∙ ap (λ (x : Op). add_needs v x.needs old) is) ∙ ap (λ k. need_list v (get_or ops i o ∷ drop k ops) old) (add-one i) ∙ ap (λ z. need_list v z old) (sym (drop-cons ops i o lt)) ∙ h

other : (x y : ℕ) → (x ≡ y → ⊥) → nat_eq x y ≡ false
other x y t = elim (tells x y) [ inl p ↦ absurd (t p.0) | inr p ↦ p.1 ]

-- a need of the variable, and one of another
pub need_taken : (v : ℕ) (ks : List Need) (i : ℕ) (d : Need) (old new all : List Needed) → i < length ks → add_needs v (drop i ks) old ≡ all → Ascend old → (get_or ks i d).variable ≡ v → new ≡ insert_need (needed_by (get_or ks i d)) old → (add_needs v (drop (i + 1) ks) new ≡ all) × Ascend new
need_taken v ks i d old new all lt h a t e = (
  more_needs v ks i d old new all lt h (e ∙ sym (ap (λ b. if b then insert_need (needed_by (get_or ks i d)) old else old) (equal (get_or ks i d).variable v t))),
  subst Ascend (sym e) (insert_ascends (needed_by (get_or ks i d)) old a),
)

pub need_left : (v : ℕ) (ks : List Need) (i : ℕ) (d : Need) (old new all : List Needed) → i < length ks → add_needs v (drop i ks) old ≡ all → Ascend old → ((get_or ks i d).variable ≡ v → ⊥) → new ≡ old → (add_needs v (drop (i + 1) ks) new ≡ all) × Ascend new
need_left v ks i d old new all lt h a t e = (
  more_needs v ks i d old new all lt h (e ∙ sym (ap (λ b. if b then insert_need (needed_by (get_or ks i d)) old else old) (other (get_or ks i d).variable v t))),
  subst Ascend (sym e) a,
)
