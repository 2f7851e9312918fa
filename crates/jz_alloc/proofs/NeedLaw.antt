-- The list of needs has each need.
use Rattle.std.proofs.Common.{◌≡◌, ◌≢◌, ℕ, ◌<◌, zero, suc, IsTrue, ◌⊎◌, inl, inr, ◌↔◌, Bool, true, false, List, [], ◌∷◌, nat_eq, refl, sym, ap, ◌∙◌, subst, arith}
use Rattle.std.specs.Prelude.{nat_lt, if◌then◌else◌}
use Rattle.std.proofs.lemmas.Bool.{lt-ltb, ltb-false, ltb-true, eqb-true}
use Rattle.std.proofs.lemmas.Bool.Decides.{eqb_tells}
use Rattle.jz_ir.specs.declared.code.Op.{Op}
use Rattle.jz_ir.specs.declared.code.Need.{Need}
use Rattle.jz_alloc.specs.declared.needs.Needed.{Needed}
use Rattle.std.specs.List.{All, AllPairs, Any, Contains}
use Rattle.std.proofs.lemmas.List.Kept.{AllPairs-cons}
use Rattle.std.proofs.lemmas.List.Elements.{All-nil, All-cons, All-weaker}
use Rattle.jz_ir.specs.Order.{number_of}
use Rattle.jz_ir.proofs.Numbers.{one_place}
use Rattle.jz_alloc.specs.Needs.{need_before, Wants}
use Rattle.jz_alloc.specs.InnerNeeds.{insert_need, add_needs, need_list}

-- ---- the words of the specification, element by element
data Ascending : List Needed → Type 0 where
  no_need : Ascending []
  need_more : {k : Needed} {ks : List Needed} → All (λ m. IsTrue (need_before k m)) ks → Ascending ks → Ascending (k ∷ ks)

data In (n : Needed) : List Needed → Type 0 where
  here : {x : Needed} {xs : List Needed} → x ≡ n → In n (x ∷ xs)
  there : {x : Needed} {xs : List Needed} → In n xs → In n (x ∷ xs)

data Asks (v : ℕ) (n : Needed) : List Need → Type 0 where
  ask_here : {k : Need} {ks : List Need} → k.variable ≡ v → record { place = k.place; span = k.span } ≡ n → Asks v n (k ∷ ks)
  ask_there : {k : Need} {ks : List Need} → Asks v n ks → Asks v n (k ∷ ks)

data Demands (v : ℕ) (n : Needed) : List Op → Type 0 where
  want_here : {o : Op} {os : List Op} → Asks v n o.needs → Demands v n (o ∷ os)
  want_there : {o : Op} {os : List Op} → Demands v n os → Demands v n (o ∷ os)

abbrev Before : Needed → Needed → Type 0
Before a b = IsTrue (need_before a b)

pairs : (ks : List Needed) → Ascending ks → AllPairs Before ks
pairs [] no_need = λ i j d l k. absurd (omega arith)
pairs (k ∷ ks) (need_more a r) = AllPairs-cons Before k ks a (pairs ks r)

contains_in : (n : Needed) (xs : List Needed) → In n xs → Contains xs n
contains_in n [] i = elim i [ ]
contains_in n (x ∷ xs) (here e) = (0, omega arith, e)
contains_in n (x ∷ xs) (there i) = let c = contains_in n xs i in (suc c.0, omega (arith, c.1), c.2)

in_contains : (n : Needed) (xs : List Needed) → Contains xs n → In n xs
in_contains n [] (k, l, e) = absurd (omega (arith, l))
in_contains n (x ∷ xs) (zero, l, e) = here e
in_contains n (x ∷ xs) (suc k, l, e) = there (in_contains n xs (k, omega (arith, l), e))

abbrev IsAsked : ℕ → Needed → Need → Type 0
IsAsked v n k = (k.variable ≡ v) × (record { place = k.place; span = k.span } ≡ n)

abbrev HasAsked : ℕ → Needed → Op → Type 0
HasAsked v n o = Any (IsAsked v n) o.needs

any_asks : (v : ℕ) (n : Needed) (ks : List Need) → Asks v n ks → Any (IsAsked v n) ks
any_asks v n [] a = elim a [ ]
any_asks v n (k ∷ ks) (ask_here e f) = (0, k, omega arith, refl, (e, f))
any_asks v n (k ∷ ks) (ask_there a) = let z = any_asks v n ks a in (suc z.0, z.1, omega (arith, z.2), z.3, z.4)

asks_any : (v : ℕ) (n : Needed) (ks : List Need) → Any (IsAsked v n) ks → Asks v n ks
asks_any v n [] (i, k, l, e, p) = absurd (omega (arith, l))
asks_any v n (x ∷ ks) (zero, k, l, e, p) = let q = subst (IsAsked v n) (sym e) p in ask_here q.0 q.1
asks_any v n (x ∷ ks) (suc i, k, l, e, p) = ask_there (asks_any v n ks (i, k, omega (arith, l), e, p))

wants_demands : (v : ℕ) (n : Needed) (os : List Op) → Demands v n os → Wants v n os
wants_demands v n [] w = elim w [ ]
wants_demands v n (o ∷ os) (want_here a) = (0, o, omega arith, refl, any_asks v n o.needs a)
wants_demands v n (o ∷ os) (want_there w) = let z = wants_demands v n os w in (suc z.0, z.1, omega (arith, z.2), z.3, z.4)

demands_wants : (v : ℕ) (n : Needed) (os : List Op) → Wants v n os → Demands v n os
demands_wants v n [] (i, o, l, e, p) = absurd (omega (arith, l))
demands_wants v n (x ∷ os) (zero, o, l, e, p) = want_here (asks_any v n x.needs (subst (HasAsked v n) (sym e) p))
demands_wants v n (x ∷ os) (suc i, o, l, e, p) = want_there (demands_wants v n os (i, o, omega (arith, l), e, p))

-- ---- the list that is built

apart : (x y : ℕ) → nat_lt x y ≡ false → nat_lt y x ≡ false → x ≡ y
apart x y e f = omega (arith, ltb-false x y e, ltb-false y x f)

tells : (x y : ℕ) → ((x ≡ y) × (nat_eq x y ≡ true) × (nat_eq y x ≡ true)) ⊎ ((x ≢ y) × (nat_eq x y ≡ false) × (nat_eq y x ≡ false))
tells x y = elim (eqb_tells x y) [
  | inl p ↦ inl (p.1, p.0, elim (eqb_tells y x) [ inl q ↦ q.0 | inr q ↦ absurd (q.1 (sym p.1)) ])
  | inr p ↦ inr (p.1, p.0, elim (eqb_tells y x) [ inl q ↦ absurd (p.1 (sym q.1)) | inr q ↦ q.0 ])
]

same : (a b : Needed) → a.span.line ≡ b.span.line → a.span.col ≡ b.span.col → a.place ≡ b.place → a ≡ b
same a b p q r = ap (λ x. record { place = x; span = a.span }) r ∙ ap (λ x. record { place = b.place; span = record { line = x; col = a.span.col } }) p ∙ ap (λ x. record { place = b.place; span = record { line = b.span.line; col = x } }) q

total : (a b : Needed) → need_before a b ≡ false → need_before b a ≡ false → a ≡ b
total a b e f = elim (tells a.span.line b.span.line) [
  | inl p ↦ elim (tells a.span.col b.span.col) [
    | inl q ↦ (let e2 = rw (p.1, q.1) at e in let f2 = rw (p.2, q.2) at f in let r = apart (number_of a.place) (number_of b.place) e2 f2 in same a b p.0 q.0 (one_place a.place b.place r))
    | inr q ↦ absurd (let e2 = rw (p.1, q.1) at e in let f2 = rw (p.2, q.2) at f in q.0 (apart a.span.col b.span.col e2 f2))
  ]
  | inr p ↦ absurd (let e2 = rw p.1 at e in let f2 = rw p.2 at f in p.0 (apart a.span.line b.span.line e2 f2))
]

insert_sound : (n m : Needed) (xs : List Needed) → In m (insert_need n xs) → (n ≡ m) ⊎ In m xs
insert_sound n m [] (here e) = inl e
insert_sound n m [] (there h) = elim h [ ]
insert_sound n m (x ∷ xs) h = go (need_before x n) (need_before n x) (λ k. insert_sound n m xs k) h
  where
    go : (b c : Bool) → (In m (insert_need n xs) → (n ≡ m) ⊎ In m xs) → In m (if b then x ∷ insert_need n xs else (if c then n ∷ (x ∷ xs) else x ∷ xs)) → (n ≡ m) ⊎ In m (x ∷ xs)
    go true c f (here e) = inr (here e)
    go true c f (there k) = elim (f k) [ inl e ↦ inl e | inr i ↦ inr (there i) ]
    go false true f (here e) = inl e
    go false true f (there k) = inr k
    go false false f k = inr k

insert_keeps : (n m : Needed) (xs : List Needed) → In m xs → In m (insert_need n xs)
insert_keeps n m [] h = elim h [ ]
insert_keeps n m (x ∷ xs) h = go (need_before x n) (need_before n x) (λ k. insert_keeps n m xs k) h
  where
    go : (b c : Bool) → (In m xs → In m (insert_need n xs)) → In m (x ∷ xs) → In m (if b then x ∷ insert_need n xs else (if c then n ∷ (x ∷ xs) else x ∷ xs))
    go true c f (here e) = here e
    go true c f (there k) = there (f k)
    go false true f k = there k
    go false false f k = k

insert_has : (n : Needed) (xs : List Needed) → In n (insert_need n xs)
insert_has n [] = here refl
insert_has n (x ∷ xs) = go (need_before x n) (need_before n x) refl refl (insert_has n xs)
  where
    go : (b c : Bool) → need_before x n ≡ b → need_before n x ≡ c → In n (insert_need n xs) → In n (if b then x ∷ insert_need n xs else (if c then n ∷ (x ∷ xs) else x ∷ xs))
    go true c e f i = there i
    go false true e f i = here refl
    go false false e f i = here (total x n e f)

needs_sound : (v : ℕ) (n : Needed) (ks : List Need) (ns : List Needed) → In n (add_needs v ks ns) → Asks v n ks ⊎ In n ns
needs_sound v n [] ns h = inr h
needs_sound v n (k ∷ ks) ns h = elim (needs_sound v n ks _ h) [ inl a ↦ inl (ask_there a) | inr i ↦ go (nat_eq k.variable v) refl i ]
  where
    go : (b : Bool) → nat_eq k.variable v ≡ b → In n (if b then insert_need (record { place = k.place; span = k.span }) ns else ns) → Asks v n (k ∷ ks) ⊎ In n ns
    go true e i = elim (insert_sound (record { place = k.place; span = k.span }) n ns i) [ inl x ↦ inl (ask_here (eqb-true k.variable v e) x) | inr x ↦ inr x ]
    go false e i = inr i

needs_keep : (v : ℕ) (n : Needed) (ks : List Need) (ns : List Needed) → In n ns → In n (add_needs v ks ns)
needs_keep v n [] ns i = i
needs_keep v n (k ∷ ks) ns i = needs_keep v n ks _ (go (nat_eq k.variable v))
  where
    go : (b : Bool) → In n (if b then insert_need (record { place = k.place; span = k.span }) ns else ns)
    go true = insert_keeps (record { place = k.place; span = k.span }) n ns i
    go false = i

needs_have : (v : ℕ) (n : Needed) (ks : List Need) (ns : List Needed) → Asks v n ks → In n (add_needs v ks ns)
needs_have v n [] ns a = elim a [ ]
needs_have v n (k ∷ ks) ns (ask_there a) = needs_have v n ks _ a
needs_have v n (k ∷ ks) ns (ask_here e x) = needs_keep v n ks _ (go (nat_eq k.variable v) refl)
  where
    go : (b : Bool) → nat_eq k.variable v ≡ b → In n (if b then insert_need (record { place = k.place; span = k.span }) ns else ns)
    go true f = subst (λ m. In m (insert_need (record { place = k.place; span = k.span }) ns)) x (insert_has (record { place = k.place; span = k.span }) ns)
    go false f = elim (tells k.variable v) [ inl p ↦ absurd (let g = p.1 in cc) | inr p ↦ absurd (p.0 e) ]

list_sound : (v : ℕ) (n : Needed) (os : List Op) (ns : List Needed) → In n (need_list v os ns) → Demands v n os ⊎ In n ns
list_sound v n [] ns h = inr h
list_sound v n (o ∷ os) ns h = elim (list_sound v n os _ h) [ inl w ↦ inl (want_there w) | inr i ↦ elim (needs_sound v n o.needs ns i) [ inl a ↦ inl (want_here a) | inr j ↦ inr j ] ]

list_keep : (v : ℕ) (n : Needed) (os : List Op) (ns : List Needed) → In n ns → In n (need_list v os ns)
list_keep v n [] ns i = i
list_keep v n (o ∷ os) ns i = list_keep v n os _ (needs_keep v n o.needs ns i)

list_have : (v : ℕ) (n : Needed) (os : List Op) (ns : List Needed) → Demands v n os → In n (need_list v os ns)
list_have v n [] ns w = elim w [ ]
list_have v n (o ∷ os) ns (want_here a) = list_keep v n os _ (needs_have v n o.needs ns a)
list_have v n (o ∷ os) ns (want_there w) = list_have v n os _ w

-- it has each need of v, and nothing else
pub each_need : (v : ℕ) (os : List Op) (n : Needed) → Contains (need_list v os []) n ↔ Wants v n os
each_need v os n = (
  λ c. elim (list_sound v n os [] (in_contains n (need_list v os []) c)) [ inl w ↦ wants_demands v n os w | inr e ↦ elim e [ ] ],
  λ w. contains_in n (need_list v os []) (list_have v n os [] (demands_wants v n os w)),
)

-- ---- the list ascends
abbrev Lexical : (l c p l' c' p' : ℕ) → Type 0
Lexical l c p l' c' p' = (l < l') ⊎ ((l ≡ l') × ((c < c') ⊎ ((c ≡ c') × (p < p'))))

abbrev lexical : (l c p l' c' p' : ℕ) → Bool
lexical l c p l' c' p' = if nat_eq l l' then (if nat_eq c c' then nat_lt p p' else nat_lt c c') else nat_lt l l'

to_lexical : (l c p l' c' p' : ℕ) → IsTrue (lexical l c p l' c' p') → Lexical l c p l' c' p'
to_lexical l c p l' c' p' h = elim (tells l l') [
  | inl x ↦ elim (tells c c') [
    | inl y ↦ (let e = rw (x.1, y.1) at h in inr (x.0, inr (y.0, ltb-true p p' e)))
    | inr y ↦ (let e = rw (x.1, y.1) at h in inr (x.0, inl (ltb-true c c' e)))
  ]
  | inr x ↦ (let e = rw x.1 at h in inl (ltb-true l l' e))
]

unequal : (x y : ℕ) → x < y → nat_eq x y ≡ false
unequal x y l = elim (tells x y) [ inl p ↦ absurd (omega (arith, p.0)) | inr p ↦ p.1 ]

equal : (x y : ℕ) → x ≡ y → nat_eq x y ≡ true
equal x y e = elim (tells x y) [ inl p ↦ p.1 | inr p ↦ absurd (p.0 e) ]

from_lexical : (l c p l' c' p' : ℕ) → Lexical l c p l' c' p' → IsTrue (lexical l c p l' c' p')
from_lexical l c p l' c' p' (inl x) = rw (unequal l l' x) (lt-ltb l l' x)
from_lexical l c p l' c' p' (inr (e, inl x)) = rw (equal l l' e, unequal c c' x) (lt-ltb c c' x)
from_lexical l c p l' c' p' (inr (e, inr (f, x))) = rw (equal l l' e, equal c c' f) (lt-ltb p p' x)

lexical_on : {l c p l' c' p' l2 c2 p2 : ℕ} → Lexical l c p l' c' p' → Lexical l' c' p' l2 c2 p2 → Lexical l c p l2 c2 p2
lexical_on (inl x) (inl y) = inl (omega (arith, x, y))
lexical_on (inl x) (inr y) = inl (omega (arith, x, y.0))
lexical_on (inr x) (inl y) = inl (omega (arith, x.0, y))
lexical_on (inr (e, inl x)) (inr (f, inl y)) = inr (e ∙ f, inl (omega (arith, x, y)))
lexical_on (inr (e, inl x)) (inr (f, inr y)) = inr (e ∙ f, inl (omega (arith, x, y.0)))
lexical_on (inr (e, inr x)) (inr (f, inl y)) = inr (e ∙ f, inl (omega (arith, x.0, y)))
lexical_on (inr (e, inr x)) (inr (f, inr y)) = inr (e ∙ f, inr (x.0 ∙ y.0, omega (arith, x.1, y.1)))

before_on : (a b c : Needed) → IsTrue (need_before a b) → IsTrue (need_before b c) → IsTrue (need_before a c)
before_on a b c h k = from_lexical _ _ _ _ _ _ (lexical_on (to_lexical a.span.line a.span.col (number_of a.place) b.span.line b.span.col (number_of b.place) h) (to_lexical b.span.line b.span.col (number_of b.place) c.span.line c.span.col (number_of c.place) k))

insert_all : (P : Needed → Type 0) (n : Needed) (xs : List Needed) → P n → All P xs → All P (insert_need n xs)
insert_all P n [] h a = All-cons P n [] h (All-nil P)
insert_all P n (x ∷ xs) h a = go (need_before x n) (need_before n x) (insert_all P n xs h (λ i d l. a (suc i) d (omega arith)))
  where
    go : (b c : Bool) → All P (insert_need n xs) → All P (if b then x ∷ insert_need n xs else (if c then n ∷ (x ∷ xs) else x ∷ xs))
    go true c r = All-cons P x (insert_need n xs) (a 0 x (omega arith)) r
    go false true r = All-cons P n (x ∷ xs) h a
    go false false r = a

insert_ascends : (n : Needed) (xs : List Needed) → Ascending xs → Ascending (insert_need n xs)
insert_ascends n [] a = need_more (All-nil (λ m. IsTrue (need_before n m))) no_need
insert_ascends n (x ∷ xs) (need_more a r) = go (need_before x n) (need_before n x) refl refl (insert_ascends n xs r)
  where
    go : (b c : Bool) → need_before x n ≡ b → need_before n x ≡ c → Ascending (insert_need n xs) → Ascending (if b then x ∷ insert_need n xs else (if c then n ∷ (x ∷ xs) else x ∷ xs))
    go true c e f k = need_more (insert_all (λ m. IsTrue (need_before x m)) n xs e a) k
    go false true e f k = need_more (All-cons (λ m. IsTrue (need_before n m)) x xs f (All-weaker (λ m. IsTrue (need_before x m)) (λ m. IsTrue (need_before n m)) (λ m h. before_on n x m f h) xs a)) (need_more a r)
    go false false e f k = need_more a r

add_ascends : (v : ℕ) (ks : List Need) (ns : List Needed) → Ascending ns → Ascending (add_needs v ks ns)
add_ascends v [] ns a = a
add_ascends v (k ∷ ks) ns a = add_ascends v ks _ (go (nat_eq k.variable v))
  where
    go : (b : Bool) → Ascending (if b then insert_need (record { place = k.place; span = k.span }) ns else ns)
    go true = insert_ascends (record { place = k.place; span = k.span }) ns a
    go false = a

list_ascends : (v : ℕ) (os : List Op) (ns : List Needed) → Ascending ns → Ascending (need_list v os ns)
list_ascends v [] ns a = a
list_ascends v (o ∷ os) ns a = list_ascends v os _ (add_ascends v o.needs ns a)

pub needs_ascend : (v : ℕ) (os : List Op) → AllPairs (λ a b. IsTrue (need_before a b)) (need_list v os [])
needs_ascend v os = pairs (need_list v os []) (list_ascends v os [] no_need)
