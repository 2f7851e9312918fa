-- Lists of tokens and kinds.
use Rattle.std.proofs.Common.{◌≡◌, ◌⊎◌, inl, inr, ℕ, zero, suc, ◌≤◌, List, [], ◌∷◌, ◌++◌, length, Bool, true, false, ◌&&◌, ◌||◌, Ok, Err, Option, Some, refl, sym, ap, ap₂, ◌∙◌, arith, append_assoc, length-append, nat_lt}
use Rattle.std.proofs.lemmas.Slice.Eq.{bytes_eq-Decides}
use Rattle.std.proofs.lemmas.Bool.{le-ltb}
use Rattle.jz_lex.proofs.LexingWords.{by_cases, if_false, true_false}
use Rattle.jz_lex.specs.declared.token.Token.{Token}
pub use Rattle.jz_lex.proofs.LexingWords.{by_cases, true_false, if_true, if_false}
use Rattle.jz_grammar.specs.Causes.{Cause, Unexpected, TooDeep}
use Rattle.jz_grammar.specs.Kinds.{Kind, identifier, word, number, cast, string, sign, end, token_kind, same, member, disjoint, is_in, has}
use Rattle.jz_grammar.specs.Readers.{Answer, ◌>>=◌, through}
use Rattle.jz_grammar.specs.Grammar.{Marked, plain, Within}
use Rattle.jz_grammar.proofs.Laws.{head_of, outcome, Next}
use Rattle.jz_grammar.specs.Deriving.{plus}

pub same_is : (a b : Kind) → same a b ≡ true → a ≡ b
same_is identifier identifier h = refl
same_is identifier (word t) h = cc
same_is identifier number h = cc
same_is identifier cast h = cc
same_is identifier string h = cc
same_is identifier (sign t) h = cc
same_is identifier end h = cc
same_is (word s) identifier h = cc
same_is (word s) (word t) h = ap (λ u. word u) ((bytes_eq-Decides s t).0 h)
same_is (word s) number h = cc
same_is (word s) cast h = cc
same_is (word s) string h = cc
same_is (word s) (sign t) h = cc
same_is (word s) end h = cc
same_is number identifier h = cc
same_is number (word t) h = cc
same_is number number h = refl
same_is number cast h = cc
same_is number string h = cc
same_is number (sign t) h = cc
same_is number end h = cc
same_is cast identifier h = cc
same_is cast (word t) h = cc
same_is cast number h = cc
same_is cast cast h = refl
same_is cast string h = cc
same_is cast (sign t) h = cc
same_is cast end h = cc
same_is string identifier h = cc
same_is string (word t) h = cc
same_is string number h = cc
same_is string cast h = cc
same_is string string h = refl
same_is string (sign t) h = cc
same_is string end h = cc
same_is (sign s) identifier h = cc
same_is (sign s) (word t) h = cc
same_is (sign s) number h = cc
same_is (sign s) cast h = cc
same_is (sign s) string h = cc
same_is (sign s) (sign t) h = ap (λ u. sign u) ((bytes_eq-Decides s t).0 h)
same_is (sign s) end h = cc
same_is end identifier h = cc
same_is end (word t) h = cc
same_is end number h = cc
same_is end cast h = cc
same_is end string h = cc
same_is end (sign t) h = cc
same_is end end h = refl

pub apart : (ks ls : List Kind) (k : Kind) → disjoint ks ls ≡ true → member k ks ≡ true → member k ls ≡ false
apart [] ls k d m = cc
apart (l ∷ ks) ls k d m = by_cases _ (member l ls)
    (λ e. let i : false ≡ true = sym (rw e refl) ∙ d in cc)
    (λ e. let i : disjoint ks ls ≡ true = sym (rw e refl) ∙ d in
    by_cases _ (same k l)
    (λ f. ap (λ z. member z ls) (same_is k l f) ∙ e)
    (λ f. let j : member k ks ≡ true = sym (rw f refl) ∙ m in apart ks ls k i j))

pub member_append : (ks ls : List Kind) (k : Kind) → member k (ks ++ ls) ≡ (member k ks || member k ls)
member_append [] ls k = refl
member_append (l ∷ ks) ls k = by_cases _ (same k l) (λ f. rw f refl) (λ f. rw f (member_append ks ls k))

pub in_left : (ks ls : List Kind) (t : Token) → is_in ks t ≡ true → is_in (ks ++ ls) t ≡ true
unfolding is_in
in_left ks ls t h = member_append ks ls (token_kind t.kind) ∙ rw h refl

pub in_right : (ks ls : List Kind) (t : Token) → is_in ls t ≡ true → is_in (ks ++ ls) t ≡ true
unfolding is_in
in_right ks ls t h = member_append ks ls (token_kind t.kind) ∙ by_cases _ (member (token_kind t.kind) ks) (λ f. rw f refl) (λ f. rw f h)

or_false : (a b : Bool) → (a || b) ≡ false → (a ≡ false) × (b ≡ false)
or_false true b h = cc
or_false false b h = (refl, h)

pub has_append : (ks ls : List Kind) (ts : List Token) → has (ks ++ ls) ts ≡ false → (has ks ts ≡ false) × (has ls ts ≡ false)
unfolding is_in
has_append ks ls [] h = (refl, refl)
has_append ks ls (t ∷ ts) h = or_false _ _ (sym (member_append ks ls (token_kind t.kind)) ∙ h)

pub in_apart : (ks ls : List Kind) (t : Token) → disjoint ks ls ≡ true → is_in ks t ≡ true → is_in ls t ≡ false
unfolding is_in
in_apart ks ls t d m = apart ks ls (token_kind t.kind) d m

head_some : (t u : Token) → ◌≡◌ {A = Option Token} (Some t) (Some u) → t ≡ u
head_some t u h = cc

pub has_same : (ks : List Kind) (ts us : List Token) → head_of ts ≡ head_of us → has ks ts ≡ has ks us
has_same ks [] [] h = refl
has_same ks [] (u ∷ us) h = cc
has_same ks (t ∷ ts) [] h = cc
has_same ks (t ∷ ts) (u ∷ us) h = ap (λ x. is_in ks x) (head_some t u h)

-- what stands before stays before
pub head_append : (pre ts us : List Token) → head_of ts ≡ head_of us → head_of (pre ++ ts) ≡ head_of (pre ++ us)
head_append [] ts us h = h
head_append (t ∷ pre) ts us h = refl

pub plain_append : (xs ys : List Marked) → plain (xs ++ ys) ≡ plain xs ++ plain ys
plain_append [] ys = refl
plain_append (x ∷ xs) ys = ap (λ l. x.0 ∷ l) (plain_append xs ys)

pub plain_rest : (xs ys : List Marked) (rest : List Token) → plain (xs ++ ys) ++ rest ≡ plain xs ++ (plain ys ++ rest)
plain_rest xs ys rest = ap (λ l. l ++ rest) (plain_append xs ys) ∙ append_assoc (plain xs) (plain ys) rest

pub within_append : (e : ℕ) (xs ys : List Marked) → Within e xs → Within e ys → Within e (xs ++ ys)
within_append e [] ys h k = k
within_append e (x ∷ xs) ys h k = (h.0, within_append e xs ys h.1 k)

pub outcome_within : {A : Type 0} (e : ℕ) (xs : List Marked) (a : A) (rest : List Token) → Within e xs → outcome e xs a rest ≡ Ok (a, rest)
outcome_within e [] a rest w = refl
outcome_within e (x ∷ xs) a rest w = if_false (nat_lt x.1 e) _ _ (le-ltb x.1 e w.0) ∙ outcome_within e xs a rest w.1

pub outcome_through : {A B : Type 0} (to : A → B) (e : ℕ) (xs : List Marked) (a : A) (rest : List Token) → outcome e xs (to a) rest ≡ through to (outcome e xs a rest)
outcome_through to e [] a rest = refl
outcome_through to e (x ∷ xs) a rest = by_cases _ (nat_lt x.1 e) (λ h. rw h refl) (λ h. rw h (outcome_through to e xs a rest))

pair_is : {A B : Type 0} (a : A) (r : Answer B) → ◌>>=◌ {B = A × B} r (λ y. Ok ((a, y.0), y.1)) ≡ through (λ b. (a, b)) r
pair_is a (Ok y) = refl
pair_is a (Err e) = refl

pub outcome_append : {A B : Type 0} (e : ℕ) (xs ys : List Marked) (a : A) (b : B) (rest : List Token) → outcome {A = A × B} e (xs ++ ys) (a, b) rest ≡ (outcome e xs a (plain ys ++ rest) >>= λ x. outcome e ys b rest >>= λ y. Ok ((x.0, y.0), y.1))
outcome_append e [] ys a b rest = outcome_through (λ z. (a, z)) e ys b rest ∙ sym (pair_is a (outcome e ys b rest))
outcome_append e (x ∷ xs) ys a b rest = by_cases _ (nat_lt x.1 e)
    (λ h. rw h (ap (λ l. Err (TooDeep, x.0 ∷ l)) (plain_rest xs ys rest)))
    (λ h. rw h (outcome_append e xs ys a b rest))

pub next_more : (k : Cause) (e : ℕ) (ys zs : List Marked) (rest : List Token) → Next k e ys rest → Next k e (ys ++ zs) rest
next_more Unexpected e ys zs rest h = tt
next_more TooDeep e [] zs rest h = absurd h
next_more TooDeep e (y ∷ ys) zs [] h = absurd h
next_more TooDeep e (y ∷ ys) zs (t ∷ ts) h = h

pub plus_le : (d e : ℕ) → e ≤ plus d e
plus_le zero e = omega arith
plus_le (suc d) e = let h = plus_le d e in omega arith

pub bind_ok : {A B : Type 0} (r : Answer A) (f : A × List Token → Answer B) (y : B × List Token) → (r >>= f) ≡ Ok y → (x : A × List Token) × (r ≡ Ok x) × (f x ≡ Ok y)
bind_ok (Ok x) f y h = (x, refl, h)
bind_ok (Err e) f y h = cc

pub bind_err : {A B : Type 0} (r : Answer A) (f : A × List Token → Answer B) (e : Cause × List Token) → (r >>= f) ≡ Err e → (r ≡ Err e) ⊎ ((x : A × List Token) × (r ≡ Ok x) × (f x ≡ Err e))
bind_err (Ok x) f e h = inr (x, refl, h)
bind_err (Err d) f e h = inl cc

pub ok_same : {A : Type 0} (p q : A × List Token) → ◌≡◌ {A = Answer A} (Ok p) (Ok q) → p ≡ q
ok_same p q h = cc

pub err_same : {A : Type 0} (p q : Cause × List Token) → ◌≡◌ {A = Answer A} (Err p) (Err q) → p ≡ q
err_same p q h = cc

pub ok_err : {A : Type 0} (p : A × List Token) (e : Cause × List Token) (P : Type 0) → ◌≡◌ {A = Answer A} (Ok p) (Err e) → P
ok_err p e P h = cc

pub err_ok : {A : Type 0} (p : A × List Token) (e : Cause × List Token) (P : Type 0) → ◌≡◌ {A = Answer A} (Err e) (Ok p) → P
err_ok p e P h = cc

pub has_join : (ks ls : List Kind) (ts : List Token) → has ks ts ≡ false → has ls ts ≡ false → has (ks ++ ls) ts ≡ false
unfolding is_in
has_join ks ls [] h i = refl
has_join ks ls (t ∷ ts) h i = member_append ks ls (token_kind t.kind) ∙ rw h i

pub disjoint_nil : (ks : List Kind) → disjoint ks [] ≡ true
disjoint_nil [] = refl
disjoint_nil (k ∷ ks) = disjoint_nil ks

pub cancel : (as' bs cs : List Token) → as' ++ cs ≡ bs ++ cs → as' ≡ bs
cancel [] [] cs h = refl
cancel [] (b ∷ bs) cs h = let e : length cs ≡ length (b ∷ (bs ++ cs)) = ap length h in absurd (omega (arith, e, length-append bs cs))
cancel (a ∷ as') [] cs h = let e : length (a ∷ (as' ++ cs)) ≡ length cs = ap length h in absurd (omega (arith, e, length-append as' cs))
cancel (a ∷ as') (b ∷ bs) cs h = let t : as' ++ cs ≡ bs ++ cs = cc in let i = cancel as' bs cs t in let hd : a ≡ b = cc in ap₂ (λ x xs. x ∷ xs) hd i

pub plain_length : (xs : List Marked) → length (plain xs) ≡ length xs
plain_length [] = refl
plain_length (x ∷ xs) = ap (λ n. suc n) (plain_length xs)

-- each kind of the first list is in the second
abbrev pub all_in : List Kind → List Kind → Bool
all_in [] ls = true
all_in (k ∷ ks) ls = member k ls && all_in ks ls

member_in : (ks ls : List Kind) (k : Kind) → all_in ks ls ≡ true → member k ks ≡ true → member k ls ≡ true
member_in [] ls k a h = cc
member_in (l ∷ ks) ls k a h = by_cases _ (member l ls)
    (λ c. let i : all_in ks ls ≡ true = sym (rw c refl) ∙ a in
    by_cases _ (same k l)
    (λ f. ap (λ z. member z ls) (same_is k l f) ∙ c)
    (λ f. let j : member k ks ≡ true = sym (rw f refl) ∙ h in member_in ks ls k i j))
    (λ c. let i : false ≡ true = sym (rw c refl) ∙ a in cc)

pub in_more : (ks ls : List Kind) (t : Token) → all_in ks ls ≡ true → is_in ks t ≡ true → is_in ls t ≡ true
unfolding is_in
in_more ks ls t a h = member_in ks ls (token_kind t.kind) a h

pub has_fewer : (ks ls : List Kind) (ts : List Token) → all_in ks ls ≡ true → has ls ts ≡ false → has ks ts ≡ false
has_fewer ks ls [] a h = refl
has_fewer ks ls (t ∷ ts) a h = by_cases _ (is_in ks t) (λ c. true_false (is_in ls t) _ (in_more ks ls t a c) h) (λ c. c)

pub same_self : (s : Kind) → same s s ≡ true
same_self identifier = refl
same_self (word s) = (bytes_eq-Decides s s).1 refl
same_self number = refl
same_self cast = refl
same_self string = refl
same_self (sign s) = (bytes_eq-Decides s s).1 refl
same_self end = refl

pub through_err : {A B : Type 0} (to : A → B) (r : Answer A) (e : Cause × List Token) → through to r ≡ Err e → r ≡ Err e
through_err to (Ok x) e h = ok_err (to x.0, x.1) e _ h
through_err {A} {B} to (Err d) e h = ap (λ z. Err z) (err_same {A = B} d e h)
