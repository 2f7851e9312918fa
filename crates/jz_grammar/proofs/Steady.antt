-- Grammars in which nothing is nested: one mark stands at each token, and it may be any.
use Rattle.std.proofs.Common.{◌≡◌, inl, inr, ⊎_elim, ℕ, List, [], ◌∷◌, ◌++◌, map, true, Some, None, refl, sym, ap, ap₂, ◌∙◌, subst, arith}
use Rattle.jz_lex.specs.declared.token.Token.{Token}
use Rattle.jz_grammar.specs.Kinds.{Kind, is_in}
use Rattle.jz_grammar.specs.Grammar.{Marked, Lang, plain, Within, token, empty, ◌▸◌, ◌⊕◌, ◌⇒◌, only, each, maybe}
use Rattle.jz_grammar.proofs.Basics.{plain_append, all_in, in_more}

-- the tokens with this mark
abbrev pub marked : ℕ → List Token → List Marked
marked d ts = map (λ t. (t, d)) ts

marked_append : (d : ℕ) (ts us : List Token) → marked d (ts ++ us) ≡ marked d ts ++ marked d us
marked_append d [] us = refl
marked_append d (t ∷ ts) us = ap (λ z. (t, d) ∷ z) (marked_append d ts us)

pub plain_marked : (d : ℕ) (ts : List Token) → plain (marked d ts) ≡ ts
plain_marked d [] = refl
plain_marked d (t ∷ ts) = ap (λ z. t ∷ z) (plain_marked d ts)

pub within_marked : (d : ℕ) (ts : List Token) → Within d (marked d ts)
within_marked d [] = tt
within_marked d (t ∷ ts) = (omega arith, within_marked d ts)

-- another mark at each token
abbrev pub with_mark : ℕ → List Marked → List Marked
with_mark d xs = marked d (plain xs)

with_mark_append : (d : ℕ) (xs ys : List Marked) → with_mark d (xs ++ ys) ≡ with_mark d xs ++ with_mark d ys
with_mark_append d xs ys = ap (marked d) (plain_append xs ys) ∙ marked_append d (plain xs) (plain ys)

-- each token is of one of these kinds
abbrev pub AreOf : List Kind → List Marked → Type 0
AreOf over [] = Unit {0}
AreOf over (x ∷ xs) = (is_in over x.0 ≡ true) × AreOf over xs

pub are_of_append : (over : List Kind) (xs ys : List Marked) → AreOf over xs → AreOf over ys → AreOf over (xs ++ ys)
are_of_append over [] ys h k = k
are_of_append over (x ∷ xs) ys h k = (h.0, are_of_append over xs ys h.1 k)

-- every phrase has one mark at all its tokens, stands for the same with any other, and its tokens
-- are of these kinds
abbrev pub IsSteady : {A : Type 0} → List Kind → (ℕ → Lang A) → Type 0
IsSteady {A} over l = (d e : ℕ) (xs : List Marked) (a : A) → l d xs a → (xs ≡ with_mark d xs) × l e (with_mark e xs) a × AreOf over xs

pub steady_leaf : {A : Type 0} (over ks : List Kind) (to : Token → A) → all_in ks over ≡ true → IsSteady over (λ d. token ks d ⇒ to)
steady_leaf over ks to within d e xs a h =
    let t = h.0 in
    (h.1.0 ∙ sym (ap (with_mark d) h.1.0), (t, (ap (with_mark e) h.1.0, h.1.1), h.2), subst (AreOf over) (sym h.1.0) (in_more ks over t within h.1.1, tt))

pub steady_empty : {A : Type 0} (over : List Kind) (a : A) → IsSteady over (λ d. empty a)
steady_empty over a d e xs b h = (h.0 ∙ sym (ap (with_mark d) h.0), (ap (with_mark e) h.0, h.1), subst (AreOf over) (sym h.0) tt)

both_marked : (d : ℕ) (xs ys zs : List Marked) → xs ≡ ys ++ zs → ys ≡ with_mark d ys → zs ≡ with_mark d zs → xs ≡ with_mark d xs
both_marked d xs ys zs s y z = s ∙ ap₂ (λ u v. u ++ v) y z ∙ sym (with_mark_append d ys zs) ∙ sym (ap (with_mark d) s)

pub steady_then : {A B : Type 0} (over : List Kind) {l : ℕ → Lang A} {m : ℕ → Lang B} → IsSteady over l → IsSteady over m → IsSteady over (λ d. l d ▸ m d)
steady_then over L M d e xs p h =
    let x = L d e h.0 p.0 h.2 in
    let y = M d e h.1 p.1 h.3 in (
      both_marked d xs h.0 h.1 h.4 x.0 y.0,
      (with_mark e h.0, with_mark e h.1, x.1, y.1, ap (with_mark e) h.4 ∙ with_mark_append e h.0 h.1),
      subst (AreOf over) (sym h.4) (are_of_append over h.0 h.1 x.2 y.2),
    )

pub steady_or : {A : Type 0} (over : List Kind) {l m : ℕ → Lang A} → IsSteady over l → IsSteady over m → IsSteady over (λ d. l d ⊕ m d)
steady_or over L M d e xs a h = ⊎_elim (λ i. let x = L d e xs a i in (x.0, inl x.1, x.2)) (λ i. let x = M d e xs a i in (x.0, inr x.1, x.2)) h

pub steady_map : {A B : Type 0} (over : List Kind) {l : ℕ → Lang A} (to : A → B) → IsSteady over l → IsSteady over (λ d. l d ⇒ to)
steady_map over to L d e xs b h = let x = L d e xs h.0 h.1 in (x.0, (h.0, x.1, h.2), x.2)

pub steady_only : {A : Type 0} (over : List Kind) {l : ℕ → Lang A} (holds : A → Type 0) → IsSteady over l → IsSteady over (λ d. only holds (l d))
steady_only over holds L d e xs a h = let x = L d e xs a h.0 in (x.0, (x.1, h.1), x.2)

pub steady_each : {A : Type 0} (over : List Kind) {l : ℕ → Lang A} → IsSteady over l → IsSteady over (λ d. each (l d))
steady_each over {l = l} L d e xs [] h = (h ∙ sym (ap (with_mark d) h), ap (with_mark e) h, subst (AreOf over) (sym h) tt)
steady_each over {l = l} L d e xs (a ∷ as') h =
    let x = L d e h.0 a h.2 in
    let y = steady_each over {l = l} L d e h.1 as' h.3 in (
      both_marked d xs h.0 h.1 h.4 x.0 y.0,
      (with_mark e h.0, with_mark e h.1, x.1, y.1, ap (with_mark e) h.4 ∙ with_mark_append e h.0 h.1),
      subst (AreOf over) (sym h.4) (are_of_append over h.0 h.1 x.2 y.2),
    )

pub steady_maybe : {A : Type 0} (over : List Kind) {l : ℕ → Lang A} → IsSteady over l → IsSteady over (λ d. maybe (l d))
steady_maybe over L = steady_or over (steady_map over (λ a. Some a) L) (steady_empty over None)

-- where more kinds are allowed
pub steady_more : {A : Type 0} (over more : List Kind) {l : ℕ → Lang A} → all_in over more ≡ true → IsSteady over l → IsSteady more l
steady_more over more within L d e xs a h = let x = L d e xs a h in (x.0, x.1, still xs x.2)
  where
    still : (xs : List Marked) → AreOf over xs → AreOf more xs
    still [] h = tt
    still (x ∷ xs) h = (in_more over more x.0 within h.0, still xs h.1)
