-- Grammars: which lists of tokens stand for which values. A token of a list is marked with how much
-- could still be nested at it.
use Rattle.std.specs.Prelude.{◌≡◌, ◌≤◌, ◌⊎◌, ℕ, zero, suc, List, [], ◌∷◌, ◌++◌, map, true, Option, Some, None}
use Rattle.jz_lex.specs.declared.token.Token.{Token}
use Rattle.jz_lex.specs.Span.{Span}
use Rattle.jz_grammar.specs.Kinds.{Kind, is_in}

-- a token, and how much may still be nested at it
abbrev pub Marked : Type 0
Marked = Token × ℕ

-- which lists of tokens stand for which values
abbrev pub Lang : Type 0 → Type 1
Lang A = List Marked → A → Type 0

-- a token of these kinds
abbrev pub token : List Kind → ℕ → Lang Token
token ks d xs t = (xs ≡ (t, d) ∷ []) × (is_in ks t ≡ true)

-- no token
abbrev pub empty : {A : Type 0} → A → Lang A
empty a xs b = (xs ≡ []) × (a ≡ b)

-- one after the other
infixr 12 ◌▸◌
abbrev pub ◌▸◌ : {A B : Type 0} → Lang A → Lang B → Lang (A × B)
(l ▸ m) xs p = (ys : List Marked) × (zs : List Marked) × l ys p.0 × m zs p.1 × (xs ≡ ys ++ zs)

-- either
infixr 11 ◌⊕◌
abbrev pub ◌⊕◌ : {A : Type 0} → Lang A → Lang A → Lang A
(l ⊕ m) xs a = l xs a ⊎ m xs a

-- seen by a function
infixl 13 ◌⇒◌
abbrev pub ◌⇒◌ : {A B : Type 0} → Lang A → (A → B) → Lang B
(l ⇒ to) xs b = (a : _) × l xs a × (to a ≡ b)

-- those of which a fact holds
abbrev pub only : {A : Type 0} → (A → Type 0) → Lang A → Lang A
only holds l xs a = l xs a × holds a

-- nothing is in it
abbrev pub never : {A : Type 0} → Lang A
never xs a = ⊥

-- a token, and what is nested in it, of what may still be nested
abbrev pub nested_phrase : {A : Type 0} → List Kind → (ℕ → Lang A) → ℕ → Lang (Token × A)
nested_phrase ks inner zero = never
nested_phrase ks inner (suc d) = token ks d ▸ inner d

-- one after the other, where the first decides what the second may be
abbrev pub then_by : {A B : Type 0} → Lang A → (A → Lang B) → Lang (A × B)
then_by l m xs p = (ys : List Marked) × (zs : List Marked) × l ys p.0 × m p.0 zs p.1 × (xs ≡ ys ++ zs)

-- any number, one after the other
abbrev pub each : {A : Type 0} → Lang A → Lang (List A)
each l xs [] = xs ≡ []
each l xs (a ∷ as') = (ys : List Marked) × (zs : List Marked) × l ys a × each l zs as' × (xs ≡ ys ++ zs)

-- the tokens without their marks
abbrev pub plain : List Marked → List Token
plain xs = map (λ x. x.0) xs

-- nothing at these tokens is nested too deep, where e could still be nested at the limit
abbrev pub Within : ℕ → List Marked → Type 0
Within e [] = Unit {0}
Within e (x ∷ xs) = (e ≤ x.1) × Within e xs

-- where a token stands, and what is nested in it
abbrev pub opens : {A : Type 0} → List Kind → (ℕ → Lang A) → ℕ → Lang (Span × A)
opens ks inner d = nested_phrase ks inner d ⇒ (λ p. (p.0.span, p.1))

-- it or nothing
abbrev pub maybe : {A : Type 0} → Lang A → Lang (Option A)
maybe l = (l ⇒ (λ a. Some a)) ⊕ empty None
