-- Which lists of tokens a grammar derives, and the first token that is wrong.
use Rattle.std.specs.Prelude.{◌≡◌, ◌<◌, ℕ, zero, suc, List, [], ◌∷◌, ◌++◌, Bool, true, false, ◌&&◌, nat_lt, Option, Some, None, Ok, Err, if◌then◌else◌}
use Rattle.jz_lex.specs.declared.token.Token.{Token}
use Rattle.jz_grammar.specs.Causes.{Cause, Unexpected, TooDeep}
use Rattle.jz_grammar.specs.Kinds.{Kind, is_in, has}
use Rattle.jz_grammar.specs.Grammar.{Marked, Lang, plain, Within}

-- a more than b; it computes by a
abbrev pub plus : ℕ → ℕ → ℕ
plus zero e = e
plus (suc d) e = suc (plus d e)

-- the tokens are a text's, with nothing nested deeper than the limit
abbrev pub Derives : {A : Type 0} → (ℕ → Lang A) → ℕ → List Token → A → Type 0
Derives lang limit ts a = (xs : List Marked) × lang limit xs a × (plain xs ≡ ts)

-- the tokens begin a text
abbrev pub Begins : {A : Type 0} → (ℕ → Lang A) → ℕ → List Token → Type 0
Begins {A} lang limit ts = (e : ℕ) × (xs : List Marked) × (ys : List Marked) × (a : A) × lang (plus limit e) (xs ++ ys) a × (plain xs ≡ ts)

-- and nothing at them is nested deeper than the limit
abbrev pub BeginsWithin : {A : Type 0} → (ℕ → Lang A) → ℕ → List Token → Type 0
BeginsWithin {A} lang limit ts = (e : ℕ) × (xs : List Marked) × (ys : List Marked) × (a : A) × lang (plus limit e) (xs ++ ys) a × (plain xs ≡ ts) × Within e xs

-- the token t after pre is the first wrong one
abbrev pub IsRefused : {A : Type 0} → (ℕ → Lang A) → ℕ → Cause → List Token → Token → Type 0
IsRefused lang limit Unexpected pre t = BeginsWithin lang limit pre × (Begins lang limit (pre ++ t ∷ []) → ⊥)
IsRefused lang limit TooDeep pre t = BeginsWithin lang limit pre × Begins lang limit (pre ++ t ∷ []) × (BeginsWithin lang limit (pre ++ t ∷ []) → ⊥)
