-- Reading tokens from the left: a value and the tokens after it, or why there is none and the
-- tokens from there on.
use Rattle.std.specs.Prelude.{length, ℕ, zero, suc, List, [], ◌∷◌, Bool, false, Option, Some, None, Result, Ok, Err, ◌&&◌, if◌then◌else◌, ◌++◌}
use Rattle.jz_lex.specs.declared.token.Token.{Token}
use Rattle.jz_lex.specs.Span.{Span}
use Rattle.jz_grammar.specs.Causes.{Cause, Unexpected, TooDeep}
use Rattle.jz_grammar.specs.Kinds.{Kind, is_in, has}

-- what was read and the tokens after it, or why nothing was and the tokens from there on
abbrev pub Answer : Type 0 → Type 0
Answer A = Result (A × List Token) (Cause × List Token)

-- what is read of the front of a list of tokens
abbrev pub Reader : Type 0 → Type 0
Reader A = List Token → Answer A

infixl 10 ◌>>=◌
abbrev pub ◌>>=◌ : {A B : Type 0} → Answer A → (A × List Token → Answer B) → Answer B
(Ok x) >>= f = f x
(Err e) >>= f = Err e

-- what was read, seen by a function
abbrev pub through : {A B : Type 0} → (A → B) → Answer A → Answer B
through to (Ok x) = Ok (to x.0, x.1)
through to (Err e) = Err e

-- one token of these kinds
unfoldable pub one : List Kind → Reader Token
one ks [] = Err (Unexpected, [])
one ks (t ∷ ts) = if is_in ks t then Ok (t, ts) else Err (Unexpected, t ∷ ts)

-- one after the other
abbrev pub follow : {A B : Type 0} → Reader A → Reader B → Reader (A × B)
follow f g ts = f ts >>= λ x. g x.1 >>= λ y. Ok ((x.0, y.0), y.1)

-- one after the other, where the first decides how the second is read
abbrev pub depend : {A B : Type 0} → Reader A → (A → Reader B) → Reader (A × B)
depend f g ts = f ts >>= λ x. g x.0 x.1 >>= λ y. Ok ((x.0, y.0), y.1)

-- the first if such a token stands there, else the second
abbrev pub pick : {A : Type 0} → List Kind → Reader A → Reader A → Reader A
pick ks f g ts = if has ks ts then f ts else g ts

-- as often as such a token stands there, at most n times
abbrev pub many_at : {A : Type 0} → ℕ → List Kind → Reader A → Reader (List A)
many_at zero ks f ts = Ok ([], ts)
many_at (suc n) ks f ts = if has ks ts then through (λ p. p.0 ∷ p.1) (follow f (many_at n ks f) ts) else Ok ([], ts)

unfoldable pub many : {A : Type 0} → List Kind → Reader A → Reader (List A)
many ks f ts = many_at (length ts) ks f ts

-- as often as a token stands there that may begin one, where what is left from the ones before
-- decides how each is read; at most n times
abbrev pub many_by_at : {S A : Type 0} → ℕ → (S → List Kind) → (S → Reader A) → (S → A → S) → S → Reader (List A)
many_by_at zero ks f after s ts = Ok ([], ts)
many_by_at (suc n) ks f after s ts = if has (ks s) ts then through (λ p. p.0 ∷ p.1) (depend (f s) (λ a. many_by_at n ks f after (after s a)) ts) else Ok ([], ts)

unfoldable pub many_by : {S A : Type 0} → (S → List Kind) → (S → Reader A) → (S → A → S) → S → Reader (List A)
many_by ks f after s ts = many_by_at (length ts) ks f after s ts

-- such a token, then one of those
abbrev pub has_both : List Kind → List Kind → List Token → Bool
has_both ks ls [] = false
has_both ks ls (t ∷ ts) = is_in ks t && has ls ts

-- the first if two such tokens stand there, else the second
abbrev pub pick_both : {A : Type 0} → List Kind → List Kind → Reader A → Reader A → Reader A
pick_both ks ls f g ts = if has_both ks ls ts then f ts else g ts

-- the whole list: what is left over is wrong
abbrev pub final : {A : Type 0} → Answer A → Result A (Cause × List Token)
final (Ok (a, [])) = Ok a
final (Ok (a, t ∷ ts)) = Err (Unexpected, t ∷ ts)
final (Err e) = Err e

-- one token of these kinds, seen by a function
abbrev pub leaf : {A : Type 0} → List Kind → (Token → A) → Reader A
leaf ks to ts = through to (one ks ts)

-- a token that opens something nested: where it stands, and how much may still be nested in it
unfoldable pub opening : List Kind → ℕ → Reader (Span × ℕ)
opening ks zero ts = one ks ts >>= λ x. Err (TooDeep, ts)
opening ks (suc d) ts = one ks ts >>= λ x. Ok ((x.0.span, d), x.1)

abbrev pub inside : {A : Type 0} → List Kind → (ℕ → Reader A) → ℕ → Reader (Span × A)
inside ks inner d ts = opening ks d ts >>= λ x. inner x.0.1 x.1 >>= λ y. Ok ((x.0.0, y.0), y.1)

-- it, if such a token stands there
abbrev pub optional : {A : Type 0} → List Kind → Reader A → Reader (Option A)
optional ks f ts = if has ks ts then through (λ a. Some a) (f ts) else Ok (None, ts)

-- what is left of a list, behind what is out already: any number, or at most n
abbrev pub more_of : {A : Type 0} → List Kind → Reader A → List A → Reader (List A)
more_of ks f out ts = through (λ as'. out ++ as') (many ks f ts)

abbrev pub few_of : {A : Type 0} → ℕ → List Kind → Reader A → List A → Reader (List A)
few_of n ks f out ts = through (λ as'. out ++ as') (many_at n ks f ts)
