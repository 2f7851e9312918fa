-- Reading bytes from the left: a value and the bytes after it, or why there is none.
use Rattle.std.specs.Prelude.{ℕ, zero, suc, List, [], ◌∷◌, Bool, true, false, Option, Some, None, Result, Ok, Err, if◌then◌else◌}
use Rattle.x64_decode.specs.declared.reading.Stop.{Stop}
use Rattle.x64_decode.specs.declared.reading.Stop.TheVariants.{Short, Bad}
use Rattle.x64_insn.specs.Encoding.{is_byte}

-- what reads a value from the left
abbrev pub Reader : Type 0 → Type 0
Reader A = List ℕ → Result (A × List ℕ) Stop

infixl 10 ◌>>=◌
-- what was read, handed on
abbrev pub ◌>>=◌ : {A B : Type 0} → Result A Stop → (A → Result B Stop) → Result B Stop
(Ok x) >>= f = f x
(Err e) >>= f = Err e

-- what was read, seen by a function
abbrev pub through : {A B : Type 0} → (A → B) → Result (A × List ℕ) Stop → Result (B × List ℕ) Stop
through to (Ok x) = Ok (to x.0, x.1)
through to (Err e) = Err e

-- one byte that passes a test
unfoldable pub byte_where : (ℕ → Bool) → Reader ℕ
byte_where test [] = Err Short
byte_where test (b ∷ bs) = if test b then Ok (b, bs) else Err Bad

-- a byte that passes a test where one has to stand, and none elsewhere
unfoldable pub byte_if : Bool → (ℕ → Bool) → Reader (Option ℕ)
byte_if false test bs = Ok (None, bs)
byte_if true test bs = through (λ b. Some b) (byte_where test bs)

-- the next byte, if it passes a test; some byte has to stand there
unfoldable pub prefix : (ℕ → Bool) → Reader (Option ℕ)
prefix test [] = Err Short
prefix test (b ∷ bs) = if test b then Ok (Some b, bs) else Ok (None, b ∷ bs)

-- one after the other
unfoldable pub follow : {A B : Type 0} → Reader A → (A → Reader B) → Reader (A × B)
follow f g bs = f bs >>= λ x. g x.0 x.1 >>= λ y. Ok ((x.0, y.0), y.1)

-- so many bytes
unfoldable pub some_bytes : ℕ → Reader (List ℕ)
some_bytes zero bs = Ok ([], bs)
some_bytes (suc n) bs =
    through (λ p. p.0 ∷ p.1) (follow (byte_where is_byte) (λ _. some_bytes n) bs)
