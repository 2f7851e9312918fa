-- What adding bytes to a memory does.
use Rattle.std.specs.Prelude.{◌≡◌, ◌<◌, ◌≤◌, ℕ, ◌+◌, ◌-◌, ◌^◌, nat_lt, if◌then◌else◌, Option, None, List, slice_get}
use Rattle.std.specs.Option.{option_or}
use Rattle.std.specs.FinMap.{get}
use Rattle.jz_words.specs.Memory.{Memory}

-- the byte at q of bytes that stand from an address on
abbrev pub byte_from : ℕ → List ℕ → ℕ → Option ℕ
byte_from a bytes q = if nat_lt q a then None else slice_get bytes (q - a)

-- below 2 ^ 64 the bytes stand from the address on, and nothing else changes
pub record AddsBytes (old new : Memory) (a : ℕ) (bytes : List ℕ) : Type 0 where
  pub below : (q : ℕ) → q < 2 ^ 64 → get new q ≡ option_or (byte_from a bytes q) (get old q)
  pub past : (q : ℕ) → 2 ^ 64 ≤ q → get new q ≡ get old q

-- none of so many addresses from a on that are below 2 ^ 64 is valid
abbrev pub AreFree : Memory → ℕ → ℕ → Type 0
AreFree memory a count = (q : ℕ) → a ≤ q → q < a + count → q < 2 ^ 64 → get memory q ≡ None
