-- Memory: the valid bytes by their addresses, which are counted modulo 2 ^ 64.
use Rattle.std.specs.Prelude.{ℕ, zero, suc, ◌+◌, ◌*◌, ◌/◌, ◌%◌, ◌^◌, Bool, true, ◌&&◌, Option, Some, is_some}
use Rattle.std.specs.Option.{option_and_then}
use Rattle.std.specs.Ordering.{nat_cmp}
use Rattle.std.specs.FinMap.{FinMap, get, insert}

abbrev pub Memory : Type 0
Memory = FinMap nat_cmp ℕ

-- the n bytes from an address on as a little-endian number, if each is valid
unfoldable pub loaded : Memory → ℕ → ℕ → Option ℕ
loaded m a zero = Some 0
loaded m a (suc n) =
    option_and_then (λ b. option_and_then (λ high. Some (b + 256 * high)) (loaded m ((a + 1) % 2 ^ 64) n)) (get m a)

-- each of the n bytes from an address on is valid
unfoldable pub all_valid : Memory → ℕ → ℕ → Bool
all_valid m a zero = true
all_valid m a (suc n) = is_some (get m a) && all_valid m ((a + 1) % 2 ^ 64) n

-- the lowest n bytes of v, written from an address on
unfoldable pub stored : Memory → ℕ → ℕ → ℕ → Memory
stored m a zero v = m
stored m a (suc n) v = stored (insert m a (v % 256)) ((a + 1) % 2 ^ 64) n (v / 256)
