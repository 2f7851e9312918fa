-- Bytes at consecutive addresses.
use Rattle.std.proofs.Common.{◌≡◌, ℕ, ◌+◌, ◌*◌, ◌%◌, ◌^◌, zero, suc, Option, Some, None, Bool, true, false, refl, ap, sym, ◌∙◌}
use Rattle.std.specs.Prelude.{is_some, ◌&&◌}
use Rattle.std.specs.Option.{option_and_then}
use Rattle.std.specs.FinMap.{get}
use Rattle.x64_insn.specs.Memory.{Memory, loaded, all_valid}

-- a low byte and the bytes above it are there where both are
both_there : (low high : Option ℕ) → is_some (option_and_then (λ b. option_and_then (λ h. Some (b + 256 * h)) high) low) ≡ (is_some low && is_some high)
both_there None high = refl
both_there (Some b) None = refl
both_there (Some b) (Some h) = refl

pub loaded_where_valid : (m : Memory) (a n : ℕ) → is_some (loaded m a n) ≡ all_valid m a n
unfolding loaded all_valid
loaded_where_valid m a zero = refl
loaded_where_valid m a (suc n) = both_there (get m a) (loaded m ((a + 1) % 2 ^ 64) n) ∙ ap (λ c. is_some (get m a) && c) (loaded_where_valid m ((a + 1) % 2 ^ 64) n)
