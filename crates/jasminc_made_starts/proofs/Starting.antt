-- A function that is made has lines for its parameters and a frame that is small.
use Rattle.std.proofs.Common.{ℕ, ◌<◌, ◌≤◌, ◌^◌, length, arith}
use Rattle.jz_listing.specs.declared.compiled.Compiled.{Compiled}
use Rattle.jasminc_some_starts.proofs.Starts.{low_regions_have_starts}
use Rattle.jasminc_made_starts.specs.CanBeStarted.{CanBeStarted}

within : (n : ℕ) → n < 2 ^ 63 → n ≤ 2 ^ 64
within n h = omega (arith, h)

pub can_be_started : (c : Compiled) → length c.code < 2 ^ 63 → CanBeStarted c
can_be_started c short p f words memory made meets low =
    low_regions_have_starts f c words memory made.correct.compilation.args meets low made.small (within (length c.code) short)
