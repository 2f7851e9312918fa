-- What is so of the constants of each text.
use Rattle.std.specs.Prelude.{ℕ, ◌≡◌, ◌≤◌, ◌-◌, ◌^◌, true, List}
use Rattle.jz_intervals.specs.Constants.{is_among}

-- they are words, and 0 and the greatest word are among them
pub record HasEnds (cs : List ℕ) : Type 0 where
  pub zero : is_among 0 cs ≡ true
  pub most : is_among (2 ^ 64 - 1) cs ≡ true
  pub words : (c : ℕ) → is_among c cs ≡ true → c ≤ 2 ^ 64 - 1
