-- Two states that agree on what is public.
use Rattle.std.specs.Prelude.{◌≡◌, Bool, true, false}
use Rattle.jz_meaning.specs.States.{Key, State}
use Rattle.jz_labels.specs.Labels.{Publics}
use Rattle.jz_equal_leaks.specs.Fixed.{whole}

-- each public scalar, and each cell of each public array of the frame, has the same value in both,
-- or none in both; of memory nothing is said
pub record Agree (in_frame : Key → Bool) (arrays s : Publics) (a b : State) : Type 0 where
  pub scalars :
      (k : Key) → in_frame (whole k) ≡ false → s k ≡ true → a.store k ≡ b.store k
  pub cells :
      (k : Key) → in_frame (whole k) ≡ true → arrays (whole k) ≡ true → a.store k ≡ b.store k
