-- What passes the limits as another does.
use Rattle.std.specs.Prelude.{◌≡◌, None}
use Rattle.jz_limits.specs.InnerLooked.{Seen}

-- the second has the numbers of the first, and passes what it passes
pub record Passes (x y : Seen) : Type 0 where
  pub inline : y.inline ≡ x.inline
  pub value : y.value ≡ x.value
  pub width : x.width ≡ None → y.width ≡ None
  pub range : x.range ≡ None → y.range ≡ None
  pub operand : x.operand ≡ None → y.operand ≡ None
  pub terms : y.terms ≡ x.terms
  pub scaled : y.scaled ≡ x.scaled
