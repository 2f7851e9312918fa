-- Unrolling chooses what is known at the heads of loops and behind arms. What a body becomes does not
-- depend on it.
use Rattle.std.specs.Prelude.{◌≡◌}
use Rattle.jz_integers.specs.Integers.{KnownNumbers}
use Rattle.jz_runs.specs.Trees.{done}
use Rattle.jz_meaning.specs.Statements.{Block}
use Rattle.jz_change.specs.Changes.{Change}
use Rattle.jz_pass.specs.Unrolling.{Unrolls}
use Rattle.jz_unroll.specs.Values.{InlineNames}
use Rattle.jz_unroll.specs.Unrolling.{unrolling}

-- two bodies that the body t becomes where this is known before it, with their changes
pub record AreUnrolled (names : InlineNames) (known : KnownNumbers) (t u v : Block) (k l : Change)
    : Type 0 where
  pub behind : KnownNumbers
  pub behind_other : KnownNumbers
  pub one : Unrolls (unrolling names) t known done u behind k
  pub other : Unrolls (unrolling names) t known done v behind_other l

abbrev pub OneUnrolling : Type 0
OneUnrolling =
    (names : InlineNames) (known : KnownNumbers) (t u v : Block) (k l : Change)
    → AreUnrolled names known t u v k l → (u ≡ v) × (k ≡ l)
