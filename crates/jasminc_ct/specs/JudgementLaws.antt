-- A function is constant time or has a breach, whatever expansion it is by.
use Rattle.std.specs.Prelude.{◌≡◌, Option, None}
use Rattle.jz_tree.specs.declared.program.Fun.{Fun}
use Rattle.jz_tree.specs.declared.program.Program.{Program}
use Rattle.jz_labels.specs.Required.{Breach}
use Rattle.jasminc_ct.specs.Judging.{IsConstant, IsJudged}

pub record OneJudgement : Type 0 where
  pub constant :
      (p : Program) (f : Fun) (w : Option Breach)
      → IsConstant p f → IsJudged p f w → w ≡ None
  pub one :
      (p : Program) (f : Fun) (v w : Option Breach)
      → IsJudged p f v → IsJudged p f w → v ≡ w
