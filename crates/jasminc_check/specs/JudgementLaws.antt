-- How a function is judged is one, whatever expansion and whatever order of its constants it is by.
use Rattle.std.specs.Prelude.{◌≡◌, ℕ, Option, Contains}
use Rattle.jz_tree.specs.declared.program.Fun.{Fun}
use Rattle.jz_tree.specs.declared.program.Program.{Program}
use Rattle.jz_typed_runs.specs.TypedTexts.{IsTypedText}
use Rattle.jz_alarms.specs.Conditions.{Alarm}
use Rattle.jasminc_check.specs.Safety.{IsJudged}

abbrev pub OneJudgement : Type 0
OneJudgement =
    (p : Program) (f : Fun) (m n : ℕ) (v w : Option Alarm) → IsTypedText p → Contains p.funs f
    → IsJudged p f m v → IsJudged p f n w → (m ≡ n) × (v ≡ w)
