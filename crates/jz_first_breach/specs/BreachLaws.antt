-- That each function has one of the two answers.
use Rattle.std.specs.Prelude.{List, Option}
use Rattle.jz_tree.specs.declared.program.Param.{Param}
use Rattle.jz_meaning.specs.Statements.{Block}
use Rattle.jz_flow.specs.Soundness.{AllAre}
use Rattle.jz_labels.specs.Required.{Breach}
use Rattle.jz_labels.specs.ConstantTime.{IsFirstBreach}

-- of a body without calls and `for` there is a first breach, or it is told that there is none
abbrev pub HasAnswer : Type 0
HasAnswer =
    (params : List Param) (body : Block) → AllAre (λ o. Unit {0}) (λ c. Unit {0}) body
    → (w : Option Breach) × IsFirstBreach params body w
