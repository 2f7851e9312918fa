-- What is owed of the operations of a statement, and of the test of a branch or a loop.
use Rattle.std.specs.Prelude.{◌≡◌, ℕ, Bool, List}
use Rattle.jz_runs.specs.Rules.{went}
use Rattle.jz_meaning.specs.States as source
use Rattle.jz_meaning.specs.Statements as statements
use Rattle.jz_operations.specs.declared.operation.Operation.{Operation}
use Rattle.jz_operations.specs.Values.{State}
use Rattle.jz_operations.specs.Rows.{Frame}
use Rattle.jz_placing.specs.Variables.{Asked, tests, settled, variables}
use Rattle.jz_change.specs.declared.change.Numbers.{Numbers}
use Rattle.jz_change.specs.Changes.{numbers_in}
use Rattle.jz_change.specs.Fitting.{HasThese}
use Rattle.jz_pass.specs.Operations.{DoAll}
use Rattle.jz_homes.specs.Homes.{Homes, IsHoming, IsRelated}

-- In related states, where the statement is not stuck: the operations go through to a related
-- state, and of the numbers that the statement leaks each shows those of its item.
abbrev pub DoesAs : Homes → statements.Operation → List Operation → List Numbers → Type 0
DoesAs home o os items =
    (frame : Frame) (s t : source.State) (σ : State) (ns : List ℕ)
    → IsHoming frame home → IsRelated home s σ → statements.does o s ≡ went ns t
    → (τ : State) × DoAll (variables frame) ns os items σ τ × IsRelated home t τ

-- a test that leaks these numbers: those of its item are there, the answer is the same, and so the
-- states behind it are related
pub record IsAnswered (frame : Frame) (home : Homes) (a : Asked) (i : Numbers) (s : source.State)
    (σ : State) (ns : List ℕ) (z : Bool) : Type 0 where
  pub has : HasThese ns i
  pub answers : tests frame a σ ≡ went (numbers_in i ns) z
  pub agrees : IsRelated home s (settled frame a σ)

abbrev pub AnswersAs : Homes → statements.Condition → Asked → Numbers → Type 0
AnswersAs home t a i =
    (frame : Frame) (s : source.State) (σ : State) (ns : List ℕ) (z : Bool)
    → IsHoming frame home → IsRelated home s σ → statements.tests t s ≡ went ns z
    → IsAnswered frame home a i s σ ns z
