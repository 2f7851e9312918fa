-- What the interpreter takes and answers.
use Rattle.std.specs.Prelude.{◌≡◌, ℕ, List, map, Some, slice_get}
use Rattle.std.specs.List.{AllZip}
use Rattle.jz_tree.specs.Word as code_word
use Rattle.jz_tree.specs.Memory.{Memory}
use Rattle.jz_tree.specs.declared.program.Program.{Program}
use Rattle.jz_tree.specs.declared.program.Fun.{Fun}
use Rattle.jz_tree.specs.declared.program.Param.{Param}
use Rattle.jz_leak.specs.Shown.{shown_of}
use Rattle.jz_meaning.specs.Rules.{End, Cut, Stuck}
use Rattle.jz_meaning.specs.States.{Value, word}
use Rattle.jz_meaning.specs.Values.{ref_of}
use Rattle.jz_meaning.specs.Runs.{FunOutcome, FitsKind, IsInput, IsRun}
use Rattle.jz_interp.specs.declared.outcome.Outcome as code
use Rattle.jz_interp.specs.declared.outcome.Outcome.TheVariants as outcome

-- words of the code as values
abbrev pub values_of : List code_word.Word → List Value
values_of ws = map (λ w. word w.size w.bits) ws

-- these words are one for each of the parameters and of its size
abbrev pub AllFit : List Param → List Value → Type 0
AllFit = AllZip (λ q v. FitsKind (ref_of q.var).kind v)

-- there is a function at that place of the program, and these words are one for each of its
-- parameters and of its size
pub record Takes (p : Program) (place : ℕ) (words : List code_word.Word) : Type 0 where
  pub function : Fun
  pub there : slice_get p.funs place ≡ Some function
  pub input : IsInput p function (values_of words)

-- the answer shows the outcome: at the end the results, the memory and what was leaked; at a cut
-- what was leaked until then; where the run is stuck the place and the reason
abbrev pub Shows : FunOutcome → code.Outcome → Type 0
Shows (End r n l) (outcome.End words memory leak) =
    (r.words ≡ values_of words) × (r.memory ≡ memory) × (shown_of l ≡ leak)
Shows (Cut l) (outcome.Cut leak) = shown_of l ≡ leak
Shows (Stuck w) (outcome.Stuck k) = w ≡ k
Shows _ _ = ⊥

-- the run of the function at that place, with n true tests of `while` left, has an outcome that the
-- answer shows
pub record Interprets (p : Program) (place : ℕ) (words : List code_word.Word) (memory : Memory)
    (n : ℕ) (answer : code.Outcome) : Type 0 where
  pub function : Fun
  pub there : slice_get p.funs place ≡ Some function
  pub out : FunOutcome
  pub run : IsRun p function (values_of words) memory n out
  pub shows : Shows out answer
