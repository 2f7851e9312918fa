-- What the code answers of the words of variables, and of a function's body.
use Rattle.std.specs.Prelude.{ℕ, List, [], ◌++◌, length, Result, Ok, Err}
use Rattle.jz_tree.specs.Word as code_word
use Rattle.jz_tree.specs.Memory.{Memory}
use Rattle.jz_tree.specs.declared.program.Fun.{Fun}
use Rattle.jz_leak.specs.RunLeaks.{Leak}
use Rattle.jz_meaning.specs.Trees.{done}
use Rattle.jz_meaning.specs.Rules.{stuck, went, Outcome, Goes}
use Rattle.jz_meaning.specs.declared.value.Stuck as why
use Rattle.jz_meaning.specs.Attempts.{Evaluation}
use Rattle.jz_meaning.specs.States.{Value, word, State}
use Rattle.jz_meaning.specs.Statements.{source}
use Rattle.jz_meaning.specs.Runs.{block, callees_of, entry_state, outcome_of_body}
use Rattle.jz_interp.specs.declared.outcome.Outcome as code
use Rattle.jz_interp.specs.declared.outcome.Outcome.TheVariants as outcome
use Rattle.jz_interp.specs.Outcomes.{values_of, Shows}

abbrev pub word_seen : Result code_word.Word why.Stuck → Evaluation Value
word_seen (Ok w) = went [] (word w.size w.bits)
word_seen (Err k) = stuck k

abbrev pub words_seen : Result (List code_word.Word) why.Stuck → Evaluation (List Value)
words_seen (Ok ws) = went [] (values_of ws)
words_seen (Err k) = stuck k

-- behind those that were read already
abbrev pub values_first : List Value → Evaluation (List Value) → Evaluation (List Value)
values_first vs (stuck w) = stuck w
values_first vs (went ns ws) = went ns (vs ++ ws)

-- what a run comes to that is stuck there, or not
abbrev pub outcome_of : Result code.Outcome why.Stuck → code.Outcome
outcome_of (Ok o) = o
outcome_of (Err k) = outcome.Stuck k

-- a function's body on argument words has an outcome that the answer shows
pub record BodyShows (fs : List Fun) (f : Fun) (words : List Value) (memory : Memory) (n : ℕ)
    (answer : code.Outcome) : Type 0 where
  pub out : Outcome State why.Stuck Leak
  pub goes :
      Goes source (block (callees_of fs (length fs)) f.body done) n (entry_state f words memory) out
  pub shows : Shows (outcome_of_body f.result out) answer
