-- What is safe is never stuck, whatever the reason, in the run of the function of the text.
use Rattle.std.specs.Prelude.{◌≡◌, ℕ, List, true, Contains}
use Rattle.jz_words.specs.Memory.{Memory}
use Rattle.jz_tree.specs.declared.program.Fun.{Fun}
use Rattle.jz_tree.specs.declared.program.Program.{Program}
use Rattle.jz_type_rows.specs.Exports.{is_exported}
use Rattle.jz_types.specs.TypedPrograms.{IsTypedProgram}
use Rattle.jz_texts.specs.Texts.{IsText}
use Rattle.jz_runs.specs.Rules.{Stuck}
use Rattle.jz_meaning.specs.declared.value.Stuck.{Stuck as Reason}
use Rattle.jz_meaning.specs.States.{Value}
use Rattle.jz_meaning.specs.Runs.{IsRun}
use Rattle.jz_preconditions.specs.Meeting.{MeetsPreconditions}
use Rattle.jz_fact_entry.specs.Entry.{AreWords}
use Rattle.jasminc_check.specs.Safety.{IsSafe}
use Rattle.jasminc_check.specs.Answers.{Gives}

-- on words that meet the preconditions of f none of its runs is stuck
abbrev pub IsNeverStuck : Program → Fun → Type 0
IsNeverStuck p f =
    (words : List ℕ) (values : List Value) (memory : Memory) (n : ℕ) (w : Reason)
    → MeetsPreconditions f words memory → AreWords f.params words values
    → IsRun p f values memory n (Stuck w) → ⊥

abbrev pub SafeIsNeverStuck : Type 0
SafeIsNeverStuck =
    (p : Program) (f : Fun) (count : ℕ)
    → IsTypedProgram p → IsText p → Contains p.funs f → is_exported f.kind ≡ true
    → IsSafe p f count → IsNeverStuck p f

-- where safety is answered with a line for each export function
abbrev pub CheckedIsNeverStuck : Type 0
CheckedIsNeverStuck =
    (text output : List ℕ) (g : Gives text output) (f : Fun)
    → Contains g.program.funs f → is_exported f.kind ≡ true → IsNeverStuck g.program f
