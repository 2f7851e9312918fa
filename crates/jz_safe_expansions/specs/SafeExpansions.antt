-- The expansion of an export function of a typed text is of forms of which a run is stuck only where a
-- condition is not met. So where it has no alarm, no input that meets the preconditions is stuck in
-- it, nor in the function of the text, however many turns are left and for whatever reason.
use Rattle.std.specs.Prelude.{◌≡◌, ℕ, List, true, Contains}
use Rattle.jz_words.specs.Memory.{Memory}
use Rattle.jz_tree.specs.declared.program.Fun.{Fun}
use Rattle.jz_tree.specs.declared.program.Program.{Program}
use Rattle.jz_type_rows.specs.Exports.{is_exported}
use Rattle.jz_types.specs.TypedPrograms.{IsTypedProgram}
use Rattle.jz_texts.specs.Texts.{IsText}
use Rattle.jz_runs.specs.Rules.{Stuck}
use Rattle.jz_meaning.specs.declared.value.Stuck.{Stuck as Reason}
use Rattle.jz_meaning.specs.States.{Value}
use Rattle.jz_meaning.specs.Runs.{IsRun}
use Rattle.jz_preconditions.specs.Meeting.{MeetsPreconditions}
use Rattle.jz_change.specs.Changes.{Change}
use Rattle.jz_function_runs.specs.FunctionRuns.{plain_body}
use Rattle.jz_expanded_limits.specs.Expansions.{IsExpansion}
use Rattle.jz_listing.specs.declared.compiled.Compiled.{Compiled}
use Rattle.jz_correct.specs.Registers.{argument_registers}
use Rattle.jz_compiled.specs.Lines.{AreArgumentLines}
use Rattle.jz_safe_functions.specs.Making.{IsNeverStuck}
use Rattle.jz_fact_entry.specs.Entry.{AreWords}
use Rattle.jz_expanded_heads.specs.Safety.{IsFineFunction, HasNoAlarm}

-- g: what an export function f of a typed text is expanded to
pub record IsExpandedExport (p : Program) (f g : Fun) (k : Change) (count : ℕ) : Type 0 where
  pub typed : IsTypedProgram p
  pub text : IsText p
  pub there : Contains p.funs f
  pub exported : is_exported f.kind ≡ true
  pub expansion : IsExpansion p f g k count

abbrev pub ExpansionsAreFine : Type 0
ExpansionsAreFine =
    (p : Program) (f g : Fun) (k : Change) (count : ℕ)
    → IsExpandedExport p f g k count → IsFineFunction (plain_body g) g

-- on the words of the lines of a compiled function
abbrev pub SafeIsNeverStuck : Type 0
SafeIsNeverStuck =
    (p : Program) (f g : Fun) (k : Change) (count : ℕ) (c : Compiled)
    → IsExpandedExport p f g k count → HasNoAlarm (plain_body g) g
    → AreArgumentLines argument_registers f.params c.args → IsNeverStuck f g c

-- nor is the function of the text
abbrev pub SourceIsNeverStuck : Type 0
SourceIsNeverStuck =
    (p : Program) (f g : Fun) (k : Change) (count : ℕ) (words : List ℕ) (values : List Value)
    (memory : Memory) (n : ℕ) (w : Reason)
    → IsExpandedExport p f g k count → HasNoAlarm (plain_body g) g
    → MeetsPreconditions f words memory → AreWords f.params words values
    → IsRun p f values memory n (Stuck w) → ⊥
