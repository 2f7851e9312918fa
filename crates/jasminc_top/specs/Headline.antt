-- What the program promises of a listing, of a run, of a disassembly and of answers that it prints.
use Rattle.std.specs.Prelude.{List, ℕ, Option, Some, None, Ok, ⊤}
use Rattle.std.specs.List.{AllZip}
use Rattle.std.specs.Io.KnownBytes.{Appends}
use Rattle.jz_tree.specs.declared.program.Fun.{Fun}
use Rattle.jz_tree.specs.declared.program.Program.{Program}
use Rattle.jz_listing.specs.Listing.{listing_text}
use Rattle.jz_listing.specs.declared.compiled.Compiled.{Compiled}
use Rattle.x64_machine.specs.Steps.{Config}
use Rattle.jz_correct.specs.Starts.{IsStart}
use Rattle.jz_compiled.specs.Correct.{AreCorrect}
use Rattle.jz_compiled.specs.Matching.{Matches}
use Rattle.jasminc_selfrun.specs.Said.{IsSaid}
use Rattle.jz_disasm_text.specs.Shown.{Shows}
use Rattle.jz_gen.specs.Programs as programs
use Rattle.jasminc_words.specs.Wanted.{Called, Wanted, compile, exec, interp, leak, disasm}
use Rattle.jasminc_words.specs.Wanted.{check, ct, gen, selfrun}
use Rattle.jasminc_check.specs.Answers as checked
use Rattle.jasminc_ct.specs.Answers as judged
use Rattle.jasminc_source.specs.Texts.{TypesAs}
use Rattle.jasminc_selfrun.specs.SafeFunctions.{exports_of}
use Rattle.jasminc_selfrun.specs.CompileMaking.{ShowsIfListed}
use Rattle.jasminc_interp.specs.Answers as answers
use Rattle.jasminc_interp.specs.declared.telling.Ran as source
use Rattle.jasminc_calls.specs.Calls.{argument_words}
use Rattle.jasminc_steps.specs.Starting.{return_slot}
use Rattle.jasminc_runs.specs.declared.telling.Ran.{Ran}
use Rattle.jasminc_selfrun.specs.Answers as called
use Rattle.jasminc_selfrun.specs.Calling.{main_name, main_items, SumsUpProgram}
use Rattle.jasminc_top.specs.Told.{SourceTold, SinkTold}
use Rattle.jasminc_top.specs.Answers.{HasFile, IsToldBy, IsToldAs}
use Rattle.jasminc_top.specs.declared.refusal.Status.{Status}
use Rattle.jasminc_top.specs.declared.refusal.Status.TheVariants as status

-- The file's text reads as a program that is typed, what is made has a correct function for each of
-- its export functions, in the order of the text, with what is said of constant time, each that is
-- listed as constant time shows nothing that is secret in its bytes, and their listing was written
-- and nothing else.
pub record PrintsCorrect (file : List ℕ) (told : SourceTold) (sink : SinkTold)
    (made : List Compiled) : Type 0 where
  pub text : List ℕ
  pub has : HasFile file told.files text
  pub program : Program
  pub types : TypesAs text program
  pub correct : AreCorrect IsSaid program (exports_of program.funs) made
  pub secrets : AllZip ShowsIfListed (exports_of program.funs) made
  pub wrote : Appends sink.bytes sink.bytes_after (listing_text made)

-- the same of a command; it speaks of `compile` alone
abbrev pub Compiles : Option Wanted → SourceTold → SinkTold → List Compiled → Type 0
Compiles None told sink made = ⊤
Compiles (Some (compile file)) told sink made = PrintsCorrect file told sink made
Compiles (Some (exec call)) told sink made = ⊤
Compiles (Some (interp call)) told sink made = ⊤
Compiles (Some (leak call)) told sink made = ⊤
Compiles (Some (disasm file)) told sink made = ⊤
Compiles (Some (check file)) told sink made = ⊤
Compiles (Some (ct file)) told sink made = ⊤
Compiles (Some (gen seed size)) told sink made = ⊤
Compiles (Some (selfrun seed size fuel)) told sink made = ⊤

-- The file's text reads as a program that is typed, its export functions are made, each of them is
-- compiled correctly, the items meet the preconditions of the one of that name, and what was written
-- is what this status tells of it by `Tells`; and nothing else.
pub record PrintsCall (Tells : Program → Fun → Compiled → Ran → Type 0) (call : Called)
    (told : SourceTold) (sink : SinkTold) (s : Status) (made : List Compiled) : Type 0 where
  pub text : List ℕ
  pub has : HasFile call.file told.files text
  pub ran : Ran
  pub gives : called.IsDone Tells text call.fun call.items (record { ran = ran; functions = made })
  pub output : List ℕ
  pub tells : IsToldBy ran s output
  pub wrote : Appends sink.bytes sink.bytes_after output

-- What was written is the text of the run of its bytes, from a start of correct compilation on the
-- items, with at most so many steps.
abbrev pub PrintsRun : Called → SourceTold → SinkTold → Status → List Compiled → Type 0
PrintsRun call told sink s made =
    PrintsCall (called.Executes call.items call.fuel) call told sink s made

-- What was written is its transformer applied to what its source leaks with at most so many turns;
-- and from every start on the same input, with the stack pointer of `exec`, the bytes do what the
-- source's outcome asks of them, so that these events are theirs.
pub record PrintsLeak (call : Called) (told : SourceTold) (sink : SinkTold) (s : Status)
    (made : List Compiled) : Type 0 where
  pub prints : PrintsCall (called.Leaks call.items call.fuel) call told sink s made
  pub bytes :
      let gives = prints.gives.gives in
      let words = argument_words gives.is_compiled.function call.items in
      (base : ℕ) (start : Config)
      → IsStart gives.compiled words gives.tells.memory return_slot base start
      → Matches gives.compiled words return_slot base start call.fuel gives.tells.out

-- the same of a command; it speaks of `exec` alone
abbrev pub Executes : Option Wanted → SourceTold → SinkTold → List Compiled → Type 0
Executes None told sink made = ⊤
Executes (Some (compile file)) told sink made = ⊤
Executes (Some (exec call)) told sink made = PrintsRun call told sink status.Ok made
Executes (Some (interp call)) told sink made = ⊤
Executes (Some (leak call)) told sink made = ⊤
Executes (Some (disasm file)) told sink made = ⊤
Executes (Some (check file)) told sink made = ⊤
Executes (Some (ct file)) told sink made = ⊤
Executes (Some (gen seed size)) told sink made = ⊤
Executes (Some (selfrun seed size fuel)) told sink made = ⊤

-- the same of a command; it speaks of `leak` alone
abbrev pub ShowsLeaks : Option Wanted → SourceTold → SinkTold → List Compiled → Type 0
ShowsLeaks None told sink made = ⊤
ShowsLeaks (Some (compile file)) told sink made = ⊤
ShowsLeaks (Some (exec call)) told sink made = ⊤
ShowsLeaks (Some (interp call)) told sink made = ⊤
ShowsLeaks (Some (leak call)) told sink made = PrintsLeak call told sink status.Ok made
ShowsLeaks (Some (disasm file)) told sink made = ⊤
ShowsLeaks (Some (check file)) told sink made = ⊤
ShowsLeaks (Some (ct file)) told sink made = ⊤
ShowsLeaks (Some (gen seed size)) told sink made = ⊤
ShowsLeaks (Some (selfrun seed size fuel)) told sink made = ⊤

-- The file's text reads as a program that is typed, its export functions are within the limits of
-- expansion, and what was written is what this status tells of the run of the export function of that
-- name on the items, with at most so many true tests of `while`; and nothing else.
pub record PrintsOutcome (call : Called) (told : SourceTold) (sink : SinkTold) (s : Status) : Type 0
  where
    pub text : List ℕ
    pub has : HasFile call.file told.files text
    pub ran : source.Ran
    pub gives : answers.IsDone text call.fun call.items call.fuel ran
    pub output : List ℕ
    pub tells : IsToldAs ran s output
    pub wrote : Appends sink.bytes sink.bytes_after output

-- the same of a command that succeeds; it speaks of `interp` alone
abbrev pub Interprets : Option Wanted → SourceTold → SinkTold → Type 0
Interprets None told sink = ⊤
Interprets (Some (compile file)) told sink = ⊤
Interprets (Some (exec call)) told sink = ⊤
Interprets (Some (interp call)) told sink = PrintsOutcome call told sink status.Ok
Interprets (Some (leak call)) told sink = ⊤
Interprets (Some (disasm file)) told sink = ⊤
Interprets (Some (check file)) told sink = ⊤
Interprets (Some (ct file)) told sink = ⊤
Interprets (Some (gen seed size)) told sink = ⊤
Interprets (Some (selfrun seed size fuel)) told sink = ⊤

-- a run that is stuck, as none but one of `interp` is
abbrev pub IsStuck : Option Wanted → SourceTold → SinkTold → Type 0
IsStuck None told sink = ⊥
IsStuck (Some (compile file)) told sink = ⊥
IsStuck (Some (exec call)) told sink = ⊥
IsStuck (Some (interp call)) told sink = PrintsOutcome call told sink status.Stuck
IsStuck (Some (leak call)) told sink = ⊥
IsStuck (Some (disasm file)) told sink = ⊥
IsStuck (Some (check file)) told sink = ⊥
IsStuck (Some (ct file)) told sink = ⊥
IsStuck (Some (gen seed size)) told sink = ⊥
IsStuck (Some (selfrun seed size fuel)) told sink = ⊥

-- The program of the seed and the size reads as one that is typed, its export functions are made,
-- each of them is compiled correctly, the items 2, 3, 4 and 0 meet the preconditions of `main`, and
-- what was written is the summary of the run of its bytes on them, or that this was cut; and nothing
-- else.
pub record PrintsSummary (seed size fuel : ℕ) (sink : SinkTold) (s : Status) (made : List Compiled)
    : Type 0 where
  pub ran : Ran
  pub gives :
      let Tells = SumsUpProgram seed size main_items fuel in
      called.IsDone Tells (programs.program seed size) main_name main_items
      (record { ran = ran; functions = made })
  pub output : List ℕ
  pub tells : IsToldBy ran s output
  pub wrote : Appends sink.bytes sink.bytes_after output

-- a run that was cut, as none but one of `exec`, `interp`, `leak` and `selfrun` is
abbrev pub IsCut : Option Wanted → SourceTold → SinkTold → List Compiled → Type 0
IsCut None told sink made = ⊥
IsCut (Some (compile file)) told sink made = ⊥
IsCut (Some (exec call)) told sink made = PrintsRun call told sink status.OutOfFuel made
IsCut (Some (interp call)) told sink made = PrintsOutcome call told sink status.OutOfFuel
IsCut (Some (leak call)) told sink made = PrintsLeak call told sink status.OutOfFuel made
IsCut (Some (disasm file)) told sink made = ⊥
IsCut (Some (check file)) told sink made = ⊥
IsCut (Some (ct file)) told sink made = ⊥
IsCut (Some (gen seed size)) told sink made = ⊥
IsCut (Some (selfrun seed size fuel)) told sink made =
    PrintsSummary seed size fuel sink status.OutOfFuel made

-- What was written is the disassembly of the file's text: of each function of the listing that it
-- is, or of the bytes of which it is the hexadecimal text; and nothing else.
pub record PrintsDisassembly (file : List ℕ) (told : SourceTold) (sink : SinkTold) : Type 0 where
  pub text : List ℕ
  pub has : HasFile file told.files text
  pub output : List ℕ
  pub shows : Shows text (Ok output)
  pub wrote : Appends sink.bytes sink.bytes_after output

-- the same of a command; it speaks of `disasm` alone
abbrev pub Disassembles : Option Wanted → SourceTold → SinkTold → Type 0
Disassembles None told sink = ⊤
Disassembles (Some (compile file)) told sink = ⊤
Disassembles (Some (exec call)) told sink = ⊤
Disassembles (Some (interp call)) told sink = ⊤
Disassembles (Some (leak call)) told sink = ⊤
Disassembles (Some (disasm file)) told sink = PrintsDisassembly file told sink
Disassembles (Some (check file)) told sink = ⊤
Disassembles (Some (ct file)) told sink = ⊤
Disassembles (Some (gen seed size)) told sink = ⊤
Disassembles (Some (selfrun seed size fuel)) told sink = ⊤

-- The file's text reads as a program that is typed, its export functions are within the limits and
-- safe, and what was written is a line for each of them; and nothing else.
pub record PrintsChecks (file : List ℕ) (told : SourceTold) (sink : SinkTold) : Type 0 where
  pub text : List ℕ
  pub has : HasFile file told.files text
  pub output : List ℕ
  pub done : checked.IsDone text output
  pub wrote : Appends sink.bytes sink.bytes_after output

-- the same of a command; it speaks of `check` alone
abbrev pub Checks : Option Wanted → SourceTold → SinkTold → Type 0
Checks None told sink = ⊤
Checks (Some (compile file)) told sink = ⊤
Checks (Some (exec call)) told sink = ⊤
Checks (Some (interp call)) told sink = ⊤
Checks (Some (leak call)) told sink = ⊤
Checks (Some (disasm file)) told sink = ⊤
Checks (Some (check file)) told sink = PrintsChecks file told sink
Checks (Some (ct file)) told sink = ⊤
Checks (Some (gen seed size)) told sink = ⊤
Checks (Some (selfrun seed size fuel)) told sink = ⊤

-- The file's text reads as a program that is typed, its export functions are within the limits and
-- constant time, and what was written is a line for each of them; and nothing else.
pub record PrintsJudgements (file : List ℕ) (told : SourceTold) (sink : SinkTold) : Type 0 where
  pub text : List ℕ
  pub has : HasFile file told.files text
  pub output : List ℕ
  pub done : judged.IsDone text output
  pub wrote : Appends sink.bytes sink.bytes_after output

-- the same of a command; it speaks of `ct` alone
abbrev pub Judges : Option Wanted → SourceTold → SinkTold → Type 0
Judges None told sink = ⊤
Judges (Some (compile file)) told sink = ⊤
Judges (Some (exec call)) told sink = ⊤
Judges (Some (interp call)) told sink = ⊤
Judges (Some (leak call)) told sink = ⊤
Judges (Some (disasm file)) told sink = ⊤
Judges (Some (check file)) told sink = ⊤
Judges (Some (ct file)) told sink = PrintsJudgements file told sink
Judges (Some (gen seed size)) told sink = ⊤
Judges (Some (selfrun seed size fuel)) told sink = ⊤

-- what was written is the program of the seed and the size; of a command, where it is `gen`
abbrev pub Generates : Option Wanted → SinkTold → Type 0
Generates None sink = ⊤
Generates (Some (compile file)) sink = ⊤
Generates (Some (exec call)) sink = ⊤
Generates (Some (interp call)) sink = ⊤
Generates (Some (leak call)) sink = ⊤
Generates (Some (disasm file)) sink = ⊤
Generates (Some (check file)) sink = ⊤
Generates (Some (ct file)) sink = ⊤
Generates (Some (gen seed size)) sink =
    Appends sink.bytes sink.bytes_after (programs.program seed size)
Generates (Some (selfrun seed size fuel)) sink = ⊤

-- the same of a command; it speaks of `selfrun` alone
abbrev pub SumsUp : Option Wanted → SinkTold → List Compiled → Type 0
SumsUp None sink made = ⊤
SumsUp (Some (compile file)) sink made = ⊤
SumsUp (Some (exec call)) sink made = ⊤
SumsUp (Some (interp call)) sink made = ⊤
SumsUp (Some (leak call)) sink made = ⊤
SumsUp (Some (disasm file)) sink made = ⊤
SumsUp (Some (check file)) sink made = ⊤
SumsUp (Some (ct file)) sink made = ⊤
SumsUp (Some (gen seed size)) sink made = ⊤
SumsUp (Some (selfrun seed size fuel)) sink made =
    PrintsSummary seed size fuel sink status.Ok made
