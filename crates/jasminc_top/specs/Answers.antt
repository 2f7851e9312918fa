-- What a command may answer: the table of causes, and the table of commands.
use Rattle.std.specs.Prelude.{◌≡◌, ◌<◌, ◌≤◌, ◌⊎◌, ℕ, List, [], length}
use Rattle.std.specs.Prelude.{Option, Some, None, IsSome, ⊤, Result, Ok, Err}
use Rattle.jz_io.specs.Causes.{Rose}
use Rattle.jz_io.specs.Telling.{Telling, text_of, IsWhole}
use Rattle.jz_tree.specs.declared.program.Fun.{Fun}
use Rattle.jz_tree.specs.declared.program.Program.{Program}
use Rattle.jz_listing.specs.declared.compiled.Compiled.{Compiled}
use Rattle.jz_disasm_text.specs.Shown.{FailsAs, Shows}
use Rattle.jz_gen.specs.Programs as programs
use Rattle.jasminc_words.specs.Wanted.{Called, Wanted, compile, exec, interp, leak}
use Rattle.jasminc_words.specs.Wanted.{disasm, check, ct, gen, selfrun}
use Rattle.jasminc_words.specs.Inputs.{Origin, of_file, of_seed, origin_of}
use Rattle.jasminc_check.specs.Causes as checks
use Rattle.jasminc_check.specs.Answers as checked
use Rattle.jasminc_ct.specs.Causes as judgements
use Rattle.jasminc_ct.specs.Answers as judged
use Rattle.jasminc_selfrun.specs.CompileCauses as makings
use Rattle.jasminc_selfrun.specs.CompileAnswers as made_of
use Rattle.jasminc_interp.specs.Causes as runs
use Rattle.jasminc_interp.specs.Answers as answers
use Rattle.jasminc_interp.specs.declared.telling.Ran as source
use Rattle.jasminc_interp.specs.declared.telling.Ran.TheVariants as source_ran
use Rattle.jasminc_runs.specs.declared.telling.Ran.{Ran}
use Rattle.jasminc_runs.specs.declared.telling.Ran.TheVariants as ran
use Rattle.jasminc_selfrun.specs.Causes as calls
use Rattle.jasminc_selfrun.specs.Answers as called
use Rattle.jasminc_selfrun.specs.Calling.{main_name, main_items, SumsUpProgram}
use Rattle.jasminc_top.specs.Refusals.{status_of, line_of, stage_of, all_stages}
use Rattle.jasminc_top.specs.Told.{SourceTold}
use Rattle.jasminc_top.specs.declared.refusal.Status.{Status}
use Rattle.jasminc_top.specs.declared.refusal.Status.TheVariants as status
use Rattle.jasminc_top.specs.declared.refusal.Refusal.{Refusal}
use Rattle.jasminc_top.specs.declared.refusal.Refusal.TheVariants.{Usage, ReadFault, Source}
use Rattle.jasminc_top.specs.declared.refusal.Refusal.TheVariants.{Interp, Disasm, Check, Ct}
use Rattle.jasminc_top.specs.declared.refusal.Refusal.TheVariants.{Compile, Exec}
use Rattle.jasminc_top.specs.declared.answer.Reply.{Reply}

-- the longest text that is read
abbrev pub source_limit : ℕ
source_limit = 1048576

-- ---- the table of causes

-- why what a function of a text is compiled to is not called
abbrev pub RunCause : Called → List ℕ → Refusal → Type 0
RunCause call text Source = source_limit < length text
RunCause call text (Exec r) = calls.Cause text call.fun call.items r
RunCause call text r = ⊥

-- why a function of a text is not run
abbrev pub InterpCause : Called → List ℕ → Refusal → Type 0
InterpCause call text Source = source_limit < length text
InterpCause call text (Interp r) = runs.Cause text call.fun call.items r
InterpCause call text r = ⊥

-- why a text is not disassembled
abbrev pub DisasmCause : List ℕ → Refusal → Type 0
DisasmCause text Source = source_limit < length text
DisasmCause text (Disasm fault) = FailsAs text fault
DisasmCause text r = ⊥

-- why the export functions of a text are not all safe
abbrev pub CheckCause : List ℕ → Refusal → Type 0
CheckCause text Source = source_limit < length text
CheckCause text (Check r) = checks.Cause text r
CheckCause text r = ⊥

-- why the export functions of a text are not all constant time
abbrev pub CtCause : List ℕ → Refusal → Type 0
CtCause text Source = source_limit < length text
CtCause text (Ct r) = judgements.Cause text r
CtCause text r = ⊥

-- why the export functions of a text are not all compiled
abbrev pub CompileCause : List ℕ → Refusal → Type 0
CompileCause text Source = source_limit < length text
CompileCause text (Compile r) = makings.Cause text r
CompileCause text r = ⊥

-- why a program from a number is not compiled and run
abbrev pub SelfrunCause : List ℕ → Refusal → Type 0
SelfrunCause text (Exec r) = calls.Cause text main_name main_items r
SelfrunCause text r = ⊥

-- a program from a number is always printed
abbrev pub GenCause : Refusal → Type 0
GenCause r = ⊥

-- words that are no command have one cause, whatever the text
abbrev pub IsUsage : Refusal → Type 0
IsUsage r = r ≡ Usage

-- why a command is refused by its text
abbrev pub Cause : Option Wanted → List ℕ → Refusal → Type 0
Cause None text = IsUsage
Cause (Some (compile file)) text = CompileCause text
Cause (Some (exec call)) text = RunCause call text
Cause (Some (interp call)) text = InterpCause call text
Cause (Some (leak call)) text = RunCause call text
Cause (Some (disasm file)) text = DisasmCause text
Cause (Some (check file)) text = CheckCause text
Cause (Some (ct file)) text = CtCause text
Cause (Some (gen seed size)) text = GenCause
Cause (Some (selfrun seed size fuel)) text = SelfrunCause text

-- no stage before this one has a cause
abbrev pub Clear : (Refusal → Type 0) → ℕ → Type 0
Clear causes stage = (r : Refusal) → stage_of r < stage → causes r → ⊥

-- the first cause
pub record IsFirstCause (causes : Refusal → Type 0) (r : Refusal) : Type 0 where
  pub cause : causes r
  pub first : Clear causes (stage_of r)

-- ---- the table of commands: status, output and what is made where nothing refuses

-- the functions of the text's program, and their listing
pub record GivesListing (text : List ℕ) (s : Status) (output : List ℕ) (made : List Compiled)
    : Type 0 where
  pub gives : made_of.Gives text (record { functions = made; listing = output })
  pub ok : s ≡ status.Ok

-- what is told of a call is an answer with this status
abbrev pub IsToldBy : Ran → Status → List ℕ → Type 0
IsToldBy (ran.Ended text) s output = (s ≡ status.Ok) × (output ≡ text)
IsToldBy (ran.Cut text) s output = (s ≡ status.OutOfFuel) × (output ≡ text)

-- the text of a call of one of the functions of the text's program, all of which are made
pub record GivesRun (Tells : Program → Fun → Compiled → Ran → Type 0) (text : List ℕ)
    (call : Called) (s : Status) (output : List ℕ) (made : List Compiled) : Type 0 where
  pub ran : Ran
  pub gives : called.Gives Tells text call.fun (record { ran = ran; functions = made })
  pub told : IsToldBy ran s output

-- what is told of a run of the source is an answer with this status
abbrev pub IsToldAs : source.Ran → Status → List ℕ → Type 0
IsToldAs (source_ran.Ended text) s output = (s ≡ status.Ok) × (output ≡ text)
IsToldAs (source_ran.Cut text) s output = (s ≡ status.OutOfFuel) × (output ≡ text)
IsToldAs (source_ran.Stuck text) s output = (s ≡ status.Stuck) × (output ≡ text)

-- the run of an export function of the text's program; nothing is made
pub record GivesOutcome (text : List ℕ) (call : Called) (s : Status) (output : List ℕ)
    (made : List Compiled) : Type 0 where
  pub ran : source.Ran
  pub gives : answers.Gives text call.fun call.items call.fuel ran
  pub told : IsToldAs ran s output
  pub none : made ≡ []

-- the disassembly of the text; nothing is made
pub record GivesDisassembly (text : List ℕ) (s : Status) (output : List ℕ) (made : List Compiled)
    : Type 0 where
  pub shows : Shows text (Ok output)
  pub ok : s ≡ status.Ok
  pub none : made ≡ []

-- a line for each export function, each of which is safe; nothing is made
pub record GivesChecks (text : List ℕ) (s : Status) (output : List ℕ) (made : List Compiled)
    : Type 0 where
  pub gives : checked.Gives text output
  pub ok : s ≡ status.Ok
  pub none : made ≡ []

-- a line for each export function, each of which is constant time; nothing is made
pub record GivesJudgements (text : List ℕ) (s : Status) (output : List ℕ) (made : List Compiled)
    : Type 0 where
  pub gives : judged.Gives text output
  pub ok : s ≡ status.Ok
  pub none : made ≡ []

-- the text itself; nothing is made
pub record GivesText (text : List ℕ) (s : Status) (output : List ℕ) (made : List Compiled)
    : Type 0 where
  pub text_is : output ≡ text
  pub ok : s ≡ status.Ok
  pub none : made ≡ []

-- the summary of the run of the text's function `main`, where all of its functions are made
pub record GivesSummary (text : List ℕ) (seed size fuel : ℕ) (s : Status) (output : List ℕ)
    (made : List Compiled) : Type 0 where
  pub ran : Ran
  pub gives :
      let Tells = SumsUpProgram seed size main_items fuel in
      called.Gives Tells text main_name (record { ran = ran; functions = made })
  pub told : IsToldBy ran s output

abbrev pub Gives : Wanted → List ℕ → Status → List ℕ → List Compiled → Type 0
Gives (compile file) text s output made = GivesListing text s output made
Gives (exec call) text s output made =
    GivesRun (called.Executes call.items call.fuel) text call s output made
Gives (interp call) text s output made = GivesOutcome text call s output made
Gives (leak call) text s output made =
    GivesRun (called.Leaks call.items call.fuel) text call s output made
Gives (disasm file) text s output made = GivesDisassembly text s output made
Gives (check file) text s output made = GivesChecks text s output made
Gives (ct file) text s output made = GivesJudgements text s output made
Gives (gen seed size) text s output made = GivesText text s output made
Gives (selfrun seed size fuel) text s output made =
    GivesSummary text seed size fuel s output made

-- the statuses of what a command gives
abbrev pub IsResult : Status → Type 0
IsResult status.Ok = ⊤
IsResult status.OutOfFuel = ⊤
IsResult status.Stuck = ⊤
IsResult s = ⊥

-- ---- what is due

-- the first cause, with its status and line
pub record IsRefused (wish : Option Wanted) (text : List ℕ) (s : Status) (output : List ℕ)
    (made : List Compiled) : Type 0 where
  pub refusal : Refusal
  pub cause : Cause wish text refusal
  pub first : Clear (Cause wish text) (stage_of refusal)
  pub status : s ≡ status_of refusal
  pub line : output ≡ line_of refusal
  pub none : made ≡ []

-- no cause, and what the command gives
pub record IsDone (wish : Option Wanted) (text : List ℕ) (s : Status) (output : List ℕ)
    (made : List Compiled) : Type 0 where
  pub command : Wanted
  pub is : wish ≡ Some command
  pub clear : Clear (Cause wish text) all_stages
  pub gives : Gives command text s output made

abbrev pub Answers : Option Wanted → List ℕ → Status → List ℕ → List Compiled → Type 0
Answers wish text s output made =
    IsRefused wish text s output made ⊎ IsDone wish text s output made

-- ---- the source

-- what the source tells of a file, if it tells anything
abbrev pub HasFile : List ℕ → Option Telling → List ℕ → Type 0
HasFile file None text = ⊤
HasFile file (Some told) text = text_of told.texts file ≡ Some text

-- the file has this text, within the limit
abbrev pub IsShortFile : List ℕ → Option Telling → List ℕ → Type 0
IsShortFile file files text = HasFile file files text × (length text ≤ source_limit)

-- the file has a text past the limit
abbrev pub IsLongFile : List ℕ → Option Telling → Type 0
IsLongFile file files = (text : List ℕ) × HasFile file files text × (source_limit < length text)

-- a file that is there wasn't missed
abbrev pub IsNotMissed : List ℕ → Option Telling → Option Telling → Type 0
IsNotMissed file None new = ⊤
IsNotMissed file (Some old) None = ⊥
IsNotMissed file (Some old) (Some new) = IsSome (text_of old.texts file) → new.missed ≡ old.missed

-- the text of a file, or of the program of a seed and a size
abbrev pub HasInput : Origin → Option Telling → List ℕ → Type 0
HasInput (of_file name) files text = HasFile name files text
HasInput (of_seed seed size) files text = text ≡ programs.program seed size

-- and it is within the limit
abbrev pub IsShortInput : Origin → Option Telling → List ℕ → Type 0
IsShortInput o files text = HasInput o files text × (length text ≤ source_limit)

-- the text of the command; without a command there is none
abbrev pub HasText : Option Wanted → Option Telling → List ℕ → Type 0
HasText None files text = text ≡ []
HasText (Some wish) files text = HasInput (origin_of wish) files text

-- the count of faults stayed
abbrev pub IsQuiet : SourceTold → Type 0
IsQuiet told = told.faults_after ≡ told.faults

-- a fault of reading a file: counted, and no name was missed that is there
abbrev pub IsReadFault : List ℕ → SourceTold → Type 0
IsReadFault file told =
    Rose told.faults told.faults_after × IsNotMissed file told.files told.files_after

-- a fault of reading what is a file
abbrev pub IsInputFault : Origin → SourceTold → Type 0
IsInputFault (of_file name) told = IsReadFault name told
IsInputFault (of_seed seed size) told = ⊥

-- a fault of reading the command's file
abbrev pub Faulted : Option Wanted → SourceTold → Type 0
Faulted None told = ⊥
Faulted (Some wish) told = IsInputFault (origin_of wish) told

abbrev pub IsNoCommand : Option Wanted → Type 0
IsNoCommand None = ⊤
IsNoCommand (Some wish) = ⊥

-- the source is at the end of a file; where none is read, what it tells is as before
abbrev pub IsInputRead : Origin → SourceTold → Type 0
IsInputRead (of_file name) told = IsWhole told.files_after
IsInputRead (of_seed seed size) told = told.files_after ≡ told.files

abbrev pub WasRead : Option Wanted → SourceTold → Type 0
WasRead None told = ⊥
WasRead (Some wish) told = IsInputRead (origin_of wish) told

-- all was read, unless the words or the length refuse
abbrev pub IsRead : Option Wanted → List ℕ → SourceTold → Type 0
IsRead wish text told = WasRead wish told ⊎ IsNoCommand wish ⊎ Cause wish text Source

-- what is due by the text
pub record IsDue (wish : Option Wanted) (told : SourceTold) (s : Status) (output : List ℕ)
    (made : List Compiled) : Type 0 where
  pub text : List ℕ
  pub has : HasText wish told.files text
  pub answers : Answers wish text s output made
  pub read : IsRead wish text told

-- ---- the answers of stages

-- why the reading of a file refuses a command
abbrev pub FileRefuses : List ℕ → SourceTold → Refusal → Type 0
FileRefuses file told ReadFault = IsReadFault file told
FileRefuses file told Source = IsLongFile file told.files × IsQuiet told
FileRefuses file told r = ⊥

-- why a command is refused before its text is there
abbrev pub InputRefuses : Origin → SourceTold → Refusal → Type 0
InputRefuses (of_file name) told r = FileRefuses name told r
InputRefuses (of_seed seed size) told r = ⊥

-- what the stages after the reading make of a text: what the command gives, or the first cause
abbrev pub After : Option Wanted → List ℕ → Result Reply Refusal → Type 0
After wish text (Ok reply) = IsDone wish text reply.status reply.text reply.made
After wish text (Err r) = IsFirstCause (Cause wish text) r

-- the text settles the answer of all stages, and reading it raised no count
pub record Settles (wish : Option Wanted) (told : SourceTold) (answer : Result Reply Refusal)
    : Type 0 where
  pub text : List ℕ
  pub has : HasText wish told.files text
  pub after : After wish text answer
  pub read : IsRead wish text told
  pub quiet : IsQuiet told

-- what all stages make of the words
abbrev pub Performs : Option Wanted → SourceTold → Result Reply Refusal → Type 0
Performs wish told (Err ReadFault) = Faulted wish told
Performs wish told answer = Settles wish told answer
