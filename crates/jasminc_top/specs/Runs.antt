-- What a run of the program leaves, and the rows that follow from it.
use Rattle.std.specs.Prelude.{◌≡◌, ◌⊎◌, ◌≤◌, ℕ, List, [], codes, Option, Some, None, ⊤}
use Rattle.std.specs.Io.KnownBytes.{Appends}
use Rattle.jz_io.specs.Causes.{Rose}
use Rattle.jz_io.specs.Telling.{Telling, text_of}
use Rattle.jz_io.specs.Written.{WritesPrefix}
use Rattle.jz_listing.specs.declared.compiled.Compiled.{Compiled}
use Rattle.jz_gen.specs.Programs as programs
use Rattle.jasminc_words.specs.Wanted.{Wanted}
use Rattle.jasminc_words.specs.Inputs.{Origin, of_file, of_seed, origin_of}
use Rattle.jasminc_top.specs.Refusals.{status_of, line_of, stage_of}
use Rattle.jasminc_top.specs.Told.{SourceTold, SinkTold}
use Rattle.jasminc_top.specs.Answers.{IsDue, Faulted, HasText, Gives, Cause, IsQuiet, WasRead}
use Rattle.jasminc_top.specs.declared.refusal.Refusal.{Refusal}
use Rattle.jasminc_top.specs.declared.refusal.Refusal.TheVariants as refusal
use Rattle.jasminc_top.specs.declared.refusal.Status.{Status}
use Rattle.jasminc_top.specs.declared.refusal.Status.TheVariants as status
use Rattle.jasminc_top.specs.declared.run.Done.{Done}

-- A run of the program: what the words wished, what source and sink told before and after, and how
-- it ended.
pub record Run : Type 0 where
  pub wish : Option Wanted
  pub source : SourceTold
  pub sink : SinkTold
  pub done : Done

-- the text was written and its status stands, or a prefix of it and the sink's count rose
abbrev pub Writes : Status → List ℕ → List Compiled → SinkTold → Done → Type 0
Writes due text made sink done =
    ((done.status ≡ due) × (done.made ≡ made) × Appends sink.bytes sink.bytes_after text
    × (sink.faults_after ≡ sink.faults))
    ⊎ ((done.status ≡ status.WriteFault) × (done.made ≡ [])
    × WritesPrefix text sink.bytes sink.bytes_after × Rose sink.faults sink.faults_after)

-- it was written that there was no memory, or a prefix of that
abbrev pub WritesNoMemory : SinkTold → Done → Type 0
WritesNoMemory = Writes status.Memory (codes "out of memory\n") []

-- the line of the refusal was written, or that there was no memory for it
abbrev pub WritesRefusal : Refusal → SinkTold → Done → Type 0
WritesRefusal r sink done =
    Writes (status_of r) (line_of r) [] sink done ⊎ WritesNoMemory sink done

-- what is due, by status: a read fault with its cause, want of memory, or what the text of the file
-- asks for
abbrev pub Due : Option Wanted → SourceTold → Status → List ℕ → List Compiled → Type 0
Due wish told status.ReadFault text made =
    (text ≡ codes "read fault\n") × (made ≡ []) × Faulted wish told
Due wish told status.Memory text made = (text ≡ codes "out of memory\n") × (made ≡ [])
Due wish told status.WriteFault text made = ⊥
Due wish told s text made = IsDue wish told s text made × IsQuiet told

-- something was due, and was written
pub record Runs (run : Run) : Type 0 where
  pub due : Status
  pub text : List ℕ
  pub made : List Compiled
  pub is_due : Due run.wish run.source due text made
  pub wrote : Writes due text made run.sink run.done

-- ---- row by row

-- why a run is refused: the words are no command, a fault of reading is counted, or the text that
-- the source tells of, if it tells, has the cause
abbrev pub IsCaused : Option Wanted → SourceTold → Refusal → Type 0
IsCaused wish told refusal.Usage = wish ≡ None
IsCaused wish told refusal.ReadFault = Faulted wish told
IsCaused wish told r = (text : List ℕ) × HasText wish told.files text × Cause wish text r

-- a refusal with this status has its cause
pub record ComesOnly (wish : Option Wanted) (told : SourceTold) (s : Status) : Type 0 where
  pub refusal : Refusal
  pub status : s ≡ status_of refusal
  pub cause : IsCaused wish told refusal

-- a status that may come in the place of any other
abbrev pub IsFree : Status → Type 0
IsFree status.ReadFault = ⊤
IsFree status.WriteFault = ⊤
IsFree status.Memory = ⊤
IsFree _ = ⊥

-- the text that a source tells of a file, where one that tells nothing tells of none; or the
-- program of a seed and a size
abbrev pub TellsInput : Origin → Option Telling → List ℕ → Type 0
TellsInput (of_file name) None text = ⊥
TellsInput (of_file name) (Some told) text = text_of told.texts name ≡ Some text
TellsInput (of_seed seed size) files text = text ≡ programs.program seed size

-- the text of a command
abbrev pub Tells : Option Wanted → Option Telling → List ℕ → Type 0
Tells None files text = text ≡ []
Tells (Some wish) files text = TellsInput (origin_of wish) files text

-- a refusal of this stage or an earlier one, with its cause
pub record IsEarlier (wish : Option Wanted) (text : List ℕ) (stage : ℕ) (s : Status) : Type 0 where
  pub refusal : Refusal
  pub no_later : stage_of refusal ≤ stage
  pub cause : Cause wish text refusal
  pub status : s ≡ status_of refusal

-- where a refusal has its cause, it comes, or one of an earlier stage with its cause, or a free
-- status
abbrev pub Refuses : Option Wanted → SourceTold → Status → Type 0
Refuses wish told s =
    (text : List ℕ) (r : Refusal) → Tells wish told.files text → Cause wish text r
    → IsFree s ⊎ IsEarlier wish text (stage_of r) s

-- the command gives what the table says
pub record IsGiven (wish : Option Wanted) (text : List ℕ) (s : Status) : Type 0 where
  pub command : Wanted
  pub is : wish ≡ Some command
  pub output : List ℕ
  pub made : List Compiled
  pub gives : Gives command text s output made

-- where nothing refuses, the command gives what the table says, or a free status comes
abbrev pub Completes : Option Wanted → SourceTold → Status → Type 0
Completes wish told s =
    (text : List ℕ) → Tells wish told.files text → ((r : Refusal) → Cause wish text r → ⊥)
    → IsFree s ⊎ IsGiven wish text s

-- the file is longer than what is read
abbrev pub IsTooLong : Option Wanted → SourceTold → Type 0
IsTooLong wish told =
    (text : List ℕ) × HasText wish told.files text × Cause wish text refusal.Source

-- at this status the source was read to its end, or left as it was where no file is read; unless
-- the words, a fault, the memory or the length ended the command before
abbrev pub ReadsAll : Option Wanted → SourceTold → Status → Type 0
ReadsAll wish told status.Usage = ⊤
ReadsAll wish told status.ReadFault = ⊤
ReadsAll wish told status.WriteFault = ⊤
ReadsAll wish told status.Memory = ⊤
ReadsAll wish told s = WasRead wish told ⊎ IsTooLong wish told
