-- What two runs leak of a function of a text for which constant time is answered, on inputs that
-- are equal at its public parameters.
use Rattle.std.specs.Prelude.{◌≡◌, ℕ, List, true, Contains}
use Rattle.jz_words.specs.Memory.{Memory}
use Rattle.jz_tree.specs.declared.program.Fun.{Fun}
use Rattle.jz_tree.specs.declared.program.Program.{Program}
use Rattle.jz_type_rows.specs.Exports.{is_exported}
use Rattle.jz_runs.specs.Rules.{End, Cut}
use Rattle.jz_meaning.specs.States.{Value}
use Rattle.jz_meaning.specs.Runs.{FunOutcome, IsRun}
use Rattle.jz_preconditions.specs.Meeting.{MeetsPreconditions}
use Rattle.jz_change.specs.Changes.{Change, map_of}
use Rattle.jz_expansion.specs.Expansions.{IsExpansion}
use Rattle.jz_fact_entry.specs.Entry.{AreWords}
use Rattle.jz_equal_leaks.specs.Laws.{AreEqualAtPublic}
use Rattle.jz_constant_leaks.specs.ConstantLeaks.{ExpandedLeakTheSame, SourcesLeakAlike}
use Rattle.jasminc_check.specs.Answers as safety
use Rattle.jasminc_ct.specs.Answers.{Gives}

-- what is left of leaks, and of which expansion that is
pub record LeaksNothingSecret (p : Program) (f : Fun) : Type 0 where
  pub expanded : Fun
  pub change : Change
  pub count : ℕ
  pub expansion : IsExpansion p f expanded change count
  pub expansions : ExpandedLeakTheSame f expanded
  pub sources : SourcesLeakAlike p f change

-- where constant time is answered with a line for each export function
abbrev pub JudgedLeakNothingSecret : Type 0
JudgedLeakNothingSecret =
    (text output : List ℕ) (g : Gives text output) (f : Fun)
    → Contains g.program.funs f → is_exported f.kind ≡ true → LeaksNothingSecret g.program f

-- both ended, with as many turns left, or both were cut, and leaked alike
abbrev pub BothLeakAlike : Change → FunOutcome → FunOutcome → Type 0
BothLeakAlike k (End r n l) (End s m j) = (n ≡ m) × (map_of k l ≡ map_of k j)
BothLeakAlike k (Cut l) (Cut j) = map_of k l ≡ map_of k j
BothLeakAlike k o q = ⊥

-- of two inputs that meet the preconditions, as words and as values
abbrev pub InputsLeakAlike : Program → Fun → Change → Type 0
InputsLeakAlike p f k =
    (words others : List ℕ) (values ours : List Value) (memory other : Memory)
    → MeetsPreconditions f words memory → MeetsPreconditions f others other
    → AreWords f.params words values → AreWords f.params others ours
    → AreEqualAtPublic f.params values ours
    → (n : ℕ) (o q : FunOutcome)
    → IsRun p f values memory n o → IsRun p f ours other n q → BothLeakAlike k o q

pub record InputsLeakNothingSecret (p : Program) (f : Fun) : Type 0 where
  pub expanded : Fun
  pub change : Change
  pub count : ℕ
  pub expansion : IsExpansion p f expanded change count
  pub inputs : InputsLeakAlike p f change

-- and where safety is answered so too
abbrev pub CheckedLeakNothingSecret : Type 0
CheckedLeakNothingSecret =
    (text output safe : List ℕ) (g : Gives text output) → safety.Gives text safe → (f : Fun)
    → Contains g.program.funs f → is_exported f.kind ≡ true
    → InputsLeakNothingSecret g.program f
