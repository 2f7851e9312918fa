-- What two runs leak of a function whose expansion is constant time, on inputs that are equal at
-- its public parameters. Nothing is asked of the other parameters and of memory.
use Rattle.std.specs.Prelude.{◌≡◌, ℕ}
use Rattle.jz_tree.specs.declared.program.Fun.{Fun}
use Rattle.jz_tree.specs.declared.program.Program.{Program}
use Rattle.jz_runs.specs.Rules.{End, Cut, Stuck}
use Rattle.jz_meaning.specs.Runs.{Returned, FunOutcome}
use Rattle.jz_run_laws.specs.Kinds.{HoldsBytes}
use Rattle.jz_change.specs.Changes.{Change, map_of}
use Rattle.jz_inline.specs.Functions.{Given, runs_of, body_runs}
use Rattle.jz_function_runs.specs.FunctionRuns.{plain_body}
use Rattle.jz_equal_leaks.specs.Laws.{AreEqualAtPublic, LeakTheSame}
use Rattle.jz_ct.specs.Told.{IsConstantTime}
use Rattle.jz_safe_expansions.specs.SafeExpansions.{IsExpandedExport}

-- both ended, with as many turns left, or both were cut, and this change leaves the same of what
-- they leaked; or one of both is stuck
abbrev pub LeakAlike : Change → FunOutcome → FunOutcome → Type 0
LeakAlike k (End r n l) (End s m j) = (n ≡ m) × (map_of k l ≡ map_of k j)
LeakAlike k (End r n l) (Cut j) = ⊥
LeakAlike k (End r n l) (Stuck v) = Unit {0}
LeakAlike k (Cut l) (End s m j) = ⊥
LeakAlike k (Cut l) (Cut j) = map_of k l ≡ map_of k j
LeakAlike k (Cut l) (Stuck v) = Unit {0}
LeakAlike k (Stuck w) q = Unit {0}

-- ---- an expansion, and the function of the text

-- runs with one number of turns on two inputs that are equal at the public parameters
abbrev pub ExpandedLeakTheSame : Fun → Fun → Type 0
ExpandedLeakTheSame f g =
    (given other : Given) → AreEqualAtPublic f.params given.words other.words
    → (n : ℕ) (o q : FunOutcome)
    → body_runs (plain_body g) g given n o → body_runs (plain_body g) g other n q
    → LeakTheSame {V = Returned} o q

abbrev pub SourcesLeakAlike : Program → Fun → Change → Type 0
SourcesLeakAlike p f k =
    (given other : Given) → HoldsBytes given.memory → HoldsBytes other.memory
    → AreEqualAtPublic f.params given.words other.words
    → (n : ℕ) (o q : FunOutcome)
    → runs_of p f given n o → runs_of p f other n q
    → LeakAlike k o q

-- g: what an export function f of a typed text is expanded to; k: what that makes of leaks
abbrev pub ConstantExpansionsLeakTheSame : Type 0
ConstantExpansionsLeakTheSame =
    (p : Program) (f g : Fun) (k : Change) (count : ℕ)
    → IsExpandedExport p f g k count → IsConstantTime g → ExpandedLeakTheSame f g

abbrev pub ConstantFunctionsLeakAlike : Type 0
ConstantFunctionsLeakAlike =
    (p : Program) (f g : Fun) (k : Change) (count : ℕ)
    → IsExpandedExport p f g k count → IsConstantTime g → SourcesLeakAlike p f k
