-- Equal leaks of the functions of a text: what their expansion makes of leaks loses nothing.
use Rattle.std.specs.Prelude.{ℕ}
use Rattle.jz_tree.specs.declared.program.Fun.{Fun}
use Rattle.jz_tree.specs.declared.program.Program.{Program}
use Rattle.jz_meaning.specs.Runs.{Returned, FunOutcome}
use Rattle.jz_run_laws.specs.Kinds.{HoldsBytes}
use Rattle.jz_change.specs.Changes.{Change}
use Rattle.jz_inline.specs.Functions.{Given, runs_of}
use Rattle.jz_equal_leaks.specs.Laws.{AreEqualAtPublic, LeakTheSame}
use Rattle.jz_ct.specs.Told.{IsConstantTime}
use Rattle.jz_constant_leaks.specs.SafeExpansions.{IsExpandedExport}
use Rattle.jz_constant_leaks.specs.ConstantLeaks.{LeakAlike}

-- two runs of the function, with one number of turns, that leak the same but for what this change
-- leaves out leak the same
abbrev pub LosesNothing : Program → Fun → Change → Type 0
LosesNothing p f k =
    (given other : Given) → HoldsBytes given.memory → HoldsBytes other.memory
    → (n : ℕ) (o q : FunOutcome)
    → runs_of p f given n o → runs_of p f other n q
    → LeakAlike k o q → LeakTheSame {V = Returned} o q

-- two inputs that are equal at the public parameters
abbrev pub SourcesLeakTheSame : Program → Fun → Type 0
SourcesLeakTheSame p f =
    (given other : Given) → HoldsBytes given.memory → HoldsBytes other.memory
    → AreEqualAtPublic f.params given.words other.words
    → (n : ℕ) (o q : FunOutcome)
    → runs_of p f given n o → runs_of p f other n q
    → LeakTheSame {V = Returned} o q

-- of an export function f of a typed text that is expanded to g
abbrev pub ExpansionsLoseNothing : Type 0
ExpansionsLoseNothing =
    (p : Program) (f g : Fun) (k : Change) (count : ℕ)
    → IsExpandedExport p f g k count → LosesNothing p f k

abbrev pub ConstantSourcesLeakTheSame : Type 0
ConstantSourcesLeakTheSame =
    (p : Program) (f g : Fun) (k : Change) (count : ℕ)
    → IsExpandedExport p f g k count → IsConstantTime g → SourcesLeakTheSame p f
