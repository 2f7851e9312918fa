-- The operations of the table of flags, RAX, RDX and RCX do what their statements do.
use Rattle.std.specs.Prelude.{ℕ, List, [], ◌∷◌, ⊤}
use Rattle.x64_insn.specs.declared.types.Place.{Place}
use Rattle.jz_meaning.specs.Statements as source
use Rattle.jz_operations.specs.declared.operation.Operation.{Operation}
use Rattle.jz_operations.specs.Reading.{needs_of}
use Rattle.jz_operations.specs.Standing.{NeedsMet}
use Rattle.jz_placing.specs.Variables.{Asked}
use Rattle.jz_change.specs.declared.change.Numbers.{Numbers}
use Rattle.jz_pass.specs.Cases.{AsMany}
use Rattle.jz_homes.specs.Homes.{Homes}
use Rattle.jz_row_operations.specs.Keeping.{DoesAs, AnswersAs}
use Rattle.jz_flag_rows.specs.Conditions.{LowersFlagTest}
use Rattle.jz_flag_rows.specs.Rows.{LowersFlags}

-- these places are all that each operation needs
abbrev pub AreNeedsMet : (ℕ → Place) → List Operation → Type 0
AreNeedsMet places [] = ⊤
AreNeedsMet places (o ∷ os) = NeedsMet places (needs_of o) × AreNeedsMet places os

-- where some places meet all needs: so the two results of a product or a quotient of two words are
-- not one variable, which would have to stand in RAX and in RDX
abbrev pub FlagRowsKeepRuns : Type 0
FlagRowsKeepRuns =
    (places : ℕ → Place) (home : Homes) (o : source.Operation) (os : List Operation)
    (items : List Numbers)
    → AreNeedsMet places os → LowersFlags home o os items → DoesAs home o os items

abbrev pub FlagTestsKeepRuns : Type 0
FlagTestsKeepRuns =
    (home : Homes) (t : source.Condition) (a : Asked) (i : Numbers)
    → LowersFlagTest home t a i → AnswersAs home t a i

-- an item for each operation
abbrev pub FlagRowsHaveItems : Type 0
FlagRowsHaveItems =
    (home : Homes) (o : source.Operation) (os : List Operation) (items : List Numbers)
    → LowersFlags home o os items → AsMany os items
