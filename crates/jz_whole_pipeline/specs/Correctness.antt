-- What compiling an export function promises.
use Rattle.jz_tree.specs.declared.program.Fun.{Fun}
use Rattle.jz_tree.specs.declared.program.Program.{Program}
use Rattle.jz_safe.specs.ExpansionExpanded.{Expanded}
use Rattle.jz_compiling.specs.Functions.{Refuses}
use Rattle.jz_listing.specs.declared.compiled.Compiled.{Compiled}
use Rattle.jz_code.specs.declared.code.NoCode.{NoCode}
use Rattle.jz_compiled.specs.Correct.{IsCompilation}
use Rattle.jz_compiling.specs.declared.compiling.NotCompiled.{NotCompiled}
use Rattle.jz_compiling.specs.declared.compiling.NotCompiled.TheVariants as uncompiled
use Rattle.jz_compiling.specs.Refused.{IsCodeless}
use Rattle.jz_safe.specs.Texts.{IsExpandedFrom}

-- it is correct compilation of each export function of a typed text of which this is the expansion
abbrev pub IsCorrectOf : Expanded → Compiled → Type 0
IsCorrectOf e c = (p : Program) (f : Fun) → IsExpandedFrom p f e → IsCompilation p f c

-- its stack variables are within the limit, and no variable of its operations is left
abbrev pub HasPlaces : Fun → Type 0
HasPlaces g = (why : NoCode) → IsCodeless g why → ⊥

-- its stack variables take too much, or a variable is left without a place; or, before, its
-- operations are refused at a place
abbrev pub IsRefusedFor : Fun → NotCompiled → Type 0
IsRefusedFor g (uncompiled.Code why) = IsCodeless g why
IsRefusedFor g (uncompiled.At at) = Refuses g at
