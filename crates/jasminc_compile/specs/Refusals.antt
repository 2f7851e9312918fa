-- Why an export function is not compiled.
use Rattle.std.specs.Prelude.{◌≡◌, ◌<◌, ℕ, List}
use Rattle.jz_tree.specs.declared.program.Fun.{Fun}
use Rattle.jz_tree.specs.declared.program.Program.{Program}
use Rattle.jz_change.specs.Changes.{Change}
use Rattle.jz_verdict.specs.Expansions.{IsExpansion}
use Rattle.jz_alloc.specs.declared.placing.NoPlace as numbered
use Rattle.jz_code.specs.declared.code.NoCode.TheVariants as no
use Rattle.jz_whole_pipeline.specs.Refused.{stack_end, IsCodeless}
use Rattle.jz_declared.specs.Declared.{held_of}
use Rattle.jz_unplaced.specs.declared.unplaced.Unplaced.{Unplaced}
use Rattle.jz_unplaced.specs.Names.{refusal_of}
use Rattle.jasminc_compile.specs.declared.outcome.Unmade.{Unmade}
use Rattle.jasminc_compile.specs.declared.outcome.Unmade.TheVariants as unmade

-- the stack variables of an expansion of f end behind 65,536 bytes
pub record IsTooLarge (p : Program) (f : Fun) : Type 0 where
  pub expanded : Fun
  pub change : Change
  pub count : ℕ
  pub expansion : IsExpansion p f expanded change count
  pub over : 65536 < stack_end expanded

-- first fit leaves this variable of the operations of an expansion of f without a place
pub record LeavesUnplaced (p : Program) (f : Fun) (u : Unplaced) : Type 0 where
  pub expanded : Fun
  pub change : Change
  pub count : ℕ
  pub expansion : IsExpansion p f expanded change count
  pub refusal : numbered.NoPlace
  pub codeless : IsCodeless expanded (no.Place refusal)
  pub named : u ≡ refusal_of (held_of expanded) refusal

-- the function of this name
abbrev pub IsTooLargeFun : Program → Fun → List ℕ → Type 0
IsTooLargeFun p f name = (name ≡ f.name) × IsTooLarge p f

abbrev pub IsUnmade : Program → Fun → Unmade → Type 0
IsUnmade p f (unmade.Frame name) = IsTooLargeFun p f name
IsUnmade p f (unmade.NoPlace u) = LeavesUnplaced p f u
