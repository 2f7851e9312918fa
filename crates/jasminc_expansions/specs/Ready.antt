-- Functions of a typed text whose export functions are within the limits.
use Rattle.std.specs.Prelude.{◌≡◌, ◌<◌, ℕ, true, All, length, Some, slice_get}
use Rattle.jz_tree.specs.declared.program.Fun.{Fun}
use Rattle.jz_tree.specs.declared.program.Program.{Program}
use Rattle.jz_type_rows.specs.Exports.{is_exported}
use Rattle.jz_types.specs.TypedPrograms.{IsTypedProgram}
use Rattle.jz_texts.specs.Texts.{IsText}
use Rattle.jz_first_limit.specs.FirstLimits.{IsWithinLimits}
use Rattle.jasminc_source.specs.Exports.{WithinIfExported}

-- the function at that place is an export function within the limits
pub record IsReadyAt (p : Program) (place : ℕ) : Type 0 where
  pub typed : IsTypedProgram p
  pub text : IsText p
  pub function : Fun
  pub there : slice_get p.funs place ≡ Some function
  pub exported : is_exported function.kind ≡ true
  pub within : IsWithinLimits p function

-- a function stands at that place, and each export function is within the limits
pub record IsAmong (p : Program) (place : ℕ) : Type 0 where
  pub typed : IsTypedProgram p
  pub text : IsText p
  pub within : All (WithinIfExported p) p.funs
  pub below : place < length p.funs
