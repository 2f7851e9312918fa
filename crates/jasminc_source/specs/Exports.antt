-- Export functions: those of a name, and the limits of their expansion.
use Rattle.std.specs.Prelude.{◌≡◌, ℕ, Bool, true, ◌&&◌, List, ◌∷◌, ◌++◌, find, All, Option, Some}
use Rattle.std.specs.Prelude.{slice_get}
use Rattle.std.specs.Str.{bytes_eq}
use Rattle.jz_tree.specs.declared.program.Fun.{Fun}
use Rattle.jz_tree.specs.declared.program.Program.{Program}
use Rattle.jz_type_rows.specs.Exports.{is_exported}
use Rattle.jz_limits.specs.declared.limit.Limit.{Limit}
use Rattle.jz_first_limit.specs.FirstLimits.{IsWithinLimits, PassesFirst}
use Rattle.jasminc_source.specs.declared.limits.FunLimit.{FunLimit}

-- ---- by name
abbrev pub has_name : List ℕ → Fun → Bool
has_name name f = is_exported f.kind && bytes_eq f.name name

-- the first export function of that name
abbrev pub export_named : List ℕ → List Fun → Option Fun
export_named name funs = find (has_name name) funs

-- it stands there
pub record IsFoundAt (name : List ℕ) (funs : List Fun) (place : ℕ) : Type 0 where
  pub function : Fun
  pub there : slice_get funs place ≡ Some function
  pub named : export_named name funs ≡ Some function

-- ---- limits
abbrev pub WithinIfExported : Program → Fun → Type 0
WithinIfExported p f = is_exported f.kind ≡ true → IsWithinLimits p f

abbrev pub PassesIfExported : Program → Fun → Limit → Type 0
PassesIfExported p f limit = (is_exported f.kind ≡ true) × PassesFirst p f limit

-- Of the program's export functions the first that passes a limit is this one, and it passes this
-- limit first.
pub record HasLimit (p : Program) (l : FunLimit) : Type 0 where
  pub front : List Fun
  pub function : Fun
  pub rest : List Fun
  pub split : p.funs ≡ front ++ function ∷ rest
  pub earlier : All (WithinIfExported p) front
  pub named : l.fun ≡ function.name
  pub passes : PassesIfExported p function l.limit
