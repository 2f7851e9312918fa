-- The safety of the function at a place.
use Rattle.std.specs.Prelude.{◌≡◌, ◌⊎◌, ◌++◌, ◌∷◌, [], ℕ, true, false, List, Some, None, slice_get}
use Rattle.jz_tree.specs.declared.program.Fun.{Fun}
use Rattle.jz_tree.specs.declared.program.Program.{Program}
use Rattle.jz_type_rows.specs.Exports.{is_exported}
use Rattle.jz_preconditions.specs.Stating.{preconditions_of}
use Rattle.jasminc_check.specs.FirstAlarms.{HasFirstAlarm}
use Rattle.jz_whole_pipeline.specs.Texts.{IsExpandedFrom}
use Rattle.jz_whole_pipeline.specs.Safe.{Safe}
use Rattle.jasminc_compile.specs.declared.safety.SafeFun.{SafeFun}
use Rattle.jasminc_compile.specs.SafeFunctions.{IsSafeFun}

-- it is the expansion of the function at that place, and has no alarm
pub record IsSafeAt (p : Program) (place : ℕ) (s : Safe) : Type 0 where
  pub function : Fun
  pub there : slice_get p.funs place ≡ Some function
  pub from : IsExpandedFrom p function s.expanded
  pub none : HasFirstAlarm s.expanded.fun (preconditions_of function) None

-- the function at a place behind others, if it is exported
pub record AddsSafe (p : Program) (place : ℕ) (old new : List SafeFun) : Type 0 where
  pub function : Fun
  pub there : slice_get p.funs place ≡ Some function
  pub one :
      ((is_exported function.kind ≡ true) × (s : SafeFun) × IsSafeFun p function s
      × (new ≡ old ++ s ∷ []))
      ⊎ ((is_exported function.kind ≡ false) × (new ≡ old))
