-- The run of the function at a place, in parts.
use Rattle.std.specs.Prelude.{◌≡◌, ℕ, true, List, length, Some, Result, Ok, Err, slice_get}
use Rattle.jz_tree.specs.declared.program.Fun.{Fun}
use Rattle.jz_tree.specs.declared.program.Program.{Program}
use Rattle.jz_type_rows.specs.Exports.{is_exported}
use Rattle.jz_types.specs.TypedPrograms.{IsTypedProgram}
use Rattle.jz_annotations.specs.declared.precondition.Pre.{Pre}
use Rattle.jz_items.specs.declared.item.Item.{Item}
use Rattle.jasminc_calls.specs.declared.calls.Called.{Called}
use Rattle.jasminc_calls.specs.Calls.{AllHold, BreaksFirst}
use Rattle.jasminc_calls.specs.Fitting.{Suits}
use Rattle.jasminc_interp.specs.declared.refused.Refused.{Refused}
use Rattle.jasminc_interp.specs.declared.refused.Refused.TheVariants.{Unmet, Items}
use Rattle.jasminc_interp.specs.declared.telling.Ran.{Ran}
use Rattle.jasminc_interp.specs.Runs.{RunsOn}

-- the program is typed, and there is an export function at that place
pub record IsExportAt (p : Program) (place : ℕ) : Type 0 where
  pub typed : IsTypedProgram p
  pub function : Fun
  pub there : slice_get p.funs place ≡ Some function
  pub exported : is_exported function.kind ≡ true

-- there are as many items as parameters, the preconditions hold of them, and the function is run on
-- this
pub record IsReady (p : Program) (place : ℕ) (items : List Item) (c : Called) : Type 0 where
  pub at : IsExportAt p place
  pub suits : Suits at.function items c

-- the run of the function at that place
pub record RunsAt (p : Program) (place : ℕ) (items : List Item) (fuel : ℕ) (ran : Ran) : Type 0 where
  pub function : Fun
  pub there : slice_get p.funs place ≡ Some function
  pub runs : RunsOn p function items fuel ran

-- as many items as it has parameters, of which its preconditions hold, and what is told of its run
pub record IsRunAt (p : Program) (place : ℕ) (items : List Item) (fuel : ℕ) (ran : Ran) : Type 0
  where
    pub function : Fun
    pub there : slice_get p.funs place ≡ Some function
    pub many : length items ≡ length function.params
    pub held : AllHold function items
    pub runs : RunsOn p function items fuel ran

-- it has another number of parameters
pub record DiffersAt (p : Program) (place : ℕ) (items : List Item) : Type 0 where
  pub function : Fun
  pub there : slice_get p.funs place ≡ Some function
  pub differ : length items ≡ length function.params → ⊥

-- a precondition of it does not hold
pub record BreaksAt (p : Program) (place : ℕ) (items : List Item) (pre : Pre) : Type 0 where
  pub function : Fun
  pub there : slice_get p.funs place ≡ Some function
  pub many : length items ≡ length function.params
  pub breaks : BreaksFirst function items pre

abbrev pub FunctionAnswers : Program → ℕ → List Item → ℕ → Result Ran Refused → Type 0
FunctionAnswers p place items fuel (Ok ran) = IsRunAt p place items fuel ran
FunctionAnswers p place items fuel (Err Items) = DiffersAt p place items
FunctionAnswers p place items fuel (Err (Unmet pre)) = BreaksAt p place items pre
FunctionAnswers p place items fuel (Err r) = ⊥
