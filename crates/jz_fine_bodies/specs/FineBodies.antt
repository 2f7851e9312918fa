-- Bodies that are expanded, typed, have the classes of rows and pass no limit are of the forms of which
-- a run is stuck only where a condition is not met.
use Rattle.std.specs.Prelude.{Bool}
use Rattle.jz_meaning.specs.States.{Key}
use Rattle.jz_meaning.specs.Statements.{Block}
use Rattle.jz_run_laws.specs.Kinds.{Kinds}
use Rattle.jz_flow.specs.Soundness.{AllAre}
use Rattle.jz_kept_types.specs.Operations.{IsTypedBody}
use Rattle.jz_fine_rows.specs.RowClasses.{IsClassedBody}
use Rattle.jz_fact_runs.specs.Fine.{IsFine, IsFineTest}
use Rattle.jz_plain_expansions.specs.PlainExpansions.{IsPlainBody, IsWithinBody}

abbrev pub BodiesAreFine : Type 0
BodiesAreFine =
    (kinds : Kinds) (in_frame : Key → Bool) (b : Block)
    → IsPlainBody kinds in_frame b → IsTypedBody b → IsClassedBody b → IsWithinBody b
    → AllAre (IsFine kinds in_frame) (IsFineTest kinds in_frame) b
