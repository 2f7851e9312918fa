-- Export functions that were found to be safe.
use Rattle.std.specs.Prelude.{◌≡◌, List, Some, None, slice_get}
use Rattle.std.specs.List.{filter, AllZip}
use Rattle.jz_tree.specs.declared.program.Fun.{Fun}
use Rattle.jz_tree.specs.declared.program.Program.{Program}
use Rattle.jz_type_rows.specs.Exports.{is_exported}
use Rattle.jz_preconditions.specs.Stating.{preconditions_of}
use Rattle.jasminc_check.specs.FirstAlarms.{HasFirstAlarm}
use Rattle.jz_whole_pipeline.specs.Texts.{IsExpandedFrom}
use Rattle.jasminc_check.specs.Ready.{IsReadyAt}
use Rattle.jasminc_compile.specs.declared.safety.SafeFun.{SafeFun}

-- the export functions of a list, in its order
abbrev pub exports_of : List Fun → List Fun
exports_of fs = filter (λ f. is_exported f.kind) fs

-- the function f stands at this place, and this is its expansion, which has no alarm
pub record IsSafeFun (p : Program) (f : Fun) (s : SafeFun) : Type 0 where
  pub ready : IsReadyAt p s.place
  pub there : slice_get p.funs s.place ≡ Some f
  pub from : IsExpandedFrom p f s.safe.expanded
  pub none : HasFirstAlarm s.safe.expanded.fun (preconditions_of f) None

-- one for each export function of the program
abbrev pub AreSafe : Program → List SafeFun → Type 0
AreSafe p ss = AllZip (IsSafeFun p) (exports_of p.funs) ss
