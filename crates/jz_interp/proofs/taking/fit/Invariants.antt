use Rattle.std.proofs.Common.{drop}
use Rattle.std.specs.Prelude.{◌↔◌}
use Rattle.std.specs.List.{AllZip}
use Rattle.jz_meaning.specs.Values.{ref_of}
use Rattle.jz_meaning.specs.Runs.{FitsKind}
use Rattle.jz_interp.specs.Outcomes.{values_of}
use Rattle.jz_interp.proofs.taking.fit.Given as goal

abbrev pub invariant-loop-i : goal.invariant-loop-i
invariant-loop-i l =
    AllZip (λ q v. FitsKind (ref_of q.var).kind v) (drop l.i l.params) (values_of (drop l.i l.words))
    ↔ AllZip (λ q v. FitsKind (ref_of q.var).kind v) l.params (values_of l.words)
