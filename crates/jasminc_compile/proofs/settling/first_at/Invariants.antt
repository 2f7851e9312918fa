use Rattle.std.proofs.Common.{take}
use Rattle.std.specs.Prelude.{All}
use Rattle.jasminc_compile.specs.InnerSettling.{IsNotAt}
use Rattle.jasminc_compile.proofs.settling.first_at.Given as goal

abbrev pub invariant-loop-i : goal.invariant-loop-i
invariant-loop-i l = All (IsNotAt l.stage) (take l.i l.outcomes)
