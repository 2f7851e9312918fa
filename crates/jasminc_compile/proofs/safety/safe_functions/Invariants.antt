use Rattle.std.proofs.Common.{take}
use Rattle.std.specs.List.{AllZip}
use Rattle.jasminc_compile.specs.SafeFunctions.{exports_of, IsSafeFun}
use Rattle.jasminc_compile.proofs.safety.safe_functions.Given as goal

abbrev pub invariant-loop-place : goal.invariant-loop-place
invariant-loop-place l = AllZip (IsSafeFun l.typed.program) (exports_of (take l.place l.typed.program.funs)) l.out
