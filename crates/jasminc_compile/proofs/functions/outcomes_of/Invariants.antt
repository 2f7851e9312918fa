use Rattle.jasminc_compile.specs.SafeFunctions.{exports_of}
use Rattle.jasminc_compile.proofs.Coming.{HasCome}
use Rattle.jasminc_compile.proofs.functions.outcomes_of.Given as goal

abbrev pub invariant-loop-one : goal.invariant-loop-one
invariant-loop-one l = HasCome l.typed.program (exports_of l.typed.program.funs) l.outcomes l.one-iterator.rest.items
