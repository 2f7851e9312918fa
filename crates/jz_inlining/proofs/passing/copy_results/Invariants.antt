use Rattle.std.proofs.Common.{◌≡◌, ◌++◌, drop}
use Rattle.jz_inline.specs.CopiedNames.{names_of}
use Rattle.jz_inline.specs.Statements.{result_statements}
use Rattle.jz_inlining.proofs.passing.copy_results.Given as goal

abbrev pub invariant-loop-i : goal.invariant-loop-i
invariant-loop-i l =
    l.out ++ result_statements (names_of l.outer) (names_of l.inner) l.span (drop l.i l.to) (drop l.i l.vars)
    ≡ l.fn.out ++ result_statements (names_of l.outer) (names_of l.inner) l.span l.to l.vars
