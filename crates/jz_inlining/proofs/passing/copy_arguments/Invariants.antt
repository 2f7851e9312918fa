use Rattle.std.proofs.Common.{◌≡◌, ◌++◌, drop}
use Rattle.jz_inline.specs.CopiedNames.{names_of}
use Rattle.jz_inline.specs.Statements.{argument_statements}
use Rattle.jz_inlining.proofs.passing.copy_arguments.Given as goal

abbrev pub invariant-loop-i : goal.invariant-loop-i
invariant-loop-i l =
    l.out ++ argument_statements (names_of l.outer) (names_of l.inner) l.span (drop l.i l.params) (drop l.i l.args)
    ≡ l.fn.out ++ argument_statements (names_of l.outer) (names_of l.inner) l.span l.params l.args
