use Rattle.std.proofs.Common.{◌≡◌, take}
use Rattle.jz_unroll.specs.Unrolling.{marked_vars}
use Rattle.jz_unrolling_values.specs.InlineNames.{names_in}
use Rattle.jz_unrolling_values.proofs.inline_vars.InlineVars.plain_among.Given as goal

abbrev pub invariant-loop-var : goal.invariant-loop-var
invariant-loop-var l = l.plain ≡ marked_vars (names_in l.self) (take l.var-index l.vars)
