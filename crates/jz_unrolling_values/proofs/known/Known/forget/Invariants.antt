use Rattle.std.proofs.Common.{◌≡◌, drop}
use Rattle.jz_unroll.specs.Unrolling.{all_unknown}
use Rattle.jz_unrolling_values.specs.Numbers.{numbers_in, Went}
use Rattle.jz_unrolling_values.proofs.known.Known.forget.Given as goal

abbrev pub invariant-loop-var : goal.invariant-loop-var
invariant-loop-var l =
    (all_unknown (numbers_in l.self) (drop l.var-index l.vars) ≡ all_unknown (numbers_in l.initial.self) l.vars)
    × Went l.initial.self l.self
