use Rattle.std.proofs.Common.{◌≡◌, ◌++◌, drop, map}
use Rattle.std.specs.List.{zip}
use Rattle.jz_meaning.specs.Values.{ref_of}
use Rattle.jz_interp.specs.Outcomes.{values_of}
use Rattle.jasminc_calls.specs.Calls.{argument, argument_values}
use Rattle.jasminc_calls.proofs.calls.arguments.Given as goal

abbrev pub invariant-loop-i : goal.invariant-loop-i
invariant-loop-i l =
    values_of l.words ++ map (λ p. argument (ref_of p.0.var).kind p.1) (zip (drop l.i l.params) (drop l.i l.items))
    ≡ argument_values l.params l.items
