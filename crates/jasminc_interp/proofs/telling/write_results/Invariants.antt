use Rattle.std.proofs.Common.{◌≡◌, ◌++◌, drop, map}
use Rattle.std.specs.List.{concat, zip}
use Rattle.jz_interp.specs.Outcomes.{values_of}
use Rattle.jasminc_interp.specs.Telling.{value_text}
use Rattle.jasminc_interp.proofs.telling.write_results.Given as goal

abbrev pub invariant-loop-i : goal.invariant-loop-i
invariant-loop-i l =
    l.text.items ++ concat (map (λ p. value_text p.0 p.1) (zip (drop l.i l.results) (values_of (drop l.i l.words))))
    ≡ l.initial.text.items ++ concat (map (λ p. value_text p.0 p.1) (zip l.results (values_of l.words)))
