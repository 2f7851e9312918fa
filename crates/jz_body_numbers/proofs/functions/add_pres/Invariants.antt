use Rattle.std.proofs.Common.{◌≡◌, ◌++◌, drop}
use Rattle.jz_body_numbers.specs.Numbers.{of_pres}
use Rattle.jz_body_numbers.proofs.functions.add_pres.Given as goal

abbrev pub invariant-loop-pre : goal.invariant-loop-pre
invariant-loop-pre l = l.out.items ++ of_pres (drop l.pre-index l.pre-items) ≡ l.fn.out.items ++ of_pres l.pre-items
