use Rattle.std.proofs.Common.{◌≡◌}
use Rattle.jz_type_sizes.specs.InnerFound.{found_of}
use Rattle.jz_type_sizes.proofs.forms.truth.Given as goal

abbrev pub invariant-loop-cur : goal.invariant-loop-cur
invariant-loop-cur l = (found_of l.cur).form.truth ≡ (found_of l.e).form.truth
