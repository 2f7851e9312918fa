use Rattle.std.proofs.Common.{◌≡◌, drop}
use Rattle.jz_type_names.specs.Order.{earlier}
use Rattle.jz_type_sizes.specs.InnerFound.{first_beside}
use Rattle.jz_type_sizes.specs.Calls.{returned_one, none_beyond}
use Rattle.jz_type_sizes.proofs.calls.all_returned.Given as goal

abbrev pub invariant-loop-var : goal.invariant-loop-var
invariant-loop-var l = earlier l.first (first_beside returned_one none_beyond l.rest (drop l.var-index l.vars)) ≡ first_beside returned_one none_beyond l.fn.rets l.fn.vars
