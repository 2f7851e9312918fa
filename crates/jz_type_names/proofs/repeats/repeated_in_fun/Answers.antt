use Rattle.std.proofs.Common.{◌∙◌}
use Rattle.jz_type_names.proofs.RepeatedLaws.{in_fun_is}
use Rattle.jz_type_names.proofs.repeats.repeated_in_fun.Goals as goal

pub returns : goal.returns
returns c = c.earlier_of.ensures.is ∙ in_fun_is c.args.fun.now _ _ c.in_ok-declared.ensures c.in_ok-set.ensures
