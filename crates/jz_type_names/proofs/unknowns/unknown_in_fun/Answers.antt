use Rattle.std.proofs.Common.{◌∙◌}
use Rattle.jz_type_names.specs.Tables.{place_in, function_in}
use Rattle.jz_type_names.proofs.UnknownLaws.{fun_is, variables_are}
use Rattle.jz_type_names.proofs.unknowns.unknown_in_fun.Goals as goal

pub returns : goal.returns
returns c =
    let variables = c.in_ok-variables.variables
    in c.earlier_of.ensures.is ∙ fun_is (place_in c.args.constants.now) (function_in c.args.functions.now) (place_in variables) c.args.fun.now _ _
    (variables_are variables c.args.fun.now c.in_ok-variables.ensures) c.in_ok-around.ensures c.in_ok-within.ensures
