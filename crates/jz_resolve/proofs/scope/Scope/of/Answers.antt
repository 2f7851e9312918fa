use Rattle.jz_type_names.specs.Scopes.{variables_of}
use Rattle.jz_type_names.specs.Tables.{variable_in}
use Rattle.jz_resolve.specs.Tables.{values_in, places_in}
use Rattle.jz_resolve.proofs.Naming.{declares, numbers}
use Rattle.jz_resolve.proofs.scope.Scope.of.Goals as goal

pub returns : goal.returns
returns c =
    let variables = c.in_ok-variables.variables
    in let constants = c.args.constants.now
    in let vs = variables_of c.args.fun.now
    in record {
      declaration = declares (variable_in variables) (places_in constants) (values_in constants) vs c.in_ok-variables.ensures.named;
      number = numbers (variable_in variables) (places_in constants) (values_in constants) vs c.in_ok-variables.ensures.named;
    }
