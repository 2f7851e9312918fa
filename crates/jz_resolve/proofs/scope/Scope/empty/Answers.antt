use Rattle.std.proofs.Common.{[]}
use Rattle.jz_type_names.specs.Tables.{variable_in}
use Rattle.jz_resolve.specs.Tables.{values_in, places_in}
use Rattle.jz_resolve.proofs.Naming.{declares, numbers}
use Rattle.jz_resolve.proofs.scope.Scope.empty.Goals as goal

pub returns : goal.returns
returns c =
    let constants = c.args.constants.now
    in record {
      declaration = declares (variable_in c.empty.result) (places_in constants) (values_in constants) [] c.empty.ensures.named;
      number = numbers (variable_in c.empty.result) (places_in constants) (values_in constants) [] c.empty.ensures.named;
    }
