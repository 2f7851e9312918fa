-- What private contracts say of the parts of an operation as the code has them.
use Rattle.std.specs.Prelude.{Bool, List, [], ◌∷◌, ◌++◌}
use Rattle.std.specs.Option.{option_to_list}
use Rattle.jz_operations.specs.declared.rows.Input.{Input}
use Rattle.jz_operations.specs.declared.rows.ThreeInputs.{ThreeInputs}
use Rattle.jz_operations.specs.declared.rows.TwoOutputs.{TwoOutputs}
use Rattle.jz_operations.specs.declared.rows.ChangedFlags.{ChangedFlags}
use Rattle.jz_operations.specs.Rows.{Output}

abbrev pub inputs_of : ThreeInputs → List Input
inputs_of i = option_to_list i.first ++ (option_to_list i.second ++ option_to_list i.third)

abbrev pub outputs_of : TwoOutputs → List Output
outputs_of o = option_to_list o.first ++ option_to_list o.second

abbrev pub changes_of : ChangedFlags → List Bool
changes_of c = c.of ∷ c.cf ∷ c.sf ∷ c.pf ∷ c.zf ∷ []
