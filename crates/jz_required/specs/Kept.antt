-- Parts and what has to be public, as the code keeps them.
use Rattle.std.specs.Prelude.{List, map}
use Rattle.jz_labels.specs.Required as labels
use Rattle.jz_layers.specs.Spots.{variable_key}
use Rattle.jz_required.specs.declared.part.Part.{Part}
use Rattle.jz_required.specs.declared.part.Part.TheVariants as part
use Rattle.jz_required.specs.declared.part.Reason.{Reason}
use Rattle.jz_required.specs.declared.part.Reason.TheVariants as reason
use Rattle.jz_required.specs.declared.part.Required.{Required}
use Rattle.jz_required.specs.declared.found.Found.{Found}
use Rattle.jz_required.specs.Readings.{Origin, memory, of_scalar, of_array, Demand, Reading}

abbrev pub origin_of : Part → Origin
origin_of part.Memory = memory
origin_of (part.Scalar x) = of_scalar (variable_key x.now)
origin_of (part.Array x) = of_array (variable_key x.now)

abbrev pub reason_of : Reason → labels.Reason
reason_of reason.Branch = labels.Branch
reason_of reason.Address = labels.Address
reason_of reason.Divide = labels.Divide

abbrev pub demand_of : Required → Demand
demand_of r = record { span = r.span; why = reason_of r.why; origin = origin_of r.part }

abbrev pub origins_of : List Part → List Origin
origins_of ps = map origin_of ps

abbrev pub demands_of : List Required → List Demand
demands_of rs = map demand_of rs

abbrev pub reading_of : Found → Reading
reading_of f = record { origins = origins_of f.parts; demands = demands_of f.required }
