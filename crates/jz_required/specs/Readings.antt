-- What terms and operations read, from left to right, and what of it has to be public.
use Rattle.std.specs.Prelude.{Bool, false, List, [], ◌∷◌, ◌++◌, map, Option, Some, None, if◌then◌else◌}
use Rattle.jz_tree.specs.Span.{Span}
use Rattle.jz_tree.specs.Operators.{divides}
use Rattle.jz_meaning.specs.States.{Key}
use Rattle.jz_meaning.specs.Values.{key_of}
use Rattle.jz_terms.specs.Terms.{Term, num, truth, var, cell, load, neg, inv, cast, bin}
use Rattle.jz_labels.specs.Operations.{Left, nothing, scalar, element, bytes, Plain}
use Rattle.jz_labels.specs.Labels as labels
use Rattle.jz_labels.specs.Labels.{Publics, Secret, first}
use Rattle.jz_labels.specs.Required.{Reason, Branch, Address, Divide, Breach, breach_at, begin_of}

-- what is read: memory, a scalar, or an array of which a cell is read
pub data Origin : Type 0 where
  memory : Origin
  of_scalar : Key → Origin
  of_array : Key → Origin

-- an origin that has to be public
pub record Demand : Type 0 where
  pub span : Span
  pub why : Reason
  pub origin : Origin

pub record Reading : Type 0 where
  pub origins : List Origin
  pub demands : List Demand

abbrev pub demands_at : Span → Reason → List Origin → List Demand
demands_at at why os = map (λ o. record { span = at; why = why; origin = o }) os

abbrev pub no_reading : Reading
no_reading = record { origins = []; demands = [] }

abbrev pub one_reading : Origin → Reading
one_reading o = record { origins = o ∷ []; demands = [] }

-- one after another
abbrev pub both_readings : Reading → Reading → Reading
both_readings a b =
    record { origins = a.origins ++ b.origins; demands = a.demands ++ b.demands }

-- an index or an address, which has to be public
abbrev pub place_demands : Span → Reading → List Demand
place_demands at i = i.demands ++ demands_at at Address i.origins

abbrev pub cell_reading : Key → Span → Reading → Reading
cell_reading k at i = record { origins = of_array k ∷ i.origins; demands = place_demands at i }

abbrev pub load_reading : Span → Reading → Reading
load_reading at a = record { origins = memory ∷ []; demands = place_demands at a }

abbrev pub divided : Bool → Span → List Origin → List Demand
divided c at os = if c then demands_at at Divide os else []

abbrev pub operation_reading : Bool → Span → Reading → Reading → Reading
operation_reading c at a b = record {
  origins = a.origins ++ b.origins;
  demands = a.demands ++ (b.demands ++ divided c at (a.origins ++ b.origins));
}

abbrev pub reading : Term → Reading
reading (num i at) = no_reading
reading (truth b at) = no_reading
reading (var x) = one_reading (of_scalar (key_of x))
reading (cell x i) = cell_reading (key_of x) x.span (reading i)
reading (load p a) = load_reading p.span (reading a)
reading (neg a at) = reading a
reading (inv a at) = reading a
reading (cast z sign a at) = reading a
reading (bin op a b at) = operation_reading (divides op) at (reading a) (reading b)

abbrev pub all_readings : List Term → Reading
all_readings [] = no_reading
all_readings (t ∷ ts) = both_readings (reading t) (all_readings ts)

-- all operands of `#DIV` have to be public
abbrev pub division_reading : Option Span → Reading → Reading
division_reading None r = r
division_reading (Some at) r =
    record { origins = r.origins; demands = r.demands ++ demands_at at Divide r.origins }

-- what an operation reads before it writes
abbrev pub right_reading : Plain → Reading
right_reading o = division_reading o.division (all_readings o.reads)

abbrev pub left_demands : Left → List Demand
left_demands nothing = []
left_demands (scalar x) = []
left_demands (element x i) = place_demands x.span (reading i)
left_demands (bytes p a) = place_demands p.span (reading a)

abbrev pub test_demands : Term → List Demand
test_demands t =
    let r = reading t in r.demands ++ demands_at (begin_of t) Branch r.origins

-- ---- by labels

abbrev pub is_public : Publics → Publics → Origin → Bool
is_public arrays s memory = false
is_public arrays s (of_scalar k) = s k
is_public arrays s (of_array k) = arrays k

abbrev pub secret_of : Origin → Secret
secret_of memory = labels.memory
secret_of (of_scalar k) = labels.named k.name k.cell
secret_of (of_array k) = labels.named k.name k.cell

abbrev pub secret_unless : Bool → Origin → Option Secret
secret_unless c o = if c then None else Some (secret_of o)

abbrev pub first_secret : Publics → Publics → List Origin → Option Secret
first_secret arrays s [] = None
first_secret arrays s (o ∷ os) =
    first (secret_unless (is_public arrays s o) o) (first_secret arrays s os)

abbrev pub demand_breach : Bool → Demand → Option Breach
demand_breach c d = breach_at d.span d.why (secret_unless c d.origin)

abbrev pub first_breach : Publics → Publics → List Demand → Option Breach
first_breach arrays s [] = None
first_breach arrays s (d ∷ ds) =
    first (demand_breach (is_public arrays s d.origin) d) (first_breach arrays s ds)
