-- What the entries before a function state.
use Rattle.std.specs.Prelude.{ℕ, if◌then◌else◌, List, [], ◌∷◌, map, flat_map, Option, Some, None}
use Rattle.std.specs.List.{filter_map}
use Rattle.jz_tree.specs.Span.{Span}
use Rattle.jz_tree.specs.declared.program.Fun.{Fun}
use Rattle.jz_tree.specs.declared.program.Note.{Note}
use Rattle.jz_type_names.specs.Scopes.{Name}
use Rattle.jz_type_names.specs.Tables.{first_place}
use Rattle.jz_annotations.specs.declared.precondition.Pre.{Pre}
use Rattle.jz_annotations.specs.declared.precondition.Pre.TheVariants.{Region, Range, Align}
use Rattle.jz_annotations.specs.Sayings.{said}
use Rattle.jz_preconditions.specs.declared.stated.Stated.{Stated}
use Rattle.jz_preconditions.specs.Naming.{ParametersByName, parameters_of, names_parameters}
use Rattle.jz_preconditions.specs.Bounds.{Bounds, range_of, multiple_of}

-- where it stands, if it names parameters
abbrev pub stated_at : ParametersByName → Span → Option Pre → Option Stated
stated_at ps at None = None
stated_at ps at (Some p) =
    if names_parameters ps p then Some (record { pre = p; span = at }) else None

-- what an entry states: what its string says, over parameters
abbrev pub stated_by : ParametersByName → Note → Option Stated
stated_by ps n = stated_at ps n.span (said n)

abbrev pub stated_in : ParametersByName → List Note → List Stated
stated_in ps notes = filter_map (stated_by ps) notes

abbrev pub pres_of : List Stated → List Pre
pres_of ss = map (λ s. s.pre) ss

-- the preconditions of a function, in the order of its text
abbrev pub preconditions_of : Fun → List Pre
preconditions_of f = pres_of (stated_in (parameters_of f) f.notes)

-- nothing, or one
abbrev pub some_of : {A : Type 0} → Option A → List A
some_of None = []
some_of (Some a) = a ∷ []

-- ---- what is asked of each name
-- the name that a range or an alignment has, and its place
abbrev pub bound_by : Span → Pre → List Name
bound_by at (Region p factor v constant) = []
bound_by at (Range x low high) = (x, at) ∷ []
bound_by at (Align p multiple) = (p, at) ∷ []

abbrev pub bound_names : List Stated → List Name
bound_names ss = flat_map (λ s. bound_by s.span s.pre) ss

-- where the first range or alignment of a name stands
abbrev pub place_of : List Stated → List ℕ → Option Span
place_of ss n = first_place n (bound_names ss)

abbrev pub bounds_of : ParametersByName → List Stated → Bounds
bounds_of ps ss =
    record {
      parameter = ps;
      range = range_of (pres_of ss);
      multiple = multiple_of (pres_of ss);
      place = place_of ss;
    }
