-- BadAnnotation: the places of the annotations before an export function that are refused.
use Rattle.std.specs.Prelude.{◌^◌, nat_lt, Bool, true, false, not, ◌||◌, if◌then◌else◌, List, [], ◌∷◌, ◌++◌, flat_map, Option, is_some}
use Rattle.std.specs.List.{list_all}
use Rattle.jz_tree.specs.Span.{Span}
use Rattle.jz_tree.specs.declared.program.Fun.{Fun}
use Rattle.jz_tree.specs.declared.program.Note.{Note}
use Rattle.jz_type_names.specs.Order.{unless}
use Rattle.jz_annotations.specs.declared.precondition.Pre.{Pre}
use Rattle.jz_annotations.specs.declared.precondition.Pre.TheVariants.{Region, Range, Align}
use Rattle.jz_preconditions.specs.declared.stated.Stated.{Stated}
use Rattle.jz_preconditions.specs.Naming.{ParametersByName, parameters_of, is_precondition}
use Rattle.jz_preconditions.specs.Bounds.{Bounds, least, least_or_zero, least_if_named, end_of}
use Rattle.jz_preconditions.specs.Stating.{stated_by, stated_in, some_of, bounds_of}

-- ---- another shape, or names of something else
abbrev pub shapeless_by : Note → Option Stated → List Span
shapeless_by n s = unless (not (is_precondition n) || is_some s) n.span

abbrev pub shapeless_places : ParametersByName → Note → List Span
shapeless_places ps n = shapeless_by n (stated_by ps n)

-- ---- a range without a number
abbrev pub is_empty_range : Pre → Bool
is_empty_range (Region p factor v constant) = false
is_empty_range (Range x low high) = nat_lt high low
is_empty_range (Align p multiple) = false

abbrev pub empty_places : Stated → List Span
empty_places s = unless (not (is_empty_range s.pre)) s.span

-- ---- a range or an alignment of a parameter that has one already
abbrev pub is_again : Bounds → Pre → Bool
is_again b (Region p factor v constant) = false
is_again b (Range x low high) = is_some (b.range x)
is_again b (Align p multiple) = is_some (b.multiple p)

abbrev pub again_places : Bounds → Stated → List Span
again_places b s = unless (not (is_again b s.pre)) s.span

-- those that stand behind the first ones
abbrev pub repeated_after : ParametersByName → List Stated → List Stated → List Span
repeated_after ps before [] = []
repeated_after ps before (s ∷ ss) =
    again_places (bounds_of ps before) s ++ repeated_after ps (before ++ s ∷ []) ss

-- ---- the first range or alignment of a parameter without a permitted value
-- the parameter that a range or an alignment names has a permitted value
abbrev pub has_value : Bounds → Pre → Bool
has_value b (Region p factor v constant) = true
has_value b (Range x low high) = is_some (least b x)
has_value b (Align p multiple) = is_some (least b p)

-- where the first range or alignment of that parameter stands
abbrev pub first_bound : Bounds → Pre → List Span
first_bound b (Region p factor v constant) = []
first_bound b (Range x low high) = some_of (b.place x)
first_bound b (Align p multiple) = some_of (b.place p)

abbrev pub valueless_places : Bounds → Stated → List Span
valueless_places b s = if has_value b s.pre then [] else first_bound b s.pre

-- ---- a region that ends past 2 ^ 63 at the least permitted values, if each parameter has one
abbrev pub is_far : Bounds → Pre → Bool
is_far b (Region p factor v constant) =
    nat_lt (2 ^ 63) (end_of (least_or_zero b p) factor (least_if_named b v) constant)
is_far b (Range x low high) = false
is_far b (Align p multiple) = false

abbrev pub far_places : Bounds → Stated → List Span
far_places b s = unless (not (is_far b s.pre)) s.span

abbrev pub far_in : Bounds → List Stated → List Span
far_in b ss =
    if list_all (λ s. has_value b s.pre) ss then flat_map (far_places b) ss else []

-- ---- all of them
abbrev pub refused_in : ParametersByName → List Note → List Stated → List Span
refused_in ps notes ss =
    flat_map (shapeless_places ps) notes
    ++ flat_map empty_places ss
    ++ repeated_after ps [] ss
    ++ flat_map (valueless_places (bounds_of ps ss)) ss
    ++ far_in (bounds_of ps ss) ss

-- of the entries before a function; before another than an export function they have no effect
abbrev pub refused_places : Fun → List Span
refused_places f =
    refused_in (parameters_of f) f.notes (stated_in (parameters_of f) f.notes)
