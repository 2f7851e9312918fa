-- What is asked of each parameter, and the least value that is permitted.
use Rattle.std.specs.Prelude.{ℕ, ◌+◌, ◌*◌, ◌/◌, ◌==◌, nat_lt, nat_le, Bool, true, ◌&&◌, if◌then◌else◌, List, [], ◌∷◌, Option, Some, None, unwrap_or}
use Rattle.std.specs.Option.{option_or}
use Rattle.std.specs.Str.{bytes_eq}
use Rattle.jz_tree.specs.Span.{Span}
use Rattle.jz_annotations.specs.declared.precondition.Pre.{Pre}
use Rattle.jz_annotations.specs.declared.precondition.Pre.TheVariants.{Range, Align}
use Rattle.jz_preconditions.specs.declared.least.Interval.{Interval}
use Rattle.jz_preconditions.specs.Naming.{ParametersByName, known_by, values_of}

-- the first value that a list's items give
abbrev pub first_of : {A B : Type 0} → (A → Option B) → List A → Option B
first_of f [] = None
first_of f (x ∷ xs) = option_or (f x) (first_of f xs)

-- ---- the range and the alignment of a name
abbrev pub range_in : List ℕ → Pre → Option Interval
range_in n (Range x low high) =
    if bytes_eq n x then Some (record { low = low; high = high }) else None
range_in n p = None

abbrev pub multiple_in : List ℕ → Pre → Option ℕ
multiple_in n (Align p multiple) = if bytes_eq n p then Some multiple else None
multiple_in n p = None

abbrev pub range_of : List Pre → List ℕ → Option Interval
range_of pres n = first_of (range_in n) pres

abbrev pub multiple_of : List Pre → List ℕ → Option ℕ
multiple_of pres n = first_of (multiple_in n) pres

-- what is asked of each name: its parameter, its range and its alignment, and where the first of
-- both stands
pub record Bounds : Type 0 where
  pub parameter : ParametersByName
  pub range : List ℕ → Option Interval
  pub multiple : List ℕ → Option ℕ
  pub place : List ℕ → Option Span

-- ---- the least permitted value
-- the least multiple of 1, 2, 4 or 8 that is no less than the number
unfoldable pub rounded : ℕ → ℕ → ℕ
rounded multiple n =
    if multiple == 2 then (n + 1) / 2 * 2
    else if multiple == 4 then (n + 3) / 4 * 4
    else if multiple == 8 then (n + 7) / 8 * 8
    else n

abbrev pub low_of : Option Interval → ℕ
low_of None = 0
low_of (Some i) = i.low

abbrev pub is_below : Option Interval → ℕ → Bool
is_below None value = true
is_below (Some i) value = nat_le value i.high

-- the value, if it is one of so many and within the range's end
abbrev pub fitting : ℕ → Option Interval → ℕ → Option ℕ
fitting count range value =
    if nat_lt value count && is_below range value then Some value else None

abbrev pub least_by : ℕ → Option Interval → ℕ → Option ℕ
least_by count range multiple = fitting count range (rounded multiple (low_of range))

abbrev pub least : Bounds → List ℕ → Option ℕ
least b n =
    least_by (values_of (known_by (b.parameter n))) (b.range n) (unwrap_or (b.multiple n) 1)

-- ---- the end of a region
abbrev pub least_or_zero : Bounds → List ℕ → ℕ
least_or_zero b n = unwrap_or (least b n) 0

abbrev pub least_if_named : Bounds → Option (List ℕ) → ℕ
least_if_named b None = 0
least_if_named b (Some n) = least_or_zero b n

abbrev pub end_of : ℕ → ℕ → ℕ → ℕ → ℕ
end_of from factor variable constant = from + (factor * variable + constant)
