-- What an input has to be for preconditions to hold of it.
use Rattle.std.specs.Prelude.{◌≡◌, ◌<◌, ◌≤◌, ◌↔◌, ℕ, ◌+◌, ◌*◌, ◌^◌, if◌then◌else◌, List, [], ◌∷◌, map, All, Any, flat_map, Option, Some, None, IsSome, ⊤}
use Rattle.std.specs.List.{AllZip}
use Rattle.std.specs.Str.{bytes_eq}
use Rattle.std.specs.FinMap.{get}
use Rattle.jz_tree.specs.Memory.{Memory}
use Rattle.jz_tree.specs.declared.program.Fun.{Fun}
use Rattle.jz_tree.specs.declared.program.Param.{Param}
use Rattle.jz_type_names.specs.Kinds.{known_of}
use Rattle.jz_type_names.specs.Scopes.{text_of_param}
use Rattle.jz_annotations.specs.declared.precondition.Pre.{Pre}
use Rattle.jz_annotations.specs.declared.precondition.Pre.TheVariants.{Region, Range, Align}
use Rattle.jz_preconditions.specs.Naming.{values_of}
use Rattle.jz_preconditions.specs.Stating.{preconditions_of}

-- ---- ranges of bytes
-- so many bytes from an address on
pub record ByteRange : Type 0 where
  pub from : ℕ
  pub count : ℕ

-- an address is one of them
abbrev pub IsIn : ByteRange → ℕ → Type 0
IsIn r q = (r.from ≤ q) × (q < r.from + r.count)

-- in one of them
abbrev pub IsInOne : List ByteRange → ℕ → Type 0
IsInOne rs q = Any (λ r. IsIn r q) rs

-- the byte at an address is valid
abbrev pub IsValid : Memory → ℕ → Type 0
IsValid m q = IsSome (get m q)

-- a range ends at 2 ^ 64 or before
abbrev pub IsBelowEnd : ByteRange → Type 0
IsBelowEnd r = r.from + r.count ≤ 2 ^ 64

-- ---- words by the names of their parameters
-- the word of the first of that name
abbrev pub word_named : List (List ℕ) → List ℕ → List ℕ → Option ℕ
word_named [] words n = None
word_named (m ∷ names) [] n = None
word_named (m ∷ names) (w ∷ words) n =
    if bytes_eq n m then Some w else word_named names words n

-- that of a name, where there is one
abbrev pub word_if_named : List (List ℕ) → List ℕ → Option (List ℕ) → Option ℕ
word_if_named names words None = None
word_if_named names words (Some n) = word_named names words n

-- ---- preconditions
-- how many bytes a region has: factor * variable + constant, as a whole number
abbrev pub extent : ℕ → Option ℕ → ℕ → ℕ
extent factor None constant = constant
extent factor (Some v) constant = factor * v + constant

-- the region at an address, where there is one
abbrev pub region_at : Option ℕ → ℕ → List ByteRange
region_at None count = []
region_at (Some from) count = record { from = from; count = count } ∷ []

-- the region that a precondition declares, for these words
abbrev pub region_of : List (List ℕ) → List ℕ → Pre → List ByteRange
region_of names words (Region p factor v constant) =
    region_at (word_named names words p) (extent factor (word_if_named names words v) constant)
region_of names words (Range x low high) = []
region_of names words (Align p multiple) = []

-- the regions that preconditions declare, in their order
abbrev pub regions_of : List (List ℕ) → List Pre → List ℕ → List ByteRange
regions_of names pres words = flat_map (region_of names words) pres

-- what a precondition asks of a word
abbrev pub IsBetween : Option ℕ → ℕ → ℕ → Type 0
IsBetween None low high = ⊥
IsBetween (Some w) low high = (low ≤ w) × (w ≤ high)

abbrev pub IsMultiple : Option ℕ → ℕ → Type 0
IsMultiple None m = ⊥
IsMultiple (Some w) m = (k : ℕ) × (w ≡ k * m)

-- a variable that a region names is a parameter
abbrev pub IsNamed : List (List ℕ) → List ℕ → Option (List ℕ) → Type 0
IsNamed names words None = ⊤
IsNamed names words (Some n) = IsSome (word_named names words n)

-- a range and an alignment hold of their parameter, and a region begins at one
abbrev pub IsMet : List (List ℕ) → List ℕ → Pre → Type 0
IsMet names words (Region p factor v constant) =
    IsSome (word_named names words p) × IsNamed names words v
IsMet names words (Range x low high) = IsBetween (word_named names words x) low high
IsMet names words (Align p multiple) = IsMultiple (word_named names words p) multiple

-- ---- inputs
abbrev pub names_of : Fun → List (List ℕ)
names_of f = map text_of_param f.params

-- a word of a parameter's size
abbrev pub IsArgument : Param → ℕ → Type 0
IsArgument p w = w < values_of (known_of p.var)

-- the regions that a function declares, for these argument words
abbrev pub regions_for : Fun → List ℕ → List ByteRange
regions_for f words = regions_of (names_of f) (preconditions_of f) words

-- An input that meets the preconditions of a function: its argument words, each of its parameter's
-- size, and a memory of exactly the regions' bytes. A region has as many bytes as the whole number
-- says, and ends at 2 ^ 64 or before.
pub record MeetsPreconditions (f : Fun) (words : List ℕ) (memory : Memory) : Type 0 where
  pub sizes : AllZip IsArgument f.params words
  pub met : All (IsMet (names_of f) words) (preconditions_of f)
  pub below_end : All IsBelowEnd (regions_for f words)
  pub covered : (q : ℕ) → IsValid memory q ↔ IsInOne (regions_for f words) q
  pub bytes : (q b : ℕ) → get memory q ≡ Some b → b < 256
