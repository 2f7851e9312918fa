-- Facts over the scalars and the stack arrays of an expanded function, and what is given of its
-- parameters.
use Rattle.std.specs.Prelude.{ℕ, ◌%◌, nat_le, ◌==◌, Bool, false, ◌&&◌, ◌||◌, List, [], ◌∷◌, Option, Some, None, if◌then◌else◌}
use Rattle.x64_insn.specs.Size.{Size}
use Rattle.jz_intervals.specs.declared.interval.Interval.{Interval}
use Rattle.jz_intervals.specs.Intervals.{greatest_word}
pub use Rattle.jz_intervals.specs.Constants.{is_among, greatest, least}
use Rattle.jz_meaning.specs.States.{Key, same_key}
use Rattle.jz_flow.specs.Sets as sets

-- the seven templates; an array is its key without a cell, and the last key of `Under` and `Is` is a
-- parameter, whose value at entry is meant
pub data Fact : Type 0 where
  -- it has a value
  Set : Key → Fact
  -- so has this cell of the array
  Cell : Key → ℕ → Fact
  AtLeast : Key → ℕ → Fact
  AtMost : Key → ℕ → Fact
  -- it is below the parameter; it is what the parameter was
  Under : Key → Key → Fact
  Is : Key → Key → Fact
  Multiple : Key → ℕ → Fact

abbrev pub Facts : Type 0
Facts = sets.Facts Fact

-- the variable, or the array, of a fact
abbrev pub subject : Fact → Key
subject (Set v) = v
subject (Cell a k) = a
subject (AtLeast v c) = v
subject (AtMost v c) = v
subject (Under v x) = v
subject (Is v x) = v
subject (Multiple v m) = v

-- a parameter, with the range and the alignment that its annotations state
pub record Start : Type 0 where
  pub key : Key
  pub size : Size
  pub range : Option Interval
  pub align : Option ℕ

-- `times * by + plus` bytes from what the parameter `of` was
pub record Region : Type 0 where
  pub of : Key
  pub times : ℕ
  pub by : Option Key
  pub plus : ℕ

-- what is given: the constants, the parameters, the regions
pub record Given : Type 0 where
  pub consts : List ℕ
  pub params : List Start
  pub regions : List Region

-- the numbers of which facts say that something is a multiple
abbrev pub multiples : List ℕ
multiples = 2 ∷ 4 ∷ 8 ∷ []

-- ---- parameters

-- what the range says, else what the size does
abbrev pub lo_of : Start → ℕ
lo_of p = by p.range
  where
    by : Option Interval → ℕ
    by None = 0
    by (Some i) = i.lo

abbrev pub hi_of : Start → ℕ
hi_of p = by p.range
  where
    by : Option Interval → ℕ
    by None = greatest_word p.size
    by (Some i) = i.hi

-- the least value that a parameter may have at entry
abbrev pub least_of : List Start → Key → ℕ
least_of [] x = 0
least_of (p ∷ ps) x = if same_key p.key x then lo_of p else least_of ps x

-- ---- what holds at entry: of each parameter that it is set, that it is what it is, and what its
-- range and its alignment give
abbrev pub in_range : Option Interval → (Interval → Bool) → Bool
in_range None is = false
in_range (Some i) is = is i

abbrev pub is_aligned_by : Option ℕ → ℕ → Bool
is_aligned_by None m = false
is_aligned_by (Some k) m = k % m == 0

abbrev pub of_parameter : List ℕ → Start → Facts
of_parameter cs p (Set v) = same_key v p.key
of_parameter cs p (Cell a k) = false
of_parameter cs p (AtLeast v c) =
    same_key v p.key && (is_among c cs && in_range p.range (λ i. nat_le c i.lo))
of_parameter cs p (AtMost v c) =
    same_key v p.key && (is_among c cs && in_range p.range (λ i. nat_le i.hi c))
of_parameter cs p (Under v x) = false
of_parameter cs p (Is v x) = same_key v p.key && same_key x p.key
of_parameter cs p (Multiple v m) =
    same_key v p.key && (is_among m multiples && is_aligned_by p.align m)

abbrev pub of_parameters : List ℕ → List Start → Facts
of_parameters cs [] f = false
of_parameters cs (p ∷ ps) f = of_parameter cs p f || of_parameters cs ps f

abbrev pub at_entry : Given → Facts
at_entry g = of_parameters g.consts g.params

-- ---- what a fact says beside itself

-- the templates and names are the same, and the numbers are equal, or for AtLeast the second is not
-- greater, for AtMost not smaller, for Multiple a divisor
abbrev pub entails : Fact → Fact → Bool
entails (Set v) (Set w) = same_key v w
entails (Cell a k) (Cell b j) = same_key a b && (k == j)
entails (AtLeast v c) (AtLeast w d) = same_key v w && nat_le d c
entails (AtMost v c) (AtMost w d) = same_key v w && nat_le c d
entails (Under v x) (Under w y) = same_key v w && same_key x y
entails (Is v x) (Is w y) = same_key v w && same_key x y
entails (Multiple v m) (Multiple w n) = same_key v w && (m % n == 0)
entails f h = false
