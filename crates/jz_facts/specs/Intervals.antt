-- The interval of a term, and whether it is a multiple of a number.
use Rattle.std.specs.Prelude.{ℕ, pos, ◌-◌, ◌%◌, ◌^◌, ◌==◌, Bool, true, false, ◌&&◌, ◌||◌, List, [], ◌∷◌, Option, Some, None, min, if◌then◌else◌}
use Rattle.x64_insn.specs.Size.{Size}
use Rattle.x64_insn.specs.Size.TheVariants.{S64}
use Rattle.x64_insn.specs.Words.{residue, modulo}
use Rattle.jz_tree.specs.declared.expr.BinOp.{BinOp}
use Rattle.jz_tree.specs.declared.expr.BinOp.TheVariants as o
use Rattle.jz_meaning.specs.States.{Key}
use Rattle.jz_meaning.specs.Values.{key_of}
use Rattle.jz_meaning.specs.Assignments.{is_bool}
use Rattle.jz_terms.specs.Terms.{Term, num, truth, var, cell, load, neg, inv, cast, bin, size_in}
use Rattle.jz_intervals.specs.declared.interval.Interval.{Interval}
use Rattle.jz_intervals.specs.Intervals.{greatest_word, each_word, only, sum, difference, product, mask, quotient, remainder, shifted_by, fitted}
use Rattle.jz_facts.specs.Facts.{AtLeast, AtMost, Under, Multiple, Facts, Start, Given, greatest, least, hi_of, multiples}

abbrev pub size_or_64 : Option Size → Size
size_or_64 None = S64
size_or_64 (Some z) = z

-- ---- operations, by the intervals of their operands and by the right one as it is written

-- a count that is no number says nothing
abbrev pub of_shift : Size → Interval → Term → Interval
of_shift z i (num (pos n) at) = shifted_by n i
of_shift z i t = each_word z

-- a flag, which may stand on the right of a sum or a difference
abbrev pub is_flag : Term → Bool
is_flag (var x) = is_bool x.kind
is_flag t = false

-- with a flag a sum and a difference say nothing
abbrev pub of_operation : Size → BinOp → Interval → Interval → Term → Interval
of_operation z o.Add i j b = if is_flag b then each_word z else sum z i j
of_operation z o.Sub i j b = if is_flag b then each_word z else difference z i j
of_operation z o.Mul i j b = product z i j
of_operation z o.And i j b = mask i j
of_operation z o.Div i j b = quotient z i j
of_operation z o.Rem i j b = remainder z j
of_operation z o.Shr i j b = of_shift z i b
of_operation z op i j b = each_word z

-- a number that is a multiple
abbrev pub is_number_times : Term → ℕ → Bool
is_number_times (num i at) m = modulo i m == 0
is_number_times t m = false

abbrev pub is_power_times : Term → ℕ → Bool
is_power_times (num (pos n) at) m = 2 ^ n % m == 0
is_power_times t m = false

-- whether an operation gives a multiple, by whether its operands are some, and as they are written
abbrev pub of_multiples : BinOp → Bool → Bool → Term → Term → ℕ → Bool
of_multiples o.Add x y a b m = x && y
of_multiples o.Sub x y a b m = x && y
of_multiples o.Mul x y a b m = x || y
of_multiples o.Shl x y a b m = is_power_times b m
of_multiples o.And x y a b m = is_number_times b m
of_multiples op x y a b m = false

module _ (g : Given) (s : Facts) where
  -- the least range's end, less 1, of the parameters that the variable is below
  abbrev pub under_most : Key → ℕ → List Start → ℕ
  under_most v m [] = m
  under_most v m (p ∷ ps) =
      if s (Under v p.key) then min (hi_of p - 1) (under_most v m ps) else under_most v m ps

  -- the greatest AtLeast and the least AtMost
  abbrev pub of_variable : Size → Key → Interval
  of_variable z v = record {
    lo = min (greatest (λ c. s (AtLeast v c)) g.consts) (greatest_word z);
    hi = under_most v (least (λ c. s (AtMost v c)) (greatest_word z) g.consts) g.params;
  }

  -- of a term as a word of this size; what is cast has its own
  abbrev pub interval : Size → Term → Interval
  interval z (num i at) = only (residue z i)
  interval z (truth b at) = each_word z
  interval z (var x) = of_variable z (key_of x)
  interval z (cell x i) = each_word z
  interval z (load p a) = each_word z
  interval z (neg a at) = each_word z
  interval z (inv a at) = each_word z
  interval z (cast y true a at) = each_word z
  interval z (cast y false a at) = fitted z (interval (size_or_64 (size_in a)) a)
  interval z (bin op a b at) = of_operation z op (interval z a) (interval z b) b

  -- ---- multiples

  abbrev pub has_multiple : Key → ℕ → List ℕ → Bool
  has_multiple v m [] = false
  has_multiple v m (k ∷ ks) = (s (Multiple v k) && (k % m == 0)) || has_multiple v m ks

  -- of 2, 4 or 8
  abbrev pub multiple : Term → ℕ → Bool
  multiple (num i at) m = modulo i m == 0
  multiple (var x) m = has_multiple (key_of x) m multiples
  multiple (bin op a b at) m = of_multiples op (multiple a m) (multiple b m) a b m
  multiple t m = false

  -- each is a multiple of 1
  abbrev pub is_multiple : Term → ℕ → Bool
  is_multiple t m = (m == 1) || multiple t m
