-- The sums of the code, and what is added to them.
use Rattle.std.specs.Prelude.{ℕ, ◌+◌, ℤ, pos, negsuc, ◌+ℤ◌, ◌-ℤ◌, Bool, true, false, List, [], ◌∷◌, map, reverse, Option, Some, None, option_map}
use Rattle.jz_tree.specs.declared.expr.BinOp.{BinOp}
use Rattle.jz_tree.specs.declared.expr.BinOp.TheVariants as o
use Rattle.jz_meaning.specs.Values.{Ref, ref_of}
use Rattle.jz_terms.specs.Terms.{Term, num, var}
use Rattle.jz_alarms.specs.Conditions as conditions
use Rattle.jz_alarms.specs.Conditions.{joined, taken, sum_of}
use Rattle.jz_wide.specs.Values.{sum}
use Rattle.jz_inside.specs.declared.sums.Join.{Join}
use Rattle.jz_inside.specs.declared.sums.Join.TheVariants as join
use Rattle.jz_inside.specs.declared.sums.Scaled.{Scaled}
use Rattle.jz_inside.specs.declared.sums.Sum.{Sum}

abbrev pub scaled_of : Scaled → Ref × ℕ
scaled_of s = (ref_of s.var.now, s.by)

-- the lists hold the last part of the text first
abbrev pub seen : Sum → conditions.Sum
seen s = record {
  plain = map (λ v. ref_of v.now) (reverse s.plain.items);
  scaled = map scaled_of (reverse s.scaled.items);
  more = pos (sum s.added.items) -ℤ pos (sum s.taken.items);
}

abbrev pub nothing : conditions.Sum
nothing = record { plain = []; scaled = []; more = pos 0 }

abbrev pub without_number : ℤ → conditions.Sum → conditions.Sum
without_number n s = record s { more = s.more -ℤ n }

-- where it is a sum
abbrev pub if_sum : Bool → conditions.Sum → Option conditions.Sum
if_sum true s = Some s
if_sum false s = None

abbrev pub unless_no : Bool → Option Bool
unless_no true = None
unless_no false = Some false

-- a left operand before what was added, where no answer is there
abbrev pub behind : Option Bool → Option conditions.Sum → conditions.Sum → Option conditions.Sum
behind None q s = joined q (Some s)
behind (Some z) q s = if_sum z s

abbrev pub taken_from : conditions.Sum → Term → Option conditions.Sum
taken_from s (num i at) = Some (without_number i s)
taken_from s t = None

abbrev pub factor_of : ℤ → Option ℕ
factor_of (pos n) = Some n
factor_of (negsuc n) = None

abbrev pub factor : Term → Option ℕ
factor (num i at) = factor_of i
factor t = None

abbrev pub variable : Term → Option Ref
variable (var x) = Some x
variable t = None

abbrev pub both : Option ℕ → Option Ref → Option (Ref × ℕ)
both None x = None
both (Some k) None = None
both (Some k) (Some x) = Some (x, k)

abbrev pub scaled : Term → Term → Option (Ref × ℕ)
scaled a b = both (factor a) (variable b)

abbrev pub either : Option (Ref × ℕ) → Option (Ref × ℕ) → Option (Ref × ℕ)
either None b = b
either (Some a) b = Some a

abbrev pub product : Term → Term → Option (Ref × ℕ)
product a b = either (scaled a b) (scaled b a)

abbrev pub of_product : Option (Ref × ℕ) → Option conditions.Sum
of_product None = None
of_product (Some i) = Some (record { plain = []; scaled = i ∷ []; more = pos 0 })

-- how an operation joins a sum and its right operand
abbrev pub join_of : BinOp → Join
join_of o.Add = join.Added
join_of o.Sub = join.Taken
join_of o.Mul = join.Product
join_of op = join.Nothing

abbrev pub sum_as : Join → Term → Term → Option conditions.Sum
sum_as join.Added a b = joined (sum_of a) (sum_of b)
sum_as join.Taken a b = taken (sum_of a) b
sum_as join.Product a b = of_product (product a b)
sum_as join.Nothing a b = None
