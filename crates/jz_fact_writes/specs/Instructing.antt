-- What the left sides of an instruction get, as it is listed.
use Rattle.std.specs.Prelude.{ℕ, ℤ, pos, negsuc, ◌==◌, Bool, true, false, List, [], ◌∷◌, Option, Some, None, map, if◌then◌else◌}
use Rattle.jz_tree.specs.declared.intrinsic.Intrinsic.{Intrinsic}
use Rattle.jz_tree.specs.declared.intrinsic.Intrinsic.TheVariants as name
use Rattle.jz_tree.specs.declared.stmt.Lval.{Lval}
use Rattle.jz_terms.specs.Terms.{Term, num}
use Rattle.jz_facts.specs.Holding as holding
use Rattle.jz_facts.specs.Facts.{Facts, Given}
use Rattle.jz_facts.specs.Holding.{none, some_value, written}
use Rattle.jz_fact_writes.specs.declared.results.Count.{Count}
use Rattle.jz_fact_writes.specs.declared.results.Count.TheVariants as count

-- whether a left side gets a value
abbrev pub got : Bool → holding.Gets
got true = some_value
got false = none

abbrev pub shown : List Bool → List holding.Gets
shown bs = map got bs

abbrev pub count_of : Option ℕ → Count
count_of None = count.Unknown
count_of (Some n) = if n == 0 then count.Zero else if n == 1 then count.One else count.More

-- the number that a term is
abbrev pub written_count : Term → Option ℕ
written_count (num (pos n) at) = Some n
written_count t = None

abbrev pub number_count : ℤ → Count
number_count (pos n) = count_of (Some n)
number_count (negsuc n) = count.Unknown

-- with the word itself
abbrev pub of_shift : Count → List Bool
of_shift count.Unknown = false ∷ false ∷ false ∷ false ∷ false ∷ true ∷ []
of_shift count.Zero = false ∷ false ∷ false ∷ false ∷ false ∷ true ∷ []
of_shift count.One = true ∷ true ∷ true ∷ true ∷ true ∷ true ∷ []
of_shift count.More = false ∷ true ∷ true ∷ true ∷ true ∷ true ∷ []

abbrev pub of_rotation : Count → List Bool
of_rotation count.Unknown = false ∷ false ∷ true ∷ []
of_rotation count.Zero = false ∷ false ∷ true ∷ []
of_rotation count.One = true ∷ true ∷ true ∷ []
of_rotation count.More = false ∷ true ∷ true ∷ []

abbrev pub values_of : Intrinsic → Count → List Bool
values_of name.Inc n = true ∷ true ∷ true ∷ true ∷ true ∷ []
values_of name.Dec n = true ∷ true ∷ true ∷ true ∷ true ∷ []
values_of name.Not n = true ∷ []
values_of name.Bswap n = true ∷ []
values_of name.Lea n = true ∷ []
values_of name.Setcc n = true ∷ []
values_of name.Cmp n = true ∷ true ∷ true ∷ true ∷ true ∷ []
values_of name.Test n = true ∷ true ∷ true ∷ true ∷ true ∷ []
values_of name.Shl n = of_shift n
values_of name.Shr n = of_shift n
values_of name.Sar n = of_shift n
values_of name.Rol n = of_rotation n
values_of name.Ror n = of_rotation n
values_of name.Imul n = true ∷ true ∷ false ∷ false ∷ false ∷ true ∷ []
values_of name.Mul n = true ∷ true ∷ false ∷ false ∷ false ∷ true ∷ true ∷ []
values_of name.Div n = false ∷ false ∷ false ∷ false ∷ false ∷ true ∷ true ∷ []
values_of i n = true ∷ true ∷ true ∷ true ∷ true ∷ true ∷ []

-- the write of the first result, if there is one
abbrev pub next_written : Given → Facts → Lval → List Bool → Facts → Facts
next_written g s d [] x = x
next_written g s d (b ∷ bs) x = written g s d (got b) x
