-- The terms of a sum as the code has them.
use Rattle.std.specs.Prelude.{◌≡◌, ℕ, ◌%◌, ◌^◌, ◌≤◌, List, [], ◌∷◌, length}
use Rattle.jz_words.specs.declared.size.Size.TheVariants.{S64}
use Rattle.jz_words.specs.Words.{residue}
use Rattle.jz_tree.specs.declared.expr.Expr.{Expr}
use Rattle.jz_homes.specs.Homes.{Homes}
use Rattle.jz_homes.specs.Sums.{Sum, IsSum}
use Rattle.jz_operands.specs.declared.sums.Term.{Term}
use Rattle.jz_operands.specs.declared.sums.Found.{Found}
use Rattle.jz_operands.specs.declared.sums.Found.TheVariants.{Nothing, One, Two}
use Rattle.jz_operands.specs.declared.sums.Terms.{Terms}

abbrev pub pair_of : Term → ℕ × ℕ
pair_of t = (t.variable, t.factor)

abbrev pub pairs_of : Found → List (ℕ × ℕ)
pairs_of Nothing = []
pairs_of (One t) = pair_of t ∷ []
pairs_of (Two t u) = pair_of t ∷ pair_of u ∷ []

-- the sum of an expression, whose terms and number these are
pub record IsWhole (home : Homes) (e : Expr) (all : Terms) : Type 0 where
  pub sum : Sum
  pub is : IsSum home e sum
  pub terms : pairs_of all.found ≡ sum.terms
  pub number : all.number % 2 ^ 64 ≡ residue S64 sum.number

-- it is no sum of two terms at most
abbrev pub NeverWhole : Homes → Expr → Type 0
NeverWhole home e = (t : Sum) → IsSum home e t → length t.terms ≤ 2 → ⊥
