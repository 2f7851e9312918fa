-- What the code that finds sums keeps.
use Rattle.std.specs.Prelude.{◌≡◌, ℕ, ◌+◌, ◌%◌, ◌^◌, ◌≤◌, IsTrue, ◌++◌, length, Option, ℤ}
use Rattle.jz_words.specs.declared.size.Size.TheVariants.{S64}
use Rattle.jz_words.specs.Words.{residue}
use Rattle.jz_tree.specs.Span.{Span}
use Rattle.jz_tree.specs.declared.expr.Expr.{Expr}
use Rattle.jz_tree.specs.declared.expr.Expr.TheVariants as expr
use Rattle.jz_operations.specs.declared.operation.Address.{Address}
use Rattle.jz_homes.specs.Homes.{Homes}
use Rattle.jz_homes.specs.Sums.{Sum, IsSum, IsAddress, IsIndex}
use Rattle.jz_operands.specs.declared.sums.Term.{Term}
use Rattle.jz_operands.specs.declared.sums.Terms.{Terms}
use Rattle.jz_operands.specs.Refusals.{is_scale}
use Rattle.jz_operands.specs.SumTerms.{pairs_of}

-- the terms of a sum before others; numbers are taken modulo 2^64
pub record Joins (t : Sum) (rest all : Terms) : Type 0 where
  pub terms : pairs_of all.found ≡ t.terms ++ pairs_of rest.found
  pub number : all.number % 2 ^ 64 ≡ (residue S64 t.number + rest.number) % 2 ^ 64

-- the expression is a sum, whose terms stand before others
pub record SumsBefore (home : Homes) (e : Expr) (rest all : Terms) : Type 0 where
  pub sum : Sum
  pub is : IsSum home e sum
  pub joins : Joins sum rest all

-- the expression is an address
pub record IsAddressOf (home : Homes) (e : Expr) (m : Address) : Type 0 where
  pub sum : Sum
  pub is : IsSum home e sum
  pub address : IsAddress sum m

-- of two terms the base, the index and its factor
pub data IsBased (t u : Term) : ℕ → ℕ → ℕ → Type 0 where
  base_first : t.factor ≡ 1 → IsBased t u t.variable u.variable u.factor
  base_second : (t.factor ≡ 1 → ⊥) → u.factor ≡ 1 → IsBased t u u.variable t.variable t.factor

-- the expression is an index of a stack array
pub record IsIndexOf (home : Homes) (e : Expr) (b : Option ℕ) (i : ℤ) : Type 0 where
  pub sum : Sum
  pub is : IsSum home e sum
  pub index : IsIndex sum b i

-- ---- what is not found
-- it is no sum whose terms have room before others
abbrev pub NeverBefore : Homes → Expr → Terms → Type 0
NeverBefore home e rest =
    (t : Sum) → IsSum home e t → length t.terms + length (pairs_of rest.found) ≤ 2 → ⊥

abbrev pub NeverNumber : Expr → Type 0
NeverNumber e = (i : ℤ) (at : Span) → e ≡ expr.Num i at → ⊥

abbrev pub NeverBased : Term → Term → Type 0
NeverBased t u = (b j k : ℕ) → IsBased t u b j k → IsTrue (is_scale k) → ⊥
