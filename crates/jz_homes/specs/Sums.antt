-- The sums of addresses and indices: variables with factors, and a number.
use Rattle.std.specs.Prelude.{◌≡◌, ℕ, ◌+◌, ◌*◌, List, [], ◌∷◌, ◌++◌, Option, Some, None, ℤ, pos, ◌+ℤ◌, ◌-ℤ◌}
use Rattle.jz_words.specs.declared.size.Size.TheVariants.{S64}
use Rattle.jz_words.specs.Words.{residue}
use Rattle.jz_words.specs.Readings.{reading_of}
use Rattle.jz_io.specs.declared.span.Span.{Span}
use Rattle.jz_tree.specs.declared.expr.BinOp.TheVariants as op
use Rattle.jz_tree.specs.declared.expr.Expr.{Expr}
use Rattle.jz_tree.specs.declared.expr.Expr.TheVariants as expr
use Rattle.jz_tree.specs.declared.expr.Var.{Var}
use Rattle.jz_meaning.specs.Values.{key_of, ref_of}
use Rattle.jz_operations.specs.declared.operation.Address.{Address}
use Rattle.jz_operations.specs.Values.{State}
use Rattle.jz_operations.specs.Rows.{if_some, narrowed}
use Rattle.jz_homes.specs.Homes.{Homes, in_register}

-- variables with their factors, in the order of the text, and the number beside them
pub record Sum : Type 0 where
  pub terms : List (ℕ × ℕ)
  pub number : ℤ

abbrev pub sum_of : List (ℕ × ℕ) → ℤ → Sum
sum_of ts i = record { terms = ts; number = i }

-- an expression is this sum; only a number is taken away, and a variable has 64 bits
pub data IsSum (home : Homes) : Expr → Sum → Type 0 where
  a_number : (i : ℤ) (at : Span) → IsSum home (expr.Num i at) (sum_of [] i)
  a_variable :
      (x : Var) (n : ℕ) → home (key_of (ref_of x)) ≡ Some (in_register n S64)
      → IsSum home (expr.Var x) (sum_of ((n, 1) ∷ []) (pos 0))
  a_multiple :
      (x : Var) (n : ℕ) (k : ℤ) (at here : Span)
      → home (key_of (ref_of x)) ≡ Some (in_register n S64)
      → IsSum home (expr.Bin op.Mul (expr.Var x) (expr.Num k at) here)
      (sum_of ((n, residue S64 k) ∷ []) (pos 0))
  multiple_of :
      (x : Var) (n : ℕ) (k : ℤ) (at here : Span)
      → home (key_of (ref_of x)) ≡ Some (in_register n S64)
      → IsSum home (expr.Bin op.Mul (expr.Num k at) (expr.Var x) here)
      (sum_of ((n, residue S64 k) ∷ []) (pos 0))
  added :
      {a b : Expr} {t u : Sum} (here : Span) → IsSum home a t → IsSum home b u
      → IsSum home (expr.Bin op.Add a b here)
      (sum_of (t.terms ++ u.terms) (t.number +ℤ u.number))
  less :
      {a : Expr} {t : Sum} (i : ℤ) (at here : Span) → IsSum home a t
      → IsSum home (expr.Bin op.Sub a (expr.Num i at) here) (sum_of t.terms (t.number -ℤ i))

-- what the variables make
abbrev pub total_in : List (ℕ × ℕ) → State → Option ℕ
total_in [] σ = Some 0
total_in (t ∷ ts) σ =
    if_some (narrowed S64 (σ.vars t.0)) (λ x. if_some (total_in ts σ) (λ m. Some (t.1 * x + m)))

-- an address: a base, perhaps an index with a factor, and the signed reading of the number; of two
-- variables with the factor 1 the first is the base
pub data IsAddress : Sum → Address → Type 0 where
  of_base :
      (b : ℕ) (i : ℤ)
      → IsAddress (sum_of ((b, 1) ∷ []) i)
      (record { base = Some b; index = None; disp = reading_of S64 i })
  of_both :
      (b j k : ℕ) (i : ℤ)
      → IsAddress (sum_of ((b, 1) ∷ (j, k) ∷ []) i)
      (record { base = Some b; index = Some (j, k); disp = reading_of S64 i })
  of_swapped :
      (b j k : ℕ) (i : ℤ) → (k ≡ 1 → ⊥)
      → IsAddress (sum_of ((j, k) ∷ (b, 1) ∷ []) i)
      (record { base = Some b; index = Some (j, k); disp = reading_of S64 i })

-- an index of a stack array: a variable or none, and the signed reading of the number
pub data IsIndex : Sum → Option ℕ → ℤ → Type 0 where
  constant : (i : ℤ) → IsIndex (sum_of [] i) None (reading_of S64 i)
  variable : (b : ℕ) (i : ℤ) → IsIndex (sum_of ((b, 1) ∷ []) i) (Some b) (reading_of S64 i)
