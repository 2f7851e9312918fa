-- How many numbers an expression leaks, by its text and by what its variables may hold.
use Rattle.std.specs.Prelude.{ℕ, ◌+◌, ◌==◌, Bool, true, false, not, ◌&&◌, ◌||◌, List, Option, Some, ◌≡◌, if◌then◌else◌, ℤ}
use Rattle.jz_tree.specs.Operators.{joins, divides}
use Rattle.jz_tree.specs.declared.expr.BinOp.{BinOp}
use Rattle.jz_tree.specs.declared.expr.Expr.{Expr}
use Rattle.jz_tree.specs.declared.expr.Expr.TheOpen.{Expr-F}
use Rattle.jz_tree.specs.declared.expr.Expr.TheFolds.{fold-Expr}
use Rattle.jz_meaning.specs.States.{Value, word, boolean, integer, Key, Store}
use Rattle.jz_meaning.specs.Values.{gives_word}

-- what a value is, apart from which one
pub data Sort : Type 0 where
  words : Sort
  flags : Sort
  integers : Sort

abbrev pub sort_of : Value → Sort
sort_of (word s a) = words
sort_of (boolean c) = flags
sort_of (integer i) = integers

-- the sort of each variable, by its name and its copy
abbrev pub Sorts : Type 0
Sorts = List ℕ → ℕ → Sort

-- no variable, and no cell of one, holds something of another sort
abbrev pub HoldsSorts : Sorts → Store → Type 0
HoldsSorts sorts store = (k : Key) (v : Value) → store k ≡ Some v → sort_of v ≡ sorts k.name k.copy

abbrev pub both : Sort → Sort → Sort
both integers integers = integers
both _ _ = words

-- an operation on two integers gives one
abbrev pub sort_of_operation : BinOp → Sort → Sort → Sort
sort_of_operation op a b = if gives_word op then both a b else flags

abbrev pub are_integers : Sort → Sort → Bool
are_integers integers integers = true
are_integers _ _ = false

-- a division shows three numbers, but none where both operands are known when the text is compiled
abbrev pub own_count : BinOp → Sort → Sort → ℕ
own_count op a b = if divides op then (if are_integers a b then 0 else 3) else 0

-- what an expression is
pub record Shape : Type 0 where
  pub sort : Sort
  -- how many numbers it leaks where it is not stuck
  pub count : ℕ
  -- nothing is leaked by a right part of `&&` or `||`, which may be left out
  pub fixed : Bool

abbrev pub operation_shape : BinOp → Shape → Shape → Shape
operation_shape op a b =
    record {
      sort = sort_of_operation op a.sort b.sort;
      count = a.count + (b.count + own_count op a.sort b.sort);
      fixed = a.fixed && (b.fixed && (not (joins op) || (b.count == 0)));
    }

-- what no count needs: types and declarations
abbrev Nothing : Type 0
Nothing = Unit {0}

-- each access to an array or to memory leaks one number, its own
abbrev pub shape_step : Expr-F Shape Nothing Shape Nothing Sort → Shape
shape_step (Expr-F.Num i at) = record { sort = integers; count = 0; fixed = true }
shape_step (Expr-F.Expr::Bool c at) = record { sort = flags; count = 0; fixed = true }
shape_step (Expr-F.Var x) = record { sort = x; count = 0; fixed = true }
shape_step (Expr-F.Cell x i) = record { sort = x; count = i.count + 1; fixed = i.fixed }
shape_step (Expr-F.Load a) = record { sort = words; count = a.count + 1; fixed = a.fixed }
shape_step (Expr-F.Neg a at) = a
shape_step (Expr-F.Not a at) = a
shape_step (Expr-F.Cast size signed a at) = record { sort = words; count = a.count; fixed = a.fixed }
shape_step (Expr-F.Bin op a b at) = operation_shape op a b

abbrev pub shape_of : Sorts → Expr → Shape
shape_of sorts = fold-Expr _ _ _ _ _ shape_step (λ t. tt) (λ a. a.at) (λ d. tt) (λ x. sorts x.name x.copy)

-- integers that inline variables and constants have, by name and copy: a store has no other values
-- there
abbrev pub HoldsIntegers : (List ℕ → ℕ → Option ℤ) → Store → Type 0
HoldsIntegers numbers store = (k : Key) (i : ℤ) (v : Value) → numbers k.name k.copy ≡ Some i → store k ≡ Some v → v ≡ integer i
