-- Operands and destinations of statements as operands of operations.
use Rattle.std.specs.Prelude.{◌≡◌, ◌<◌, ℕ, List, [], ◌∷◌, Option, Some, None, ℤ, pos}
use Rattle.std.specs.Option.{option_or}
use Rattle.jz_words.specs.declared.size.Size.{Size}
use Rattle.jz_words.specs.Readings.{reading_of}
use Rattle.jz_io.specs.declared.span.Span.{Span}
use Rattle.jz_tree.specs.declared.expr.Expr.{Expr}
use Rattle.jz_tree.specs.declared.expr.Expr.TheVariants as expr
use Rattle.jz_tree.specs.declared.expr.Var.{Var}
use Rattle.jz_tree.specs.declared.expr.Access.{Access}
use Rattle.jz_tree.specs.declared.stmt.Lval.{Lval}
use Rattle.jz_tree.specs.declared.stmt.Lval.TheVariants as lval
use Rattle.jz_meaning.specs.declared.access.Kind.TheVariants as kind
use Rattle.jz_meaning.specs.Values.{key_of, cell_key, ref_of}
use Rattle.jz_operations.specs.declared.operation.Address.{Address}
use Rattle.jz_operations.specs.declared.operation.Arg.{Arg}
use Rattle.jz_operations.specs.declared.operation.Arg.TheVariants as arg
use Rattle.jz_homes.specs.Homes.{Homes, in_register, in_cell}
use Rattle.jz_homes.specs.Sums.{Sum, IsSum, IsAddress, IsIndex}

-- ---- what a part of a statement leaks
pub data Leaks : Type 0 where
  -- nothing
  silent : Leaks
  -- a number that the operation does not show: the index of a cell that the text names
  hidden : Leaks
  -- the number that the operation shows: an address, or an index that a run finds
  told : Leaks

-- what an operation shows of the numbers that a part leaks
abbrev pub shown_of : Leaks → List ℕ → List ℕ
shown_of told ns = ns
shown_of _ ns = []

-- how many numbers a part leaks
abbrev pub count_of : Leaks → ℕ
count_of silent = 0
count_of _ = 1

-- a part leaks these
abbrev pub IsCounted : Leaks → List ℕ → Type 0
IsCounted silent ns = ns ≡ []
IsCounted _ ns = (i : ℕ) × (ns ≡ i ∷ [])

abbrev pub cell_leaks : Option ℕ → Leaks
cell_leaks None = hidden
cell_leaks (Some b) = told

-- ---- operands
-- an array has cells, and all of them are those of a stack variable
abbrev pub AreCells : Homes → Var → Size → ℕ → ℕ → Type 0
AreCells home x z n w =
    ((ref_of x).kind ≡ kind.Array z n)
    × (0 < n)
    × ((i : ℕ) → i < n → home (cell_key (ref_of x) i) ≡ Some (in_cell w i z))

-- an operand of that size, and what it leaks; a number is the signed reading of its word
pub data IsArg (home : Homes) (z : Size) : Expr → Arg → Leaks → Type 0 where
  a_word :
      (x : Var) (n : ℕ) → home (key_of (ref_of x)) ≡ Some (in_register n z)
      → IsArg home z (expr.Var x) (arg.Var n) silent
  a_number :
      (i : ℤ) (at : Span) → IsArg home z (expr.Num i at) (arg.Imm (reading_of z i)) silent
  a_scalar :
      (x : Var) (w : ℕ) → home (key_of (ref_of x)) ≡ Some (in_cell w 0 z)
      → IsArg home z (expr.Var x)
      (arg.Cell (record { of = w; index = None; offset = pos 0 })) silent
  a_cell :
      (x : Var) (e : Expr) (n w : ℕ) (t : Sum) (b : Option ℕ) (i : ℤ)
      → AreCells home x z n w → IsSum home e t → IsIndex t b i
      → IsArg home z (expr.Cell x e)
      (arg.Cell (record { of = w; index = b; offset = i })) (cell_leaks b)
  a_load :
      (a : Access) (t : Sum) (m : Address)
      → option_or a.size (Some z) ≡ Some z → IsSum home a.at t → IsAddress t m
      → IsArg home z (expr.Load a) (arg.Mem m) told

-- a destination of that size, and what it leaks
pub data IsDest (home : Homes) (z : Size) : Lval → Arg → Leaks → Type 0 where
  to_word :
      (x : Var) (n : ℕ) → (ref_of x).kind ≡ kind.Word z
      → home (key_of (ref_of x)) ≡ Some (in_register n z)
      → IsDest home z (lval.Var x) (arg.Var n) silent
  to_scalar :
      (x : Var) (w : ℕ) → (ref_of x).kind ≡ kind.Word z
      → home (key_of (ref_of x)) ≡ Some (in_cell w 0 z)
      → IsDest home z (lval.Var x)
      (arg.Cell (record { of = w; index = None; offset = pos 0 })) silent
  to_cell :
      (x : Var) (e : Expr) (n w : ℕ) (t : Sum) (b : Option ℕ) (i : ℤ)
      → AreCells home x z n w → IsSum home e t → IsIndex t b i
      → IsDest home z (lval.Cell x e)
      (arg.Cell (record { of = w; index = b; offset = i })) (cell_leaks b)
  to_memory :
      (a : Access) (t : Sum) (m : Address)
      → option_or a.size (Some z) ≡ Some z → IsSum home a.at t → IsAddress t m
      → IsDest home z (lval.Store a) (arg.Mem m) told
