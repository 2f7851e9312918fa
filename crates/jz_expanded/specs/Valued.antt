-- Expressions and left sides whose inline parts have values and whose other variables have homes.
use Rattle.std.specs.Prelude.{◌≡◌, ◌&&◌, ℕ, Bool, true, false, Some, pos}
use Rattle.jz_words.specs.declared.size.Size.{Size}
use Rattle.jz_tree.specs.Span.{Span}
use Rattle.jz_tree.specs.declared.expr.BinOp.{BinOp}
use Rattle.jz_tree.specs.declared.expr.Access.{Access}
use Rattle.jz_tree.specs.declared.expr.Expr.{Expr}
use Rattle.jz_tree.specs.declared.expr.Expr.TheVariants as expr
use Rattle.jz_tree.specs.declared.expr.Storage.TheVariants as storage
use Rattle.jz_tree.specs.declared.expr.Var.{Var}
use Rattle.jz_tree.specs.declared.stmt.Lval.{Lval}
use Rattle.jz_tree.specs.declared.stmt.Lval.TheVariants as lval
use Rattle.jz_type_names.specs.declared.kinds.Kind.TheVariants as scope
use Rattle.jz_type_names.specs.Kinds.{is_inline}
use Rattle.jz_integers.specs.Integers.{KnownNumbers, inline_value}
use Rattle.jz_integers.specs.declared.constant.Constant.{Constant}
use Rattle.jz_integers.specs.declared.constant.Constant.TheVariants as constant
use Rattle.jz_meaning.specs.Values.{ref_of}
use Rattle.jz_arrays.specs.Cells.{size_at, is_below, scalar}
use Rattle.jz_homes.specs.Homes.{Homes}
use Rattle.jz_homes.specs.Operands.{AreCells}
use Rattle.jz_total_rows.specs.Expanded.{IsDeclared, HasHome}

-- an array of the stack, with its cells
pub record IsStackArray (home : Homes) (v : Var) : Type 0 where
  pub size : Size
  pub count : ℕ
  pub variable : ℕ
  pub declared : IsDeclared v storage.Stack (scope.Array size)
  pub cells : AreCells home v size count variable

-- the cell n of a register array, which becomes a word of its own
pub record IsScalarCell (home : Homes) (v : Var) (n : ℕ) : Type 0 where
  pub size : Size
  pub array : size_at v ≡ Some size
  pub below : is_below (ref_of v).kind n ≡ true
  pub word : HasHome home (scalar v size n)

-- by what the inline variables are
pub data IsValued (home : Homes) (k : KnownNumbers) : Expr → Type 0 where
  an_inline :
      (e : Expr) (c : Constant) → is_inline e ≡ true → inline_value k e ≡ Some c
      → IsValued home k e
  a_variable : (v : Var) → HasHome home v → IsValued home k (expr.Var v)
  a_cell :
      (v : Var) (i : Expr) → IsStackArray home v → IsValued home k i
      → IsValued home k (expr.Cell v i)
  a_scalar :
      (v : Var) (i : Expr) (n : ℕ) → IsScalarCell home v n → is_inline i ≡ true
      → inline_value k i ≡ Some (constant.Int (pos n)) → IsValued home k (expr.Cell v i)
  a_load : (a : Access) → IsValued home k a.at → IsValued home k (expr.Load a)
  a_minus :
      (a : Expr) (at : Span) → is_inline a ≡ false → IsValued home k a
      → IsValued home k (expr.Neg a at)
  a_denial :
      (a : Expr) (at : Span) → is_inline a ≡ false → IsValued home k a
      → IsValued home k (expr.Not a at)
  a_cast :
      (z : Size) (signed : Bool) (a : Expr) (at : Span) → IsValued home k a
      → IsValued home k (expr.Cast z signed a at)
  of_two :
      (o : BinOp) (a b : Expr) (at : Span) → (is_inline a && is_inline b) ≡ false
      → IsValued home k a → IsValued home k b → IsValued home k (expr.Bin o a b at)

pub data IsValuedLeft (home : Homes) (k : KnownNumbers) : Lval → Type 0 where
  to_nothing : (at : Span) → IsValuedLeft home k (lval.Skip at)
  to_variable : (v : Var) → HasHome home v → IsValuedLeft home k (lval.Var v)
  to_cell :
      (v : Var) (i : Expr) → IsStackArray home v → IsValued home k i
      → IsValuedLeft home k (lval.Cell v i)
  to_scalar :
      (v : Var) (i : Expr) (n : ℕ) → IsScalarCell home v n → is_inline i ≡ true
      → inline_value k i ≡ Some (constant.Int (pos n)) → IsValuedLeft home k (lval.Cell v i)
  to_memory : (a : Access) → IsValued home k a.at → IsValuedLeft home k (lval.Store a)
