-- What the expansion leaves of the parts of statements: each inline part is its value, and each
-- variable is where its declaration says.
use Rattle.std.specs.Prelude.{◌≡◌, ◌&&◌, ℕ, ℤ, Bool, false, Some}
use Rattle.jz_words.specs.declared.size.Size.{Size}
use Rattle.jz_io.specs.declared.span.Span.{Span}
use Rattle.jz_tree.specs.declared.expr.Storage.{Storage}
use Rattle.jz_tree.specs.declared.expr.Storage.TheVariants as storage
use Rattle.jz_tree.specs.declared.expr.BinOp.{BinOp}
use Rattle.jz_tree.specs.declared.expr.Expr.{Expr}
use Rattle.jz_tree.specs.declared.expr.Expr.TheVariants as expr
use Rattle.jz_tree.specs.declared.expr.Var.{Var}
use Rattle.jz_tree.specs.declared.expr.Access.{Access}
use Rattle.jz_tree.specs.declared.stmt.Lval.{Lval}
use Rattle.jz_tree.specs.declared.stmt.Lval.TheVariants as lval
use Rattle.jz_type_names.specs.declared.kinds.Kind as known
use Rattle.jz_type_names.specs.declared.kinds.Kind.TheVariants as scope
use Rattle.jz_type_names.specs.Kinds.{known_of, is_inline}
use Rattle.jz_meaning.specs.declared.access.Kind.TheVariants as kind
use Rattle.jz_meaning.specs.Values.{key_of, ref_of}
use Rattle.jz_homes.specs.Homes.{Homes, in_register, in_flag, in_cell}
use Rattle.jz_homes.specs.Operands.{AreCells}

-- ---- variables
abbrev pub IsDeclared : Var → Storage → known.Kind → Type 0
IsDeclared v s k = known_of v ≡ Some (record { storage = s; kind = k })

-- a word or a bool of a register has a variable, a word of the stack the one cell of a stack
-- variable, and an array of the stack all cells of one
pub data HasHome (home : Homes) (v : Var) : Type 0 where
  a_word :
      (z : Size) (n : ℕ) → IsDeclared v storage.Reg (scope.Word z)
      → (ref_of v).kind ≡ kind.Word z → home (key_of (ref_of v)) ≡ Some (in_register n z)
      → HasHome home v
  a_flag :
      (n : ℕ) → IsDeclared v storage.Reg scope.Truth → (ref_of v).kind ≡ kind.Bool
      → home (key_of (ref_of v)) ≡ Some (in_flag n) → HasHome home v
  a_scalar :
      (z : Size) (w : ℕ) → IsDeclared v storage.Stack (scope.Word z)
      → (ref_of v).kind ≡ kind.Word z → home (key_of (ref_of v)) ≡ Some (in_cell w 0 z)
      → HasHome home v
  an_array :
      (z : Size) (n w : ℕ) → IsDeclared v storage.Stack (scope.Array z) → AreCells home v z n w
      → HasHome home v

-- ---- expressions
-- numbers and bools alone are inline
pub data IsExpanded (home : Homes) : Expr → Type 0 where
  a_number : (i : ℤ) (at : Span) → IsExpanded home (expr.Num i at)
  a_truth : (b : Bool) (at : Span) → IsExpanded home (expr.Bool b at)
  a_variable : (v : Var) → HasHome home v → IsExpanded home (expr.Var v)
  a_cell :
      (v : Var) (i : Expr) → HasHome home v → IsExpanded home i → IsExpanded home (expr.Cell v i)
  a_load : (a : Access) → IsExpanded home a.at → IsExpanded home (expr.Load a)
  a_minus :
      (a : Expr) (at : Span) → is_inline a ≡ false → IsExpanded home a
      → IsExpanded home (expr.Neg a at)
  a_denial :
      (a : Expr) (at : Span) → is_inline a ≡ false → IsExpanded home a
      → IsExpanded home (expr.Not a at)
  a_cast :
      (z : Size) (signed : Bool) (a : Expr) (at : Span) → IsExpanded home a
      → IsExpanded home (expr.Cast z signed a at)
  of_two :
      (o : BinOp) (a b : Expr) (at : Span) → (is_inline a && is_inline b) ≡ false
      → IsExpanded home a → IsExpanded home b → IsExpanded home (expr.Bin o a b at)

-- ---- left sides
pub data IsExpandedLeft (home : Homes) : Lval → Type 0 where
  to_nothing : (at : Span) → IsExpandedLeft home (lval.Skip at)
  to_variable : (v : Var) → HasHome home v → IsExpandedLeft home (lval.Var v)
  to_cell :
      (v : Var) (i : Expr) → HasHome home v → IsExpanded home i
      → IsExpandedLeft home (lval.Cell v i)
  to_memory : (a : Access) → IsExpanded home a.at → IsExpandedLeft home (lval.Store a)
