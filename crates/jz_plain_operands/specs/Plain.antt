-- What the expansion leaves of the variables, the expressions and the left sides of a function: no
-- inline part but numbers and bools, no cell of an array in registers.
use Rattle.std.specs.Prelude.{◌≡◌, ◌&&◌, ℕ, ℤ, negsuc, Bool, false, Some}
use Rattle.x64_insn.specs.Size.{Size}
use Rattle.jz_tree.specs.Span.{Span}
use Rattle.jz_tree.specs.declared.expr.Storage.{Storage}
use Rattle.jz_tree.specs.declared.expr.Storage.TheVariants as storage
use Rattle.jz_tree.specs.declared.expr.BinOp.{BinOp}
use Rattle.jz_tree.specs.declared.expr.Expr.{Expr}
use Rattle.jz_tree.specs.declared.expr.Expr.TheOpen.{Expr-F}
use Rattle.jz_tree.specs.declared.expr.Expr.TheViews.{out-Expr, out-Access}
use Rattle.jz_tree.specs.declared.expr.Access.{Access}
use Rattle.jz_tree.specs.declared.expr.Var.{Var}
use Rattle.jz_tree.specs.declared.stmt.Lval.{Lval}
use Rattle.jz_tree.specs.declared.stmt.Lval.TheVariants as lval
use Rattle.jz_type_names.specs.declared.kinds.Kind as known
use Rattle.jz_type_names.specs.declared.kinds.Kind.TheVariants as scope
use Rattle.jz_type_names.specs.Kinds.{known_of, is_inline}
use Rattle.jz_judgement.specs.HasType.{Layer}
use Rattle.jz_meaning.specs.declared.access.Kind.TheVariants as kind
use Rattle.jz_meaning.specs.States.{Key}
use Rattle.jz_meaning.specs.Values.{ref_of}
use Rattle.jz_run_laws.specs.Kinds.{Kinds}
use Rattle.jz_terms.specs.Terms.{Term, num}
use Rattle.jz_standing.specs.Typing.{IsScalar, IsArray}

-- ---- variables
abbrev pub HasDeclaration : Var → Storage → known.Kind → Type 0
HasDeclaration v s k = known_of v ≡ Some (record { storage = s; kind = k })

-- a word or a bool of a register, a word of the stack, or an array of the stack
pub data IsPlain (kinds : Kinds) (in_frame : Key → Bool) (v : Var) : Type 0 where
  a_word :
      (z : Size) → HasDeclaration v storage.Reg (scope.Word z) → (ref_of v).kind ≡ kind.Word z
      → IsScalar kinds in_frame (ref_of v) → IsPlain kinds in_frame v
  a_slot :
      (z : Size) → HasDeclaration v storage.Stack (scope.Word z) → (ref_of v).kind ≡ kind.Word z
      → IsScalar kinds in_frame (ref_of v) → IsPlain kinds in_frame v
  a_flag :
      HasDeclaration v storage.Reg scope.Truth → (ref_of v).kind ≡ kind.Bool
      → IsScalar kinds in_frame (ref_of v) → IsPlain kinds in_frame v
  an_array :
      (z : Size) (n : ℕ) → HasDeclaration v storage.Stack (scope.Array z)
      → IsArray kinds in_frame (ref_of v) z n → IsPlain kinds in_frame v

-- ---- how far a shift goes
abbrev pub NotNegative : Term → Type 0
NotNegative (num (negsuc k) at) = ⊥
NotNegative t = Unit {0}

-- ---- expressions, by their outermost forms
mutual
  pub data IsPlainExpr (kinds : Kinds) (in_frame : Key → Bool) : Expr → Type 0 where
    expression : {e : Expr} → IsPlainLayer kinds in_frame (out-Expr e) → IsPlainExpr kinds in_frame e

  pub data IsPlainLayer (kinds : Kinds) (in_frame : Key → Bool) : Layer → Type 0 where
    a_number : {i : ℤ} {at : Span} → IsPlainLayer kinds in_frame (Expr-F.Num i at)
    a_truth : {b : Bool} {at : Span} → IsPlainLayer kinds in_frame (Expr-F.Expr::Bool b at)
    a_variable : {v : Var} → IsPlain kinds in_frame v → IsPlainLayer kinds in_frame (Expr-F.Var v)
    a_cell :
        {v : Var} {i : Expr} → IsPlain kinds in_frame v → IsPlainExpr kinds in_frame i
        → IsPlainLayer kinds in_frame (Expr-F.Cell v i)
    a_load :
        {a : Access} → IsPlainExpr kinds in_frame (out-Access a).at
        → IsPlainLayer kinds in_frame (Expr-F.Load a)
    a_minus :
        {a : Expr} {at : Span} → is_inline a ≡ false → IsPlainExpr kinds in_frame a
        → IsPlainLayer kinds in_frame (Expr-F.Neg a at)
    a_denial :
        {a : Expr} {at : Span} → is_inline a ≡ false → IsPlainExpr kinds in_frame a
        → IsPlainLayer kinds in_frame (Expr-F.Not a at)
    a_cast :
        {z : Size} {signed : Bool} {a : Expr} {at : Span} → IsPlainExpr kinds in_frame a
        → IsPlainLayer kinds in_frame (Expr-F.Cast z signed a at)
    of_two :
        {op : BinOp} {a b : Expr} {at : Span} → (is_inline a && is_inline b) ≡ false
        → IsPlainExpr kinds in_frame a → IsPlainExpr kinds in_frame b
        → IsPlainLayer kinds in_frame (Expr-F.Bin op a b at)

-- ---- left sides
pub data IsPlainLeft (kinds : Kinds) (in_frame : Key → Bool) : Lval → Type 0 where
  to_nothing : {at : Span} → IsPlainLeft kinds in_frame (lval.Skip at)
  to_variable : {v : Var} → IsPlain kinds in_frame v → IsPlainLeft kinds in_frame (lval.Var v)
  to_cell :
      {v : Var} {i : Expr} → IsPlain kinds in_frame v → IsPlainExpr kinds in_frame i
      → IsPlainLeft kinds in_frame (lval.Cell v i)
  to_memory :
      {a : Access} → IsPlainExpr kinds in_frame (out-Access a).at
      → IsPlainLeft kinds in_frame (lval.Store a)
