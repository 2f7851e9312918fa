-- Inline expressions become their values: the largest of them, wherever they stand.
use Rattle.std.specs.Prelude.{ℕ, ◌&&◌, ◌||◌, Bool, true, false, not, is_none, is_some, if◌then◌else◌, List, [], ◌∷◌, map, Option, Some, None, option_map}
use Rattle.std.specs.List.{list_all}
use Rattle.jz_tree.specs.Span.{Span}
use Rattle.jz_tree.specs.declared.expr.Expr.{Expr}
use Rattle.jz_tree.specs.declared.expr.Expr.TheVariants as expr
use Rattle.jz_tree.specs.declared.expr.Ty.{Ty}
use Rattle.jz_tree.specs.declared.expr.Access.{Access}
use Rattle.jz_tree.specs.declared.expr.Decl.{Decl}
use Rattle.jz_tree.specs.declared.expr.Var.{Var}
use Rattle.jz_tree.specs.declared.expr.Expr.TheOpen.{Expr-F, Access-F}
use Rattle.jz_tree.specs.declared.expr.Expr.TheViews.{out-Expr, roll-Expr, roll-Access}
use Rattle.jz_tree.specs.declared.expr.Expr.TheFolds.{para-Expr, para-Access, map-Expr}
use Rattle.jz_tree.specs.declared.stmt.Lval.{Lval}
use Rattle.jz_tree.specs.declared.stmt.Lval.TheVariants as lval
use Rattle.jz_type_names.specs.Kinds.{is_inline}
use Rattle.jz_type_names.specs.Parts.{span_of}
use Rattle.jz_integers.specs.Integers.{KnownNumbers, inline_value}
use Rattle.jz_integers.specs.declared.constant.Constant.{Constant}
use Rattle.jz_integers.specs.declared.constant.Constant.TheVariants as constant
use Rattle.jz_meaning.specs.declared.access.Kind.{Kind}
use Rattle.jz_meaning.specs.declared.access.Kind.TheVariants as kind
use Rattle.jz_meaning.specs.Assignments.{last_left, whole_of, Layer, is_flag}
use Rattle.jz_meaning.specs.Statements.{Operation, assign, instruction}
use Rattle.jz_meaning.specs.Values.{ref_of}

abbrev pub is_int : Kind → Bool
is_int kind.Int = true
is_int _ = false

-- a value as an expression, where there is one
abbrev pub constant_expr : Span → Expr → Option Constant → Expr
constant_expr at e None = e
constant_expr at e (Some (constant.Int i)) = expr.Num i at
constant_expr at e (Some (constant.Bool b)) = expr.Bool b at

-- the parts of an expression, each with something of it
abbrev pub Beside : (A B : Type 0) → Type 0
Beside A B = Expr-F (Expr × A) (Ty × Unit {0}) (Access × B) (Decl × Unit {0}) (Var × Unit {0})

abbrev pub whole_expr : {A B : Type 0} → Beside A B → Expr
whole_expr x =
    roll-Expr
    (map-Expr _ _ _ _ _ Expr Ty Access Decl Var (λ y. y.0) (λ y. y.0) (λ y. y.0) (λ y. y.0)
    (λ y. y.0) x)

-- ---- variables that are no cells

abbrev pub cells_step : Beside Bool Bool → Bool
cells_step (Expr-F.Num n at) = true
cells_step (Expr-F.Expr::Bool b at) = true
cells_step (Expr-F.Var v) = is_none (ref_of v.0).cell
cells_step (Expr-F.Cell v i) = i.1
cells_step (Expr-F.Load a) = a.1
cells_step (Expr-F.Neg a at) = a.1
cells_step (Expr-F.Not a at) = a.1
cells_step (Expr-F.Cast z s a at) = a.1
cells_step (Expr-F.Bin o a b at) = a.1 && b.1

-- no variable in it is a cell of an array
abbrev pub has_no_cell : Expr → Bool
has_no_cell =
    para-Expr Bool (Unit {0}) Bool (Unit {0}) (Unit {0}) cells_step (λ t. tt) (λ a. a.at.1)
    (λ d. tt) (λ v. tt)

module _ (e : KnownNumbers) where
  -- ---- expressions with values

  abbrev pub parts_expr : Beside Expr Access → Expr
  parts_expr x =
      roll-Expr
      (map-Expr _ _ _ _ _ Expr Ty Access Decl Var (λ y. y.1) (λ y. y.0) (λ y. y.1) (λ y. y.0)
      (λ y. y.0) x)

  abbrev pub values_step : Beside Expr Access → Expr
  values_step x =
      if is_inline (whole_expr x)
      then constant_expr (span_of (whole_expr x)) (whole_expr x) (inline_value e (whole_expr x))
      else parts_expr x

  abbrev pub access_step :
      Access-F (Expr × Expr) (Ty × Unit {0}) (Access × Access) (Decl × Unit {0}) (Var × Unit {0})
      → Access
  access_step a =
      roll-Access
      (record { size = a.size; at = a.at.1; unaligned = a.unaligned; span = a.span })

  -- each largest inline expression is its value
  abbrev pub with_values : Expr → Expr
  with_values =
      para-Expr Expr (Unit {0}) Access (Unit {0}) (Unit {0}) values_step (λ t. tt) access_step
      (λ d. tt) (λ v. tt)

  abbrev pub access_with_values : Access → Access
  access_with_values =
      para-Access Expr (Unit {0}) Access (Unit {0}) (Unit {0}) values_step (λ t. tt) access_step
      (λ d. tt) (λ v. tt)

  abbrev pub left_with_values : Lval → Lval
  left_with_values (lval.Skip at) = lval.Skip at
  left_with_values (lval.Var v) = lval.Var v
  left_with_values (lval.Cell v i) = lval.Cell v (with_values i)
  left_with_values (lval.Store a) = lval.Store (access_with_values a)

  abbrev pub operation_with_values : Operation → Operation
  operation_with_values (assign to o x c at) =
      assign (map left_with_values to) o (with_values x) (option_map with_values c) at
  operation_with_values (instruction to n args at) =
      instruction (map left_with_values to) n (map with_values args) at
  operation_with_values o = o

-- ---- where each of them has a value

-- which variables are inline, by name and copy
abbrev pub InlineNames : Type 0
InlineNames = List ℕ → ℕ → Bool

abbrev pub is_inline_var : InlineNames → Var → Bool
is_inline_var names v = names (ref_of v).name (ref_of v).copy

-- behind a flag that is added, or taken away, there is no inline sum
abbrev pub splits : Layer → Bool
splits (Expr-F.Bin o a b at) = not (is_flag b) || not (is_inline a)
splits _ = true

-- of an operation with several results the operands stand in the text
abbrev pub is_split : List Lval → Option Expr → Bool
is_split (d ∷ []) x = true
is_split to None = true
is_split to (Some x) = not (is_inline x) && splits (out-Expr x)

module _ (names : InlineNames) (e : KnownNumbers) where
  -- an inline expression has one
  abbrev pub is_known : Expr → Bool
  is_known x = has_no_cell x && is_some (inline_value e x)

  -- else no variable is inline, and all parts have values
  abbrev pub parts_known : Beside Bool Bool → Bool
  parts_known (Expr-F.Num n at) = true
  parts_known (Expr-F.Expr::Bool b at) = true
  parts_known (Expr-F.Var v) = not (is_inline_var names v.0)
  parts_known (Expr-F.Cell v i) = not (is_inline_var names v.0) && i.1
  parts_known (Expr-F.Load a) = a.1
  parts_known (Expr-F.Neg a at) = a.1
  parts_known (Expr-F.Not a at) = a.1
  parts_known (Expr-F.Cast z s a at) = a.1
  parts_known (Expr-F.Bin o a b at) = a.1 && b.1

  abbrev pub known_step : Beside Bool Bool → Bool
  known_step x =
      if is_inline (whole_expr x) then is_known (whole_expr x) else parts_known x

  abbrev pub has_values : Expr → Bool
  has_values =
      para-Expr Bool (Unit {0}) Bool (Unit {0}) (Unit {0}) known_step (λ t. tt) (λ a. a.at.1)
      (λ d. tt) (λ v. tt)

  abbrev pub access_has_values : Access → Bool
  access_has_values =
      para-Access Bool (Unit {0}) Bool (Unit {0}) (Unit {0}) known_step (λ t. tt) (λ a. a.at.1)
      (λ d. tt) (λ v. tt)

  -- ---- statements that stay

  -- a left side is no inline variable, and its index or address has values
  abbrev pub left_has_values : Lval → Bool
  left_has_values (lval.Skip at) = true
  left_has_values (lval.Var v) = not (is_inline_var names v) && not (is_inline (expr.Var v))
  left_has_values (lval.Cell v i) = not (is_inline_var names v) && has_values i
  left_has_values (lval.Store a) = access_has_values a

  abbrev pub if_has_values : Option Expr → Bool
  if_has_values None = true
  if_has_values (Some x) = has_values x

  abbrev pub operation_has_values : Operation → Bool
  operation_has_values (assign to o x c at) =
      list_all left_has_values to
      && (has_values x && (if_has_values c && is_split to (whole_of (last_left to) o x)))
  operation_has_values (instruction to n args at) =
      list_all left_has_values to && list_all has_values args
  operation_has_values o = true
