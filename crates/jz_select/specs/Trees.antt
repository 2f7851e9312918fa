-- Expressions apart from where they stand, and the index of a cell.
use Rattle.std.specs.Prelude.{ℕ, ℤ, Bool, true, false, ◌&&◌, not, nat_eq, List, Option, Some, None}
use Rattle.std.specs.Ordering.{int_eq}
use Rattle.std.specs.Str.{bytes_eq}
use Rattle.jz_words.specs.declared.size.Size.{Size}
use Rattle.jz_tree.specs.declared.expr.BinOp.{BinOp}
use Rattle.jz_tree.specs.declared.expr.BinOp.TheVariants as op
use Rattle.jz_tree.specs.declared.expr.Expr.{Expr}
use Rattle.jz_tree.specs.declared.expr.Var.{Var}
use Rattle.jz_tree.specs.declared.expr.Expr.TheOpen.{Expr-F, Var-F}
use Rattle.jz_tree.specs.declared.expr.Expr.TheViews.{out-Var}
use Rattle.jz_tree.specs.declared.expr.Expr.TheFolds.{fold-Expr}
use Rattle.jz_integers.specs.Integers.{written_number}
use Rattle.jz_type_names.specs.Kinds.{same_size}

-- ---- one variable: the same name, copy and cell, wherever it stands
pub record Named : Type 0 where
  pub name : List ℕ
  pub copy : ℕ
  pub cell : Option ℕ

abbrev pub named_step : {A B C D E : Type 0} → Var-F A B C D E → Named
named_step v = record { name = v.name; copy = v.copy; cell = v.cell }

abbrev pub named_variable : Var → Named
named_variable v = named_step (out-Var v)

abbrev pub cell_eq : Option ℕ → Option ℕ → Bool
cell_eq None None = true
cell_eq (Some j) (Some k) = nat_eq j k
cell_eq _ _ = false

abbrev pub names_eq : Named → Named → Bool
names_eq a b = bytes_eq a.name b.name && (nat_eq a.copy b.copy && cell_eq a.cell b.cell)

-- ---- an expression without spans, declarations and the sizes of accesses
pub data Tree : Type 0 where
  Number : ℤ → Tree
  Truth : Bool → Tree
  Name : Named → Tree
  CellOf : Named → Tree → Tree
  Loaded Minus Opposite : Tree → Tree
  CastTo : Size → Bool → Tree → Tree
  Both : BinOp → Tree → Tree → Tree

abbrev pub tree_step : Expr-F Tree (Unit {0}) Tree (Unit {0}) Named → Tree
tree_step (Expr-F.Num n at) = Number n
tree_step (Expr-F.Expr::Bool b at) = Truth b
tree_step (Expr-F.Var v) = Name v
tree_step (Expr-F.Cell v k) = CellOf v k
tree_step (Expr-F.Load a) = Loaded a
tree_step (Expr-F.Neg a at) = Minus a
tree_step (Expr-F.Not a at) = Opposite a
tree_step (Expr-F.Cast z signed a at) = CastTo z signed a
tree_step (Expr-F.Bin o a b at) = Both o a b

abbrev pub tree_of : Expr → Tree
tree_of = fold-Expr Tree (Unit {0}) Tree (Unit {0}) Named tree_step
    (λ t. tt) (λ a. a.at) (λ d. tt) named_step

abbrev pub numbered_tree : Option ℤ → Tree → Tree
numbered_tree None t = t
numbered_tree (Some n) t = Number n

-- an index: its value, where it is built of numbers alone and has one, else its tree
abbrev pub index_of : Expr → Tree
index_of e = numbered_tree (written_number e) (tree_of e)

-- ---- whether two trees are equal
abbrev pub bool_eq : Bool → Bool → Bool
bool_eq true b = b
bool_eq false b = not b

abbrev pub operator_number : BinOp → ℕ
operator_number op.OrElse = 0
operator_number op.AndThen = 1
operator_number op.Or = 2
operator_number op.Xor = 3
operator_number op.And = 4
operator_number op.Eq = 5
operator_number op.Ne = 6
operator_number op.Lt = 7
operator_number op.Le = 8
operator_number op.Gt = 9
operator_number op.Ge = 10
operator_number op.LtS = 11
operator_number op.LeS = 12
operator_number op.GtS = 13
operator_number op.GeS = 14
operator_number op.Shl = 15
operator_number op.Shr = 16
operator_number op.Sar = 17
operator_number op.Rol = 18
operator_number op.Ror = 19
operator_number op.Add = 20
operator_number op.Sub = 21
operator_number op.Mul = 22
operator_number op.Div = 23
operator_number op.Rem = 24
operator_number op.DivS = 25
operator_number op.RemS = 26

abbrev pub tree_eq : Tree → Tree → Bool
tree_eq (Number m) (Number n) = int_eq m n
tree_eq (Truth b) (Truth c) = bool_eq b c
tree_eq (Name v) (Name w) = names_eq v w
tree_eq (CellOf v j) (CellOf w k) = names_eq v w && tree_eq j k
tree_eq (Loaded a) (Loaded b) = tree_eq a b
tree_eq (Minus a) (Minus b) = tree_eq a b
tree_eq (Opposite a) (Opposite b) = tree_eq a b
tree_eq (CastTo z s a) (CastTo y t b) = same_size z y && (bool_eq s t && tree_eq a b)
tree_eq (Both o a b) (Both p c d) =
    nat_eq (operator_number o) (operator_number p) && (tree_eq b d && tree_eq a c)
tree_eq _ _ = false
