-- A cell of a register array at a constant index is a scalar of its own, with the place that the
-- cell has. Its index is leaked no more.
use Rattle.std.specs.Prelude.{ℕ, zero, suc, ◌^◌, Bool, true, false, ◌&&◌, nat_lt, if◌then◌else◌, List, [], ◌∷◌, ◌++◌, Option, Some, None, pos}
use Rattle.jz_tree.specs.Size.{Size}
use Rattle.jz_tree.specs.declared.expr.Storage.{Storage}
use Rattle.jz_tree.specs.declared.expr.Storage.TheVariants as storage
use Rattle.jz_tree.specs.declared.expr.BinOp.{BinOp}
use Rattle.jz_tree.specs.declared.expr.Expr.{Expr}
use Rattle.jz_tree.specs.declared.expr.Ty.{Ty}
use Rattle.jz_tree.specs.declared.expr.Ty.TheVariants as ty
use Rattle.jz_tree.specs.declared.expr.Access.{Access}
use Rattle.jz_tree.specs.declared.expr.Decl.{Decl}
use Rattle.jz_tree.specs.declared.expr.Var.{Var}
use Rattle.jz_tree.specs.declared.expr.Expr.TheOpen.{Expr-F, Access-F, Ty-F}
use Rattle.jz_tree.specs.declared.expr.Expr.TheViews.{out-Var, out-Expr, out-Ty, roll-Expr, roll-Access, roll-Var, roll-Decl}
use Rattle.jz_tree.specs.declared.expr.Expr.TheFolds.{para-Expr, para-Access}
use Rattle.jz_tree.specs.declared.intrinsic.Intrinsic.{Intrinsic}
use Rattle.jz_tree.specs.declared.intrinsic.Intrinsic.TheVariants as name
use Rattle.jz_tree.specs.declared.intrinsic.Instance.{Instance}
use Rattle.jz_tree.specs.declared.stmt.Lval.{Lval}
use Rattle.jz_tree.specs.declared.stmt.Lval.TheVariants as lval
use Rattle.jz_meaning.specs.declared.access.Kind.{Kind}
use Rattle.jz_meaning.specs.declared.access.Kind.TheVariants as kind
use Rattle.jz_meaning.specs.Values.{ref_of}
use Rattle.jz_meaning.specs.Assignments.{as_expr, last_left, whole_of}
use Rattle.jz_meaning.specs.Shapes.{Sort, Sorts, shape_of, own_count}

-- ---- which cells become scalars

-- the size of the cells of a register array
abbrev pub cells_of_ty : Ty-F Expr Ty Access Decl Var → Option Size
cells_of_ty (Ty-F.Array z n) = Some z
cells_of_ty _ = None

abbrev pub is_register : Storage → Bool
is_register storage.Reg = true
is_register _ = false

abbrev pub cells_of_decl : Option Decl → Option Size
cells_of_decl None = None
cells_of_decl (Some d) = if is_register d.storage then cells_of_ty (out-Ty d.ty) else None

abbrev pub size_at : Var → Option Size
size_at v = cells_of_decl (out-Var v).decl

-- a constant index
abbrev pub constant_layer : Expr-F Expr Ty Access Decl Var → Option ℕ
constant_layer (Expr-F.Num (pos n) at) = Some n
constant_layer _ = None

abbrev pub index_in : Expr → Option ℕ
index_in i = constant_layer (out-Expr i)

-- whether the array has a cell of that number, and 32 bits hold it
abbrev pub is_below : Kind → ℕ → Bool
is_below (kind.Array z n) i = nat_lt i n && nat_lt i (2 ^ 32)
is_below _ i = false

abbrev pub number_below : Kind → Option ℕ → Option ℕ
number_below k None = None
number_below k (Some i) = if is_below k i then Some i else None

-- the number of the cell, where the index is constant; what is no cell stays as it is
abbrev pub cell_in : Var → Expr → Option ℕ
cell_in v i = number_below (ref_of v).kind (index_in i)

-- whether it becomes a scalar
abbrev pub is_scalar : Option Size → Option ℕ → Bool
is_scalar (Some z) (Some n) = true
is_scalar _ _ = false

-- the cell i of the array v as a variable
abbrev pub scalar : Var → Size → ℕ → Var
scalar v z i =
    roll-Var
    (record (out-Var v) {
      cell = Some i;
      decl = Some (roll-Decl (record { storage = storage.Reg; ty = ty.Word z }));
    })

-- ---- expressions

abbrev pub cell_or : Var → Expr → Option Size → Option ℕ → Expr
cell_or v i (Some z) (Some n) = roll-Expr (Expr-F.Var (scalar v z n))
cell_or v i _ _ = roll-Expr (Expr-F.Cell v i)

abbrev pub expr_step :
    Expr-F (Expr × Expr) (Ty × Unit {0}) (Access × Access) (Decl × Unit {0}) (Var × Unit {0})
    → Expr
expr_step (Expr-F.Num n at) = roll-Expr (Expr-F.Num n at)
expr_step (Expr-F.Expr::Bool b at) = roll-Expr (Expr-F.Expr::Bool b at)
expr_step (Expr-F.Var v) = roll-Expr (Expr-F.Var v.0)
expr_step (Expr-F.Cell v i) = cell_or v.0 i.1 (size_at v.0) (cell_in v.0 i.0)
expr_step (Expr-F.Load a) = roll-Expr (Expr-F.Load a.1)
expr_step (Expr-F.Neg a at) = roll-Expr (Expr-F.Neg a.1 at)
expr_step (Expr-F.Not a at) = roll-Expr (Expr-F.Not a.1 at)
expr_step (Expr-F.Cast z s a at) = roll-Expr (Expr-F.Cast z s a.1 at)
expr_step (Expr-F.Bin o a b at) = roll-Expr (Expr-F.Bin o a.1 b.1 at)

abbrev pub access_step :
    Access-F (Expr × Expr) (Ty × Unit {0}) (Access × Access) (Decl × Unit {0}) (Var × Unit {0})
    → Access
access_step a =
    roll-Access
    (record { size = a.size; at = a.at.1; unaligned = a.unaligned; span = a.span })

abbrev pub with_scalars : Expr → Expr
with_scalars =
    para-Expr Expr (Unit {0}) Access (Unit {0}) (Unit {0}) expr_step (λ t. tt) access_step
    (λ d. tt) (λ v. tt)

abbrev pub access_with_scalars : Access → Access
access_with_scalars =
    para-Access Expr (Unit {0}) Access (Unit {0}) (Unit {0}) expr_step (λ t. tt) access_step
    (λ d. tt) (λ v. tt)

-- ---- which of the numbers are left

abbrev pub Mask : Type 0
Mask = List Bool

abbrev pub numbers_kept : Mask → List ℕ → List ℕ
numbers_kept (true ∷ m) (n ∷ ns) = n ∷ numbers_kept m ns
numbers_kept (false ∷ m) (n ∷ ns) = numbers_kept m ns
numbers_kept _ _ = []

abbrev pub all_kept : ℕ → Mask
all_kept zero = []
all_kept (suc n) = true ∷ all_kept n

-- what an expression is where the variables hold these sorts
abbrev pub sort_in : Sorts → Expr → Sort
sort_in sorts e = (shape_of sorts e).sort

-- of an expression, by what each expression is
module _ (sort : Expr → Sort) where
  abbrev pub mask_step :
      Expr-F (Expr × Mask) (Ty × Unit {0}) (Access × Mask) (Decl × Unit {0}) (Var × Unit {0})
      → Mask
  mask_step (Expr-F.Num n at) = []
  mask_step (Expr-F.Expr::Bool b at) = []
  mask_step (Expr-F.Var v) = []
  mask_step (Expr-F.Cell v i) =
      if is_scalar (size_at v.0) (cell_in v.0 i.0) then false ∷ [] else i.1 ++ true ∷ []
  mask_step (Expr-F.Load a) = a.1 ++ true ∷ []
  mask_step (Expr-F.Neg a at) = a.1
  mask_step (Expr-F.Not a at) = a.1
  mask_step (Expr-F.Cast z s a at) = a.1
  mask_step (Expr-F.Bin o a b at) =
      a.1 ++ (b.1 ++ all_kept (own_count o (sort a.0) (sort b.0)))

  abbrev pub mask_of : Expr → Mask
  mask_of =
      para-Expr Mask (Unit {0}) Mask (Unit {0}) (Unit {0}) mask_step (λ t. tt) (λ a. a.at.1)
      (λ d. tt) (λ v. tt)

  abbrev pub access_mask : Access → Mask
  access_mask =
      para-Access Mask (Unit {0}) Mask (Unit {0}) (Unit {0}) mask_step (λ t. tt) (λ a. a.at.1)
      (λ d. tt) (λ v. tt)

-- ---- left sides

abbrev pub left_or : Var → Expr → Option Size → Option ℕ → Lval
left_or v i (Some z) (Some n) = lval.Var (scalar v z n)
left_or v i _ _ = lval.Cell v (with_scalars i)

abbrev pub left_with_scalars : Lval → Lval
left_with_scalars (lval.Skip at) = lval.Skip at
left_with_scalars (lval.Var v) = lval.Var v
left_with_scalars (lval.Cell v i) = left_or v i (size_at v) (cell_in v i)
left_with_scalars (lval.Store a) = lval.Store (access_with_scalars a)

-- ---- which of the numbers of a statement are left

-- a division shows three numbers of its own
abbrev pub own_numbers : Intrinsic → ℕ
own_numbers name.Div = 3
own_numbers _ = 0

module _ (sort : Expr → Sort) where
  abbrev pub left_mask : Lval → Mask
  left_mask (lval.Skip at) = []
  left_mask (lval.Var v) = []
  left_mask (lval.Cell v i) =
      if is_scalar (size_at v) (cell_in v i) then false ∷ [] else mask_of sort i ++ true ∷ []
  left_mask (lval.Store a) = access_mask sort a ++ true ∷ []

  abbrev pub lefts_mask : List Lval → Mask
  lefts_mask [] = []
  lefts_mask (d ∷ ds) = left_mask d ++ lefts_mask ds

  abbrev pub mask_if : Option Expr → Mask
  mask_if None = []
  mask_if (Some e) = mask_of sort e

  -- behind a condition the old value is read
  abbrev pub old_mask : List Lval → Mask
  old_mask (d ∷ []) = mask_if (as_expr d)
  old_mask _ = []

  abbrev pub condition_mask : List Lval → Option Expr → Mask
  condition_mask to None = []
  condition_mask to (Some c) = mask_of sort c ++ old_mask to

  abbrev pub args_mask : List Expr → Mask
  args_mask [] = []
  args_mask (e ∷ es) = mask_of sort e ++ args_mask es

  abbrev pub own_mask : Option Instance → Mask
  own_mask None = []
  own_mask (Some i) = all_kept (own_numbers i.name)

  abbrev pub instruction_mask : Option Instance → List Lval → List Expr → Mask
  instruction_mask i to args = (args_mask args ++ own_mask i) ++ lefts_mask to

  abbrev pub assign_mask : List Lval → Option BinOp → Expr → Option Expr → Mask
  assign_mask to o e c =
      mask_if (whole_of (last_left to) o e) ++ (condition_mask to c ++ lefts_mask to)
