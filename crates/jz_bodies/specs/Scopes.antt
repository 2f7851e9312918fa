-- The variables of a function: which it has, which it may set, and what each holds.
use Rattle.std.specs.Prelude.{ℕ, ◌<◌, ◌≡◌, Bool, true, ◌&&◌, List, [], ◌∷◌, Option, Some, None}
use Rattle.jz_tree.specs.Size.{Size}
use Rattle.jz_tree.specs.declared.expr.Expr.{Expr}
use Rattle.jz_tree.specs.declared.expr.Ty.{Ty}
use Rattle.jz_tree.specs.declared.expr.Access.{Access}
use Rattle.jz_tree.specs.declared.expr.Decl.{Decl}
use Rattle.jz_tree.specs.declared.expr.Var.{Var}
use Rattle.jz_tree.specs.declared.expr.Expr.TheOpen.{Expr-F}
use Rattle.jz_tree.specs.declared.expr.Expr.TheFolds.{para-Expr, para-Access}
use Rattle.jz_tree.specs.declared.stmt.Lval.{Lval}
use Rattle.jz_tree.specs.declared.stmt.Lval.TheVariants as lval
use Rattle.jz_meaning.specs.declared.access.Kind.{Kind}
use Rattle.jz_meaning.specs.declared.access.Kind.TheVariants as kind
use Rattle.jz_meaning.specs.States.{Key}
use Rattle.jz_meaning.specs.Values.{Ref, key_of, cell_key, ref_of}
use Rattle.jz_meaning.specs.Shapes.{Sort, words, flags, integers, Sorts}
use Rattle.jz_run_laws.specs.Kinds.{sort_of_kind}

-- what is known of the variables of a function
pub record Scope : Type 0 where
  -- whether each holds words, flags or integers
  pub sorts : Sorts
  -- the variables and the arrays that it has, and those that it may set
  pub has_scalar : Ref → Bool
  pub has_array : Ref → Bool
  pub sets_scalar : Ref → Bool
  pub sets_array : Ref → Bool

-- ---- places
-- the places of variables, and of the cells of arrays
pub data IsPlace (scalar array : Ref → Bool) : Key → Type 0 where
  a_scalar : (x : Ref) → scalar x ≡ true → IsPlace scalar array (key_of x)
  a_cell : (x : Ref) (z : Size) (n i : ℕ) → array x ≡ true → x.kind ≡ kind.Array z n → i < n
      → IsPlace scalar array (cell_key x i)

-- the function has this place, and it may set this one
abbrev pub Has : Scope → Key → Type 0
Has x k = IsPlace x.has_scalar x.has_array k

abbrev pub Sets : Scope → Key → Type 0
Sets x k = IsPlace x.sets_scalar x.sets_array k

-- what it may set it has, and the sort of what it has is that of its kind
pub record IsScope (x : Scope) : Type 0 where
  pub scalars : (r : Ref) → x.sets_scalar r ≡ true → x.has_scalar r ≡ true
  pub arrays : (r : Ref) → x.sets_array r ≡ true → x.has_array r ≡ true
  pub sorted : (r : Ref) → x.has_scalar r ≡ true → x.sorts r.name r.copy ≡ sort_of_kind r.kind
  pub worded : (r : Ref) → x.has_array r ≡ true → x.sorts r.name r.copy ≡ sort_of_kind r.kind

-- ---- expressions
module _ (scalar array : Ref → Bool) where
  abbrev pub known_step : Expr-F (Expr × Bool) (Ty × Unit {0}) (Access × Bool) (Decl × Unit {0})
      (Var × Unit {0}) → Bool
  known_step (Expr-F.Num n at) = true
  known_step (Expr-F.Expr::Bool b at) = true
  known_step (Expr-F.Var v) = scalar (ref_of v.0)
  known_step (Expr-F.Cell v i) = array (ref_of v.0) && i.1
  known_step (Expr-F.Load a) = a.1
  known_step (Expr-F.Neg a at) = a.1
  known_step (Expr-F.Not a at) = a.1
  known_step (Expr-F.Cast z s a at) = a.1
  known_step (Expr-F.Bin o a b at) = a.1 && b.1

  -- each variable in an expression passes the test of variables, and each array before an index
  -- that of arrays
  abbrev pub is_over : Expr → Bool
  is_over = para-Expr Bool (Unit {0}) Bool (Unit {0}) (Unit {0}) known_step
      (λ t. tt) (λ a. a.at.1) (λ d. tt) (λ v. tt)

  abbrev pub is_access_over : Access → Bool
  is_access_over = para-Access Bool (Unit {0}) Bool (Unit {0}) (Unit {0}) known_step
      (λ t. tt) (λ a. a.at.1) (λ d. tt) (λ v. tt)

-- a variable of that kind holds what this sort says
abbrev pub SortIs : Kind → Sort → Type 0
SortIs (kind.Word s) z = z ≡ words
SortIs kind.Bool z = z ≡ flags
SortIs kind.Int z = z ≡ integers
SortIs _ z = Unit {0}

module _ (x : Scope) where
  -- an expression reads what the function has
  abbrev pub Reads : Expr → Type 0
  Reads e = is_over x.has_scalar x.has_array e ≡ true

  abbrev pub ReadsIf : Option Expr → Type 0
  ReadsIf None = Unit {0}
  ReadsIf (Some e) = Reads e

  abbrev pub AllRead : List Expr → Type 0
  AllRead [] = Unit {0}
  AllRead (e ∷ es) = Reads e × AllRead es

  -- ---- left sides
  -- the function may set a left side, and what stands in it reads what the function has
  abbrev pub Writes : Lval → Type 0
  Writes (lval.Skip at) = Unit {0}
  Writes (lval.Var v) =
      (x.sets_scalar (ref_of v) ≡ true)
      × SortIs (ref_of v).kind (x.sorts (ref_of v).name (ref_of v).copy)
  Writes (lval.Cell v i) =
      (x.sets_array (ref_of v) ≡ true)
      × (x.sorts (ref_of v).name (ref_of v).copy ≡ words)
      × Reads i
  Writes (lval.Store a) = is_access_over x.has_scalar x.has_array a ≡ true

  abbrev pub AllWritten : List Lval → Type 0
  AllWritten [] = Unit {0}
  AllWritten (d ∷ ds) = Writes d × AllWritten ds
