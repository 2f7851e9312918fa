-- Register arrays as scalars, statement by statement. A mark stays: it unsets an array's cells,
-- which are its scalars.
use Rattle.std.specs.Prelude.{◌≡◌, ℕ, suc, true, false, List, [], ◌∷◌, map, take, All, Option, Some, None, option_map}
use Rattle.jz_tree.specs.Span.{Span}
use Rattle.jz_tree.specs.declared.expr.BinOp.{BinOp}
use Rattle.jz_tree.specs.declared.expr.Expr.{Expr}
use Rattle.jz_tree.specs.declared.expr.Access.{Access}
use Rattle.jz_tree.specs.declared.expr.Expr.TheFolds.{fold-Access}
use Rattle.jz_tree.specs.Spellings.{spelled}
use Rattle.jz_tree.specs.declared.intrinsic.Intrinsic.{Intrinsic}
use Rattle.jz_tree.specs.declared.intrinsic.Intrinsic.TheVariants as name
use Rattle.jz_tree.specs.declared.intrinsic.Instance.{Instance}
use Rattle.jz_tree.specs.declared.stmt.Lval.{Lval}
use Rattle.jz_tree.specs.declared.stmt.Lval.TheVariants as lval
use Rattle.jz_meaning.specs.Assignments.{as_expr, last_left, whole_of}
use Rattle.jz_meaning.specs.Shapes.{Sorts, Shape, shape_step, shape_of}
use Rattle.jz_meaning.specs.States.{State}
use Rattle.jz_meaning.specs.Statements.{Operation, assign, instruction, Condition}
use Rattle.jz_run_laws.specs.Kinds.{Kinds, IsOfKinds, sorts_of}
use Rattle.jz_run_laws.specs.DeclaredKinds.{LeftDeclared}
use Rattle.jz_change.specs.declared.change.Number.{Number}
use Rattle.jz_change.specs.declared.change.Number.TheVariants.{Nth}
use Rattle.jz_change.specs.declared.change.Numbers.{Numbers}
use Rattle.jz_change.specs.declared.change.Numbers.TheVariants.{These}
use Rattle.jz_pass.specs.Rewriting.{Rewriting}
use Rattle.jz_arrays.specs.Cells.{sort_in, with_scalars, left_with_scalars}
use Rattle.jz_arrays.specs.Cells.{Mask, mask_of, instruction_mask, assign_mask}

-- the places of the numbers that are left, from this one on
abbrev pub places : ℕ → Mask → List Number
places i [] = []
places i (true ∷ m) = Nth i ∷ places (suc i) m
places i (false ∷ m) = places (suc i) m

abbrev pub numbers_left : Mask → Numbers
numbers_left m = These (places 0 m)

-- ---- what is asked of statements

module _ (sorts : Sorts) where
  -- of an expression that is read it is fixed how many numbers it leaks
  abbrev pub IsRead : Option Expr → Type 0
  IsRead None = Unit {0}
  IsRead (Some e) = (shape_of sorts e).fixed ≡ true

  abbrev pub access_shape : Access → Shape
  access_shape =
      fold-Access _ _ _ _ _ shape_step (λ t. tt) (λ a. a.at) (λ d. tt) (λ v. sorts v.name v.copy)

  abbrev pub FixedLeft : Lval → Type 0
  FixedLeft (lval.Cell v i) = (shape_of sorts i).fixed ≡ true
  FixedLeft (lval.Store a) = (access_shape a).fixed ≡ true
  FixedLeft _ = Unit {0}

-- a left side carries what is declared of it
pub record IsLeft (kinds : Kinds) (d : Lval) : Type 0 where
  pub declared : LeftDeclared kinds d
  pub fixed : FixedLeft (sorts_of kinds) d

-- the old value of a conditional assignment
abbrev pub whole_old : List Lval → Option Expr
whole_old (d ∷ []) = as_expr d
whole_old _ = None

pub record IsAssign (kinds : Kinds) (to : List Lval) (op : Option BinOp) (e : Expr)
    (c : Option Expr) : Type 0 where
  pub lefts : All (IsLeft kinds) to
  pub whole : IsRead (sorts_of kinds) (whole_of (last_left to) op e)
  pub condition : IsRead (sorts_of kinds) c
  pub old : IsRead (sorts_of kinds) (whole_old to)

-- how many flags an instruction gives before its words
abbrev pub flags_in_front : Intrinsic → ℕ
flags_in_front name.Not = 0
flags_in_front name.Bswap = 0
flags_in_front name.Lea = 0
flags_in_front name.Setcc = 0
flags_in_front name.Rol = 2
flags_in_front name.Ror = 2
flags_in_front name.Inc = 4
flags_in_front name.Dec = 4
flags_in_front _ = 5

abbrev pub flags_before : Option Instance → ℕ
flags_before None = 0
flags_before (Some i) = flags_in_front i.name

abbrev pub IsNoCell : Lval → Type 0
IsNoCell (lval.Cell v i) = ⊥
IsNoCell _ = Unit {0}

-- no flag goes to a cell: one that the instruction leaves undefined would be stuck there
pub record IsInstruction (kinds : Kinds) (i : Option Instance) (to : List Lval) (args : List Expr)
    : Type 0 where
  pub lefts : All (IsLeft kinds) to
  pub operands : All (λ e. IsRead (sorts_of kinds) (Some e)) args
  pub flags : All IsNoCell (take (flags_before i) to)

-- ---- what statements become

module _ (kinds : Kinds) where
  pub data ArraysOp : Operation → List Operation → List Numbers → Type 0 where
    assigns :
        {to : List Lval} {op : Option BinOp} {e : Expr} {c : Option Expr} {at : Span}
        → IsAssign kinds to op e c
        → ArraysOp (assign to op e c at)
        (assign (map left_with_scalars to) op (with_scalars e) (option_map with_scalars c) at ∷ [])
        (numbers_left (assign_mask (sort_in (sorts_of kinds)) to op e c) ∷ [])
    instructs :
        {to : List Lval} {n : List ℕ} {args : List Expr} {at : Span}
        → IsInstruction kinds (spelled n) to args
        → ArraysOp (instruction to n args at)
        (instruction (map left_with_scalars to) n (map with_scalars args) at ∷ [])
        (numbers_left (instruction_mask (sort_in (sorts_of kinds)) (spelled n) to args) ∷ [])

  pub data ArraysTest :
      Condition → List Operation → List Numbers → Condition → Numbers → Type 0 where
    tests :
        {p : Condition} → IsRead (sorts_of kinds) (Some p.cond)
        → ArraysTest p [] [] (record { cond = with_scalars p.cond; at = p.at })
        (numbers_left (mask_of (sort_in (sorts_of kinds)) p.cond))

  abbrev pub arrays : Rewriting Operation Condition Operation Condition
  arrays =
      record { Op = ArraysOp; Quiet = λ o o2. o ≡ o2; Test = ArraysTest }

-- one state: nothing differs but what is leaked
pub record IsOneState (kinds : Kinds) (s t : State) : Type 0 where
  pub one : s ≡ t
  pub held : IsOfKinds kinds s
