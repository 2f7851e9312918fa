-- A call of a function in the body of another: which parameters and variables differ, what is
-- passed and given back, and which arrays of the caller the callee has as its parameters.
use Rattle.std.specs.Prelude.{ℕ, ◌<◌, ◌≡◌, Bool, true, false, List, [], ◌∷◌, ◌++◌, ◌⊎◌, map, Some, None}
use Rattle.std.specs.Str.{bytes_eq}
use Rattle.jz_tree.specs.Size.{Size}
use Rattle.jz_tree.specs.declared.expr.Expr.{Expr}
use Rattle.jz_tree.specs.declared.expr.Var.{Var}
use Rattle.jz_tree.specs.declared.expr.Expr.TheViews.{out-Access}
use Rattle.jz_tree.specs.declared.stmt.Lval.{Lval}
use Rattle.jz_tree.specs.declared.stmt.Lval.TheVariants as lval
use Rattle.jz_tree.specs.declared.program.Param.{Param}
use Rattle.jz_meaning.specs.declared.access.Kind.{Kind}
use Rattle.jz_meaning.specs.declared.access.Kind.TheVariants as kind
use Rattle.jz_meaning.specs.States.{Key, same_key}
use Rattle.jz_meaning.specs.Values.{Ref, key_of, cell_key, ref_of}
use Rattle.jz_meaning.specs.Shapes.{words, shape_of}
use Rattle.jz_meaning.specs.Statements.{Call, array_of}
use Rattle.jz_bodies.specs.Scopes.{Scope, Has, Sets, Reads, Writes, SortIs, IsScope}

abbrev pub is_array : Kind → Bool
is_array (kind.Array z n) = true
is_array _ = false

-- ---- arrays that caller and callee share
-- the parameter r is an array, and y is passed as it
pub data IsLent : List Param → List Expr → Ref → Ref → Type 0 where
  lent_here : {p : Param} {ps : List Param} {e : Expr} {es : List Expr} {y : Ref}
      → is_array (ref_of p.var).kind ≡ true → array_of e ≡ Some y
      → IsLent (p ∷ ps) (e ∷ es) (ref_of p.var) y
  lent_later : {p : Param} {ps : List Param} {e : Expr} {es : List Expr} {r y : Ref}
      → IsLent ps es r y → IsLent (p ∷ ps) (e ∷ es) r y

-- ---- variables of the callee
-- the places of a variable: itself, or the cells of an array
pub data PlaceOf (r : Ref) (k : Key) : Type 0 where
  itself : is_array r.kind ≡ false → k ≡ key_of r → PlaceOf r k
  its_cell : (z : Size) (n i : ℕ) → r.kind ≡ kind.Array z n → i < n → k ≡ cell_key r i
      → PlaceOf r k

-- one of these variables has it as a place
abbrev pub OneHas : List Ref → Key → Type 0
OneHas [] k = ⊥
OneHas (r ∷ rs) k = PlaceOf r k ⊎ OneHas rs k

-- none of these variables has the name of this one
abbrev pub IsNew : Ref → List Ref → Type 0
IsNew r [] = Unit {0}
IsNew r (q ∷ qs) = (bytes_eq r.name q.name ≡ false) × (bytes_eq q.name r.name ≡ false) × IsNew r qs

-- they have different names
abbrev pub AreApart : List Ref → Type 0
AreApart [] = Unit {0}
AreApart (r ∷ rs) = IsNew r rs × AreApart rs

abbrev pub params_of : List Param → List Ref
params_of ps = map (λ p. ref_of p.var) ps

abbrev pub vars_of : List Var → List Ref
vars_of vs = map ref_of vs

-- ---- arguments and results
-- x is the caller, g the callee
module _ (x g : Scope) where
  -- an argument for an array is an array of the caller with the same type; any other is an
  -- expression of which it is known how many numbers it leaks, and the callee may set its parameter
  pub data IsArgument (r : Ref) (e : Expr) : Type 0 where
    of_array : {y : Ref} {z : Size} {n : ℕ} → r.kind ≡ kind.Array z n
        → array_of e ≡ Some y → y.kind ≡ kind.Array z n → x.has_array y ≡ true
        → x.sorts y.name y.copy ≡ words → g.sorts r.name r.copy ≡ words → g.has_array r ≡ true
        → IsArgument r e
    of_value : is_array r.kind ≡ false → r.cell ≡ None → Reads x e
        → (shape_of x.sorts e).fixed ≡ true → g.sets_scalar r ≡ true
        → SortIs r.kind (g.sorts r.name r.copy) → IsArgument r e

  -- as many arguments as parameters
  abbrev pub AreArguments : List Param → List Expr → Type 0
  AreArguments [] [] = Unit {0}
  AreArguments (p ∷ ps) (e ∷ es) = IsArgument (ref_of p.var) e × AreArguments ps es
  AreArguments _ _ = ⊥

  -- it is known how many numbers the index or address of a left side leaks
  abbrev pub IsFixed : Lval → Type 0
  IsFixed (lval.Cell v i) = (shape_of x.sorts i).fixed ≡ true
  IsFixed (lval.Store a) = (shape_of x.sorts (out-Access a).at).fixed ≡ true
  IsFixed _ = Unit {0}

  -- a result that is an array is the caller's already; any other is a variable of the callee and
  -- goes to a left side that the caller may set
  abbrev pub IsResult : Lval → Var → Type 0
  IsResult d v =
      (is_array (ref_of v).kind ≡ true)
      ⊎ ((is_array (ref_of v).kind ≡ false)
      × ((ref_of v).cell ≡ None)
      × (g.has_scalar (ref_of v) ≡ true)
      × Writes x d
      × IsFixed d)

  -- as many left sides as results
  abbrev pub AreResults : List Lval → List Var → Type 0
  AreResults [] [] = Unit {0}
  AreResults (d ∷ ds) (v ∷ vs) = IsResult d v × AreResults ds vs
  AreResults _ _ = ⊥

  -- ---- calls
  pub record IsCall (q : Call) : Type 0 where
    -- what the callee may set it has, and none of it is a copied variable
    pub scope : IsScope g
    pub zero : (k : Key) → Has g k → k.copy ≡ 0
    -- it has its parameters and its variables, whose names differ
    pub owned : (k : Key)
        → Has g k → OneHas (params_of q.callee.params) k ⊎ OneHas (vars_of q.callee.vars) k
    pub apart : AreApart (params_of q.callee.params ++ vars_of q.callee.vars)
    -- its own variables it may set
    pub own : (k : Key) → OneHas (vars_of q.callee.vars) k → Sets g k
    pub arguments : AreArguments q.callee.params q.args
    pub results : AreResults q.to q.callee.result
    -- the caller may set what the callee may set of the caller's arrays
    pub sets : (r y : Ref) (i : ℕ)
        → IsLent q.callee.params q.args r y → Sets g (cell_key r i) → Sets x (cell_key y i)
    -- an array that the callee may set is passed once: two cells are one of the caller exactly
    -- where they are one of the callee
    pub once : (r y r' y' : Ref) (i j : ℕ)
        → IsLent q.callee.params q.args r y → IsLent q.callee.params q.args r' y'
        → Sets g (cell_key r i)
        → same_key (cell_key y i) (cell_key y' j) ≡ same_key (cell_key r i) (cell_key r' j)
