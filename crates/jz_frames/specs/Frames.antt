-- The variables of a function whose calls are copies of what they call, in the order in which the
-- text declares them: those of a call stand where the call stands, its parameters first. An array
-- that is passed is the caller's.
use Rattle.std.specs.Prelude.{ℕ, zero, suc, ◌+◌, if◌then◌else◌, List, [], ◌∷◌, ◌++◌, map, flat_map, length, option_map, option_to_list, Option}
use Rattle.jz_tree.specs.Span.{Span}
use Rattle.jz_tree.specs.declared.expr.BinOp.{BinOp}
use Rattle.jz_tree.specs.declared.expr.Expr.{Expr}
use Rattle.jz_tree.specs.declared.expr.Var.{Var}
use Rattle.jz_tree.specs.declared.expr.Expr.TheViews.{out-Var}
use Rattle.jz_tree.specs.declared.stmt.Rhs.{Rhs}
use Rattle.jz_tree.specs.declared.stmt.Rhs.TheVariants as rhs
use Rattle.jz_tree.specs.declared.stmt.Stmt.{Stmt}
use Rattle.jz_tree.specs.declared.stmt.StmtKind.TheOpen.{StmtKind-F}
use Rattle.jz_tree.specs.declared.program.Fun.{Fun}
use Rattle.jz_tree.specs.declared.program.Param.{Param}
use Rattle.jz_tree.specs.declared.program.Program.{Program}
use Rattle.jz_type_names.specs.Order.{is_before}
use Rattle.jz_type_names.specs.Parts.{Layer, layer_of, statements_of}
use Rattle.jz_meaning.specs.Values.{ref_of}
use Rattle.jz_inline.specs.BodiesCalls.{is_array}
use Rattle.jz_copies.specs.Called.{called_function}
use Rattle.jz_inline.specs.Names.{Names, var_in}
use Rattle.jz_inline.specs.Calls.{callee_names}
use Rattle.jz_inline.specs.Functions.{own_names}
use Rattle.jz_inline.specs.Statements.{copied_funs, body_piece}

-- ---- variables, and what comes between them

-- variables that stand together at a place
pub record Group : Type 0 where
  pub at : Span
  pub vars : List Var

abbrev pub all_in : List Group → List Var
all_in gs = flat_map (λ g. g.vars) gs

-- the groups that stand before a place, a variable that stands there, and then the rest
abbrev pub behind : Var → Span → (List Group → List Var) → List Group → List Var
behind v at rest [] = v ∷ rest []
behind v at rest (g ∷ gs) =
    if is_before g.at at then g.vars ++ behind v at rest gs else (v ∷ rest (g ∷ gs))

-- variables of a function as they are in a copy, with these groups between them
abbrev pub merged : Names → List Var → List Group → List Var
merged names [] gs = all_in gs
merged names (v ∷ vs) gs = behind (var_in names v) (out-Var v).span (merged names vs) gs

-- ---- calls

-- a call in a body, and the place of the name
pub record Called : Type 0 where
  pub at : Span
  pub of : Fun
  pub args : List Expr

abbrev pub right_called : List Fun → ℕ → Option BinOp → Rhs → Option Expr → List Called
right_called fs depth o (rhs.Call n args at) c =
    option_to_list
    (option_map (λ f. record { at = at; of = f; args = args }) (called_function fs depth o n c))
right_called fs depth o _ c = []

abbrev pub layer_called : List Fun → ℕ → Layer → List Called
layer_called fs depth (StmtKind-F.Assign to o r c) = right_called fs depth o r c
layer_called fs depth _ = []

-- the calls of a body in the order of the text
abbrev pub calls_in : List Fun → ℕ → List Stmt → List Called
calls_in fs depth ss = flat_map (λ s. layer_called fs depth (layer_of s)) (statements_of ss)

-- ---- functions

-- the parameters that are no arrays
abbrev pub own_params : Names → List Param → List Var
own_params inner [] = []
own_params inner (p ∷ ps) =
    if is_array (ref_of p.var).kind
    then own_params inner ps
    else (var_in inner p.var ∷ own_params inner ps)

-- how many copies of bodies stand in that of a function
abbrev pub copies_in : List Fun → ℕ → Fun → ℕ
copies_in fs depth f = (body_piece (copied_funs fs depth) f.body).copies

-- what calls bring: each has the next number, behind those in the bodies of the calls before it
abbrev pub groups :
    (Names → ℕ → Fun → List Var) → (Fun → ℕ) → Names → ℕ → List Called → List Group
groups frame copies names j [] = []
groups frame copies names j (c ∷ cs) =
    let inner = callee_names names j c.of.params c.args in
    record { at = c.at; vars = own_params inner c.of.params ++ frame inner (suc j) c.of }
    ∷ groups frame copies names (j + suc (copies c.of)) cs

-- where calls may be so deep
abbrev pub frame_in : List Fun → ℕ → Names → ℕ → Fun → List Var
frame_in fs zero names j f = map (var_in names) f.vars
frame_in fs (suc depth) names j f =
    merged names f.vars
    (groups (frame_in fs depth) (copies_in fs depth) names j (calls_in fs (suc depth) f.body))

-- of a function of a program; its parameters are not among them
abbrev pub frame_of : Program → Fun → List Var
frame_of p f = frame_in p.funs (length p.funs) own_names 1 f
