-- How deep calls may be. `callees_of` has none below its depth; where no function reaches itself,
-- nothing is cut off: each call holds the body of the function that it names, with all calls in it.
use Rattle.std.specs.Prelude.{◌≡◌, ◌<◌, ◌≤◌, ℕ, List, length, Option, Some, None, slice_index_or}
use Rattle.jz_tree.specs.Span.{Span}
use Rattle.jz_tree.specs.declared.expr.Expr.{Expr}
use Rattle.jz_tree.specs.declared.stmt.Lval.{Lval}
use Rattle.jz_tree.specs.declared.stmt.Rhs.TheVariants as rhs
use Rattle.jz_tree.specs.declared.stmt.Stmt.{Stmt}
use Rattle.jz_tree.specs.declared.stmt.StmtKind.TheVariants as kind
use Rattle.jz_tree.specs.declared.program.Fun.{Fun}
use Rattle.jz_tree.specs.declared.program.Program.{Program}
use Rattle.jz_type_names.specs.Scopes.{function_named}
use Rattle.jz_meaning.specs.Trees.{done, call}
use Rattle.jz_types.specs.Numbers.{number_named}
use Rattle.jz_types.specs.Recursion.{IsRecursive, IsRanked}
use Rattle.jz_types.specs.TypedPrograms.{IsTypedProgram}
use Rattle.jz_meaning.specs.Statements.{Block}
use Rattle.jz_meaning.specs.Runs.{Callee, Callees, statement_tree, block, callees_of, body_of}

abbrev pub HasNoRecursion : Program → Type 0
HasNoRecursion p = (at : Span) → IsRecursive p at → ⊥

-- at any two depths above the rank of the first function of a name
abbrev pub RanksLaw : Type 0
RanksLaw =
    (p : Program) (ranks : List ℕ) (n : List ℕ) (i d e : ℕ)
    → IsRanked p ranks → number_named n p.funs ≡ Some i
    → slice_index_or ranks i 0 < d → slice_index_or ranks i 0 < e
    → callees_of p.funs d n ≡ callees_of p.funs e n

-- ---- without a bound on the depth

abbrev pub with_own_tree : Program → Option Fun → Option Callee
with_own_tree p None = None
with_own_tree p (Some f) = Some (record { of = f; body = body_of p f })

-- each function by its name, with the tree of its own body
abbrev pub callees_in : Program → Callees
callees_in p n = with_own_tree p (function_named n p.funs)

abbrev pub CalleesLaw : Type 0
CalleesLaw =
    (p : Program) (d : ℕ) (n : List ℕ) → HasNoRecursion p → length p.funs ≤ d
    → callees_of p.funs d n ≡ callees_in p n

abbrev pub BodiesLaw : Type 0
BodiesLaw =
    (p : Program) (f : Fun) (d : ℕ) → HasNoRecursion p → length p.funs ≤ d
    → block (callees_of p.funs d) f.body done ≡ body_of p f

-- the trees of all bodies by one another
abbrev pub WholeLaw : Type 0
WholeLaw =
    (p : Program) (f : Fun) → HasNoRecursion p
    → body_of p f ≡ block (callees_in p) f.body done

-- there a call of a declared function is a call, and holds the tree of its body
abbrev pub CallsLaw : Type 0
CallsLaw =
    (p : Program) (s : Stmt) (to : List Lval) (n : List ℕ) (args : List Expr) (at : Span)
    (f : Fun) (rest : Block)
    → s.kind ≡ kind.Assign to None (rhs.Call n args at) None
    → function_named n p.funs ≡ Some f
    → statement_tree (callees_in p) s rest
    ≡ call (record { to = to; callee = f; args = args; at = at }) (body_of p f) rest

-- ---- typed programs

abbrev pub TypedLaw : Type 0
TypedLaw = (p : Program) → IsTypedProgram p → HasNoRecursion p
