-- What the statements of a program's functions have to declare, so that the trees of bodies do.
use Rattle.std.specs.Prelude.{◌≡◌, List, Option, Some, None, All, Contains}
use Rattle.jz_tree.specs.declared.expr.Expr.{Expr}
use Rattle.jz_tree.specs.declared.stmt.Rhs.{Rhs}
use Rattle.jz_tree.specs.declared.stmt.Rhs.TheVariants as rhs
use Rattle.jz_tree.specs.declared.stmt.StmtKind.TheOpen.{StmtKind-F}
use Rattle.jz_tree.specs.declared.program.Program.{Program}
use Rattle.jz_tree.specs.declared.program.Fun.{Fun}
use Rattle.jz_type_names.specs.Scopes.{function_named}
use Rattle.jz_type_names.specs.Parts.{Layer, layer_of, statements_of}
use Rattle.jz_meaning.specs.declared.access.Kind.TheVariants as kind
use Rattle.jz_meaning.specs.Values.{key_of, ref_of}
use Rattle.jz_meaning.specs.Runs.{body_of}
use Rattle.jz_run_laws.specs.Kinds.{Kinds, kind_at}
use Rattle.jz_run_laws.specs.DeclaredKinds.{LeftDeclared, ArraysDeclared, ParamDeclared, BodyDeclared}

-- the arguments of a call, where there is a function of that name
abbrev pub ArgumentsDeclared : Kinds → Option Fun → List Expr → Type 0
ArgumentsDeclared kinds None args = Unit {0}
ArgumentsDeclared kinds (Some f) args = ArraysDeclared kinds f.params args

abbrev pub RightDeclared : List Fun → Kinds → Rhs → Type 0
RightDeclared fs kinds (rhs.Value e) = Unit {0}
RightDeclared fs kinds (rhs.Call n args at) = ArgumentsDeclared kinds (function_named n fs) args
RightDeclared fs kinds (rhs.Intrinsic n args at) = Unit {0}

-- one statement of a function, without those that stand in it
abbrev pub StatementDeclared : List Fun → Kinds → Layer → Type 0
StatementDeclared fs kinds (StmtKind-F.Assign to o r c) =
    All (LeftDeclared kinds) to × RightDeclared fs kinds r
StatementDeclared fs kinds (StmtKind-F.If c a b) = Unit {0}
StatementDeclared fs kinds (StmtKind-F.While p c b) = Unit {0}
StatementDeclared fs kinds (StmtKind-F.For i from down to b) =
    kind_at kinds (key_of (ref_of i)) ≡ kind.Int
StatementDeclared fs kinds (StmtKind-F.Mark xs) = Unit {0}

pub record FunctionDeclared (fs : List Fun) (kinds : Kinds) (f : Fun) : Type 0 where
  pub params : All (ParamDeclared kinds) f.params
  pub statements : All (λ s. StatementDeclared fs kinds (layer_of s)) (statements_of f.body)

-- each function by its own kinds
abbrev pub ProgramDeclared : (Fun → Kinds) → Program → Type 0
ProgramDeclared of p = All (λ f. FunctionDeclared p.funs (of f) f) p.funs

abbrev pub TextsDeclare : Type 0
TextsDeclare =
    (of : Fun → Kinds) (p : Program) (f : Fun)
    → ProgramDeclared of p → Contains p.funs f → BodyDeclared (of f) (body_of p f)
