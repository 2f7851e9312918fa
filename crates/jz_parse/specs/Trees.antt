-- The tree of a phrase, from its parts.
use Rattle.std.specs.Prelude.{ℕ, List, [], Option, Some, None, flat_map, filter_map, map}
use Rattle.jz_tree.specs.Span.{Span}
use Rattle.jz_tree.specs.Size.{Size}
use Rattle.jz_tree.specs.declared.expr.Decl.{Decl}
use Rattle.jz_tree.specs.declared.expr.Expr.{Expr}
use Rattle.jz_tree.specs.declared.expr.Expr.TheViews.{roll-Var, roll-Decl}
use Rattle.jz_tree.specs.declared.expr.Storage.{Storage}
use Rattle.jz_tree.specs.declared.expr.Ty.{Ty}
use Rattle.jz_tree.specs.declared.expr.Ty.TheVariants.{Word, Array}
use Rattle.jz_tree.specs.declared.expr.Var.{Var}
use Rattle.jz_tree.specs.declared.program.Const.{Const}
use Rattle.jz_tree.specs.declared.program.Fun.{Fun}
use Rattle.jz_tree.specs.declared.program.FunKind.{FunKind}
use Rattle.jz_tree.specs.declared.program.Note.{Note}
use Rattle.jz_tree.specs.declared.program.Param.{Param}
use Rattle.jz_tree.specs.declared.program.Program.{Program}
use Rattle.jz_tree.specs.declared.program.Ret.{Ret}
use Rattle.jz_tree.specs.declared.stmt.Stmt.{Stmt}
use Rattle.jz_parse.specs.declared.function.Body.{Body}
use Rattle.jz_parse.specs.declared.function.Item.{Item}
use Rattle.jz_parse.specs.declared.function.Item.TheVariants.{Declares, Does}
use Rattle.jz_parse.specs.declared.program.Part.{Part}
use Rattle.jz_parse.specs.declared.program.Part.TheVariants.{Constant, Function}

-- ---- declarations
-- a word, or an array of so many of them
abbrev pub type_of : Size → Option Expr → Ty
type_of size None = Word size
type_of size (Some n) = Array size n

abbrev pub decl_of : Storage → Ty → Decl
decl_of storage ty = roll-Decl (record { storage = storage; ty = ty })

-- a variable where it is declared
abbrev pub declared_of : Decl → List ℕ × Span → Var
declared_of t n = roll-Var (record { name = n.0; copy = 0; cell = None; decl = Some t; span = n.1 })

-- a parameter, with the annotations and the declaration of its group
abbrev pub param_of : List Note → Decl → List ℕ × Span → Param
param_of notes t n = record { notes = notes; var = declared_of t n }

abbrev pub ret_of : List Note → Decl → Ret
ret_of notes t = record { notes = notes; decl = t }

-- the variables of these names
abbrev pub declared_all : Decl → List (List ℕ × Span) → List Var
declared_all t ns = map (declared_of t) ns

abbrev pub params_all : List Note → Decl → List (List ℕ × Span) → List Param
params_all notes t ns = map (param_of notes t) ns

-- ---- functions

-- the variables that are declared, and the statements, each in the order of the text
abbrev pub declared_by : Item → List Var
declared_by (Declares vs) = vs
declared_by (Does s) = []

abbrev pub done_by : Item → Option Stmt
done_by (Declares vs) = None
done_by (Does s) = Some s

abbrev pub vars_in : List Item → List Var
vars_in is = flat_map declared_by is

abbrev pub stmts_in : List Item → List Stmt
stmts_in is = filter_map done_by is

abbrev pub body_of : List Var × List Stmt → List Var → Body
body_of items result = record { vars = items.0; stmts = items.1; result = result }

abbrev pub fun_of : List Note → FunKind → List ℕ × Span → List Param → List Ret → Body → Fun
fun_of notes kind name params rets body = record {
  notes = notes;
  kind = kind;
  name = name.0;
  span = name.1;
  params = params;
  rets = rets;
  vars = body.vars;
  body = body.stmts;
  result = body.result;
}

-- ---- programs
abbrev pub const_of : List ℕ × Span → Expr → Const
const_of name value = record { name = name.0; value = value; span = name.1 }

-- the constants, and the functions, each in the order of the text
abbrev pub named_by : Part → Option Const
named_by (Constant c) = Some c
named_by (Function f) = None

abbrev pub defined_by : Part → Option Fun
defined_by (Constant c) = None
defined_by (Function f) = Some f

abbrev pub consts_in : List Part → List Const
consts_in ps = filter_map named_by ps

abbrev pub funs_in : List Part → List Fun
funs_in ps = filter_map defined_by ps

abbrev pub program_of : List Const × List Fun → Program
program_of parts = record { consts = parts.0; funs = parts.1 }
