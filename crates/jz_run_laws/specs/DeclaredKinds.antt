-- What a tree's variables have to be declared as: each that is written carries what its function
-- declares of it, a counter is a whole number, and an argument for an array is an array of the same
-- cells.
use Rattle.std.specs.Prelude.{◌≡◌, ℕ, List, ◌∷◌, Option, Some, All, option_map}
use Rattle.jz_tree.specs.declared.expr.Expr.{Expr}
use Rattle.jz_tree.specs.declared.expr.Decl.{Decl}
use Rattle.jz_tree.specs.declared.stmt.Lval.{Lval}
use Rattle.jz_tree.specs.declared.stmt.Lval.TheVariants as lval
use Rattle.jz_tree.specs.declared.program.Param.{Param}
use Rattle.jz_meaning.specs.declared.access.Kind.{Kind}
use Rattle.jz_meaning.specs.declared.access.Kind.TheVariants as kind
use Rattle.jz_meaning.specs.Values.{Ref, key_of, ref_of, kind_or, declared_kind}
use Rattle.jz_meaning.specs.Statements.{Operation, assign, instruction, unset, meaningless, Counter, Call, Block, array_of}
use Rattle.jz_run_laws.specs.Kinds.{Kinds, kind_at}
use Rattle.jz_run_laws.specs.Nodes.{AllNodes}

-- the kinds that the declarations of a function's variables give, whatever the copy
abbrev pub kinds_of : (List ℕ → Option Decl) → Kinds
kinds_of declared name copy = kind_or (option_map declared_kind (declared name))

-- a variable carries the declaration that its function has of it
abbrev pub IsDeclared : Kinds → Ref → Type 0
IsDeclared kinds x = kind_at kinds (key_of x) ≡ x.kind

abbrev pub LeftDeclared : Kinds → Lval → Type 0
LeftDeclared kinds (lval.Skip at) = Unit {0}
LeftDeclared kinds (lval.Var x) = IsDeclared kinds (ref_of x)
LeftDeclared kinds (lval.Cell x i) = IsDeclared kinds (ref_of x)
LeftDeclared kinds (lval.Store a) = Unit {0}

abbrev pub OperationDeclared : Kinds → Operation → Type 0
OperationDeclared kinds (assign to o e c at) = All (LeftDeclared kinds) to
OperationDeclared kinds (instruction to n args at) = All (LeftDeclared kinds) to
OperationDeclared kinds (unset xs) = Unit {0}
OperationDeclared kinds (meaningless at) = Unit {0}

abbrev pub CounterDeclared : Kinds → Counter → Type 0
CounterDeclared kinds f = kind_at kinds (key_of (ref_of f.counter)) ≡ kind.Int

-- the argument for a parameter of this kind: for an array it is one of the same cells
abbrev pub ArrayDeclared : Kinds → Kind → Option Ref → Type 0
ArrayDeclared kinds (kind.Array z n) (Some x) = kind_at kinds (key_of x) ≡ kind.Array z n
ArrayDeclared kinds _ _ = Unit {0}

abbrev pub ArraysDeclared : Kinds → List Param → List Expr → Type 0
ArraysDeclared kinds (p ∷ ps) (e ∷ es) =
    ArrayDeclared kinds (ref_of p.var).kind (array_of e) × ArraysDeclared kinds ps es
ArraysDeclared kinds _ _ = Unit {0}

abbrev pub ParamDeclared : Kinds → Param → Type 0
ParamDeclared kinds p = IsDeclared kinds (ref_of p.var)

-- a call in one function of another
pub record CallDeclared (caller callee : Kinds) (c : Call) : Type 0 where
  pub lefts : All (LeftDeclared caller) c.to
  pub params : All (ParamDeclared callee) c.callee.params
  pub arrays : ArraysDeclared caller c.callee.params c.args

-- all that a body writes, and all that the bodies write that it calls
abbrev pub BodyDeclared : Kinds → Block → Type 0
BodyDeclared = AllNodes OperationDeclared CounterDeclared CallDeclared
