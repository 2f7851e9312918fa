-- The rule that types, sizes and counts agree.
use Rattle.std.specs.Prelude.{ℕ, ℤ, List, [], ◌++◌, flat_map, Option, Some, None}
use Rattle.jz_tree.specs.Span.{Span}
use Rattle.jz_tree.specs.declared.expr.BinOp.{BinOp}
use Rattle.jz_tree.specs.declared.expr.Expr.{Expr}
use Rattle.jz_tree.specs.declared.expr.Var.{Var}
use Rattle.jz_tree.specs.declared.stmt.Lval.{Lval}
use Rattle.jz_tree.specs.declared.stmt.Rhs.{Rhs}
use Rattle.jz_tree.specs.declared.stmt.Rhs.TheVariants as rhs
use Rattle.jz_tree.specs.declared.stmt.Stmt.{Stmt}
use Rattle.jz_tree.specs.declared.stmt.StmtKind.TheOpen.{StmtKind-F}
use Rattle.jz_tree.specs.declared.program.Const.{Const}
use Rattle.jz_tree.specs.declared.program.Fun.{Fun}
use Rattle.jz_tree.specs.declared.program.Program.{Program}
use Rattle.jz_type_names.specs.Order.{unless}
use Rattle.jz_type_names.specs.Scopes.{name_of, function_named, constant_place}
use Rattle.jz_type_names.specs.Parts.{Layer, layer_of, statements_of}
use Rattle.jz_type_names.specs.Kinds.{known_of, is_inline_int}
use Rattle.jz_type_sizes.specs.declared.wants.Want.TheVariants as want
use Rattle.jz_type_sizes.specs.Typings.{typing}
use Rattle.jz_type_sizes.specs.Values.{value_wrong}
use Rattle.jz_type_sizes.specs.Signatures.{signature}
use Rattle.jz_type_sizes.specs.Intrinsics.{intrinsic_wrong}
use Rattle.jz_type_sizes.specs.Calls.{call_wrong, returned_wrong}
use Rattle.jz_type_sizes.specs.Lengths.{fun_lengths}

abbrev pub right_wrong : Option Fun → List Lval → Option BinOp → Rhs → List Span
right_wrong g to o (rhs.Value e) = value_wrong to o e
right_wrong g to o (rhs.Call n args at) = call_wrong g to args at
right_wrong g to o (rhs.Intrinsic n args at) = intrinsic_wrong (signature n) to args at

abbrev pub condition_wrong : Option Expr → List Span
condition_wrong None = []
condition_wrong (Some c) = (typing c).wrong want.Truth

-- the counter of a `for` and its bounds are inline integers
abbrev pub head_wrong : Var → Expr → Expr → List Span
head_wrong i from to =
    unless (is_inline_int (known_of i)) (name_of i).1
    ++ (typing from).wrong want.Int
    ++ (typing to).wrong want.Int

abbrev pub assign_wrong : Option Fun
    → List Lval → Option BinOp → Rhs → Option Expr → List Span
assign_wrong g to o from cond = right_wrong g to o from ++ condition_wrong cond

-- of a statement whose callee is g, and whose variables have their declarations
abbrev pub mismatched_with : Option Fun → Layer → List Span
mismatched_with g (StmtKind-F.Assign to o from cond) = assign_wrong g to o from cond
mismatched_with g (StmtKind-F.If c a b) = (typing c).wrong want.Truth
mismatched_with g (StmtKind-F.While p c b) = (typing c).wrong want.Truth
mismatched_with g (StmtKind-F.For i from down to b) = head_wrong i from to
mismatched_with g (StmtKind-F.Mark vs) = []

-- of a constant, which is an integer
abbrev pub constant_wrong : Const → List Span
constant_wrong c = (typing c.value).wrong want.Int

-- ---- with the functions by their names
abbrev pub Named : Type 0
Named = List ℕ → Option Fun

abbrev pub callee_from : Named → Rhs → Option Fun
callee_from named (rhs.Value e) = None
callee_from named (rhs.Call n args at) = named n
callee_from named (rhs.Intrinsic n args at) = None

abbrev pub callee_where : Named → Layer → Option Fun
callee_where named (StmtKind-F.Assign to o from cond) = callee_from named from
callee_where named (StmtKind-F.If c a b) = None
callee_where named (StmtKind-F.While p c b) = None
callee_where named (StmtKind-F.For i from down to b) = None
callee_where named (StmtKind-F.Mark vs) = None

abbrev pub stmt_wrong : Named → Stmt → List Span
stmt_wrong named s = mismatched_with (callee_where named (layer_of s)) (layer_of s)

-- of a function: what it returns, and its statements
abbrev pub body_wrong : Named → Fun → List Span
body_wrong named f = returned_wrong f ++ flat_map (stmt_wrong named) (statements_of f.body)

-- the function of that name in a program
abbrev pub among : List Fun → Named
among fs n = function_named n fs

-- ---- of a program
-- of the program as it was read: its constants, and the lengths of its arrays
abbrev pub mismatched_as_read : (Expr → Option ℤ) → Program → List Span
mismatched_as_read length_of p =
    flat_map constant_wrong p.consts
    ++ flat_map (fun_lengths (constant_place p.consts) length_of) p.funs

-- of the program whose variables have their declarations: its functions
abbrev pub mismatched_declared : Program → List Span
mismatched_declared q = flat_map (body_wrong (among q.funs)) q.funs

abbrev pub mismatched_in : (Expr → Option ℤ) → Program → Program → List Span
mismatched_in length_of p q = mismatched_as_read length_of p ++ mismatched_declared q
