-- The function that a call runs.
use Rattle.std.specs.Prelude.{ℕ, suc, List, Option, None}
use Rattle.jz_tree.specs.declared.expr.BinOp.{BinOp}
use Rattle.jz_tree.specs.declared.expr.Expr.{Expr}
use Rattle.jz_tree.specs.declared.program.Fun.{Fun}
use Rattle.jz_type_names.specs.Scopes.{function_named}

-- the function that a call runs, where calls may be so deep: none where the call has an operation
-- or a condition
abbrev pub called_function : List Fun → ℕ → Option BinOp → List ℕ → Option Expr → Option Fun
called_function fs (suc depth) None n None = function_named n fs
called_function _ _ _ _ _ = None
