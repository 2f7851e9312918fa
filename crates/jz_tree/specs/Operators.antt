-- Sorts of operators of two operands.
use Rattle.std.specs.Prelude.{Bool, true, false}
use Rattle.jz_tree.specs.declared.expr.BinOp.{BinOp}
use Rattle.jz_tree.specs.declared.expr.BinOp.TheVariants as op

-- `&&` and `||`: of bools a bool
abbrev pub joins : BinOp → Bool
joins op.AndThen = true
joins op.OrElse = true
joins _ = false

-- it shifts or rotates
abbrev pub is_shift : BinOp → Bool
is_shift op.Shl = true
is_shift op.Shr = true
is_shift op.Sar = true
is_shift op.Rol = true
is_shift op.Ror = true
is_shift _ = false

-- it gives a quotient or a remainder
abbrev pub divides : BinOp → Bool
divides op.Div = true
divides op.Rem = true
divides op.DivS = true
divides op.RemS = true
divides _ = false

-- `+` and `+`, or `-` and `-`: what an operation with a carry or a borrow is built of
abbrev pub carries : BinOp → BinOp → Bool
carries op.Add op.Add = true
carries op.Sub op.Sub = true
carries _ _ = false
