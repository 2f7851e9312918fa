-- The variable of a place is an operand.
use Rattle.std.proofs.Common.{◌≡◌, Some, refl}
use Rattle.jz_operations.specs.declared.operation.Pinned.{Pinned}
use Rattle.jz_operations.specs.declared.operation.Arg.{Arg}
use Rattle.jz_operations.specs.declared.operation.Arg.TheVariants as arg
use Rattle.jz_row_operations.specs.Table.{same_arg}
use Rattle.jz_flag_rows.specs.Wide.{is_pinned}

pub pinned_is : (k : Pinned) (x : Arg) → same_arg (arg.Var k.variable) x ≡ is_pinned (Some k) x
pinned_is k (arg.Var v) = refl
pinned_is k (arg.Imm i) = refl
pinned_is k (arg.Mem m) = refl
pinned_is k (arg.Cell c) = refl
pinned_is k (arg.At r p) = refl
