-- x = 5; return x;
use Rattle.std.specs.Prelude.{None, pos}
use Rattle.jz_words.specs.declared.size.Size.TheVariants.{S64}
use Rattle.x64_insn.specs.declared.types.Reg.TheVariants as reg
use Rattle.jz_operations.specs.declared.operation.Arg.TheVariants as arg
use Rattle.jz_operations.specs.declared.operation.Action.TheVariants as action
use Rattle.jz_operations.specs.declared.operation.Operation.{Operation}
use Rattle.jz_place.specs.declared.tree.Passed.{Passed}

abbrev pub mov_five : Operation
mov_five = record {
  span = record { line = 2; col = 3 };
  action = action.Mov S64 (arg.Var 0) (arg.Imm (pos 5));
  flags = record { of = None; cf = None; sf = None; pf = None; zf = None };
}

abbrev pub in_rax : Passed
in_rax = record {
  variable = record { variable = 0; span = record { line = 3; col = 10 } };
  reg = reg.Rax;
}
