use Rattle.std.proofs.Common.{◌≡◌, drop}
use Rattle.jz_correct.specs.Registers.{argument_registers}
use Rattle.jasminc_steps.specs.Starting.{with_numbers, bare_registers}
use Rattle.jasminc_steps.proofs.starting.registers.Given as goal

abbrev pub invariant-loop-i : goal.invariant-loop-i
invariant-loop-i l =
    with_numbers (drop l.i l.items) (drop l.i argument_registers) l.regs
    ≡ with_numbers l.items argument_registers bare_registers
