use Rattle.std.proofs.Common.{◌∙◌, sym, drop}
use Rattle.jasminc_steps.proofs.ArgumentRegisters.{none_placed}
use Rattle.jasminc_steps.proofs.starting.registers.Goals as goal

pub returns-in_default : goal.returns-in_default
returns-in_default c =
    sym (none_placed c.loop-i.i (drop c.loop-i.i c.args.items.now) c.loop-i.regs c.in_default.ensures.lookup.3) ∙ c.loop-i.invariant
