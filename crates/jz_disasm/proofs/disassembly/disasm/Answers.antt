use Rattle.std.proofs.Common.{arith, subst, sym, drop}
use Rattle.jz_disasm.proofs.Joining.{Until, begun, one_more, decoded_some}
use Rattle.jz_disasm.proofs.disassembly.disasm.Goals as goal

pub loop-offset-init : goal.loop-offset-init
loop-offset-init c = subst (Until c.args.code.now 0) (sym c.new-text.ensures.items) (begun c.args.code.now)

pub loop-offset-smaller : goal.loop-offset-smaller
loop-offset-smaller c =
    let line = c.in_ok-offset.ensures.line in
    let some = decoded_some (drop c.loop-offset.offset c.args.code.now) line.0 c.in_ok-offset.field-0 line.1 in
    omega (arith, some, c.loop-offset-test.true)

pub loop-offset-preserved : goal.loop-offset-preserved
loop-offset-preserved c =
    let line = c.in_ok-offset.ensures.line in
    one_more c.args.code.now c.loop-offset.text.items c.write_next.new.text.items c.loop-offset.offset c.in_ok-offset.field-0 line.0
    c.loop-offset.invariant line.1 line.2
