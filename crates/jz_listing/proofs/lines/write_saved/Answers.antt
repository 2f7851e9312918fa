use Rattle.std.proofs.Common.{arith, ap, length, refl, get_or}
use Rattle.jz_text.proofs.NextLines.{next_line}
use Rattle.x64_insn.specs.declared.types.Reg.TheVariants as reg
use Rattle.jz_listing.specs.Listing.{saved_reg_text}
use Rattle.jz_listing.proofs.lines.write_saved.Goals as goal

pub loop-reg-preserved : goal.loop-reg-preserved
loop-reg-preserved c =
    let same = c.as_slice-reg-items.ensures in
    let item = get_or c.as_slice-reg-items.result.now c.loop-reg.reg-index reg.Rax in
    next_line saved_reg_text c.args.saved.now c.as_slice-reg-items.result.now c.loop-reg.reg-index item reg.Rax c.args.text.now.items
    c.loop-reg.text.items c.write_saved_reg.new.text.items same (omega (arith, ap length same)) c.loop-reg.invariant
    c.in_ok-write_saved_reg.ensures refl
