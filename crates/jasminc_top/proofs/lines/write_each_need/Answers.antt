use Rattle.std.proofs.Common.{arith, ap, length, refl, get_or}
use Rattle.jz_text.proofs.NextLines.{next_line}
use Rattle.x64_insn.specs.declared.types.Reg.TheVariants.{Rax}
use Rattle.x64_insn.specs.declared.types.Place.TheVariants.{Reg}
use Rattle.jz_alloc.specs.declared.needs.Needed.{Needed}
use Rattle.jasminc_top.specs.Lines.{need_text}
use Rattle.jasminc_top.proofs.lines.write_each_need.Goals as goal

abbrev no_need : Needed
no_need = record { place = Reg Rax; span = record { line = 0; col = 0 } }

pub loop-need-preserved : goal.loop-need-preserved
loop-need-preserved c =
    let same = c.as_slice-need-items.ensures in
    next_line need_text c.args.needs.now c.as_slice-need-items.result.now c.loop-need.need-index (get_or c.as_slice-need-items.result.now c.loop-need.need-index no_need)
    no_need c.args.line.now.items c.loop-need.line.items c.write_need.new.line.items same (omega (arith, ap length same))
    c.loop-need.invariant c.in_ok-write_need.ensures refl
