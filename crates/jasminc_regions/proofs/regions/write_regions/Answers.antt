use Rattle.std.proofs.Common.{arith, ap, length, get_or, ◌∙◌}
use Rattle.jz_preconditions.specs.Meeting.{IsBelowEnd, names_of, region_of}
use Rattle.jz_text.proofs.NextLines.{next_line}
use Rattle.jasminc_regions.specs.Regions.{region_text}
use Rattle.jasminc_regions.proofs.Parts.{part_of}
use Rattle.jasminc_regions.proofs.regions.write_regions.Goals as goal

pub write_region_of-requires : goal.write_region_of-requires
write_region_of-requires c =
    let same = c.as_slice-pre-items.ensures in
    let pre = c.pre-item.result in
    part_of IsBelowEnd (region_of (names_of c.args.function.now) c.args.words.now) c.args.pres.now c.loop-pre.pre-index pre (omega (arith, ap length same))
    (c.pre-item.is ∙ ap (λ xs. get_or xs c.loop-pre.pre-index pre) same) c.requires

pub loop-pre-preserved : goal.loop-pre-preserved
loop-pre-preserved c =
    let same = c.as_slice-pre-items.ensures in
    next_line (region_text c.args.function.now c.args.words.now c.args.memory.now) c.args.pres.now c.as_slice-pre-items.result.now c.loop-pre.pre-index c.pre-item.result
    c.pre-item.result c.args.text.now.items c.loop-pre.text.items c.write_region_of.new.text.items same (omega (arith, ap length same))
    c.loop-pre.invariant c.in_ok-write_region_of.ensures c.pre-item.is
