use Rattle.std.proofs.Common.{arith, ap, length, ◌∙◌, ◌++◌}
use Rattle.jz_listing.specs.Transformers.{case_text, tr_text}
use Rattle.jz_listing.proofs.Spaces.{next_piece}
use Rattle.jz_listing.proofs.transformers.+write.Goals as goal

pub write_tr-loop-i-preserved : goal.write_tr-loop-i-preserved
write_tr-loop-i-preserved n c =
    let same = c.as_slice-case-items.ensures in
    let between = c.write_separator.new.text.items in
    next_piece case_text c.args.tr.now.cases c.as_slice-case-items.result.now c.loop-i.i c.case-item.result c.extend_from_slice.new.self.items
    c.loop-i.text.items between c.write_case.new.text.items same (omega (arith, ap length same))
    c.loop-i.invariant c.in_ok-write_separator.ensures (c.in_ok-write_case.ensures ∙ ap (λ x. between ++ case_text x) c.case-item.is)

pub write_for-loop-i-preserved : goal.write_for-loop-i-preserved
write_for-loop-i-preserved n c =
    let same = c.as_slice-tr-items.ensures in
    let between = c.write_separator.new.text.items in
    next_piece tr_text c.args.trs.now c.as_slice-tr-items.result.now c.loop-i.i c.tr-item.result c.extend_from_slice.new.self.items
    c.loop-i.text.items between c.write_tr.new.text.items same (omega (arith, ap length same))
    c.loop-i.invariant c.in_ok-write_separator.ensures (c.in_ok-write_tr.ensures ∙ ap (λ x. between ++ tr_text x) c.tr-item.is)
