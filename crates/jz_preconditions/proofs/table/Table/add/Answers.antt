use Rattle.jz_preconditions.proofs.Tabled.{region_added, range_added, align_added}
use Rattle.jz_preconditions.proofs.table.Table.add.Goals as goal

pub returns-in-Region : goal.returns-in-Region
returns-in-Region c = λ ps ss h.
    region_added c.args.self.now c.args.stated.now ps ss h c.in-Region.pointer c.in-Region.factor c.in-Region.variable c.in-Region.constant c.in-Region.is

pub returns-in_ok-add-in-Range-2 : goal.returns-in_ok-add-in-Range-2
returns-in_ok-add-in-Range-2 c = λ ps ss h.
    range_added c.args.self.now c.args.stated.now ps ss h c.add.new.self c.add-in-Range.new.self c.in-Range.name c.in-Range.low c.in-Range.high c.in-Range.is
    c.in_ok-add-in-Range.ensures c.in_ok-add-in-Range-2.ensures

pub returns-in_ok-add-in-Align-2 : goal.returns-in_ok-add-in-Align-2
returns-in_ok-add-in-Align-2 c = λ ps ss h.
    align_added c.args.self.now c.args.stated.now ps ss h c.add-in-Align.new.self c.add-in-Align-2.new.self c.in-Align.pointer c.in-Align.multiple c.in-Align.is
    c.in_ok-add-in-Align.ensures c.in_ok-add-in-Align-2.ensures
