use Rattle.std.proofs.Common.{of_z, rules, to_z}
use Rattle.std.proofs.lemmas.Int.{to_z-of_z}
use Rattle.std.specs.Int.{w128}
use Rattle.jz_rows.proofs.FoundRows.{number_finds, masked_finds, unmasked}
use Rattle.jz_rows.proofs.RowRules.{second_other}
use Rattle.jz_rows.proofs.assignments.shift_row.Goals as goal

pub returns-in-Num : goal.returns-in-Num
returns-in-Num c = λ at.
    number_finds c.args.target.now c.shift_by_number.result c.args.op c.args.first.now c.args.second.now c.in-Num.number (to_z w128 (of_z w128 c.in-Num.number)) c.in-Num.field-1 at c.in-Num.is (to_z-of_z w128 c.in-Num.number (search rules)) (c.shift_by_number.ensures c.in-Num.field-1 at)

pub returns-in-And : goal.returns-in-And
returns-in-And c = λ at.
    masked_finds c.args.target.now c.shift_masked.result c.args.op c.in-Bin.and c.args.first.now c.args.second.now c.in-Bin.var c.in-Bin.mask c.get.result.now c.get-in-And.result.now c.in-Bin.field-3 at c.in-Bin.is c.in-And.is c.get.ensures c.get-in-And.ensures (c.shift_masked.ensures c.in-Bin.field-3 at)

pub returns-in_default : goal.returns-in_default
returns-in_default c = λ at. second_other c.args.target.now c.args.op c.args.first.now c.args.second.now at (search rules) (search rules)

pub returns-in_default-and : goal.returns-in_default-and
returns-in_default-and c = λ at. unmasked c.args.target.now c.args.op c.in-Bin.and c.args.first.now c.args.second.now c.in-Bin.var c.in-Bin.mask c.in-Bin.field-3 at c.in-Bin.is (search rules)
