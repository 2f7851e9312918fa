use Rattle.std.proofs.Common.{of_z, rules, to_z}
use Rattle.std.proofs.lemmas.Int.{to_z-of_z}
use Rattle.std.specs.Int.{w128}
use Rattle.jz_operands.specs.TableHomes.{homes_of}
use Rattle.jz_instructions.proofs.CountLemmas.{number_finds, masked_finds, no_other_op, no_count}
use Rattle.jz_instructions.proofs.counting.count_of.Goals as goal

pub returns-in-Num : goal.returns-in-Num
returns-in-Num c =
    number_finds (homes_of c.args.homes.now) c.args.size c.args.count.now c.in-Num.number (to_z w128 (of_z w128 c.in-Num.number)) c.in-Num.field-1 c.by_number.result c.in-Num.is (to_z-of_z w128 c.in-Num.number (search rules)) (c.by_number.ensures c.in-Num.field-1)

pub returns-in-And : goal.returns-in-And
returns-in-And c =
    masked_finds (homes_of c.args.homes.now) c.args.size c.args.count.now c.in-Bin.op c.in-Bin.var c.in-Bin.mask c.get.result.now c.get-in-And.result.now c.in-Bin.field-3 c.masked.result c.in-Bin.is c.in-And.is c.get.ensures c.get-in-And.ensures (c.masked.ensures c.in-Bin.field-3)

pub returns-in_default-op : goal.returns-in_default-op
returns-in_default-op c = no_other_op (homes_of c.args.homes.now) c.args.size c.args.count.now c.in-Bin.op c.in-Bin.var c.in-Bin.mask c.in-Bin.field-3 c.in-Bin.is (search rules)

pub returns-in_default : goal.returns-in_default
returns-in_default c = no_count (homes_of c.args.homes.now) c.args.size c.args.count.now (search rules) (search rules)
