use Rattle.std.proofs.Common.{arith}
use Rattle.jz_pinned_rows.proofs.SliceLemmas.{three_is, two_is}
use Rattle.jz_instructions.proofs.shaping.two_three.Goals as goal

pub returns-in-len3 : goal.returns-in-len3
returns-in-len3 c = (two_is c.args.to.now c.first-item.result c.second-item.result (omega (arith, c.in-len2.len_at_least)) (omega (arith, c.in-len2.len_below)) c.first-item.is c.second-item.is, three_is c.args.args.now c.high-item.result c.low-item.result c.by-item.result (omega (arith, c.in-len3.len_at_least)) (omega (arith, c.in-len3.len_below)) c.high-item.is c.low-item.is c.by-item.is)
