use Rattle.std.proofs.Common.{arith}
use Rattle.jz_pinned_rows.proofs.SliceLemmas.{one_is, two_is}
use Rattle.jz_instructions.proofs.shaping.one_two.Goals as goal

pub returns-in-len2 : goal.returns-in-len2
returns-in-len2 c = (one_is c.args.to.now c.d-item.result (omega (arith, c.in-len1.len_at_least)) (omega (arith, c.in-len1.len_below)) c.d-item.is, two_is c.args.args.now c.a-item.result c.b-item.result (omega (arith, c.in-len2.len_at_least)) (omega (arith, c.in-len2.len_below)) c.a-item.is c.b-item.is)
