use Rattle.std.proofs.Common.{arith}
use Rattle.jz_pinned_rows.proofs.SliceLemmas.{one_is, three_is}
use Rattle.jz_instructions.proofs.shaping.one_three.Goals as goal

pub returns-in-len3 : goal.returns-in-len3
returns-in-len3 c = (one_is c.args.to.now c.d-item.result (omega (arith, c.in-len1.len_at_least)) (omega (arith, c.in-len1.len_below)) c.d-item.is, three_is c.args.args.now c.a-item.result c.b-item.result c.c-item.result (omega (arith, c.in-len3.len_at_least)) (omega (arith, c.in-len3.len_below)) c.a-item.is c.b-item.is c.c-item.is)
