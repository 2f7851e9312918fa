use Rattle.std.proofs.Common.{arith}
use Rattle.jz_pinned_rows.proofs.SliceLemmas.{none_is, two_is}
use Rattle.jz_instructions.proofs.shaping.none_two.Goals as goal

pub returns-in-len2 : goal.returns-in-len2
returns-in-len2 c = (none_is c.args.to.now (omega (arith, c.in-empty.len_below)), two_is c.args.args.now c.a-item.result c.b-item.result (omega (arith, c.in-len2.len_at_least)) (omega (arith, c.in-len2.len_below)) c.a-item.is c.b-item.is)
