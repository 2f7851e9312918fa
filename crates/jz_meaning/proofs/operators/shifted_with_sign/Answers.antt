use Rattle.std.proofs.Common.{◌∙◌, ◌≤◌, arith}
use Rattle.jz_meaning.proofs.Counts.{sar_far}
use Rattle.jz_meaning.proofs.operators.shifted_with_sign.Goals as goal

pub returns-else-count-lt64-clause-bits : goal.returns-else-count-lt64-clause-bits
returns-else-count-lt64-clause-bits c =
    let far : 64 ≤ c.args.count = grind (arith, c.if-count-lt64.false) in
    c.sar-else-count-lt64.ensures.bits ∙ sar_far c.args.a.size c.args.a.bits c.args.count c.args.a.fits far
