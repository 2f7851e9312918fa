use Rattle.std.proofs.Common.{◌∙◌, sym, ◌≤◌, arith}
use Rattle.jz_meaning.proofs.Counts.{shr_far}
use Rattle.jz_meaning.proofs.operators.shifted_right.Goals as goal

pub returns-else-count-lt64-clause-bits : goal.returns-else-count-lt64-clause-bits
returns-else-count-lt64-clause-bits c =
    let far : 64 ≤ c.args.count = grind (arith, c.if-count-lt64.false) in
    c.new.ensures.bits ∙ sym (shr_far c.args.a.size c.args.a.bits c.args.count c.args.a.fits far)
