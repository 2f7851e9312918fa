use Rattle.std.proofs.Common.{◌≡◌, rules}
use Rattle.jz_words.specs.Words.{ror_of}
use Rattle.jz_words.proofs.Rotations.{ror_moves}
use Rattle.jz_words.proofs.operations.ror.Goals as goal

pub returns-clause-moved : goal.returns-clause-moved
returns-clause-moved c = λ i within.
    let formula : c.reduced.result.bits ≡ ror_of c.args.a.size c.args.a.bits c.args.count = search rules in
    rw formula (ror_moves c.args.a.size c.args.a.bits c.args.count i c.args.a.fits within)
