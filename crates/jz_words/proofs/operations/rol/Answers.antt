use Rattle.std.proofs.Common.{◌≡◌, rules}
use Rattle.jz_words.specs.Words.{rol_of}
use Rattle.jz_words.proofs.Rotations.{rol_moves}
use Rattle.jz_words.proofs.operations.rol.Goals as goal

pub returns-clause-moved : goal.returns-clause-moved
returns-clause-moved c = λ i within.
    let formula : c.reduced.result.bits ≡ rol_of c.args.a.size c.args.a.bits c.args.count = search rules in
    rw formula (rol_moves c.args.a.size c.args.a.bits c.args.count i c.args.a.fits within)
