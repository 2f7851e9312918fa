use Rattle.std.proofs.Common.{◌∙◌, None, ap}
use Rattle.jz_limits.specs.InnerKnown.{numbers_of}
use Rattle.jz_limits.specs.InnerLooked.{firsts_found, look_of}
use Rattle.jz_limits.proofs.PartLemmas.{asked_found}
use Rattle.jz_limits.proofs.operands.ask.Goals as goal

pub returns : goal.returns
returns c =
    let e = numbers_of c.args.numbers.now in
    let x = c.args.expr.now in
    c.firsts_found.ensures
    ∙ (ap (firsts_found c.args.role c.args.size) (c.in_ok-found.ensures ∙ ap (λ z. look_of e (record { place = None; size = z }) x) c.size_in.ensures)
    ∙ asked_found e c.args.role c.args.size x)
