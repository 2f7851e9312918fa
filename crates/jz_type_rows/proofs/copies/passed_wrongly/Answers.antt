use Rattle.std.proofs.Common.{◌∙◌, ap, map}
use Rattle.jz_type_rows.specs.InnerPairs.{pair_of}
use Rattle.jz_type_rows.specs.InnerPassing.{passed_of}
use Rattle.jz_type_rows.proofs.CopyLaws.{wrongly_is}
use Rattle.jz_type_rows.proofs.copies.passed_wrongly.Goals as goal

pub returns : goal.returns
returns c =
    λ to given.
    c.earlier_of.ensures.is
    ∙ wrongly_is c.args.callee.now to c.args.args.now (map pair_of c.args.results.now) c.deref.result.now (map passed_of c.deref-2.result.now) (map passed_of c.deref-3.result.now)
    c.not_back_among-not_back.result c.in_ok-twice.twice given (c.deref.ensures.value ∙ c.in_ok-numbers.ensures)
    (ap (map passed_of) c.deref-2.ensures.value ∙ c.in_ok-passed.ensures) (ap (map passed_of) c.deref-3.ensures.value ∙ c.in_ok-passed.ensures)
    (c.not_back_among-not_back.ensures c.deref.result.now c.in_ok-back.ensures) c.in_ok-twice.ensures
