use Rattle.std.proofs.Common.{◌∙◌, ap, map}
use Rattle.std.specs.List.{zip}
use Rattle.jz_type_rows.specs.InnerPairs.{pair_of}
use Rattle.jz_type_rows.proofs.CopyLaws.{by_call_is}
use Rattle.jz_type_rows.proofs.copies.copied_with.Goals as goal

pub returns : goal.returns
returns c =
    let paired =
    c.in_ok-results.ensures ∙ (ap (λ q. zip q c.as_slice-2.result.now) c.as_slice.ensures ∙ ap (zip c.args.callee.now.returned) c.as_slice-2.ensures)
    in c.earlier_of.ensures.is
    ∙ by_call_is c.args.callee.now c.args.to.now c.args.args.now (map pair_of c.deref-2.result.now) c.not_passed_among.result c.in_ok-arguments.arguments
    (ap (map pair_of) c.deref-2.ensures.value ∙ paired) c.not_passed_among.ensures (c.in_ok-arguments.ensures c.args.to.now (ap (map pair_of) c.deref.ensures.value ∙ paired))
