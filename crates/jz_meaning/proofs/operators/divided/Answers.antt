use Rattle.std.proofs.Common.{◌∙◌, sym, rules, FitsSigned}
use Rattle.std.specs.Int.{w128}
use Rattle.jz_meaning.proofs.Quotients.{signed_zero, divides}
use Rattle.jz_meaning.proofs.operators.divided.Goals as goal

pub nonzero_div-result : goal.nonzero_div-result
nonzero_div-result c =
    let a = c.signed-dividend.result in
    let d = c.signed-divisor.result in
    let f : FitsSigned w128 a = search rules in
    let g : FitsSigned w128 d = search rules in
    divides a d f g c.signed-dividend.ensures.low c.signed-dividend.ensures.high
    (λ e. c.requires.zero (signed_zero c.args.b.size c.args.b.bits c.args.b.fits (sym c.signed-divisor.ensures.value ∙ e)))

pub nonzero_rem-result : goal.nonzero_rem-result
nonzero_rem-result c =
    let a = c.signed-dividend.result in
    let d = c.signed-divisor.result in
    let f : FitsSigned w128 a = search rules in
    let g : FitsSigned w128 d = search rules in
    divides a d f g c.signed-dividend.ensures.low c.signed-dividend.ensures.high
    (λ e. c.requires.zero (signed_zero c.args.b.size c.args.b.bits c.args.b.fits (sym c.signed-divisor.ensures.value ∙ e)))
