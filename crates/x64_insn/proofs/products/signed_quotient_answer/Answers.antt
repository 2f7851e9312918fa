-- Numbers of 128 bits are their own readings.
use Rattle.std.proofs.Common.{◌∙◌, sym, ap, rules, FitsSigned}
use Rattle.std.specs.Int.{w128}
use Rattle.std.proofs.lemmas.Int.{to_z-of_z}
use Rattle.jz_words.specs.Sizes.{signed}
use Rattle.x64_insn.proofs.Quotients.{no_quotient, signed_zero}
use Rattle.x64_insn.proofs.products.signed_quotient_answer.Goals as goal

pub rounded_quotient-requires : goal.rounded_quotient-requires
rounded_quotient-requires c e =
    let d = c.args.divisor in
    let f : FitsSigned w128 c.signed.result = search rules in
    c.if-bits-eq0.false
    (c.bits.ensures.value ∙ signed_zero d.size d.bits d.fits (sym c.signed.ensures.value ∙ (sym (to_z-of_z w128 c.signed.result f) ∙ e)))

pub returns-in-None-clause-value : goal.returns-in-None-clause-value
returns-in-None-clause-value c =
    let n = c.signed_double_word.result in
    let e = c.signed.result in
    let f : FitsSigned w128 c.signed_double_word.result = search rules in
    let g : FitsSigned w128 c.signed.result = search rules in
    sym
    (no_quotient c.args.high.size c.args.high.bits c.args.low.bits c.args.divisor.bits n e
    c.signed_double_word.ensures
    (c.signed.ensures.value ∙ ap (λ s. signed s c.args.divisor.bits) (sym c.requires.divisor))
    (sym (to_z-of_z w128 n f) ∙ c.in-None.ensures.none.0)
    (sym (to_z-of_z w128 e g) ∙ c.in-None.ensures.none.1))
