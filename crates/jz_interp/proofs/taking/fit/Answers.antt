use Rattle.std.proofs.Common.{refl, sym, ap, ◌∙◌, rules}
use Rattle.std.specs.Option.{option_copied}
use Rattle.jz_meaning.specs.Values.{ref_of}
use Rattle.jz_meaning.specs.Runs.{FitsKind}
use Rattle.jz_meaning.specs.States.{word}
use Rattle.jz_interp.proofs.Arguments.{one_more, not_one, all_of, lengths_agree, clash, never_none}
use Rattle.jz_interp.proofs.taking.fit.Goals as goal

pub loop-i-init : goal.loop-i-init
loop-i-init c = ((λ p. p), (λ p. p))

pub loop-i-preserved : goal.loop-i-preserved
loop-i-preserved c =
    one_more (λ q v. FitsKind (ref_of q.var).kind v) (λ w. word w.size w.bits) c.args.params.now c.args.words.now c.loop-i.i c.loop-i.invariant c.param-item.result c.in-Some.word.now
    (search rules) (search rules) (sym c.get.ensures.value ∙ ap option_copied c.in-Some.is) (c.fits.ensures.0 c.if-not-fits.false)

pub returns-then-len : goal.returns-then-len
returns-then-len c = (
  (λ p. absurd cc),
  (λ p. absurd (c.if-len.true (c.len.ensures ∙ lengths_agree (λ q v. FitsKind (ref_of q.var).kind v) (λ w. word w.size w.bits) c.args.params.now c.args.words.now p ∙ sym c.len-2.ensures))),
)

pub returns-in-None : goal.returns-in-None
returns-in-None c =
    absurd (never_none c.args.params.now c.args.words.now c.loop-i.i (search rules) (sym c.len.ensures ∙ c.if-len.false ∙ c.len-2.ensures) (sym c.get.ensures.value ∙ ap option_copied c.in-None.is))

pub returns-then-not-fits : goal.returns-then-not-fits
returns-then-not-fits c = (
  (λ p. absurd cc),
  (λ p. absurd (not_one (λ q v. FitsKind (ref_of q.var).kind v) (λ w. word w.size w.bits) c.args.params.now c.args.words.now c.loop-i.i c.loop-i.invariant c.param-item.result c.in-Some.word.now
      (search rules) (search rules) (sym c.get.ensures.value ∙ ap option_copied c.in-Some.is) (λ r. clash c.fits.result c.if-not-fits.true (c.fits.ensures.1 r)) p)),
)

pub returns : goal.returns
returns c = (
  (λ p. all_of (λ q v. FitsKind (ref_of q.var).kind v) (λ w. word w.size w.bits) c.args.params.now c.args.words.now c.loop-i.i c.loop-i.invariant
      (search rules) (search rules)),
  (λ p. refl),
)
