use Rattle.std.proofs.Common.{◌≤◌, ◌∙◌, sym, ap, subst, arith}
use Rattle.std.specs.Char.{digit_value}
use Rattle.jz_lex.proofs.LexingNumbers.{rest_first, over, next_kept, skip_kept, rest_last}
use Rattle.jz_annotations.proofs.number.digits_value.Goals as goal
use Rattle.jz_annotations.proofs.number.digits_value.Goals.{in-Some+in_ok-value, in_default}

pub loop-byte-init : goal.loop-byte-init
loop-byte-init c = (rest_first c.args.base c.args.bytes.now, omega arith)

pub returns-in_err-value : goal.returns-in_err-value
returns-in_err-value c =
    c.from_residual.ensures ∙ sym (over c.args.base c.loop-byte.value c.in-Some.digit c.args.bytes.now c.loop-byte.byte-index (omega arith) (omega arith)
    (c.in-Some.ensures.value.1 ∙ ap digit_value c.from.ensures)
    (omega (arith, c.in-Some.ensures.value.0, c.in-Some.ensures.value.1))
    (omega (arith, c.in_err-value.ensures))
    c.loop-byte.invariant.0)

pub loop-byte-preserved : goal.loop-byte-preserved
loop-byte-preserved c = elim c.match-to_digit.branch [
  | in-Some+in_ok-value w ↦ (
    next_kept c.args.base c.loop-byte.value c.match-to_digit.value w.in-Some.digit c.args.bytes.now c.loop-byte.byte-index (omega arith)
        (w.in-Some.ensures.value.1 ∙ ap digit_value c.from.ensures)
        (omega (arith, w.in-Some.ensures.value.0, w.in-Some.ensures.value.1))
        (w.value-is ∙ w.in_ok-value.ensures.1)
        c.loop-byte.invariant.0,
    omega (arith, w.value-is, w.in_ok-value.ensures.0, w.in_ok-value.ensures.1),
  )
  | in_default w ↦ (
    skip_kept c.args.base c.loop-byte.value c.match-to_digit.value c.args.bytes.now c.loop-byte.byte-index (omega arith)
        (subst (λ b. c.args.base ≤ digit_value b) c.from.ensures (omega (arith, w.in_default.ensures.value)))
        w.value-is
        c.loop-byte.invariant.0,
    omega (arith, w.value-is, c.loop-byte.invariant.1),
  )
]

pub returns : goal.returns
returns c = rest_last c.args.base c.loop-byte.value c.args.bytes.now c.loop-byte.byte-index (omega arith) c.loop-byte.invariant.1 c.loop-byte.invariant.0
