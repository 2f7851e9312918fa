use Rattle.std.proofs.Common.{sym, ◌∙◌}
use Rattle.jz_pinned_rows.proofs.DivideLemmas.{quotient_code_is, remainder_code_is}
use Rattle.jz_pinned_rows.proofs.dividing.quotient.Goals as goal

pub returns-then-is_quotient-clause-actions : goal.returns-then-is_quotient-clause-actions
returns-then-is_quotient-clause-actions c = c.divided.ensures.actions ∙ quotient_code_is c.args.op c.args.kind c.args.size c.args.result_in c.args.both.first.arg c.args.both.second.arg (sym c.is_quotient.ensures ∙ c.if-is_quotient.true)

pub returns-else-is_quotient-clause-actions : goal.returns-else-is_quotient-clause-actions
returns-else-is_quotient-clause-actions c = c.divided-else-is_quotient.ensures.actions ∙ remainder_code_is c.args.op c.args.kind c.args.size c.args.result_in c.args.both.first.arg c.args.both.second.arg (sym c.is_quotient.ensures ∙ c.if-is_quotient.false)
