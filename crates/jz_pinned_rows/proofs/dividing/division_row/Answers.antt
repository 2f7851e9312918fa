use Rattle.std.proofs.Common.{rules, sym, ◌∙◌}
use Rattle.jz_operands.specs.TableHomes.{homes_of}
use Rattle.jz_operands.proofs.SumLemmas.{none_or}
use Rattle.jz_pinned_rows.specs.declared.row.Acts.{Acts}
use Rattle.jz_pinned_rows.specs.Rows.{actions_of, items_of}
use Rattle.jz_pinned_rows.specs.InnerRows.{IsQuotient}
use Rattle.jz_pinned_rows.proofs.DivideLemmas.{no_divider, quotient_short, no_result, dropped_result, quotient_words, not_apart, quotient_is}
use Rattle.jz_pinned_rows.proofs.dividing.division_row.Goals as goal

pub returns-in_err-kind : goal.returns-in_err-kind
returns-in_err-kind c = none_or {A = Acts} (λ a. IsQuotient (homes_of c.args.homes.now) c.args.size c.args.left.now c.args.op c.args.first.now c.args.second.now (actions_of a) (items_of a)) c.from_residual.result (search rules) (no_divider (homes_of c.args.homes.now) c.args.size c.args.left.now c.args.op c.args.first.now c.args.second.now c.in_err-kind.ensures)

pub returns-then-not-is_long : goal.returns-then-not-is_long
returns-then-not-is_long c = quotient_short (homes_of c.args.homes.now) c.args.size c.args.left.now c.args.op c.args.first.now c.args.second.now (c.is_long.ensures.no c.if-not-is_long.true)

pub returns-in_err-pinned : goal.returns-in_err-pinned
returns-in_err-pinned c = none_or {A = Acts} (λ a. IsQuotient (homes_of c.args.homes.now) c.args.size c.args.left.now c.args.op c.args.first.now c.args.second.now (actions_of a) (items_of a)) c.from_residual-in_err-pinned.result (search rules) (no_result (homes_of c.args.homes.now) c.args.size c.args.left.now c.args.op c.args.first.now c.args.second.now c.in_err-pinned.ensures)

pub returns-in_err-variable : goal.returns-in_err-variable
returns-in_err-variable c = none_or {A = Acts} (λ a. IsQuotient (homes_of c.args.homes.now) c.args.size c.args.left.now c.args.op c.args.first.now c.args.second.now (actions_of a) (items_of a)) c.from_residual-in_err-variable.result (search rules) (dropped_result (homes_of c.args.homes.now) c.args.size c.args.left.now c.args.op c.args.first.now c.args.second.now c.in_ok-pinned.pinned c.in_err-variable.was c.in_ok-pinned.ensures)

pub returns-in_err-both : goal.returns-in_err-both
returns-in_err-both c = none_or {A = Acts} (λ a. IsQuotient (homes_of c.args.homes.now) c.args.size c.args.left.now c.args.op c.args.first.now c.args.second.now (actions_of a) (items_of a)) c.from_residual-in_err-both.result (search rules) (quotient_words (homes_of c.args.homes.now) c.args.size c.args.left.now c.args.op c.args.first.now c.args.second.now c.in_err-both.ensures)

pub returns-then-not-is_apart : goal.returns-then-not-is_apart
returns-then-not-is_apart c = not_apart (homes_of c.args.homes.now) c.args.size c.args.left.now c.args.op c.args.first.now c.args.second.now c.in_ok-pinned.pinned c.in_ok-variable.variable c.in_ok-both.both (search rules) c.in_ok-pinned.ensures c.in_ok-both.ensures (sym c.is_apart.ensures ∙ c.if-not-is_apart.true)

pub returns : goal.returns
returns c =
    quotient_is (homes_of c.args.homes.now) c.args.size c.args.left.now c.args.op c.args.first.now c.args.second.now c.in_ok-kind.kind c.in_ok-pinned.pinned c.in_ok-variable.variable c.in_ok-both.both c.quotient.result c.in_ok-kind.ensures (c.is_long.ensures.yes c.if-not-is_long.false) (search rules) c.in_ok-pinned.ensures c.in_ok-both.ensures
    (sym c.is_apart.ensures ∙ c.if-not-is_apart.false) c.quotient.ensures.actions c.quotient.ensures.items
