use Rattle.std.proofs.Common.{rules, sym, ◌∙◌}
use Rattle.jz_operands.specs.TableHomes.{homes_of}
use Rattle.jz_operands.proofs.SumLemmas.{none_or}
use Rattle.jz_pinned_rows.specs.declared.row.Acts.{Acts}
use Rattle.jz_pinned_rows.specs.Rows.{actions_of, items_of}
use Rattle.jz_one_flag_row.specs.Forms.{IsLongDivision}
use Rattle.jz_instructions.proofs.ProductLemmas.{division_words, division_operands, not_apart, division_is}
use Rattle.jz_instructions.proofs.products.division_row.Goals as goal

pub returns : goal.returns
returns c = division_is (homes_of c.args.homes.now) c.args.size c.args.parts.now.first.now c.args.parts.now.second.now c.args.parts.now.high.now c.args.parts.now.low.now c.args.parts.now.by.now c.in_ok-words.words c.in_ok-operands.operands c.in_ok-words.ensures c.in_ok-operands.ensures c.divided.result (sym c.are_apart.ensures ∙ c.if-not-are_apart.false) c.divided.ensures.actions c.divided.ensures.items

pub returns-in_err-words : goal.returns-in_err-words
returns-in_err-words c = none_or {A = Acts} (λ a. IsLongDivision (homes_of c.args.homes.now) c.args.size c.args.parts.now.first.now c.args.parts.now.second.now c.args.parts.now.high.now c.args.parts.now.low.now c.args.parts.now.by.now (actions_of a) (items_of a)) c.from_residual.result (search rules) (division_words (homes_of c.args.homes.now) c.args.size c.args.parts.now.first.now c.args.parts.now.second.now c.args.parts.now.high.now c.args.parts.now.low.now c.args.parts.now.by.now c.in_err-words.ensures)

pub returns-in_err-operands : goal.returns-in_err-operands
returns-in_err-operands c = none_or {A = Acts} (λ a. IsLongDivision (homes_of c.args.homes.now) c.args.size c.args.parts.now.first.now c.args.parts.now.second.now c.args.parts.now.high.now c.args.parts.now.low.now c.args.parts.now.by.now (actions_of a) (items_of a)) c.from_residual-in_err-operands.result (search rules) (division_operands (homes_of c.args.homes.now) c.args.size c.args.parts.now.first.now c.args.parts.now.second.now c.args.parts.now.high.now c.args.parts.now.low.now c.args.parts.now.by.now c.in_err-operands.ensures)

pub returns-then-not-are_apart : goal.returns-then-not-are_apart
returns-then-not-are_apart c = not_apart (homes_of c.args.homes.now) c.args.size c.args.parts.now.first.now c.args.parts.now.second.now c.args.parts.now.high.now c.args.parts.now.low.now c.args.parts.now.by.now c.in_ok-words.words c.in_ok-operands.operands c.in_ok-words.ensures c.in_ok-operands.ensures (sym c.are_apart.ensures ∙ c.if-not-are_apart.true)
