use Rattle.std.proofs.Common.{rules}
use Rattle.jz_operands.specs.TableHomes.{homes_of}
use Rattle.jz_operands.proofs.SumLemmas.{none_or}
use Rattle.jz_operands.proofs.SumLemmas.{for_found}
use Rattle.jz_one_flag_row.specs.Forms.{IsWideProduct}
use Rattle.jz_pinned_rows.specs.declared.row.Acts.{Acts}
use Rattle.jz_pinned_rows.specs.Rows.{actions_of, items_of}
use Rattle.jz_pinned_rows.proofs.WideLemmas.{product_short, product_high, product_low, product_words, product_uncoded, product_is}
use Rattle.jz_pinned_rows.proofs.multiplying.product_row.Goals as goal

pub returns-then-not-is_long : goal.returns-then-not-is_long
returns-then-not-is_long c = product_short (homes_of c.args.homes.now) c.args.size c.args.high.now c.args.low.now c.args.first.now c.args.second.now (c.is_long.ensures.no c.if-not-is_long.true)

pub returns-in_err-upper : goal.returns-in_err-upper
returns-in_err-upper c = none_or {A = Acts} (λ a. IsWideProduct (homes_of c.args.homes.now) c.args.size c.args.high.now c.args.low.now c.args.first.now c.args.second.now (actions_of a) (items_of a)) c.from_residual.result (search rules) (product_high (homes_of c.args.homes.now) c.args.size c.args.high.now c.args.low.now c.args.first.now c.args.second.now c.in_err-upper.ensures)

pub returns-in_err-lower : goal.returns-in_err-lower
returns-in_err-lower c = none_or {A = Acts} (λ a. IsWideProduct (homes_of c.args.homes.now) c.args.size c.args.high.now c.args.low.now c.args.first.now c.args.second.now (actions_of a) (items_of a)) c.from_residual-in_err-lower.result (search rules) (product_low (homes_of c.args.homes.now) c.args.size c.args.high.now c.args.low.now c.args.first.now c.args.second.now c.in_err-lower.ensures)

pub returns-in_err-both : goal.returns-in_err-both
returns-in_err-both c =
    none_or {A = Acts} (λ a. IsWideProduct (homes_of c.args.homes.now) c.args.size c.args.high.now c.args.low.now c.args.first.now c.args.second.now (actions_of a) (items_of a)) c.from_residual-in_err-both.result (search rules)
    (product_words (homes_of c.args.homes.now) c.args.size c.args.high.now c.args.low.now c.args.first.now c.args.second.now c.in_ok-upper.upper c.in_ok-lower.lower c.in_ok-upper.ensures c.in_ok-lower.ensures c.in_err-both.ensures)

pub returns : goal.returns
returns c =
    let both = c.in_ok-both.both in
    for_found {A = Acts} {R = λ a. IsWideProduct (homes_of c.args.homes.now) c.args.size c.args.high.now c.args.low.now c.args.first.now c.args.second.now (actions_of a) (items_of a)} c.multiplied.result
    (λ r m. product_is (homes_of c.args.homes.now) c.args.size c.args.high.now c.args.low.now c.args.first.now c.args.second.now c.in_ok-upper.upper c.in_ok-lower.lower c.in_ok-upper.ensures c.in_ok-lower.ensures both c.in_ok-both.ensures (c.is_long.ensures.yes c.if-not-is_long.false) r m)
    (λ none. product_uncoded (homes_of c.args.homes.now) c.args.size c.args.high.now c.args.low.now c.args.first.now c.args.second.now c.in_ok-upper.upper c.in_ok-lower.lower c.in_ok-upper.ensures c.in_ok-lower.ensures both c.in_ok-both.ensures none) c.multiplied.ensures
