use Rattle.std.proofs.Common.{arith, ◌≤◌, ◌<◌, length, rules, subst, sym}
use Rattle.jz_operands.specs.TableHomes.{homes_of}
use Rattle.jz_pinned_rows.specs.Rows.{FindsRow}
use Rattle.jz_pinned_rows.specs.InnerRows.{HasPinned, IsQuotientOf}
use Rattle.jz_pinned_rows.proofs.SliceLemmas.{one_is, two_is}
use Rattle.jz_pinned_rows.proofs.ResultLemmas.{plain_finds}
use Rattle.jz_pinned_rows.proofs.SetLemmas.{no_lefts}
use Rattle.jz_pinned_rows.proofs.setting.sized_row.Goals as goal

pub returns-in-len1 : goal.returns-in-len1
returns-in-len1 c =
    let home = homes_of c.args.homes.now in
    let to = c.args.to.now in
    let l : 1 ≤ length to = omega (arith, c.in-len1.len_at_least) in
    let m : length to < 2 = omega (arith, c.in-len1.len_below) in
    let d = c.left-item.result in
    subst (λ t. FindsRow (HasPinned home c.args.size t c.args.value.now) c.without_flags.result) (sym (one_is to d l m c.left-item.is))
    (plain_finds (IsQuotientOf home c.args.size d c.args.value.now) c.quotient_row.result c.without_flags.result c.without_flags.ensures c.quotient_row.ensures)

pub returns-in-len2 : goal.returns-in-len2
returns-in-len2 c =
    let home = homes_of c.args.homes.now in
    let to = c.args.to.now in
    let l : 2 ≤ length to = omega (arith, c.in-len2.len_at_least) in
    let m : length to < 3 = omega (arith, c.in-len2.len_below) in
    let f = c.first-item.result in
    let d = c.second-item.result in
    subst (λ t. FindsRow (HasPinned home c.args.size t c.args.value.now) c.pair_row.result) (sym (two_is to f d l m c.first-item.is c.second-item.is)) c.pair_row.ensures

pub returns-in_default : goal.returns-in_default
returns-in_default c = no_lefts (homes_of c.args.homes.now) c.args.size c.args.to.now c.args.value.now (search rules) (search rules)
