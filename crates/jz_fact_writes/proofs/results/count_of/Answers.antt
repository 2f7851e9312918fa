use Rattle.std.proofs.Common.{◌≤◌, ◌<◌, length, ◌∙◌, arith}
use Rattle.jz_fact_writes.proofs.Values.{two_counted}
use Rattle.jz_fact_writes.proofs.results.count_of.Goals as goal

pub returns-in-len2 : goal.returns-in-len2
returns-in-len2 c =
    let xs = c.args.args.now in
    let l : 2 ≤ length xs = omega (arith, c.in-len2.len_at_least) in
    let m : length xs < 3 = omega (arith, c.in-len2.len_below) in
    c.expr_count.ensures ∙ two_counted xs c.count-item.result l m c.count-item.is
