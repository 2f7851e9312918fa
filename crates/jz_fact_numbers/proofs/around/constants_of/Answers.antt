use Rattle.std.proofs.Common.{◌≤◌, length, get_or, refl, ap, ◌∙◌, arith}
use Rattle.std.specs.Prelude.{pos}
use Rattle.jz_intervals.specs.Constants.{is_among, constants}
use Rattle.jz_fact_numbers.proofs.Beside.{around_more, around_end}
use Rattle.jz_fact_numbers.proofs.Words.{has_ends}
use Rattle.jz_fact_numbers.proofs.around.constants_of.Goals as goal

pub loop-i-preserved : goal.loop-i-preserved
loop-i-preserved c =
    let ns = c.args.numbers.now in
    around_more ns c.loop-i.i (get_or ns c.loop-i.i (pos 0)) (pos 0) c.loop-i.all.items c.add_at.new.out.items (constants ns) c.loop-i-test.true refl c.in_ok-add_at.ensures c.loop-i.invariant

pub returns-clause-all : goal.returns-clause-all
returns-clause-all c n =
    let l : length c.args.numbers.now ≤ c.loop-i.i = omega (arith, c.loop-i-test.false) in
    c.in_order.ensures n ∙ ap (is_among n) (around_end c.args.numbers.now c.loop-i.i c.loop-i.all.items (constants c.args.numbers.now) l c.loop-i.invariant)

pub returns-clause-ends : goal.returns-clause-ends
returns-clause-ends c = has_ends c.in_order.result c.args.numbers.now (returns-clause-all c)
