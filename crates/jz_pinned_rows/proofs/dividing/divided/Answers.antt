use Rattle.jz_operands.specs.TableHomes.{leaks_of}
use Rattle.jz_pinned_rows.proofs.DivideLemmas.{divide_items, divide_actions}
use Rattle.jz_pinned_rows.proofs.dividing.divided.Goals as goal

pub returns-clause-actions : goal.returns-clause-actions
returns-clause-actions c = divide_actions c.args.kind c.args.size c.args.low c.args.high c.args.both.first.arg c.args.both.second.arg c.high_half-half.result c.high_half-half.ensures

pub returns-clause-items : goal.returns-clause-items
returns-clause-items c =
    divide_items (leaks_of c.args.both.first.leaks) (leaks_of c.args.both.second.leaks) c.told-one.result c.told-other.result c.count-before.result c.count-more.result c.numbers_behind-numbers.result c.told-one.ensures c.told-other.ensures c.count-before.ensures.is c.count-more.ensures.is c.numbers_behind-numbers.ensures
