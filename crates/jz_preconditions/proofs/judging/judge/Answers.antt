use Rattle.jz_preconditions.specs.Naming.{parameters_of}
use Rattle.jz_preconditions.proofs.Joined.{stated_is, refused_is}
use Rattle.jz_preconditions.proofs.judging.judge.Goals as goal

pub returns-clause-stated : goal.returns-clause-stated
returns-clause-stated c =
    stated_is c.args.fun.now c.in_ok-table.table c.in_ok-stated.field-0.stated c.in_ok-table.ensures c.in_ok-stated.ensures.stated

pub returns-clause-refused : goal.returns-clause-refused
returns-clause-refused c =
    let f = c.args.fun.now
    in let h = c.in_ok-table.ensures
    in let ss = c.in_ok-stated.field-0.stated
    in let e = stated_is f c.in_ok-table.table ss h c.in_ok-stated.ensures.stated
    in refused_is f c.in_ok-table.table c.add_all.new.self ss c.in_ok-stated.field-0.shapeless c.first_empty.result c.in_ok-repeated.repeated c.earlier_of-early.result c.earlier_of.result
    c.first_valueless.result c.earlier_of-valueless.result c.first_far.result c.earlier_of-refused.result
    h e (c.in_ok-repeated.ensures.added (parameters_of f) h) c.in_ok-stated.ensures.shapeless c.first_empty.ensures (c.in_ok-repeated.ensures.repeated (parameters_of f) h)
    c.first_valueless.ensures c.first_far.ensures c.earlier_of.ensures.is c.earlier_of-early.ensures.is c.earlier_of-valueless.ensures.is c.earlier_of-refused.ensures.is
