use Rattle.jz_meaning.specs.Statements.{assign}
use Rattle.jz_limits.specs.Asked.{asked}
use Rattle.jz_limits.specs.InnerKnown.{numbers_of}
use Rattle.jz_first_limit.proofs.straight.meet_value.Goals as goal

pub returns-in-Passed : goal.returns-in-Passed
returns-in-Passed c = λ at.
    (c.in-Passed.ensures (asked (numbers_of c.args.known.now) (assign c.args.assigning.to.now c.args.assigning.op c.args.value.now c.args.assigning.cond.now at)) (c.in_ok-found.ensures at), tt)

pub returns-in_ok-update-in-Within : goal.returns-in_ok-update-in-Within
returns-in_ok-update-in-Within c = λ at.
    (c.in-Within.ensures (asked (numbers_of c.args.known.now) (assign c.args.assigning.to.now c.args.assigning.op c.args.value.now c.args.assigning.cond.now at)) (c.in_ok-found.ensures at), c.in_ok-update-in-Within.ensures at)
