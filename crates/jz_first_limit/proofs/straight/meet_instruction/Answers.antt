use Rattle.std.proofs.Common.{None, sym, subst}
use Rattle.jz_meaning.specs.Statements.{instruction}
use Rattle.jz_limits.specs.Asked.{asked}
use Rattle.jz_limits.specs.InnerKnown.{numbers_of}
use Rattle.jz_limits.specs.Walks.{operation_walk}
use Rattle.jz_first_limit.specs.InnerMet.{Meets}
use Rattle.jz_first_limit.specs.InnerStraight.{instructed_of}
use Rattle.jz_first_limit.proofs.Steps.{knows_same}
use Rattle.jz_first_limit.proofs.straight.meet_instruction.Goals as goal

pub returns-in-Some : goal.returns-in-Some
returns-in-Some c = λ at.
    let e = numbers_of c.args.known.now in
    subst (λ o. Meets c.args.count (operation_walk (instructed_of c.args.assigning.to.now o c.args.name.now c.args.args.now c.args.assigning.cond.now at) e) c.one_more.result e) (sym c.in-Some.is)
    (c.one_more.ensures, knows_same c.one_more.result e)

pub returns-in_ok-found-in-None-cond : goal.returns-in_ok-found-in-None-cond
returns-in_ok-found-in-None-cond c = λ at.
    let e = numbers_of c.args.known.now in
    subst (λ o. Meets c.args.count (operation_walk (instructed_of c.args.assigning.to.now o c.args.name.now c.args.args.now c.args.assigning.cond.now at) e) c.one_with.result e) (sym c.in-None.is)
    (subst (λ x. Meets c.args.count (operation_walk (instructed_of c.args.assigning.to.now None c.args.name.now c.args.args.now x at) e) c.one_with.result e) (sym c.in-None-cond.is)
    (c.one_with.ensures (asked e (instruction c.args.assigning.to.now c.args.name.now c.args.args.now at)) (c.in_ok-found-in-None-cond.ensures at), knows_same c.one_with.result e))
