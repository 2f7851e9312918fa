use Rattle.std.specs.Option.{option_copied}
use Rattle.jz_required.proofs.Rights.{guard_none, guard_some}
use Rattle.jz_required.proofs.operations.guard_reads.Goals as goal

pub returns-in-None : goal.returns-in-None
returns-in-None c = guard_none c.args.cond.now (option_copied c.args.last) _ c.in-None.is c.nothing.ensures

pub returns-in_ok-found-in-Some : goal.returns-in_ok-found-in-Some
returns-in_ok-found-in-Some c =
    guard_some c.args.cond.now (option_copied c.args.last) c.in-Some.cond _ _ _ c.in-Some.is c.in_ok-read-in-Some.ensures c.in_ok-old-in-Some.ensures c.in_ok-found-in-Some.ensures
