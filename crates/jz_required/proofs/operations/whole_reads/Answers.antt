use Rattle.std.proofs.Common.{ap}
use Rattle.std.specs.Option.{option_copied}
use Rattle.jz_required.proofs.Rights.{whole_plain, whole_nothing, whole_updated}
use Rattle.jz_required.proofs.operations.whole_reads.Goals as goal

pub returns-in_ok-found-in-None : goal.returns-in_ok-found-in-None
returns-in_ok-found-in-None c = whole_plain (option_copied c.args.last) c.args.op c.args.value.now _ c.in-None.is c.in_ok-found-in-None.ensures

pub returns-in-None-last : goal.returns-in-None-last
returns-in-None-last c = whole_nothing (option_copied c.args.last) c.args.op _ c.args.value.now _ c.in-Some.is (ap option_copied c.in-None-last.is) c.nothing.ensures

pub returns-in_ok-found-in-Some-last : goal.returns-in_ok-found-in-Some-last
returns-in_ok-found-in-Some-last c =
    whole_updated (option_copied c.args.last) c.args.op _ c.args.value.now c.in-Some-last.left.now _ c.in-Some.is (ap option_copied c.in-Some-last.is) c.in_ok-found-in-Some-last.ensures
