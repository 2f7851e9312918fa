use Rattle.jz_parse.specs.Deriving.{most_nested}
use Rattle.jz_parse.proofs.Faults.{derived, fault_law}
use Rattle.std.proofs.Common.{length}
use Rattle.jz_parse.proofs.read.parse.Goals as goal

pub returns-in-Ok-clause-program : goal.returns-in-Ok-clause-program
returns-in-Ok-clause-program c = derived most_nested (length c.args.tokens.now) c.args.tokens.now c.in-Ok.program c.in-Ok.ensures

pub returns-in-Err-Refused-clause-fault : goal.returns-in-Err-Refused-clause-fault
returns-in-Err-Refused-clause-fault c =
    let e = rw c.in-Err-Refused.field-0-is at c.in-Err-Refused.ensures
    in fault_law most_nested c.args.tokens.now c.in-Err-Refused.kind c.in-Err-Refused.number c.fault_at.result e c.fault_at.ensures
