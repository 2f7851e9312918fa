use Rattle.jz_listing_read.proofs.Others.{no_code}
use Rattle.jz_listing_read.proofs.state.machine.Goals as goal

pub returns-in_default-line-3 : goal.returns-in_default-line-3
returns-in_default-line-3 c = no_code c.args.stage c.args.done c.args.fun c.args.line c.in-Code.is c.in_default-line-3.not-Code
