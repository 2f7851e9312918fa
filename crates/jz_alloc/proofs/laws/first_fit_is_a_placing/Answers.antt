use Rattle.jz_ir.specs.Straight.{LiveIn}
use Rattle.std.proofs.Common.{length}
use Rattle.jz_alloc.proofs.Seating.{placing, live_below}
use Rattle.jz_alloc.proofs.laws.first_fit_is_a_placing.Goals as goal

pub returns : goal.returns
returns c = λ code places within f. placing code (LiveIn code.ops) places within (λ i v l. live_below code.ops (length code.kinds) i v within l) f
