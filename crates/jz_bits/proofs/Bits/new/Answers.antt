use Rattle.std.proofs.Common.{◌+◌, ◌/◌}
use Rattle.jz_bits.proofs.One.{none}
use Rattle.jz_bits.proofs.Bits.new.Goals as goal

pub returns-clause-empty : goal.returns-clause-empty
returns-clause-empty c = let a = c.in_ok-vec.ensures.items_if_clones_equal in λ w. rw (a (λ y e. e)) (none (c.args.bound / 64 + 1) w)
