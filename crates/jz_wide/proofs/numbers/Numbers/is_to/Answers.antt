use Rattle.jz_wide.specs.Values.{value}
use Rattle.jz_wide.proofs.Wider.{to_end}
use Rattle.jz_wide.proofs.numbers.Numbers.is_to.Goals as goal

pub returns-then-is_at_most : goal.returns-then-is_at_most
returns-then-is_at_most c =
    to_end (value c.args.hi) (value c.args.self.added) (value c.args.self.taken) c.args.end (value c.of.result) (value c.plus-room.result) (value c.minus.result) c.is_at_most.result c.is_at_most-then-is_at_most.result
    c.of.ensures c.plus-room.ensures c.is_at_most.ensures c.if-is_at_most.true c.minus.ensures c.is_at_most-then-is_at_most.ensures
