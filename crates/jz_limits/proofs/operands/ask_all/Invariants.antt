use Rattle.std.proofs.Common.{◌≡◌, drop}
use Rattle.jz_limits.specs.InnerKnown.{numbers_of}
use Rattle.jz_limits.specs.Asked.{operand_parts}
use Rattle.jz_limits.specs.InnerLooked.{firsts_of, firsts_beside}
use Rattle.jz_limits.proofs.operands.ask_all.Given as goal

abbrev pub invariant-loop-expr : goal.invariant-loop-expr
invariant-loop-expr l =
    firsts_beside l.firsts
    (firsts_of (operand_parts (numbers_of l.numbers) (record { first = l.role; later = l.roles.later }) l.size (drop l.expr-index l.exprs)))
    ≡ firsts_of (operand_parts (numbers_of l.numbers) l.roles l.size l.exprs)
