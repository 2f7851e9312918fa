use Rattle.std.proofs.Common.{sym, ◌∙◌}
use Rattle.jz_rows.proofs.FoundRows.{cast_finds, cast_is, signed_cast, unequal_cast}
use Rattle.jz_rows.proofs.assignments.cast_row.Goals as goal

pub returns-then-not-same_size : goal.returns-then-not-same_size
returns-then-not-same_size c = λ at. unequal_cast c.args.target.now c.args.size c.args.signed c.args.operand.now at (sym c.same_size.ensures ∙ c.if-not-same_size.true)

pub returns-in-Some : goal.returns-in-Some
returns-in-Some c = λ at.
    cast_is c.args.target.now c.args.size c.args.signed c.args.operand.now at c.in-Some.row (sym c.same_size.ensures ∙ c.if-not-same_size.false) (c.in-Some.ensures at)

pub returns-then-signed : goal.returns-then-signed
returns-then-signed c = λ at.
    signed_cast c.args.target.now c.args.size c.args.signed c.args.operand.now at (sym c.same_size.ensures ∙ c.if-not-same_size.false) c.if-signed.true (c.in-None.ensures at)

pub returns-else-signed : goal.returns-else-signed
returns-else-signed c = λ at.
    cast_finds c.args.target.now c.lowest_row.result c.args.size c.args.signed c.args.operand.now at (sym c.same_size.ensures ∙ c.if-not-same_size.false) c.if-signed.false (c.in-None.ensures at) (c.lowest_row.ensures at)
