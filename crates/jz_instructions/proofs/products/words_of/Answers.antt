use Rattle.std.proofs.Common.{rules}
use Rattle.jz_operands.specs.TableHomes.{homes_of}
use Rattle.jz_operands.proofs.SumLemmas.{none_or}
use Rattle.jz_instructions.specs.InnerRows.{AreTwoWords}
use Rattle.jz_instructions.proofs.ProductLemmas.{words_short, no_quotient, no_remainder}
use Rattle.jz_instructions.proofs.products.words_of.Goals as goal

pub returns : goal.returns
returns c = record { long = c.is_long.ensures.yes c.if-not-is_long.false; first = c.in_ok-one.ensures; second = c.in_ok-other.ensures }

pub returns-then-not-is_long : goal.returns-then-not-is_long
returns-then-not-is_long c = words_short (homes_of c.args.homes.now) c.args.size c.args.first.now c.args.second.now (c.is_long.ensures.no c.if-not-is_long.true)

pub returns-in_err-one : goal.returns-in_err-one
returns-in_err-one c = none_or (AreTwoWords (homes_of c.args.homes.now) c.args.size c.args.first.now c.args.second.now) c.from_residual.result (search rules) (no_quotient (homes_of c.args.homes.now) c.args.size c.args.first.now c.args.second.now c.in_err-one.ensures)

pub returns-in_err-other : goal.returns-in_err-other
returns-in_err-other c = none_or (AreTwoWords (homes_of c.args.homes.now) c.args.size c.args.first.now c.args.second.now) c.from_residual-in_err-other.result (search rules) (no_remainder (homes_of c.args.homes.now) c.args.size c.args.first.now c.args.second.now c.in_err-other.ensures)
