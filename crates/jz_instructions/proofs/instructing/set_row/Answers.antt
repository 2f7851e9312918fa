use Rattle.std.proofs.Common.{rules}
use Rattle.jz_operands.specs.TableHomes.{homes_of}
use Rattle.jz_operands.proofs.SumLemmas.{none_or}
use Rattle.jz_instructions.specs.InnerRows.{IsByteOf}
use Rattle.jz_instructions.proofs.NamedLemmas.{byte_of_finds}
use Rattle.jz_instructions.proofs.instructing.set_row.Goals as goal

pub returns : goal.returns
returns c = byte_of_finds (homes_of c.args.homes.now) c.args.to.now c.args.args.now c.in_ok-parts.parts.0.now c.in_ok-parts.parts.1.now c.byte_row.result c.in_ok-parts.ensures.0 c.in_ok-parts.ensures.1 c.byte_row.ensures

pub returns-in_err-parts : goal.returns-in_err-parts
returns-in_err-parts c = none_or (IsByteOf (homes_of c.args.homes.now) c.args.to.now c.args.args.now) c.from_residual.result (search rules) (λ d e f g. absurd (c.in_err-parts.ensures d e f g))
