use Rattle.std.proofs.Common.{rules}
use Rattle.jz_operands.specs.TableHomes.{homes_of}
use Rattle.jz_operands.proofs.SumLemmas.{none_or}
use Rattle.jz_instructions.specs.Rows.{IsInstructionRow}
use Rattle.jz_instructions.proofs.NamedLemmas.{byte_as, unspelled, byte_finds, sized_finds}
use Rattle.jz_instructions.proofs.instructing.instruction_row.Goals as goal

pub returns-in_err-instance : goal.returns-in_err-instance
returns-in_err-instance c = none_or (IsInstructionRow (homes_of c.args.homes.now) c.args.to.now c.args.name.now c.args.args.now) c.from_residual.result (search rules) (unspelled (homes_of c.args.homes.now) c.args.to.now c.args.name.now c.args.args.now (search rules))

pub returns-in-Setcc : goal.returns-in-Setcc
returns-in-Setcc c =
    byte_finds (homes_of c.args.homes.now) c.args.to.now c.args.name.now c.args.args.now c.in_ok-instance.instance (search rules) c.set_row.result c.in-Setcc.is
    (byte_as (homes_of c.args.homes.now) c.as_slice.result.now c.args.to.now c.as_slice-in-Setcc.result.now c.args.args.now c.set_row.result c.as_slice.ensures c.as_slice-in-Setcc.ensures c.set_row.ensures)

pub returns-in_default : goal.returns-in_default
returns-in_default c = sized_finds (homes_of c.args.homes.now) c.args.to.now c.args.name.now c.args.args.now c.in_ok-instance.instance (search rules) c.sized_row.result (search rules) c.sized_row.ensures
