use Rattle.std.proofs.Common.{rules}
use Rattle.jz_operands.specs.TableHomes.{homes_of}
use Rattle.jz_pinned_rows.proofs.DivideLemmas.{quotient_finds, no_quotient}
use Rattle.jz_pinned_rows.proofs.dividing.quotient_row.Goals as goal

pub returns-in-Bin : goal.returns-in-Bin
returns-in-Bin c =
    quotient_finds (homes_of c.args.homes.now) c.args.size c.args.left.now c.args.value.now c.in-Bin.op c.in-Bin.first c.in-Bin.second c.get.result.now c.get-in-Bin.result.now c.in-Bin.field-3 c.division_row.result c.in-Bin.is c.get.ensures c.get-in-Bin.ensures c.division_row.ensures

pub returns-in_default : goal.returns-in_default
returns-in_default c = no_quotient (homes_of c.args.homes.now) c.args.size c.args.left.now c.args.value.now (search rules)
