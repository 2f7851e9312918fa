use Rattle.std.proofs.Common.{rules, sym, ◌∙◌}
use Rattle.jz_operands.specs.TableHomes.{homes_of}
use Rattle.jz_operands.proofs.SumLemmas.{none_or}
use Rattle.jz_rows.proofs.RowLemmas.{not_imm}
use Rattle.jz_instructions.specs.InnerRows.{AreThree}
use Rattle.jz_instructions.proofs.ProductLemmas.{no_high, no_low, no_divisor, imm_divisor}
use Rattle.jz_instructions.proofs.products.three_of.Goals as goal

pub returns : goal.returns
returns c = record { high = c.in_ok-high.ensures; low = c.in_ok-low.ensures; divisor = c.in_ok-by.ensures; no_number = not_imm c.in_ok-by.by.arg (sym c.is_imm.ensures ∙ c.if-is_imm.false) }

pub returns-in_err-high : goal.returns-in_err-high
returns-in_err-high c = none_or (AreThree (homes_of c.args.homes.now) c.args.size c.args.high.now c.args.low.now c.args.by.now) c.from_residual.result (search rules) (no_high (homes_of c.args.homes.now) c.args.size c.args.high.now c.args.low.now c.args.by.now c.in_err-high.ensures)

pub returns-in_err-low : goal.returns-in_err-low
returns-in_err-low c = none_or (AreThree (homes_of c.args.homes.now) c.args.size c.args.high.now c.args.low.now c.args.by.now) c.from_residual-in_err-low.result (search rules) (no_low (homes_of c.args.homes.now) c.args.size c.args.high.now c.args.low.now c.args.by.now c.in_err-low.ensures)

pub returns-in_err-by : goal.returns-in_err-by
returns-in_err-by c = none_or (AreThree (homes_of c.args.homes.now) c.args.size c.args.high.now c.args.low.now c.args.by.now) c.from_residual-in_err-by.result (search rules) (no_divisor (homes_of c.args.homes.now) c.args.size c.args.high.now c.args.low.now c.args.by.now c.in_err-by.ensures)

pub returns-then-is_imm : goal.returns-then-is_imm
returns-then-is_imm c = imm_divisor (homes_of c.args.homes.now) c.args.size c.args.high.now c.args.low.now c.args.by.now c.in_ok-by.by c.in_ok-by.ensures (sym c.is_imm.ensures ∙ c.if-is_imm.true)
