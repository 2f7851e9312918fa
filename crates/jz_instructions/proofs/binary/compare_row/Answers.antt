use Rattle.std.proofs.Common.{rules, sym, ◌∙◌}
use Rattle.jz_operands.specs.TableHomes.{homes_of}
use Rattle.jz_operands.proofs.SumLemmas.{none_or}
use Rattle.jz_pinned_rows.specs.declared.row.Acts.{Acts}
use Rattle.jz_pinned_rows.specs.Rows.{actions_of, items_of}
use Rattle.jz_one_flag_row.specs.Forms.{IsComparison}
use Rattle.jz_rows.proofs.RowLemmas.{not_imm}
use Rattle.jz_instructions.proofs.BinaryLemmas.{compare_operands, compare_imm, compare_access, compare_is}
use Rattle.jz_instructions.proofs.binary.compare_row.Goals as goal

pub returns : goal.returns
returns c =
    compare_is (homes_of c.args.homes.now) c.args.size c.args.alu c.args.first.now c.args.second.now c.in_ok-both.both c.in_ok-both.ensures c.told.result c.told-2.result c.count.result (not_imm c.in_ok-both.both.first.arg (sym c.is_imm.ensures ∙ c.if-is_imm.false)) (c.is_access.ensures.no c.if-is_access.false) c.told.ensures c.count.ensures.is c.told-2.ensures

pub returns-in_err-both : goal.returns-in_err-both
returns-in_err-both c = none_or {A = Acts} (λ a. IsComparison (homes_of c.args.homes.now) c.args.size c.args.alu c.args.first.now c.args.second.now (actions_of a) (items_of a)) c.from_residual.result (search rules) (compare_operands (homes_of c.args.homes.now) c.args.size c.args.alu c.args.first.now c.args.second.now c.in_err-both.ensures)

pub returns-then-is_imm : goal.returns-then-is_imm
returns-then-is_imm c = compare_imm (homes_of c.args.homes.now) c.args.size c.args.alu c.args.first.now c.args.second.now c.in_ok-both.both c.in_ok-both.ensures (sym c.is_imm.ensures ∙ c.if-is_imm.true)

pub returns-then-is_access : goal.returns-then-is_access
returns-then-is_access c = compare_access (homes_of c.args.homes.now) c.args.size c.args.alu c.args.first.now c.args.second.now c.in_ok-both.both c.in_ok-both.ensures (c.is_access.ensures.yes c.if-is_access.true)
