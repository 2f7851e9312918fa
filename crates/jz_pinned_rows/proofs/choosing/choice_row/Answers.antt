use Rattle.std.proofs.Common.{◌∷◌, [], None, Some, rules, sym, ◌∙◌}
use Rattle.jz_operands.specs.TableHomes.{homes_of}
use Rattle.jz_operands.proofs.SumLemmas.{none_or}
use Rattle.jz_tree.specs.declared.stmt.Lval.TheVariants as lval
use Rattle.jz_rows.proofs.RowLemmas.{not_imm}
use Rattle.jz_pinned_rows.specs.Rows.{IsPinnedRow}
use Rattle.jz_pinned_rows.proofs.PartLemmas.{clash}
use Rattle.jz_pinned_rows.proofs.ChoiceLemmas.{choice_narrow, choice_register, choice_operand, choice_imm, choice_flag, choice_code, choice_is}
use Rattle.jz_pinned_rows.proofs.choosing.choice_row.Goals as goal

pub returns-then-not-is_wide : goal.returns-then-not-is_wide
returns-then-not-is_wide c = choice_narrow (homes_of c.args.homes.now) c.args.var.now c.args.value.now c.args.cond.now c.args.size c.requires (c.is_wide.ensures.no c.if-not-is_wide.true)

pub returns-in_err-register : goal.returns-in_err-register
returns-in_err-register c = none_or (IsPinnedRow (homes_of c.args.homes.now) (lval.Var c.args.var.now ∷ []) None c.args.value.now (Some c.args.cond.now)) c.from_residual.result (search rules) (choice_register (homes_of c.args.homes.now) c.args.var.now c.args.value.now c.args.cond.now c.args.size c.requires c.in_err-register.ensures)

pub returns-in_err-y : goal.returns-in_err-y
returns-in_err-y c = none_or (IsPinnedRow (homes_of c.args.homes.now) (lval.Var c.args.var.now ∷ []) None c.args.value.now (Some c.args.cond.now)) c.from_residual-in_err-y.result (search rules) (choice_operand (homes_of c.args.homes.now) c.args.var.now c.args.value.now c.args.cond.now c.args.size c.requires c.in_err-y.ensures)

pub returns-then-is_imm : goal.returns-then-is_imm
returns-then-is_imm c = choice_imm (homes_of c.args.homes.now) c.args.var.now c.args.value.now c.args.cond.now c.args.size c.requires c.in_ok-y.y c.in_ok-y.ensures (sym c.is_imm.ensures ∙ c.if-is_imm.true)

pub returns-in_err-test : goal.returns-in_err-test
returns-in_err-test c = none_or (IsPinnedRow (homes_of c.args.homes.now) (lval.Var c.args.var.now ∷ []) None c.args.value.now (Some c.args.cond.now)) c.from_residual-in_err-test.result (search rules) (choice_flag (homes_of c.args.homes.now) c.args.var.now c.args.value.now c.args.cond.now c.in_err-test.ensures)

pub returns-then-not-can_encode : goal.returns-then-not-can_encode
returns-then-not-can_encode c =
    choice_code (homes_of c.args.homes.now) c.args.var.now c.args.value.now c.args.cond.now c.args.size c.requires c.in_ok-y.y c.in_ok-y.ensures c.in_ok-register.register c.in_ok-test.test c.in_ok-register.ensures c.in_ok-test.ensures (λ can. clash c.can_encode.result c.if-not-can_encode.true (c.can_encode.ensures ∙ can))

pub returns : goal.returns
returns c =
    choice_is (homes_of c.args.homes.now) c.args.var.now c.args.value.now c.args.cond.now c.args.size c.requires c.in_ok-y.y c.in_ok-y.ensures c.in_ok-register.register c.in_ok-test.test c.told.result c.no_flags.result (c.is_wide.ensures.yes c.if-not-is_wide.false) c.in_ok-register.ensures
    (not_imm c.in_ok-y.y.arg (sym c.is_imm.ensures ∙ c.if-is_imm.false)) c.in_ok-test.ensures c.told.ensures (sym c.can_encode.ensures ∙ c.if-not-can_encode.false) c.no_flags.ensures
