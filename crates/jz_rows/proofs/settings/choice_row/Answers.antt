use Rattle.std.proofs.Common.{◌∷◌, [], None, Some, rules, sym, ◌∙◌}
use Rattle.jz_operands.specs.TableHomes.{homes_of}
use Rattle.jz_rows.proofs.RowLemmas.{not_imm}
use Rattle.jz_operands.proofs.SumLemmas.{none_or}
use Rattle.jz_rows.proofs.SettingLemmas.{choice_is}
use Rattle.jz_rows.proofs.SettingRefusals.{clash, choice_narrow, choice_register, choice_operand, choice_imm, choice_test, choice_code}
use Rattle.jz_rows.specs.Rows.{IsRowOf}
use Rattle.jz_tree.specs.declared.stmt.Lval.TheVariants as lval
use Rattle.jz_rows.proofs.settings.choice_row.Goals as goal

pub returns : goal.returns
returns c =
    choice_is (homes_of c.args.homes.now) c.args.var.now c.args.value.now c.args.cond.now c.in_ok-y.y c.args.size c.in_ok-register.register c.in_ok-test.test c.shown_of.result c.told.result c.count.result
    (c.is_wide.ensures.yes c.if-not-is_wide.false) c.requires c.in_ok-register.ensures c.in_ok-y.ensures (not_imm c.in_ok-y.y.arg (sym c.is_imm.ensures ∙ c.if-is_imm.false)) c.in_ok-test.ensures
    c.count.ensures.is c.shown_of.ensures c.told.ensures (sym c.can_encode.ensures ∙ c.if-not-can_encode.false)

pub returns-then-not-is_wide : goal.returns-then-not-is_wide
returns-then-not-is_wide c =
    let home = homes_of c.args.homes.now in
    choice_narrow home c.args.var.now c.args.value.now c.args.cond.now c.args.size c.requires (c.is_wide.ensures.no c.if-not-is_wide.true)

pub returns-in_err-register : goal.returns-in_err-register
returns-in_err-register c =
    let home = homes_of c.args.homes.now in
    none_or (IsRowOf home (lval.Var c.args.var.now ∷ []) None c.args.value.now (Some c.args.cond.now)) c.from_residual.result (search rules) (choice_register home c.args.var.now c.args.value.now c.args.cond.now c.args.size c.requires c.in_err-register.ensures)

pub returns-in_err-y : goal.returns-in_err-y
returns-in_err-y c =
    let home = homes_of c.args.homes.now in
    none_or (IsRowOf home (lval.Var c.args.var.now ∷ []) None c.args.value.now (Some c.args.cond.now)) c.from_residual-in_err-y.result (search rules) (choice_operand home c.args.var.now c.args.value.now c.args.cond.now c.args.size c.requires c.in_err-y.ensures)

pub returns-then-is_imm : goal.returns-then-is_imm
returns-then-is_imm c =
    let home = homes_of c.args.homes.now in
    choice_imm home c.args.var.now c.args.value.now c.args.cond.now c.args.size c.requires c.in_ok-y.y c.in_ok-y.ensures (sym c.is_imm.ensures ∙ c.if-is_imm.true)

pub returns-in_err-test : goal.returns-in_err-test
returns-in_err-test c =
    let home = homes_of c.args.homes.now in
    none_or (IsRowOf home (lval.Var c.args.var.now ∷ []) None c.args.value.now (Some c.args.cond.now)) c.from_residual-in_err-test.result (search rules) (choice_test home c.args.var.now c.args.value.now c.args.cond.now c.in_err-test.ensures)

pub returns-then-not-can_encode : goal.returns-then-not-can_encode
returns-then-not-can_encode c =
    let home = homes_of c.args.homes.now in
    choice_code home c.args.var.now c.args.value.now c.args.cond.now c.args.size c.requires c.in_ok-y.y c.in_ok-register.register c.in_ok-test.test c.in_ok-y.ensures c.in_ok-register.ensures c.in_ok-test.ensures (λ can. clash c.can_encode.result c.if-not-can_encode.true (c.can_encode.ensures ∙ can))
