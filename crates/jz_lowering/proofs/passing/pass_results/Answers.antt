use Rattle.std.proofs.Common.{rules, ◌≡◌, length}
use Rattle.jz_meaning.specs.Values.{ref_of}
use Rattle.jz_operands.specs.TableHomes.{homes_of}
use Rattle.jz_lowering.specs.Passing.{CannotPass, PassedOr}
use Rattle.jz_homing.proofs.HandedOn.{answered}
use Rattle.jz_lowering.proofs.PassingLemmas.{passing_none, var_next, var_refused, vars_passed}
use Rattle.jz_lowering.proofs.passing.pass_results.Goals as goal

pub loop-var-init : goal.loop-var-init
loop-var-init c = passing_none (homes_of c.args.homes.now) c.args.regs.now c.new-passed.result c.new-passed.ensures

pub loop-var-preserved : goal.loop-var-preserved
loop-var-preserved c =
    var_next (homes_of c.args.homes.now) c.args.regs.now c.args.vars.now c.loop-var.var-index c.var-item.result c.loop-var.passed c.pass_next.new.passed
    (search rules) (search rules) c.in_ok-pass_next.ensures.passed c.loop-var.invariant

pub returns : goal.returns
returns c = vars_passed (homes_of c.args.homes.now) c.args.regs.now c.args.vars.now c.loop-var.var-index c.loop-var.passed (search rules) c.loop-var.invariant

pub returns-in_err-pass_next : goal.returns-in_err-pass_next
returns-in_err-pass_next c =
    answered (λ at. (at ≡ (ref_of c.var-item.result).span) × CannotPass (homes_of c.args.homes.now) c.args.regs.now (length c.loop-var.passed) c.var-item.result) (PassedOr (homes_of c.args.homes.now) c.args.regs.now c.args.vars.now) c.from_residual.result c.in_err-pass_next.field-0.0 c.from_residual.ensures.1 c.in_err-pass_next.ensures.refused
    (λ at h. var_refused (homes_of c.args.homes.now) c.args.regs.now c.args.vars.now c.loop-var.var-index c.var-item.result c.loop-var.passed at (search rules) (search rules) c.loop-var.invariant h.1 h.0)
