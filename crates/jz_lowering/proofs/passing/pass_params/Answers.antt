use Rattle.std.proofs.Common.{rules, ◌≡◌, length, map}
use Rattle.jz_meaning.specs.Values.{ref_of}
use Rattle.jz_operands.specs.TableHomes.{homes_of}
use Rattle.jz_lowering.specs.Passing.{CannotPass, PassedOr}
use Rattle.jz_homing.proofs.HandedOn.{answered}
use Rattle.jz_lowering.proofs.PassingLemmas.{passing_none, param_next, param_refused, params_passed}
use Rattle.jz_lowering.proofs.passing.pass_params.Goals as goal

pub loop-param-init : goal.loop-param-init
loop-param-init c = passing_none (homes_of c.args.homes.now) c.args.regs.now c.new-passed.result c.new-passed.ensures

pub loop-param-preserved : goal.loop-param-preserved
loop-param-preserved c =
    param_next (homes_of c.args.homes.now) c.args.regs.now c.args.params.now c.loop-param.param-index c.param-item.result c.loop-param.passed c.pass_next.new.passed
    (search rules) (search rules) c.in_ok-pass_next.ensures.passed c.loop-param.invariant

pub returns : goal.returns
returns c = params_passed (homes_of c.args.homes.now) c.args.regs.now c.args.params.now c.loop-param.param-index c.loop-param.passed (search rules) c.loop-param.invariant

pub returns-in_err-pass_next : goal.returns-in_err-pass_next
returns-in_err-pass_next c =
    answered (λ at. (at ≡ (ref_of c.param-item.result.var).span) × CannotPass (homes_of c.args.homes.now) c.args.regs.now (length c.loop-param.passed) c.param-item.result.var) (PassedOr (homes_of c.args.homes.now) c.args.regs.now (map (λ p. p.var) c.args.params.now)) c.from_residual.result c.in_err-pass_next.field-0.0 c.from_residual.ensures.1 c.in_err-pass_next.ensures.refused
    (λ at h. param_refused (homes_of c.args.homes.now) c.args.regs.now c.args.params.now c.loop-param.param-index c.param-item.result c.loop-param.passed at (search rules) (search rules) c.loop-param.invariant h.1 h.0)
