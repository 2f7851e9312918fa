use Rattle.std.proofs.Common.{map, rules}
use Rattle.jz_tree.specs.declared.program.Param.{Param}
use Rattle.jz_homing.specs.Tables.{table_in}
use Rattle.jz_homing.proofs.EntryLemmas.{param_next}
use Rattle.jz_homing.specs.Refusals.{HasNoHome, IsHomeless}
use Rattle.jz_homing.proofs.HandedOn.{handed_cause}
use Rattle.jz_homing.proofs.HomelessLemmas.{At, param_homeless}
use Rattle.jz_homing.proofs.homing.add_params.Goals as goal

pub loop-param-preserved : goal.loop-param-preserved
loop-param-preserved c =
    param_next (table_in c.args.table.now) (table_in c.loop-param.table) (table_in c.add_var.new.table) c.args.params.now c.loop-param.param-index c.param-item.result (search rules) (search rules)
    c.loop-param.invariant c.in_ok-add_var.ensures.made

pub returns-in_err-add_var-clause-refused : goal.returns-in_err-add_var-clause-refused
returns-in_err-add_var-clause-refused c =
    let t = table_in c.args.table.now in
    let u = table_in c.loop-param.table in
    let x = c.param-item.result in
    handed_cause (At x.var (HasNoHome u x.var)) (IsHomeless t (map (λ (p : Param). p.var) c.args.params.now)) c.from_residual.result c.in_err-add_var.field-0.0 c.from_residual.ensures.1 c.in_err-add_var.ensures.refused
    (λ s h. param_homeless t u c.args.params.now c.loop-param.param-index x s (search rules) (search rules) c.loop-param.invariant h)
