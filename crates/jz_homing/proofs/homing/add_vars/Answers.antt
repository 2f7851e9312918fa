use Rattle.std.proofs.Common.{rules}
use Rattle.jz_homing.specs.Tables.{table_in}
use Rattle.jz_homing.proofs.EntryLemmas.{var_next}
use Rattle.jz_homing.specs.Refusals.{HasNoHome, IsHomeless}
use Rattle.jz_homing.proofs.HandedOn.{handed_cause}
use Rattle.jz_homing.proofs.HomelessLemmas.{At, var_homeless}
use Rattle.jz_homing.proofs.homing.add_vars.Goals as goal

pub loop-var-preserved : goal.loop-var-preserved
loop-var-preserved c =
    var_next (table_in c.args.table.now) (table_in c.loop-var.table) (table_in c.add_var.new.table) c.args.vars.now c.loop-var.var-index c.var-item.result (search rules) (search rules)
    c.loop-var.invariant c.in_ok-add_var.ensures.made

pub returns-in_err-add_var-clause-refused : goal.returns-in_err-add_var-clause-refused
returns-in_err-add_var-clause-refused c =
    let t = table_in c.args.table.now in
    let u = table_in c.loop-var.table in
    let x = c.var-item.result in
    handed_cause (At x (HasNoHome u x)) (IsHomeless t c.args.vars.now) c.from_residual.result c.in_err-add_var.field-0.0 c.from_residual.ensures.1 c.in_err-add_var.ensures.refused
    (λ s h. var_homeless t u c.args.vars.now c.loop-var.var-index x s (search rules) (search rules) c.loop-var.invariant h)
