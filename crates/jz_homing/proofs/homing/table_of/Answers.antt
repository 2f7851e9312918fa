use Rattle.std.proofs.Common.{map}
use Rattle.jz_tree.specs.declared.program.Param.{Param}
use Rattle.jz_operands.specs.TableHomes.{entries_of}
use Rattle.jz_type_names.specs.Scopes.{variables_of}
use Rattle.jz_homing.specs.Tables.{Table, no_homes, table_in}
use Rattle.jz_homing.specs.Refusals.{IsHomeless}
use Rattle.jz_homing.proofs.HandedOn.{handed_cause}
use Rattle.jz_homing.proofs.HomelessLemmas.{of_params, of_vars}
use Rattle.jz_homing.proofs.EntryLemmas.{begun, all_added}
use Rattle.jz_homing.proofs.homing.table_of.Goals as goal

pub returns-clause-made : goal.returns-clause-made
returns-clause-made c =
    all_added (record { entries = entries_of c.new.result; kinds = c.new-2.result; stack = c.new-3.result }) (table_in c.add_params.new.table) (table_in c.add_vars.new.table) (map (λ (p : Param). p.var) c.args.fun.now.params) c.args.fun.now.vars
    (begun (entries_of c.new.result) c.new-2.result c.new-3.result c.new.ensures c.new-2.ensures c.new-3.ensures)
    c.in_ok-add_params.ensures.made c.in_ok-add_vars.ensures.made

pub returns-in_err-add_params-clause-refused : goal.returns-in_err-add_params-clause-refused
returns-in_err-add_params-clause-refused c =
    let f = c.args.fun.now in
    let t : Table = record { entries = entries_of c.new.result; kinds = c.new-2.result; stack = c.new-3.result } in
    handed_cause (IsHomeless t (map (λ (p : Param). p.var) f.params)) (IsHomeless no_homes (variables_of f)) c.from_residual.result c.in_err-add_params.field-0.0 c.from_residual.ensures.1 c.in_err-add_params.ensures.refused
    (λ s h. of_params f t s (begun (entries_of c.new.result) c.new-2.result c.new-3.result c.new.ensures c.new-2.ensures c.new-3.ensures) h)

pub returns-in_err-add_vars-clause-refused : goal.returns-in_err-add_vars-clause-refused
returns-in_err-add_vars-clause-refused c =
    let f = c.args.fun.now in
    let t : Table = record { entries = entries_of c.new.result; kinds = c.new-2.result; stack = c.new-3.result } in
    let u = table_in c.add_params.new.table in
    handed_cause (IsHomeless u f.vars) (IsHomeless no_homes (variables_of f)) c.from_residual-in_err-add_vars.result c.in_err-add_vars.field-0.0 c.from_residual-in_err-add_vars.ensures.1 c.in_err-add_vars.ensures.refused
    (λ s h. of_vars f t u s (begun (entries_of c.new.result) c.new-2.result c.new-3.result c.new.ensures c.new-2.ensures c.new-3.ensures) c.in_ok-add_params.ensures.made h)
