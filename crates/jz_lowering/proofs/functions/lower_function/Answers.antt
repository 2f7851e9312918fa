use Rattle.std.proofs.Common.{map, subst}
use Rattle.jz_tree.specs.declared.program.Param.{Param}
use Rattle.jz_type_names.specs.Scopes.{variables_of}
use Rattle.jz_correct.specs.Registers.{argument_registers, result_registers}
use Rattle.jz_runs.specs.Trees.{done}
use Rattle.jz_meaning.specs.Runs.{block}
use Rattle.jz_lowered.specs.Functions.{ArePassed}
use Rattle.jz_operands.specs.TableHomes.{homes_of}
use Rattle.jz_homing.specs.Tables.{no_homes}
use Rattle.jz_homing.specs.Refusals.{IsHomeless}
use Rattle.jz_lowering.specs.Becoming.{no_callees}
use Rattle.jz_lowering.specs.Parts.{parts_in, IsFirstWithout, HaveCode}
use Rattle.jz_lowering.specs.Passing.{IsFirstUnpassed, PassedOr}
use Rattle.jz_lowering.specs.Functions.{Refuses, no_home, no_argument, no_result, no_operations}
use Rattle.jz_homing.proofs.HandedOn.{handed_cause, handed_answer}
use Rattle.jz_lowering.proofs.FunctionLemmas.{same_homes, function_is}
use Rattle.jz_lowering.proofs.functions.lower_function.Goals as goal

pub returns-clause-made : goal.returns-clause-made
returns-clause-made c =
    function_is c.args.fun.now c.in_ok-table.table c.in_ok-entry.entry c.in_ok-results.results c.in_ok-made.made c.in_ok-in_use.in_use c.in_ok-table.ensures.table
    c.in_ok-entry.ensures c.in_ok-results.ensures c.in_ok-made.ensures.made c.in_ok-in_use.ensures

pub returns-in_err-table-clause-refused : goal.returns-in_err-table-clause-refused
returns-in_err-table-clause-refused c =
    let f = c.args.fun.now in
    handed_cause (IsHomeless no_homes (variables_of f)) (Refuses f) c.from_residual.result c.in_err-table.field-0.0 c.from_residual.ensures.1 c.in_err-table.ensures.refused (λ at h. no_home h)

pub returns-in_err-entry-clause-refused : goal.returns-in_err-entry-clause-refused
returns-in_err-entry-clause-refused c =
    let f = c.args.fun.now in
    let xs = map (λ (p : Param). p.var) f.params in
    handed_answer (PassedOr (homes_of c.in_ok-table.table.homes) argument_registers xs) (Refuses f) c.from_residual-in_err-entry.result c.in_err-entry.field-0.0 c.from_residual-in_err-entry.ensures.1 c.in_err-entry.ensures
    (λ at h. no_argument (subst (λ q. IsFirstUnpassed q argument_registers xs at) (same_homes f c.in_ok-table.table c.in_ok-table.ensures.table) h))

pub returns-in_err-results-clause-refused : goal.returns-in_err-results-clause-refused
returns-in_err-results-clause-refused c =
    let f = c.args.fun.now in
    let xs = map (λ (p : Param). p.var) f.params in
    let same = same_homes f c.in_ok-table.table c.in_ok-table.ensures.table in
    handed_answer (PassedOr (homes_of c.in_ok-table.table.homes) result_registers f.result) (Refuses f) c.from_residual-in_err-results.result c.in_err-results.field-0.0 c.from_residual-in_err-results.ensures.1 c.in_err-results.ensures
    (λ at h. no_result c.in_ok-entry.entry (subst (λ q. ArePassed q argument_registers xs c.in_ok-entry.entry) same c.in_ok-entry.ensures) (subst (λ q. IsFirstUnpassed q result_registers f.result at) same h))

pub returns-in_err-made-clause-refused : goal.returns-in_err-made-clause-refused
returns-in_err-made-clause-refused c =
    let f = c.args.fun.now in
    let xs = map (λ (p : Param). p.var) f.params in
    let parts = parts_in (block no_callees f.body done) in
    let same = same_homes f c.in_ok-table.table c.in_ok-table.ensures.table in
    handed_answer (HaveCode (homes_of c.in_ok-table.table.homes) parts) (Refuses f) c.from_residual-in_err-made.result c.in_err-made.field-0.0 c.from_residual-in_err-made.ensures.1 c.in_err-made.ensures.code
    (λ at h. no_operations c.in_ok-entry.entry c.in_ok-results.results (subst (λ q. ArePassed q argument_registers xs c.in_ok-entry.entry) same c.in_ok-entry.ensures)
    (subst (λ q. ArePassed q result_registers f.result c.in_ok-results.results) same c.in_ok-results.ensures) (subst (λ q. IsFirstWithout q parts at) same h))
