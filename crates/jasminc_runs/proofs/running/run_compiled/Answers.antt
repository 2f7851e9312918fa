use Rattle.std.proofs.Common.{subst}
use Rattle.x64_machine.specs.MachineRuns.{code_of, base_of, config_of}
use Rattle.jasminc_steps.specs.declared.stepping.Finish.{Finish}
use Rattle.jasminc_steps.specs.Stepping.{Finishes}
use Rattle.jz_inputs.proofs.Meets.{all_below}
use Rattle.jasminc_runs.proofs.Ended.{not_faulted, ended_run, cut_run}
use Rattle.jasminc_runs.proofs.running.run_compiled.Goals as goal

pub run_text-requires-clause-below_end : goal.run_text-requires-clause-below_end
run_text-requires-clause-below_end c =
    all_below c.args.input.function.now c.args.input.words.now c.args.input.items.now c.args.input.pres.now c.requires.held

pub returns-in-Ended : goal.returns-in-Ended
returns-in-Ended c =
    let machine = c.in_ok-machine.machine in
    let now = config_of c.run_to_end.new.machine in
    let P : Finish → Type 0 = λ f. Finishes (code_of machine) (base_of machine) (config_of machine) c.args.fuel now f in
    ended_run c.args.compiled.now c.args.input.function.now c.args.input.words.now c.args.input.items.now machine c.in_ok-machine.ensures c.args.fuel c.in-Ended.steps now
    c.in-Ended.events c.in_ok-text-in-Ended.text (subst P c.in-Ended.is c.in_ok-finish.ensures) c.in_ok-text-in-Ended.ensures

pub returns-in-Cut : goal.returns-in-Cut
returns-in-Cut c =
    let machine = c.in_ok-machine.machine in
    let now = config_of c.run_to_end.new.machine in
    let P : Finish → Type 0 = λ f. Finishes (code_of machine) (base_of machine) (config_of machine) c.args.fuel now f in
    cut_run c.args.compiled.now c.args.input.function.now c.args.input.words.now c.args.input.items.now machine c.in_ok-machine.ensures c.args.fuel now c.in-Cut.events
    c.in_ok-text-in-Cut.text (subst P c.in-Cut.is c.in_ok-finish.ensures) c.in_ok-text-in-Cut.ensures

pub unreachable-requires : goal.unreachable-requires
unreachable-requires c =
    let machine = c.in_ok-machine.machine in
    let now = config_of c.run_to_end.new.machine in
    let P : Finish → Type 0 = λ f. Finishes (code_of machine) (base_of machine) (config_of machine) c.args.fuel now f in
    not_faulted c.args.compiled.now c.args.input.function.now c.args.input.words.now c.args.input.items.now machine c.in_ok-machine.ensures c.args.fuel now _ c.requires.safe
    (subst P c.in-Faulted.is c.in_ok-finish.ensures)
