use Rattle.std.proofs.Common.{◌≡◌, ℕ, ◌+◌, ◌<◌, false}
use Rattle.x64_machine.specs.MachineRuns.{code_of, base_of, config_of}
use Rattle.x64_machine.specs.Steps.{steps_of}
use Rattle.jasminc_steps.proofs.stepping.run_to_end.Given as goal

-- the machine stands where so many steps lead, with their events, and has not ended up to there
abbrev pub invariant-loop-made : goal.invariant-loop-made
invariant-loop-made l =
    let code = code_of l.initial.machine in
    let base = base_of l.initial.machine in
    let start = config_of l.initial.machine in
    record {
      same_code : code_of l.machine ≡ code;
      same_base : base_of l.machine ≡ base;
      stands : config_of l.machine ≡ (steps_of code base start l.made).after;
      shown : l.events.items ≡ (steps_of code base start l.made).events;
      open_before : (j : ℕ) → j < l.made + 1 → (steps_of code base start j).after.ended ≡ false;
    }
