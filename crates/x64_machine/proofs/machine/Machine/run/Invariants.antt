use Rattle.std.proofs.Common.{◌≡◌}
use Rattle.x64_machine.specs.declared.step.Step.TheVariants.{Running}
use Rattle.x64_machine.specs.Steps.{steps_of}
use Rattle.x64_machine.specs.MachineRuns.{code_of, base_of, config_of, last_answer}
use Rattle.x64_machine.proofs.machine.Machine.run.Given as goal

-- the machine stands where the steps so far lead, and all of them went on
abbrev pub invariant-loop : goal.invariant-loop
invariant-loop l = record {
  same_code : code_of l.self ≡ code_of l.fn.self;
  same_base : base_of l.self ≡ base_of l.fn.self;
  stands : config_of l.self ≡ (steps_of (code_of l.fn.self) (base_of l.fn.self) (config_of l.fn.self) l.counter).after;
  answers : last_answer (code_of l.fn.self) (base_of l.fn.self) (config_of l.fn.self) l.counter ≡ Running;
}
