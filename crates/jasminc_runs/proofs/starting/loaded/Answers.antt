use Rattle.std.proofs.Common.{◌∙◌, ap}
use Rattle.std.proofs.lemmas.Result.{IfOk-weaker}
use Rattle.x64_machine.specs.MachineRuns.{Starts, start_of}
use Rattle.jasminc_steps.specs.Starting.{code_base, start_state}
use Rattle.jasminc_runs.specs.Starting.{IsLoaded}
use Rattle.jasminc_runs.proofs.starting.loaded.Goals as goal

pub returns : goal.returns
returns c =
    let memory = c.in_ok-memory.memory in
    IfOk-weaker c.new.result (λ machine. Starts machine c.as_slice-code.result.now code_base c.start_state.result memory)
    (IsLoaded c.args.compiled.now c.args.input.function.now c.args.input.words.now c.args.input.items.now)
    (λ machine s. record {
      memory = memory;
      is_start = c.in_ok-memory.ensures;
      code_is = s.code_is ∙ c.as_slice-code.ensures;
      base_is = s.base_is;
      config_is = s.config_is ∙ ap (λ st. start_of st memory) (c.start_state.ensures ∙ ap start_state (c.as_slice.ensures ∙ c.in_ok-items.ensures));
    })
    c.new.ensures
