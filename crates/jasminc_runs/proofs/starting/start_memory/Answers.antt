use Rattle.std.proofs.Common.{◌+◌, ◌-◌, ◌∙◌, ap, subst, arith, List, ℕ, length}
use Rattle.jz_annotations.specs.declared.precondition.Pre.{Pre}
use Rattle.jz_leak.specs.MemoryMap.{AddsBytes}
use Rattle.jz_inputs.specs.Inputs.{HoldsRegions}
use Rattle.jasminc_steps.specs.Starting.{return_slot}
use Rattle.jasminc_starts.proofs.Memories.{none_there, zeros_long}
use Rattle.jasminc_runs.proofs.starting.start_memory.Goals as goal

pub add-requires : goal.add-requires
add-requires c =
    let f = c.args.input.function.now in
    let words = c.args.input.words.now in
    let items = c.args.input.items.now in
    let memory = c.in_ok-memory.memory in
    let small = c.requires.small in
    let holds = subst (λ (ps : List Pre). HoldsRegions f words items ps memory) c.requires.stated c.in_ok-memory.ensures in
    let long = ap length (c.as_slice.ensures.value ∙ c.in_ok-bytes.ensures) ∙ zeros_long (c.args.frame + 8) in
    λ q low high fits. none_there f words items memory holds c.requires.apart q (omega (arith, small, low)) (omega (arith, small, high, long))

pub returns : goal.returns
returns c =
    let f = c.args.input.function.now in
    let words = c.args.input.words.now in
    let items = c.args.input.items.now in
    let memory = c.in_ok-memory.memory in
    record {
      input = memory;
      holds = subst (λ (ps : List Pre). HoldsRegions f words items ps memory) c.requires.stated c.in_ok-memory.ensures;
      added = subst (λ (bs : List ℕ). AddsBytes memory c.add.new.self (return_slot - c.args.frame) bs) (c.as_slice.ensures.value ∙ c.in_ok-bytes.ensures) c.in_ok-add.ensures.ok;
    }
