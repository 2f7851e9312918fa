use Rattle.std.proofs.Common.{◌≡◌, ◌+◌, ◌++◌, refl, sym, ap, ◌∙◌, arith, false}
use Rattle.x64_machine.specs.MachineRuns.{code_of, base_of, config_of}
use Rattle.x64_machine.specs.Steps.{Config, Moved, steps_of, events_of}
use Rattle.x64_machine.proofs.MachineRunning.{none_made, same_step}
use Rattle.x64_machine.proofs.Following.{none_shown, open_first, step_on, events_on, goes, ends, up_to}
use Rattle.jasminc_steps.proofs.stepping.run_to_end.Goals as goal

pub loop-made-init : goal.loop-made-init
loop-made-init c =
    let code = code_of c.args.machine.now in
    let base = base_of c.args.machine.now in
    let start = config_of c.args.machine.now in record {
      same_code = refl;
      same_base = refl;
      stands = sym (none_made code base start);
      shown = c.new-events.ensures.items ∙ sym (none_shown code base start);
      open_before = open_first code base start c.requires;
    }

pub returns-in-Ended : goal.returns-in-Ended
returns-in-Ended c =
    let code = code_of c.args.machine.now in
    let base = base_of c.args.machine.now in
    let start = config_of c.args.machine.now in
    let made = c.loop-made.made in
    let known = c.loop-made.invariant in
    let here = config_of c.loop-made.machine in
    let same = same_step (code_of c.loop-made.machine) code (base_of c.loop-made.machine) base here known.same_code known.same_base in
    let moved = step_on code base made start here known.stands in
    let is_open = ap (λ (d : Config). d.ended) known.stands ∙ known.open_before made (omega arith) in
    let answer = sym (c.step-answer.ensures.answer ∙ ap (λ (m : Moved). m.answer) same) ∙ c.in-Ended.is in
    let shown = events_on code base made start here c.loop-made.events.items known.stands known.shown in (
      omega arith,
      record {
        ended = ap (λ (d : Config). d.ended) (sym moved) ∙ ends code base here is_open answer;
        before = known.open_before;
      },
      c.from_vec.ensures ∙ c.in_ok-push_events.ensures
          ∙ ap (λ l. c.loop-made.events.items ++ events_of l) (c.step-answer.ensures.leak ∙ ap (λ (m : Moved). m.leak) same) ∙ shown,
      c.step-answer.ensures.after ∙ ap (λ (m : Moved). m.after) same ∙ moved,
    )

pub loop-made-preserved : goal.loop-made-preserved
loop-made-preserved c =
    let code = code_of c.args.machine.now in
    let base = base_of c.args.machine.now in
    let start = config_of c.args.machine.now in
    let made = c.loop-made.made in
    let known = c.loop-made.invariant in
    let here = config_of c.loop-made.machine in
    let same = same_step (code_of c.loop-made.machine) code (base_of c.loop-made.machine) base here known.same_code known.same_base in
    let moved = step_on code base made start here known.stands in
    let is_open = ap (λ (d : Config). d.ended) known.stands ∙ known.open_before made (omega arith) in
    let answer = sym (c.step-answer.ensures.answer ∙ ap (λ (m : Moved). m.answer) same) ∙ c.in-Running.is in
    let shown = events_on code base made start here c.loop-made.events.items known.stands known.shown in record {
      same_code = c.step-answer.ensures.code.0 ∙ known.same_code;
      same_base = c.step-answer.ensures.code.1 ∙ known.same_base;
      stands = c.step-answer.ensures.after ∙ ap (λ (m : Moved). m.after) same ∙ moved;
      shown = c.in_ok-push_events.ensures
          ∙ ap (λ l. c.loop-made.events.items ++ events_of l) (c.step-answer.ensures.leak ∙ ap (λ (m : Moved). m.leak) same) ∙ shown;
      open_before = up_to (λ j. (steps_of code base start j).after.ended ≡ false) (made + 1) known.open_before
          (ap (λ (d : Config). d.ended) (sym moved) ∙ goes code base here is_open answer);
    }
