use Rattle.std.proofs.Common.{refl, sym, ap, ◌∙◌}
use Rattle.x64_machine.specs.Steps.{Moved}
use Rattle.x64_machine.specs.MachineRuns.{code_of, base_of, config_of}
use Rattle.x64_machine.proofs.MachineRunning.{same_step, ended_first, none_made, none_answered_running, stops_at, goes_on}
use Rattle.x64_machine.proofs.machine.Machine.run.Goals as goal

pub returns-then-self-clause-answer : goal.returns-then-self-clause-answer
returns-then-self-clause-answer c =
    let m = c.args.self.now
    in (ended_first (code_of m) (base_of m) c.args.count (config_of m) c.if-self.true).answers

pub returns-then-self-clause-after : goal.returns-then-self-clause-after
returns-then-self-clause-after c =
    let m = c.args.self.now
    in (ended_first (code_of m) (base_of m) c.args.count (config_of m) c.if-self.true).stands

pub loop-init : goal.loop-init
loop-init c =
    let m = c.args.self.now
    in record {
      same_code = refl;
      same_base = refl;
      stands = sym (none_made (code_of m) (base_of m) (config_of m));
      answers = none_answered_running (code_of m) (base_of m) (config_of m) c.if-self.false;
    }

pub returns-in_default : goal.returns-in_default
returns-in_default c =
    let m = c.args.self.now
    in let s = same_step (code_of c.loop.self) (code_of m) (base_of c.loop.self) (base_of m) (config_of c.loop.self) c.loop.invariant.same_code c.loop.invariant.same_base
    in let w = stops_at (code_of m) (base_of m) c.args.count c.loop.counter (config_of m) (config_of c.loop.self) (config_of c.step-answer.new.self) c.step-answer.result.0
    c.loop-test.true c.loop.invariant.stands
    (ap (λ (x : Moved). x.answer) (sym s) ∙ sym c.step-answer.ensures.answer)
    (c.step-answer.ensures.after ∙ ap (λ (x : Moved). x.after) s) c.in_default.not-Running
    in record {
      answer = w.answers;
      after = w.stands;
      code = (c.step-answer.ensures.code.0 ∙ c.loop.invariant.same_code, c.step-answer.ensures.code.1 ∙ c.loop.invariant.same_base);
    }

pub loop-preserved : goal.loop-preserved
loop-preserved c =
    let m = c.args.self.now
    in let s = same_step (code_of c.loop.self) (code_of m) (base_of c.loop.self) (base_of m) (config_of c.loop.self) c.loop.invariant.same_code c.loop.invariant.same_base
    in let g = goes_on (code_of m) (base_of m) c.loop.counter (config_of m) (config_of c.loop.self) (config_of c.step-answer.new.self)
    c.loop.invariant.stands
    (ap (λ (x : Moved). x.answer) (sym s) ∙ sym c.step-answer.ensures.answer ∙ c.in-Running.is)
    (c.step-answer.ensures.after ∙ ap (λ (x : Moved). x.after) s)
    in record {
      same_code = c.step-answer.ensures.code.0 ∙ c.loop.invariant.same_code;
      same_base = c.step-answer.ensures.code.1 ∙ c.loop.invariant.same_base;
      stands = g.0;
      answers = g.1;
    }
