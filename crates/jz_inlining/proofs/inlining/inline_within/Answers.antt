use Rattle.std.proofs.Common.{◌∙◌, ap, sym}
use Rattle.jz_tree.specs.declared.program.Fun.{Fun}
use Rattle.jz_change.specs.Views.{steps_of}
use Rattle.jz_change.proofs.StepViews.{change_is}
use Rattle.jz_inline.specs.Statements.{all_steps}
use Rattle.jz_inline.proofs.Made.{inlining_is}
use Rattle.jz_frames.specs.Frames.{frame_of}
use Rattle.jz_inlining.proofs.inlining.inline_within.Goals as goal

pub copy_statements-requires : goal.copy_statements-requires
copy_statements-requires c = record { few = c.requires.counted.within }

pub frame_vars-requires : goal.frame_vars-requires
frame_vars-requires c = record { few = c.requires.counted.within }

pub returns : goal.returns
returns c =
    let p = c.args.program.now in
    let f : Fun = c.args.fun.now in
    let body = c.in_ok-body.ensures in
    record {
      function =
          c.in_ok-fun.ensures
          ∙ ap (λ vs. record f { vars = vs; body = c.in_ok-body.body.stmts }) c.in_ok-vars.ensures
          ∙ ap (λ ss. record f { vars = frame_of p f; body = ss }) body.stmts;
      changed = change_is (all_steps c.in_ok-body.body.steps) ∙ ap steps_of body.steps ∙ sym (inlining_is p f);
      counted = c.requires.counted;
    }
