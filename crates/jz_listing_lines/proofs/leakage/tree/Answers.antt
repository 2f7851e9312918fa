use Rattle.std.proofs.Common.{◌∙◌, ap, Some}
use Rattle.jz_listing_lines.specs.InnerTrees.{GaveTree}
use Rattle.jz_listing_lines.proofs.Trees.{passed, brace_err, step_err, ends, takes_one}
use Rattle.jz_listing_lines.proofs.leakage.tree.Goals as goal

pub returns-in_err-literal : goal.returns-in_err-literal
returns-in_err-literal c =
    passed c.from_residual.result c.in_err-literal.field-0.0 (λ r. GaveTree r c.args.c.now c.literal.new.self) c.from_residual.ensures.1
    (brace_err c.in_err-literal.field-0.0 c.args.c.now c.literal.new.self c.in_err-literal.ensures)

pub returns-in_err-tr : goal.returns-in_err-tr
returns-in_err-tr c =
    passed c.from_residual-in_err-tr.result c.in_err-tr.field-0.0 (λ r. GaveTree r c.args.c.now c.one_step.new.c) c.from_residual-in_err-tr.ensures.1
    (step_err c.in_err-tr.field-0.0 c.args.c.now c.loop-tr.c c.one_step.new.c c.loop-tr.opened c.loop-tr.invariant c.in_err-tr.ensures)

pub returns-in-Done : goal.returns-in-Done
returns-in-Done c =
    ends c.args.c.now c.loop-tr.c c.one_step.new.c c.loop-tr.opened c.in-Done.tr c.loop-tr.invariant
    (c.in_ok-tr.ensures ∙ ap (λ s. Some (s, c.one_step.new.c)) c.in-Done.is)

pub loop-tr-smaller : goal.loop-tr-smaller
loop-tr-smaller c =
    takes_one c.args.c.now c.loop-tr.c c.one_step.new.c c.loop-tr.opened c.in-Going.next c.loop-tr.invariant
    (c.in_ok-tr.ensures ∙ ap (λ s. Some (s, c.one_step.new.c)) c.in-Going.is)
