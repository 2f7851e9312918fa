use Rattle.std.proofs.Common.{◌∙◌, ap, length, rules}
use Rattle.std.specs.Prelude.{slice_get}
use Rattle.jz_lines.specs.InnerLines.{result_word, HasNoLine}
use Rattle.jz_lines.proofs.LineLemmas.{results_none, results_next, results_lined, no_results, handed}
use Rattle.jz_lines.proofs.lines.results_in.Goals as goal

pub loop-var-init : goal.loop-var-init
loop-var-init c = results_none c.args.regs.now c.new-lines.result c.new-lines.ensures

pub loop-var-preserved : goal.loop-var-preserved
loop-var-preserved c =
    results_next c.args.regs.now c.args.vars.now c.args.rets.now c.loop-var.var-index c.var-item.result c.declared_word-word.result c.loop-var.lines c.next_line.new.lines
    (search rules) (search rules) (c.declared_word-word.ensures ∙ ap (λ k. result_word (slice_get c.args.rets.now k)) c.len.ensures) c.in_ok-next_line.ensures.added c.loop-var.invariant

pub returns-clause-lines : goal.returns-clause-lines
returns-clause-lines c = results_lined c.args.regs.now c.args.vars.now c.args.rets.now c.loop-var.var-index c.loop-var.lines (search rules) c.requires c.loop-var.invariant

pub returns-in_err-next_line-clause-refused : goal.returns-in_err-next_line-clause-refused
returns-in_err-next_line-clause-refused c =
    handed c.from_residual.result c.in_err-next_line.field-0.0 (HasNoLine c.args.regs.now c.declared_word-word.result (length c.loop-var.lines)) _ c.from_residual.ensures.1 c.in_err-next_line.ensures.refused
    (λ none as' lines. no_results c.args.regs.now c.args.vars.now c.args.rets.now c.loop-var.var-index c.declared_word-word.result c.loop-var.lines as' (search rules) (c.declared_word-word.ensures ∙ ap (λ k. result_word (slice_get c.args.rets.now k)) c.len.ensures) c.loop-var.invariant none lines)
