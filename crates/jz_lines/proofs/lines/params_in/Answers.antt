use Rattle.std.proofs.Common.{◌∙◌, ap, length, rules}
use Rattle.jz_lines.specs.InnerLines.{word_size, HasNoLine}
use Rattle.jz_lines.proofs.LineLemmas.{params_none, params_next, params_lined, no_params, handed}
use Rattle.jz_lines.proofs.lines.params_in.Goals as goal

pub loop-param-init : goal.loop-param-init
loop-param-init c = params_none c.args.regs.now c.new-lines.result c.new-lines.ensures

pub loop-param-preserved : goal.loop-param-preserved
loop-param-preserved c =
    params_next c.args.regs.now c.args.params.now c.loop-param.param-index c.param-item.result c.word_size-word.result c.loop-param.lines c.next_line.new.lines
    (search rules) (search rules) (c.word_size-word.ensures ∙ ap word_size c.kind_of.ensures) c.in_ok-next_line.ensures.added c.loop-param.invariant

pub returns-clause-lines : goal.returns-clause-lines
returns-clause-lines c = params_lined c.args.regs.now c.args.params.now c.loop-param.param-index c.loop-param.lines (search rules) c.loop-param.invariant

pub returns-in_err-next_line-clause-refused : goal.returns-in_err-next_line-clause-refused
returns-in_err-next_line-clause-refused c =
    handed c.from_residual.result c.in_err-next_line.field-0.0 (HasNoLine c.args.regs.now c.word_size-word.result (length c.loop-param.lines)) _ c.from_residual.ensures.1 c.in_err-next_line.ensures.refused
    (λ none as' lines. no_params c.args.regs.now c.args.params.now c.loop-param.param-index c.param-item.result c.word_size-word.result c.loop-param.lines as' (search rules) (search rules) (c.word_size-word.ensures ∙ ap word_size c.kind_of.ensures) c.loop-param.invariant none lines)
