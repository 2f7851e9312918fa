use Rattle.std.proofs.Common.{◌∙◌, sym, ap, rules}
use Rattle.std.specs.Option.{option_copied}
use Rattle.jz_tree.specs.declared.expr.Var.{Var}
use Rattle.jz_meaning.specs.States.{Value, word}
use Rattle.jasminc_interp.specs.Telling.{value_text}
use Rattle.jasminc_calls.proofs.InStep.{zip_more, zip_ended, zip_over, lined, lines_end}
use Rattle.jasminc_interp.proofs.telling.write_results.Goals as goal

pub returns-in-None : goal.returns-in-None
returns-in-None c =
    lines_end (λ (p : Var × Value). value_text p.0 p.1) c.loop-i.text.items _ _
    (zip_ended (λ w. word w.size w.bits) c.args.results.now c.args.words.now c.loop-i.i (sym c.get.ensures.value ∙ ap option_copied c.in-None.is)) c.loop-i.invariant

pub loop-i-preserved : goal.loop-i-preserved
loop-i-preserved c =
    let w = c.in-Some.word.now in
    lined (λ (p : Var × Value). value_text p.0 p.1) c.loop-i.text.items _ _ (c.var-item.result, word w.size w.bits) _ _
    (zip_more (λ w. word w.size w.bits) c.args.results.now c.args.words.now c.loop-i.i c.var-item.result w (search rules) (search rules)
    (sym c.get.ensures.value ∙ ap option_copied c.in-Some.is))
    c.loop-i.invariant (search rules)

pub returns : goal.returns
returns c =
    lines_end (λ (p : Var × Value). value_text p.0 p.1) c.loop-i.text.items _ _
    (zip_over (λ w. word w.size w.bits) c.args.results.now c.args.words.now c.loop-i.i (search rules)) c.loop-i.invariant
