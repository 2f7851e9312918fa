use Rattle.std.proofs.Common.{◌∙◌, sym, ap, codes}
use Rattle.jz_lex.specs.LexingWords.{begins}
use Rattle.jz_lex.proofs.Comments.{all_left, end_here, end_next}
use Rattle.jz_lex.proofs.comment.before_end.Goals as goal

pub returns-then-begins-clause-value : goal.returns-then-begins-clause-value
returns-then-begins-clause-value c =
    let text = c.args.text.now in
    let at = c.loop-at.at in
    end_here at text (ap (begins (codes "*/")) (sym (all_left at text)) ∙ sym c.begins.ensures.value ∙ c.if-begins.true) c.loop-at.invariant

pub loop-at-preserved : goal.loop-at-preserved
loop-at-preserved c =
    let text = c.args.text.now in
    let at = c.loop-at.at in
    end_next at text c.loop-at-test.true (ap (begins (codes "*/")) (sym (all_left at text)) ∙ sym c.begins.ensures.value ∙ c.if-begins.false) c.loop-at.invariant
