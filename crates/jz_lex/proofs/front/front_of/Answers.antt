use Rattle.std.proofs.Common.{◌∙◌, sym}
use Rattle.jz_lex.proofs.Comments.{line_part}
use Rattle.jz_lex.proofs.front.front_of.Goals as goal

pub returns-then-begins : goal.returns-then-begins
returns-then-begins c = line_part c.args.text.now c.line_length.result (sym c.begins.ensures.value ∙ c.if-begins.true) c.line_length.ensures
