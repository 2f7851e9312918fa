use Rattle.std.proofs.Common.{◌∙◌, sym, ap}
use Rattle.jz_lex.specs.InnerFront.{before_end}
use Rattle.jz_lex.proofs.Comments.{all_left, block_part, open_part}
use Rattle.jz_lex.proofs.front.block_comment_at.Goals as goal

pub returns-in-Some : goal.returns-in-Some
returns-in-Some c = block_part c.args.text.now c.in-Some.length c.requires (sym (c.in-Some.ensures.value ∙ ap before_end (all_left 2 c.args.text.now)))

pub returns-in-None : goal.returns-in-None
returns-in-None c = open_part c.args.text.now c.requires (sym (c.in-None.ensures.value ∙ ap before_end (all_left 2 c.args.text.now)))
