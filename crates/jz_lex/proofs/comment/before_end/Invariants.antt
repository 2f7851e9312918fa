use Rattle.jz_lex.proofs.Comments.{EndBehind}
use Rattle.jz_lex.proofs.comment.before_end.Given as goal

abbrev pub invariant-loop-at : goal.invariant-loop-at
invariant-loop-at l = EndBehind l.at l.fn.text
