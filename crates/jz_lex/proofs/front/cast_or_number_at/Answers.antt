use Rattle.std.proofs.Common.{sym}
use Rattle.jz_lex.proofs.LexingFront.{cast_part}
use Rattle.jz_lex.proofs.front.cast_or_number_at.Goals as goal

pub returns-in-Some : goal.returns-in-Some
returns-in-Some c = cast_part c.args.text.now c.in-Some.length c.requires (sym c.in-Some.ensures)
