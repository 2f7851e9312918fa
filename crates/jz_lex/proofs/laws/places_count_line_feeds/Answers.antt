use Rattle.jz_lex.proofs.Places.{lines, columns}
use Rattle.jz_lex.proofs.laws.places_count_line_feeds.Goals as goal

pub returns : goal.returns
returns c = record { line = lines; column = columns }
