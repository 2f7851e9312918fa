-- Reading a line.
use Rattle.std.specs.Prelude.{ℕ, List, [], ◌∷◌, Option, Some, None, Result, Ok, Err, codes, if◌then◌else◌}
use Rattle.jz_data.specs.declared.failure.Failure.{Failure}
use Rattle.jz_data.specs.declared.failure.Failure.TheVariants.{Refused, OutOfMemory}
use Rattle.jz_lex.specs.LexingWords.{begins}
use Rattle.jz_listing_lines.specs.declared.cursor.Unread.{Unread}
use Rattle.jz_listing_lines.specs.declared.line.Line.{Line}
use Rattle.jz_listing_lines.specs.declared.line.Line.TheVariants as line
use Rattle.jz_listing_lines.specs.Lines.{IsRead}
use Rattle.jz_listing_lines.specs.InnerReaders.{Reader, ◌>>=◌, through, literal, behind, pick, name, number}
use Rattle.jz_listing_lines.specs.InnerPieces.{held, precondition, saved, verdict, code}

unfoldable pub last_lines : Reader Line
last_lines =
    pick (codes "end") (λ bs. through (λ u. line.End) (literal (codes "end") bs))
    (λ bs. through (λ u. line.First) (literal (codes "jasmin-listing 1") bs))

unfoldable pub number_lines : Reader Line
number_lines =
    pick (codes "frame ") (λ bs. through line.Frame (behind (codes "frame ") number bs))
    (pick (codes "insns ") (λ bs. through line.Insns (behind (codes "insns ") number bs))
    (pick (codes "code ") (λ bs. through line.Code (behind (codes "code ") code bs)) last_lines))

unfoldable pub more_lines : Reader Line
more_lines =
    pick (codes "pre ") (λ bs. through line.Pre (behind (codes "pre ") precondition bs))
    (pick (codes "saved") (λ bs. through line.Saved (behind (codes "saved") saved bs))
    (pick (codes "ct ") (λ bs. through line.Ct (behind (codes "ct ") verdict bs)) number_lines))

-- every line but that of a transformer
unfoldable pub first_lines : Reader Line
first_lines =
    pick (codes "fn ") (λ bs. through line.Fn (behind (codes "fn ") name bs))
    (pick (codes "arg ") (λ bs. through line.Arg (behind (codes "arg ") held bs))
    (pick (codes "ret ") (λ bs. through line.Ret (behind (codes "ret ") held bs)) more_lines))

-- what the code answers: the line that the bytes are, or that they are none
abbrev pub GaveLine : Result Line (Failure Unread) → List ℕ → Type 0
GaveLine (Ok l) bytes = IsRead bytes (Some l)
GaveLine (Err (Refused e)) bytes = IsRead bytes None
GaveLine (Err OutOfMemory) bytes = Unit {0}
