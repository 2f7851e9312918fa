use Rattle.std.proofs.Common.{◌∙◌, ap, sym}
use Rattle.std.specs.Prelude.{codes}
use Rattle.jz_lex.specs.LexingWords.{begins}
use Rattle.jz_listing_lines.specs.InnerLines.{GaveLine, first_lines}
use Rattle.jz_listing_lines.proofs.Trees.{passed}
use Rattle.jz_listing_lines.proofs.LineLaws.{line_err, line_read}
use Rattle.jz_listing_lines.proofs.reading.whole_line.Goals as goal

pub returns-in_err-line : goal.returns-in_err-line
returns-in_err-line c =
    passed c.from_residual.result c.in_err-line.field-0.0 (λ r. GaveLine r c.args.bytes.now) c.from_residual.ensures.1
    (line_err c.in_err-line.field-0.0 c.args.bytes.now c.new-c.result c.first_lines.new.c c.new-c.ensures
    (ap (begins (codes "tr ")) (sym c.new-c.ensures) ∙ sym c.is_at.ensures ∙ c.if-is_at.false) c.in_err-line.ensures)

pub returns : goal.returns
returns c =
    line_read c.args.bytes.now c.first_lines.new.c c.in_ok-line.line (ap first_lines (sym c.new-c.ensures) ∙ c.in_ok-line.ensures) (sym c.is_at_end.ensures ∙ c.if-not-is_at_end.false)
