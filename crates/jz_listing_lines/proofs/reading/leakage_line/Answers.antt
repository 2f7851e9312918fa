use Rattle.jz_listing_lines.specs.InnerLines.{GaveLine}
use Rattle.jz_listing_lines.proofs.Trees.{passed}
use Rattle.jz_listing_lines.proofs.LineLaws.{word_err, leakage_err}
use Rattle.jz_listing_lines.proofs.reading.leakage_line.Goals as goal

pub returns-in_err-literal : goal.returns-in_err-literal
returns-in_err-literal c =
    passed c.from_residual.result c.in_err-literal.field-0.0 (λ r. GaveLine r c.args.bytes.now) c.from_residual.ensures.1
    (word_err c.in_err-literal.field-0.0 c.args.bytes.now c.new-c.result c.literal.new.self c.new-c.ensures c.requires c.in_err-literal.ensures)

pub returns-in_err-tr : goal.returns-in_err-tr
returns-in_err-tr c =
    passed c.from_residual-in_err-tr.result c.in_err-tr.field-0.0 (λ r. GaveLine r c.args.bytes.now) c.from_residual-in_err-tr.ensures.1
    (leakage_err c.in_err-tr.field-0.0 c.args.bytes.now c.new-c.result c.literal.new.self c.transformer.new.c c.new-c.ensures c.in_ok-literal.ensures c.in_err-tr.ensures)
