use Rattle.std.proofs.lemmas.Result.{err_from_is_err_and}
use Rattle.jasminc_words.specs.Wanted.{wanted_of}
use Rattle.jasminc_top.specs.Told.{source_told}
use Rattle.jasminc_top.proofs.Settling.{input_fails}
use Rattle.jasminc_top.proofs.answer.perform.Goals as goal

pub returns-in_err-text : goal.returns-in_err-text
returns-in_err-text g c =
    let told = source_told g.S.Source.told g.S.Source.faults c.args.src.now c.text_of.new.src in
    let p = err_from_is_err_and c.from_residual.result c.from_residual.ensures.1 in
    rw (p.1, p.2) (input_fails (wanted_of c.args.request) told _ c.in_err-text.ensures.refused)
