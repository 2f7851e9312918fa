use Rattle.jasminc_words.specs.Wanted.{texts_of}
use Rattle.jasminc_top.proofs.RunCauses.{request_numbers}
use Rattle.jasminc_top.proofs.answer.answer.Goals as goal

pub perform-requires : goal.perform-requires
perform-requires g c = request_numbers (texts_of c.args.words.now) c.in_ok-request.field-0 c.in-Some.request c.in_ok-request.ensures c.in-Some.is
