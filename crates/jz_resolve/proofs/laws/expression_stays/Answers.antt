use Rattle.jz_resolve.proofs.Spans.{expr_span}
use Rattle.jz_resolve.proofs.laws.expression_stays.Goals as goal

pub returns : goal.returns
returns c = λ k. expr_span k.declaration k.number c.args.e.now
