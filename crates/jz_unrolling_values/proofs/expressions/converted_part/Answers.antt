use Rattle.jz_unrolling_values.proofs.PartLemmas.{cast_part}
use Rattle.jz_unrolling_values.proofs.expressions.converted_part.Goals as goal

pub returns : goal.returns
returns c = λ names e x valued. cast_part names e c.args.size c.args.signed x c.args.inner c.args.span valued
