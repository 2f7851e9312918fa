use Rattle.jz_unroll.proofs.Inline.{inline_exact}
use Rattle.jz_unroll.proofs.Valued.{values_so}
use Rattle.jz_unroll.proofs.laws.inline_expressions_are_values.Goals as goal

pub returns-clause-inline : goal.returns-clause-inline
returns-clause-inline c = λ e s x k w h ok q. inline_exact e s h x ok k q w

pub returns-clause-expressions : goal.returns-clause-expressions
returns-clause-expressions c = λ names e s t x h d ok. values_so names e s t h d x ok
