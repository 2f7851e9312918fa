use Rattle.jz_operands.proofs.SumLemmas.{for_found}
use Rattle.jz_rows.proofs.assignments.product_row.Goals as goal

pub returns-in-None : goal.returns-in-None
returns-in-None c = λ at.
    for_found c.times_row.result (λ r h. h) (λ none. (none, c.in-None.ensures at)) (c.times_row.ensures at)
