use Rattle.std.proofs.Common.{ap, None}
use Rattle.jz_unrolling_values.specs.Numbers.{whole_number}
use Rattle.jz_unrolling_values.proofs.known.Known.new.Goals as goal

pub returns-clause-numbers : goal.returns-clause-numbers
returns-clause-numbers c = ap (λ s n d. whole_number (s (record { name = n; copy = d; cell = None }))) c.new.ensures
