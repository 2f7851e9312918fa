use Rattle.jz_one_row.proofs.Sums.{one_sum, one_address, one_index}
use Rattle.jz_one_row.proofs.Operands.{one_arg, one_dest}
use Rattle.jz_one_row.proofs.laws.one_argument.Goals as goal

pub returns-clause-addresses : goal.returns-clause-addresses
returns-clause-addresses c = λ home e t u m n p q f g. one_address t u m n (one_sum home e t u p q) f g

pub returns-clause-indices : goal.returns-clause-indices
returns-clause-indices c = λ home e t u b d i j p q f g. one_index t u b d i j (one_sum home e t u p q) f g

pub returns-clause-operands : goal.returns-clause-operands
returns-clause-operands c = λ home z e a b p q f g. one_arg home z e a b p q f g

pub returns-clause-destinations : goal.returns-clause-destinations
returns-clause-destinations c = λ home z d a b p q f g. one_dest home z d a b p q f g
