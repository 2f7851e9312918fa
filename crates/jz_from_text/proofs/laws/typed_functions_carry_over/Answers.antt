use Rattle.jz_from_text.proofs.Compiled.{carries, compilation}
use Rattle.jz_from_text.proofs.laws.typed_functions_carry_over.Goals as goal

pub returns-clause-carries : goal.returns-clause-carries
returns-clause-carries c = λ p f e comp h. carries p f e comp h

pub returns-clause-compilation : goal.returns-clause-compilation
returns-clause-compilation c = λ p f e comp h stays. compilation p f e comp h stays
