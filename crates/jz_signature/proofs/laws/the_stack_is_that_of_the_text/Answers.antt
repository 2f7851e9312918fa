use Rattle.jz_signature.proofs.StackLemmas.{stack_is}
use Rattle.jz_signature.proofs.laws.the_stack_is_that_of_the_text.Goals as goal

pub returns : goal.returns
returns c = λ p f u head differ params. stack_is p f u head differ params
