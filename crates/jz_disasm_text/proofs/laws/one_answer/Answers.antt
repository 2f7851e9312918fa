use Rattle.jz_disasm_text.proofs.OneAnswer.{one_answer}
use Rattle.jz_disasm_text.proofs.laws.one_answer.Goals as goal

pub returns : goal.returns
returns c = one_answer
