use Rattle.x64_insn.proofs.WholeProducts.{product_marks}
use Rattle.x64_insn.proofs.results.product_marks_overflow.Goals as goal

pub returns : goal.returns
returns c = product_marks
