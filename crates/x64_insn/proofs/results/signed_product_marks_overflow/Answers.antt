use Rattle.x64_insn.proofs.WholeProducts.{signed_product_marks, low_product_marks}
use Rattle.x64_insn.proofs.results.signed_product_marks_overflow.Goals as goal

pub returns-clause-both : goal.returns-clause-both
returns-clause-both c = signed_product_marks

pub returns-clause-low : goal.returns-clause-low
returns-clause-low c = low_product_marks
