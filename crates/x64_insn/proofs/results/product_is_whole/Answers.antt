use Rattle.x64_insn.proofs.WholeProducts.{product_whole}
use Rattle.x64_insn.proofs.results.product_is_whole.Goals as goal

pub returns : goal.returns
returns c = product_whole
