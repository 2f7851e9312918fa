use Rattle.x64_insn.proofs.WholeProducts.{signed_product_whole}
use Rattle.x64_insn.proofs.results.signed_product_is_whole.Goals as goal

pub returns : goal.returns
returns c = signed_product_whole
