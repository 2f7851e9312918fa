use Rattle.x64_insn.proofs.WholeProducts.{low_is_low}
use Rattle.x64_insn.proofs.results.low_product_is_low.Goals as goal

pub returns : goal.returns
returns c = low_is_low
