use Rattle.std.proofs.Common.{rules}
use Rattle.jz_inputs.proofs.Taken.{all_more, all_seen}
use Rattle.jz_listable.specs.Sizes.{HasSizes}
use Rattle.jz_listable.proofs.numbers.functions_are_sized.Goals as goal

pub loop-function-preserved : goal.loop-function-preserved
loop-function-preserved c = all_more HasSizes c.args.compiled.now c.loop-function.function-index c.function-item.result (search rules) c.function-item.is c.loop-function.invariant c.function_is_sized.ensures

pub returns : goal.returns
returns c = all_seen HasSizes c.args.compiled.now c.loop-function.function-index (search rules) c.loop-function.invariant
