use Rattle.std.proofs.Common.{take}
use Rattle.std.specs.Prelude.{All}
use Rattle.jz_listable.specs.Sizes.{HasSizes}
use Rattle.jz_listable.proofs.numbers.functions_are_sized.Given as goal

abbrev pub invariant-loop-function : goal.invariant-loop-function
invariant-loop-function l = All HasSizes (take l.function-index l.compiled)
