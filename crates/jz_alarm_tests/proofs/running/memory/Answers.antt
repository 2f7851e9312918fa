use Rattle.std.proofs.Common.{ap, ◌∙◌}
use Rattle.std.specs.Ordering.{nat_cmp}
use Rattle.std.specs.FinMap.{get, get-empty}
use Rattle.jz_alarm_tests.proofs.running.memory.Goals as goal

pub add-requires : goal.add-requires
add-requires c = λ q low high fits. ap (λ m. get m q) c.new-mem.ensures ∙ get-empty nat_cmp q
