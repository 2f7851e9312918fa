use Rattle.std.proofs.Common.{ap, ◌∙◌}
use Rattle.jz_type_names.specs.Tables.{place_in}
use Rattle.jz_resolve.specs.Tables.{values_in}
use Rattle.jz_resolve.proofs.Growing.{one_more_value}
use Rattle.jz_resolve.proofs.table.constants.Goals as goal

pub loop-c-preserved : goal.loop-c-preserved
loop-c-preserved c = (
  one_more_value c.as_slice-c-items.result.now c.loop-c.c-index c.c-item.result
      (values_in c.loop-c.table) (values_in c.add_value.new.self) c.loop-c-test.true c.c-item.is c.loop-c.invariant.0 c.in_ok-add_value.ensures.values,
  ap place_in c.in_ok-add_value.ensures.places ∙ c.loop-c.invariant.1,
)
