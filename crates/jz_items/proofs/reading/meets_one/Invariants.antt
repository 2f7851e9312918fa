use Rattle.std.proofs.Common.{◌≡◌, drop}
use Rattle.std.specs.List.{list_any}
use Rattle.jz_items.specs.Items.{meets_item}
use Rattle.jz_items.proofs.reading.meets_one.Given as goal

abbrev pub invariant-loop-item : goal.invariant-loop-item
invariant-loop-item l =
    list_any (meets_item l.placed) (drop l.item-index l.item-items) ≡ list_any (meets_item l.placed) l.item-items
