-- Whether a region holds.
use Rattle.std.specs.Prelude.{◌≤◌, ◌+◌, ◌^◌, List, Option, Some, None}
use Rattle.jz_items.specs.declared.item.Item.{Item}
use Rattle.jz_inputs.specs.declared.regions.Extent.{Extent}
use Rattle.jz_inputs.specs.InnerCover.{AreGiven}

abbrev pub IsRegionHeld : List Item → Option Extent → Type 0
IsRegionHeld items None = ⊥
IsRegionHeld items (Some e) = (e.from + e.count ≤ 2 ^ 64) × AreGiven items e.from (e.from + e.count)
