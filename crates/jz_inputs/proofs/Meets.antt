-- An input that is made of items meets the preconditions.
use Rattle.std.proofs.Common.{ℕ, List}
use Rattle.std.specs.Prelude.{All}
use Rattle.std.specs.List.{AllZip}
use Rattle.std.proofs.lemmas.List.Elements.{All-weaker}
use Rattle.jz_tree.specs.Memory.{Memory}
use Rattle.jz_tree.specs.declared.program.Fun.{Fun}
use Rattle.jz_annotations.specs.declared.precondition.Pre.{Pre}
use Rattle.jz_items.specs.declared.item.Item.{Item}
use Rattle.jz_preconditions.specs.Stating.{preconditions_of}
use Rattle.jz_preconditions.specs.Meeting.{IsMet, IsBelowEnd, IsArgument, names_of, regions_of, MeetsPreconditions}
use Rattle.jz_inputs.specs.Held.{IsHeld, IsRegion}
use Rattle.jz_inputs.specs.Inputs.{HoldsRegions}
use Rattle.jz_inputs.proofs.Filling.{all_regions}

pub all_below : (f : Fun) (words : List ℕ) (items : List Item) (pres : List Pre) → All (IsHeld f words items) pres → All IsBelowEnd (regions_of (names_of f) pres words)
all_below f words items pres h =
    All-weaker (IsRegion items) IsBelowEnd (λ r k. k.0) (regions_of (names_of f) pres words) (all_regions f words items pres h)

pub meets_by : (f : Fun) (words : List ℕ) (items : List Item) (m : Memory) → AllZip IsArgument f.params words → All (IsHeld f words items) (preconditions_of f)
    → HoldsRegions f words items (preconditions_of f) m → MeetsPreconditions f words m
meets_by f words items m sizes h holds = record {
  sizes = sizes;
  met = All-weaker (IsHeld f words items) (IsMet (names_of f) words) (λ p k. k.met) (preconditions_of f) h;
  below_end = all_below f words items (preconditions_of f) h;
  covered = holds.covered;
  bytes = holds.bytes;
}
