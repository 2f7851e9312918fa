use Rattle.std.proofs.Common.{◌≡◌, map, drop}
use Rattle.jz_items.specs.Items.{items_behind, items_of}
use Rattle.jz_items.proofs.reading.items.Given as goal

abbrev pub invariant-loop-word : goal.invariant-loop-word
invariant-loop-word l =
    items_behind l.items (map (λ w. w.now) (drop l.word-index l.words)) ≡ items_of (map (λ w. w.now) l.words)
