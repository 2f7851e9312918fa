-- Left sides as the code draws them, each behind those before it.
use Rattle.std.specs.Prelude.{◌++◌, ℕ, List, [], ◌∷◌}
use Rattle.jz_labels.specs.Operations.{Left}
use Rattle.jz_required.specs.Readings.{left_demands}
use Rattle.jz_drawing.specs.Drawings.{View, put_left, left_arrows, asks_in}

abbrev pub left_written : ℕ → Left → View → View
left_written n d v = record {
  nodes = put_left n d v.nodes;
  arrows = v.arrows ++ left_arrows n d;
  asked = v.asked;
}

abbrev pub left_drawn : ℕ → Left → View → View
left_drawn n d v = record {
  nodes = put_left n d v.nodes;
  arrows = v.arrows ++ left_arrows n d;
  asked = v.asked ++ asks_in v.nodes (left_demands d);
}

abbrev pub lefts_drawn : ℕ → List Left → View → View
lefts_drawn n [] v = v
lefts_drawn n (d ∷ ds) v = lefts_drawn n ds (left_drawn n d v)
