use Rattle.std.proofs.Common.{◌≡◌, ◌++◌, take}
use Rattle.jz_secrets.specs.Graphs.{arrows_of}
use Rattle.jz_drawn_labels.specs.Kept.{nodes_of}
use Rattle.jz_drawn_heads.specs.Pieces.{back_arrows}
use Rattle.jz_drawn_heads.proofs.heads.come_back.Given as goal

abbrev pub invariant-loop-head : goal.invariant-loop-head
invariant-loop-head l = arrows_of l.edges.items ≡ arrows_of l.fn.edges.items ++ back_arrows (nodes_of l.table) (take l.head-index l.heads)
