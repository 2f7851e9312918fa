use Rattle.std.proofs.Common.{◌≡◌, ◌++◌, take, map}
use Rattle.jz_required.specs.Kept.{demands_of}
use Rattle.jz_drawing.specs.Drawings.{asks_in}
use Rattle.jz_drawn_labels.specs.Kept.{asked_of, nodes_of}
use Rattle.jz_drawn_labels.proofs.sheet.ask_all.Given as goal

abbrev pub invariant-loop-one : goal.invariant-loop-one
invariant-loop-one l =
    map asked_of l.asked.items ≡ map asked_of l.fn.asked.items ++ asks_in (nodes_of l.table) (demands_of (take l.one-index l.required))
