use Rattle.std.proofs.Common.{drop, map}
use Rattle.jz_leak.specs.InnerWalks.{leak_walk, item_walk, loop_of, rounds_walk, walk_in_step, while_walk}
use Rattle.jz_leak.proofs.Walking.{Continues}
use Rattle.jz_leak.proofs.walk.+walk.Given as goal

abbrev pub invariant-walk_leak-loop-i : goal.invariant-walk_leak-loop-i
invariant-walk_leak-loop-i l =
    Continues l.initial.events.items l.events.items
    (walk_in_step (map (item_walk l.rsp) (drop l.i l.item-items)) (drop l.i l.tr.cases))
    (leak_walk l.rsp l.leak l.tr)

abbrev pub invariant-walk_rounds-loop-i : goal.invariant-walk_rounds-loop-i
invariant-walk_rounds-loop-i l =
    Continues l.initial.events.items l.events.items
    (rounds_walk l.rsp (drop l.i l.round-items) (drop l.i l.trs))
    (rounds_walk l.rsp l.rounds l.trs)

abbrev pub invariant-walk_turns-loop-turn : goal.invariant-walk_turns-loop-turn
invariant-walk_turns-loop-turn l =
    Continues l.initial.events.items l.events.items
    (while_walk l.rsp (drop l.turn-index l.turn-items) (loop_of l.parts))
    (while_walk l.rsp l.turns (loop_of l.parts))
