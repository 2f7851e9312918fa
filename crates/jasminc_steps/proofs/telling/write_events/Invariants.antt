use Rattle.std.proofs.Common.{◌≡◌, ◌++◌, map, take}
use Rattle.std.specs.List.{concat}
use Rattle.jasminc_steps.specs.Telling.{event_line}
use Rattle.jasminc_steps.proofs.telling.write_events.Given as goal

abbrev pub invariant-loop-event : goal.invariant-loop-event
invariant-loop-event l = l.text.items ≡ l.initial.text.items ++ concat (map event_line (take l.event-index l.events))
