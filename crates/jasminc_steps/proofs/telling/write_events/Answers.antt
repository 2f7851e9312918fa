use Rattle.std.proofs.Common.{arith, ap, length, refl, get_or, false}
use Rattle.jz_text.proofs.NextLines.{next_line}
use Rattle.jz_leak.specs.declared.event.Event.TheVariants as event
use Rattle.jasminc_steps.specs.Telling.{event_line}
use Rattle.jasminc_steps.proofs.telling.write_events.Goals as goal

pub loop-event-preserved : goal.loop-event-preserved
loop-event-preserved c =
    let same = c.as_slice-event-items.ensures in
    let item = get_or c.as_slice-event-items.result.now c.loop-event.event-index (event.Branch false) in
    next_line event_line c.args.events.now c.as_slice-event-items.result.now c.loop-event.event-index item (event.Branch false)
    c.args.text.now.items c.loop-event.text.items c.write_event.new.text.items same (omega (arith, ap length same))
    c.loop-event.invariant c.in_ok-write_event.ensures refl
