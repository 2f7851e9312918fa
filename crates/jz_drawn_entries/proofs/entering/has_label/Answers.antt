use Rattle.std.proofs.Common.{rules}
use Rattle.jz_drawn_entries.proofs.Entered.{label_found, label_on, label_none}
use Rattle.jz_drawn_entries.proofs.entering.has_label.Goals as goal

pub returns-then-is_label : goal.returns-then-is_label
returns-then-is_label c =
    label_found c.args.name.now c.args.notes.now c.loop-note.note-index c.note-item.result c.is_label.result (search rules) (search rules) c.is_label.ensures (search rules) c.loop-note.invariant

pub loop-note-preserved : goal.loop-note-preserved
loop-note-preserved c =
    label_on c.args.name.now c.args.notes.now c.loop-note.note-index c.note-item.result c.is_label.result (search rules) (search rules) c.is_label.ensures (search rules) c.loop-note.invariant

pub returns : goal.returns
returns c = label_none c.args.name.now c.args.notes.now c.loop-note.note-index (search rules) c.loop-note.invariant
