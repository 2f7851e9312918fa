use Rattle.std.proofs.Common.{◌≡◌, drop}
use Rattle.jz_labels.specs.ConstantTime.{has_label}
use Rattle.jz_drawn_entries.proofs.entering.has_label.Given as goal

abbrev pub invariant-loop-note : goal.invariant-loop-note
invariant-loop-note l = has_label l.name l.notes ≡ has_label l.name (drop l.note-index l.notes)
