use Rattle.std.proofs.Common.{rules, map}
use Rattle.jz_drawn_labels.specs.Kept.{asked_of, nodes_of}
use Rattle.jz_drawn_labels.proofs.Sheets.{asked_next, asked_all}
use Rattle.jz_drawn_labels.proofs.sheet.ask_all.Goals as goal

pub loop-one-preserved : goal.loop-one-preserved
loop-one-preserved c =
    asked_next (nodes_of c.args.table.now) c.args.required.now c.loop-one.one-index c.one-item.result c.of_part.result (map asked_of c.args.asked.now.items) c.loop-one.asked.items c.push.new.self.items (search rules) (search rules)
    c.of_part.ensures c.in_ok-push.ensures.items c.loop-one.invariant

pub returns : goal.returns
returns c =
    asked_all (nodes_of c.args.table.now) c.args.required.now c.loop-one.one-index (map asked_of c.args.asked.now.items) (map asked_of c.loop-one.asked.items) (search rules) c.loop-one.invariant
