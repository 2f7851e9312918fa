use Rattle.std.proofs.Common.{refl, ap, ◌∙◌, arith, map}
use Rattle.jz_secrets.specs.Graphs.{arrows_of}
use Rattle.jz_drawn_labels.specs.Kept.{asked_of}
use Rattle.jz_drawn_entries.proofs.Entered.{entry_is}
use Rattle.jz_drawn_entries.proofs.entering.entry.Goals as goal

pub put_secrets-requires : goal.put_secrets-requires
put_secrets-requires c = let e = c.new-table.ensures.floor in omega (arith, e)

pub returns-clause-floor : goal.returns-clause-floor
returns-clause-floor c = c.in_ok-put_secrets.ensures.floor ∙ c.new-table.ensures.floor

pub returns-clause-view : goal.returns-clause-view
returns-clause-view c =
    entry_is c.args.params.now c.in_ok-node.node c.new-table.result c.put_secrets.new.table _ (arrows_of c.new-sheet.result.edges.items) (arrows_of c.fresh.new.edges.items) c.in_ok-put_secrets.ensures c.new-table.ensures.nodes refl
    (ap arrows_of c.new-sheet.ensures.edges) c.in_ok-node.ensures.number c.in_ok-node.ensures.arrows c.in_ok-link.ensures (ap (map asked_of) c.new-sheet.ensures.asked)
