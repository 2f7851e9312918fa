use Rattle.std.proofs.Common.{rules}
use Rattle.jz_drawn_labels.proofs.Sheets.{next_is, fresh_is}
use Rattle.jz_drawn_labels.proofs.sheet.fresh.Goals as goal

pub returns-clause-number : goal.returns-clause-number
returns-clause-number c = next_is c.args.edges.now.items _ (search rules)

pub returns-clause-arrows : goal.returns-clause-arrows
returns-clause-arrows c = fresh_is c.args.edges.now.items c.link.new.edges.items _ (search rules) c.in_ok-link.ensures
