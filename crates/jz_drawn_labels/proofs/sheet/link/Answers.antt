use Rattle.jz_drawn_labels.proofs.Sheets.{arrows_pushed}
use Rattle.jz_drawn_labels.proofs.sheet.link.Goals as goal

pub returns : goal.returns
returns c = arrows_pushed c.args.edges.now.items c.push.new.self.items _ c.in_ok-push.ensures.items
