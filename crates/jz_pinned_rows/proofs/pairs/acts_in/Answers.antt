use Rattle.jz_pinned_rows.proofs.PairLemmas.{row_items}
use Rattle.jz_pinned_rows.proofs.pairs.acts_in.Goals as goal

pub returns-clause-items : goal.returns-clause-items
returns-clause-items c = row_items c.args.row
