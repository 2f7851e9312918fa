use Rattle.jz_instructions.proofs.BinaryLemmas.{behind_items}
use Rattle.jz_instructions.proofs.binary.behind.Goals as goal

pub returns-clause-items : goal.returns-clause-items
returns-clause-items c = behind_items c.args.brought
