use Rattle.jz_type_storage.proofs.Adding.{added}
use Rattle.jz_type_storage.proofs.sets.add.Goals as goal

pub returns : goal.returns
returns c = added c.args.set.now.keys c.args.name c.insert.new.self.keys c.in_ok-insert.ensures.keys
