use Rattle.jz_type_storage.specs.InnerWalks.{members}
use Rattle.jz_type_storage.proofs.Asking.{unset_law}
use Rattle.jz_type_storage.proofs.asked.read_unset.Goals as goal

pub returns : goal.returns
returns c =
    unset_law c.args.fun.now (members c.in_ok-asked.asked.keys) c.new-set.result.keys c.in_ok-first.first c.in_ok-asked.ensures c.new-set.ensures.empty c.in_ok-first.ensures.first
