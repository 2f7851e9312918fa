use Rattle.std.proofs.Common.{◌++◌, ap, ◌∙◌}
use Rattle.jz_type_storage.specs.InnerWalks.{members}
use Rattle.jz_type_storage.proofs.asked.set_of.Goals as goal

pub returns : goal.returns
returns c = c.in_ok-add_all.ensures.has ∙ ap (λ ks. members (ks ++ c.args.names.now)) c.new-set.ensures.empty
