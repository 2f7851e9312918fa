use Rattle.std.proofs.Common.{rules, take, filter, subst, ap, ◌∙◌}
use Rattle.jz_type_storage.specs.InnerWalks.{members, AddsAll}
use Rattle.jz_type_storage.proofs.Adding.{joined}
use Rattle.jz_type_storage.proofs.sets.join.Goals as goal

pub returns : goal.returns
returns c =
    joined (take c.args.start c.args.set.now.keys) c.args.names.now.keys c.args.set.now.keys c.in_ok-kept.kept.items c.add_all.new.set.keys
    (c.in_ok-kept.ensures ∙ ap (filter (members c.args.set.now.keys)) c.as_slice.ensures.keys)
    (subst (λ ks. AddsAll ks c.in_ok-kept.kept.items c.add_all.new.set.keys) c.truncate.ensures.keys
    (subst (λ ms. AddsAll c.truncate.new.self.keys ms c.add_all.new.set.keys) (search rules) c.in_ok-add_all.ensures))
