use Rattle.std.proofs.Common.{◌≡◌, rules, subst}
use Rattle.jz_type_storage.specs.InnerWalks.{members, Adds}
use Rattle.jz_type_storage.proofs.Adding.{puts_asked, puts_other}
use Rattle.jz_type_storage.proofs.sets.put.Goals as goal

pub returns-in_ok-add : goal.returns-in_ok-add
returns-in_ok-add c =
    let same : c.in_ok-clone.field-0 ≡ c.args.name.now = search rules in
    puts_asked (members c.args.asked.now.keys) c.args.set.now.keys c.args.name.now c.add.new.set.keys (search rules)
    (subst (λ m. Adds c.args.set.now.keys m c.add.new.set.keys) same c.in_ok-add.ensures)

pub returns-else-has : goal.returns-else-has
returns-else-has c = puts_other (members c.args.asked.now.keys) c.args.set.now.keys c.args.name.now (search rules)
