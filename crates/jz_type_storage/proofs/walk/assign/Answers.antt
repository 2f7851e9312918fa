use Rattle.std.proofs.Common.{map, ap, subst, ◌∙◌}
use Rattle.jz_type_storage.specs.Paths.{in_turn, setting, reading_old}
use Rattle.jz_type_storage.specs.InnerSurely.{first}
use Rattle.jz_type_storage.specs.InnerWalks.{members, Walks}
use Rattle.jz_type_storage.proofs.Walking.{walks_assign}
use Rattle.jz_type_storage.proofs.walk.assign.Goals as goal

pub returns : goal.returns
returns c =
    let a = members c.args.asked.now.keys in
    let it = c.args.it in
    let old = c.args.set.now.keys in
    walks_assign a it.rhs.now it.cond.now it.op.now it.to.now (in_turn (map setting it.to.now)) old c.set_lefts.new.set.keys
    c.in_ok-right.right c.in_ok-test.test c.in_old-old.result c.in_ok-left.left c.earlier_of.result c.earlier_of-2.result c.earlier_of-3.result
    c.in_ok-right.ensures c.in_ok-test.ensures (c.in_old-old.ensures ∙ ap (λ ls. first a (reading_old it.op.now it.cond.now ls) (members old)) c.as_slice.ensures)
    (subst (λ ls. Walks a (in_turn (map setting ls)) old c.in_ok-left.left c.set_lefts.new.set.keys) c.as_slice-2.ensures c.in_ok-left.ensures)
    c.earlier_of.ensures.is c.earlier_of-2.ensures.is c.earlier_of-3.ensures.is
