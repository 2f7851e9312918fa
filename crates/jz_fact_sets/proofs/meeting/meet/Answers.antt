use Rattle.std.proofs.Common.{ap, ◌∙◌}
use Rattle.jz_layers.specs.Spots.{entry_in}
use Rattle.jz_layers.specs.Layered.{seen}
use Rattle.jz_layers.proofs.TableLemmas.{none_in}
use Rattle.jz_fact_sets.specs.Kept.{known_at, known_or}
use Rattle.jz_fact_sets.specs.Meeting.{with_met}
use Rattle.jz_fact_sets.proofs.Tabled.{is_met}
use Rattle.jz_fact_sets.proofs.meeting.meet.Goals as goal

pub returns-clause-known : goal.returns-clause-known
returns-clause-known c =
    let a = c.args.a.now in
    let b = c.args.b.now in
    let know = known_at c.args.set.now in
    is_met a b c.add_met-2.new.out (seen c.args.set.now) (entry_in c.add_met.new.out) (known_at c.pour.new.self)
    (c.in_ok-add_met.ensures ∙ ap (with_met a b a know) (none_in c.new-out.result c.new-out.ensures.empty))
    c.in_ok-add_met-2.ensures
    (λ k. ap (λ f. known_or (f k)) c.in_ok-pour.ensures.seen)
