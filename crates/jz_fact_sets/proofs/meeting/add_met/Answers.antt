use Rattle.std.proofs.Common.{◌≤◌, length, Some, ap, sym, subst, arith}
use Rattle.jz_layers.specs.Spots.{entry_in}
use Rattle.jz_layers.proofs.Covering.{Covered, covered_none, covered_more}
use Rattle.jz_layers.proofs.TableLemmas.{put_is}
use Rattle.jz_fact_sets.specs.Kept.{known_at}
use Rattle.jz_fact_sets.specs.Meeting.{met_at}
use Rattle.jz_fact_sets.proofs.Tabled.{all_met}
use Rattle.jz_fact_sets.proofs.meeting.add_met.Goals as goal

pub loop-i-init : goal.loop-i-init
loop-i-init c = covered_none (λ k. Some (met_at c.args.a.now c.args.b.now (known_at c.args.set.now) k)) (entry_in c.args.out.now) c.args.of.now.entries

pub loop-i-preserved : goal.loop-i-preserved
loop-i-preserved c =
    let m = c.args.of.now in
    let e = c.in-Some.entry in
    subst (Covered (λ k. Some (met_at c.args.a.now c.args.b.now (known_at c.args.set.now) k)) (entry_in c.args.out.now) m.entries _)
    (sym (put_is c.loop-i.out c.insert.new.self e.0.now c.met_at.result c.in_ok-insert-in-Some.ensures.updates.0))
    (covered_more (λ k. Some (met_at c.args.a.now c.args.b.now (known_at c.args.set.now) k)) (entry_in c.args.out.now) m.entries c.loop-i.i (entry_in c.loop-i.out) e.0.now e.1.now c.met_at.result (sym c.in-Some.ensures.entry) (ap Some (sym c.met_at.ensures)) c.loop-i.invariant)

pub returns : goal.returns
returns c =
    let l : length c.args.of.now.entries ≤ c.loop-i.i = omega (arith, c.loop-i-test.false, c.len-count.ensures.len) in
    all_met c.args.a.now c.args.b.now c.args.of.now (known_at c.args.set.now) (entry_in c.args.out.now) c.loop-i.i (entry_in c.loop-i.out) l c.loop-i.invariant
