use Rattle.std.proofs.Common.{◌≤◌, length, refl, sym, ◌∙◌, arith}
use Rattle.jz_fact_sets.specs.Kept.{known_at}
use Rattle.jz_fact_sets.proofs.Tabled.{narrowed_none, narrowed_more, narrowed_all, same_on, falls_next}
use Rattle.jz_fact_sets.proofs.meeting.narrow.Goals as goal

pub loop-i-init : goal.loop-i-init
loop-i-init c = (refl, narrowed_none c.args.turn.now (known_at c.args.set.now), λ e. refl, λ e. absurd (cc e))

pub returns-clause-known : goal.returns-clause-known
returns-clause-known c =
    let l : length c.args.turn.now.entries ≤ c.loop-i.i = omega (arith, c.loop-i-test.false, c.len-count.ensures.len) in
    narrowed_all c.args.turn.now (known_at c.args.set.now) c.loop-i.i (known_at c.loop-i.set) l c.loop-i.invariant.1

pub loop-i-preserved : goal.loop-i-preserved
loop-i-preserved c =
    let m = c.args.turn.now in
    let old = known_at c.args.set.now in
    let mid = known_at c.loop-i.set in
    let new = known_at c.narrow_at.new.set in
    let e = c.in-Some.entry in
    let here = c.in_ok-here-in-Some.here in (
      c.in_ok-here-in-Some.ensures.below ∙ c.loop-i.invariant.0,
      narrowed_more m old c.loop-i.i mid new e.0.now e.1.now (sym c.in-Some.ensures.entry) c.in-Some.ensures.value c.in_ok-here-in-Some.ensures.known c.loop-i.invariant.1,
      λ h. same_on c.loop-i.fell here old mid new c.loop-i.invariant.2 c.in_ok-here-in-Some.ensures.same (sym c.either-fell.ensures ∙ h),
      λ h. falls_next c.loop-i.fell here old mid new c.loop-i.invariant.2 c.loop-i.invariant.3 c.in_ok-here-in-Some.ensures.same c.in_ok-here-in-Some.ensures.falls (sym c.either-fell.ensures ∙ h),
    )
