use Rattle.std.proofs.Common.{◌≤◌, length, refl, ap, ◌∙◌, arith}
use Rattle.std.specs.Prelude.{slice_get, is_some}
use Rattle.std.specs.Option.{option_map}
use Rattle.jz_layers.specs.Spots.{spot_of, is_plain, entry_in}
use Rattle.jz_layers.proofs.Covering.{entry_at, found_at}
use Rattle.jz_fact_sets.specs.Renewing.{forgotten_if}
use Rattle.jz_layers.specs.Layered.{seen}
use Rattle.jz_fact_sets.specs.Kept.{known_at}
use Rattle.jz_fact_sets.proofs.Forgetting.{or_right, forgot_none, forgot_more, forgot_all}
use Rattle.jz_fact_sets.proofs.renewing.forget_cells.Goals as goal

pub loop-i-init : goal.loop-i-init
loop-i-init c = (refl, refl, forgot_none c.args.set.now.noted (spot_of c.args.named) c.args.all (known_at c.args.set.now))

pub returns-clause-known : goal.returns-clause-known
returns-clause-known c =
    let s = c.args.set.now in
    let l : length s.noted.entries ≤ c.loop-i.i = omega (arith, c.loop-i-test.false, c.noted-count.ensures.count) in
    forgot_all s.noted (spot_of c.args.named) c.args.all (known_at s) (seen s) c.noted-count.ensures.listed (λ k. refl) c.loop-i.i (known_at c.loop-i.set) l c.loop-i.invariant.2

pub loop-i-preserved : goal.loop-i-preserved
loop-i-preserved c =
    let s = c.args.set.now in
    let o = c.in-Some.other in
    let e = entry_at (slice_get s.noted.entries c.loop-i.i) o (c.in-Some.ensures ∙ ap (λ r. option_map (λ e. e.0) (slice_get r.entries c.loop-i.i)) c.loop-i.invariant.0) in (
      c.in_ok-forget_if-in-Some.ensures.noted ∙ c.loop-i.invariant.0,
      c.in_ok-forget_if-in-Some.ensures.below ∙ c.loop-i.invariant.1,
      forgot_more s.noted (spot_of c.args.named) c.args.all (known_at s) c.loop-i.i (known_at c.loop-i.set) (known_at c.forget_if.new.set) o e.0 e.1
          (c.in_ok-forget_if-in-Some.ensures.known ∙ ap (λ b. forgotten_if b (spot_of o) (known_at c.loop-i.set)) c.is_meant_cell.ensures)
          c.loop-i.invariant.2,
    )

pub forget_if-requires : goal.forget_if-requires
forget_if-requires c =
    let r = c.loop-i.set.noted in
    let e = entry_at (slice_get r.entries c.loop-i.i) c.in-Some.other c.in-Some.ensures in
    or_right (is_plain (spot_of c.in-Some.other)) (is_some (entry_in r (spot_of c.in-Some.other))) (found_at r.entries c.loop-i.i c.in-Some.other e.0 e.1)
