use Rattle.std.proofs.Common.{◌≡◌, ℕ, ◌+◌, ◌-◌, ◌≤◌, length, refl, ap, sym, ◌∙◌, subst, arith}
use Rattle.jz_facts.specs.Holding.{all_written, results}
use Rattle.jz_fact_sets.specs.Kept.{given_of, facts_of}
use Rattle.jz_fact_writes.specs.Writing.{StandsFor, at_place}
use Rattle.jz_fact_writes.proofs.Orders.{write_more, write_end}
use Rattle.jz_fact_writes.proofs.writes.write_all.Goals as goal

pub loop-left-preserved : goal.loop-left-preserved
loop-left-preserved c =
    let to = c.as_slice-lefts.result.now in
    let i = c.loop-left.left-index in (
      ap (λ n. n + 1) c.loop-left.invariant.0,
      c.in_ok-write.ensures.below ∙ c.loop-left.invariant.1,
      λ g s z t h. write_more g s z t c.args.known h to i c.left-item.result (facts_of g c.loop-left.set) (facts_of g c.write.new.set) (all_written (given_of g) s to (results z t to) (facts_of g c.args.set.now)) c.loop-left-test.true c.left-item.is
          (λ v k. c.in_ok-write.ensures.facts g s v (subst (λ x. StandsFor g s x v) (sym (c.at_place.ensures ∙ ap (λ n. at_place n c.args.known) (gone c.loop-left.index i (length to) (length to) c.loop-left.invariant.0 refl))) k))
          (c.loop-left.invariant.2 g s z t h),
    )
  where
    gone : (a b m n : ℕ) → a ≡ b → m ≡ n → m - a ≡ n - b
    gone a b m n e h = ap (λ x. x - a) h ∙ ap (λ x. n - x) e

pub returns-clause-facts : goal.returns-clause-facts
returns-clause-facts c g s z t h =
    let to = c.as_slice-lefts.result.now in
    let l : length to ≤ c.loop-left.left-index = omega (arith, c.loop-left-test.false) in
    write_end g s z t c.args.known h to c.loop-left.left-index (facts_of g c.loop-left.set) (all_written (given_of g) s to (results z t to) (facts_of g c.args.set.now)) l (c.loop-left.invariant.2 g s z t h)
    ∙ ap (λ xs. all_written (given_of g) s xs (results z t xs) (facts_of g c.args.set.now)) c.as_slice-lefts.ensures
