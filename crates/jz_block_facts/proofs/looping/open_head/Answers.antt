use Rattle.std.proofs.Common.{◌≡◌, ℕ, ◌<◌, ◌≤◌, length, None, sym, ap, ◌∙◌, arith, rules}
use Rattle.std.specs.Prelude.{slice_get}
use Rattle.std.proofs.lemmas.Option.{slice_get_past}
use Rattle.jz_flow.specs.Sets.{common}
use Rattle.jz_fact_sets.specs.Kept.{facts_of, known_at, known_or}
use Rattle.jz_fact_sets.specs.Meeting.{amount}
use Rattle.jz_block_facts.specs.Heads.{laid}
use Rattle.jz_block_facts.proofs.LaidFacts.{facts_seen}
use Rattle.jz_block_facts.proofs.Turning.{get_push, some_and, none_match}
use Rattle.jz_block_facts.proofs.looping.open_head.Goals as goal

pub returns-then-at-len-clause-less : goal.returns-then-at-len-clause-less
returns-then-at-len-clause-less c k =
    let x = c.in_ok-narrow_head.ensures.less k in
    let e = ap (λ s. amount (known_or (s k))) c.in_ok-open.ensures.seen in
    omega (arith, x, e)

pub returns-then-at-len-clause-facts : goal.returns-then-at-len-clause-facts
returns-then-at-len-clause-facts c =
    some_and (slice_get c.args.heads.now c.args.at) _ _ _
    (λ m h g d. h g d ∙ ap (λ s. common s (laid g m s)) (facts_seen g c.args.set.now c.open.new.self c.in_ok-open.ensures.seen)) c.in_ok-narrow_head.ensures.facts

pub returns-clause-others : goal.returns-clause-others
returns-clause-others c k d =
    let r = c.requires in
    let far : length c.args.heads.now ≤ c.args.at = search rules in
    let at : c.args.at ≡ length c.args.heads.now = omega (arith, r, far) in
    ap (λ us. slice_get us k) c.in_ok-push.ensures.ok ∙ get_push c.args.heads.now _ k (λ e. d (e ∙ sym at))

pub returns-clause-less : goal.returns-clause-less
returns-clause-less c k =
    let e = ap (λ s. amount (known_or (s k))) c.in_ok-open.ensures.seen in
    omega (arith, e)

pub returns-clause-facts : goal.returns-clause-facts
returns-clause-facts c =
    let far : length c.args.heads.now ≤ c.args.at = search rules in
    none_match (slice_get c.args.heads.now c.args.at) _ _ (slice_get_past c.args.heads.now c.args.at far) (λ g. facts_seen g c.args.set.now c.open.new.self c.in_ok-open.ensures.seen)
