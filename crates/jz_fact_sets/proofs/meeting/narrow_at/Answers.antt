use Rattle.std.proofs.Common.{◌≡◌, ap, ◌∙◌}
use Rattle.std.proofs.Math.Path.{fun_ext}
use Rattle.jz_layers.specs.Spots.{spot_of}
use Rattle.jz_layers.specs.Layered.{seen}
use Rattle.jz_fact_sets.specs.Kept.{known_at, known_or}
use Rattle.jz_fact_sets.proofs.Forgetting.{known_put}
use Rattle.jz_fact_sets.proofs.Tabled.{yes_of, no_of, stays, puts, falls}
use Rattle.jz_fact_sets.proofs.meeting.narrow_at.Goals as goal

pub returns-then-same-clause-known : goal.returns-then-same-clause-known
returns-then-same-clause-known c =
    stays (spot_of c.args.named) (known_at c.args.set.now) c.args.turn c.known_at-old.result c.meet-new.result c.known_at-old.ensures c.meet-new.ensures.both
    (yes_of (c.meet-new.result ≡ c.known_at-old.result) (c.meet-new.result ≡ c.known_at-old.result → ⊥) c.same.result c.same.ensures c.if-same.true)

pub returns-clause-known : goal.returns-clause-known
returns-clause-known c =
    let n = spot_of c.args.named in
    fun_ext (λ k. ap (λ f. known_or (f k)) c.in_ok-put.ensures.put ∙ known_put (seen c.args.set.now) n c.meet-new.result k
    ∙ puts n (known_at c.args.set.now) c.args.turn c.known_at-old.result c.meet-new.result c.known_at-old.ensures c.meet-new.ensures.both k)

pub returns-clause-falls : goal.returns-clause-falls
returns-clause-falls c e =
    let n = spot_of c.args.named in
    falls n (known_at c.args.set.now) c.args.turn c.known_at-old.result c.meet-new.result c.known_at-old.ensures c.meet-new.ensures.both (known_at c.put.new.self)
    (fun_ext (λ k. ap (λ f. known_or (f k)) c.in_ok-put.ensures.put ∙ known_put (seen c.args.set.now) n c.meet-new.result k
    ∙ puts n (known_at c.args.set.now) c.args.turn c.known_at-old.result c.meet-new.result c.known_at-old.ensures c.meet-new.ensures.both k))
    c.meet-new.ensures.small
    (no_of (c.meet-new.result ≡ c.known_at-old.result) (c.meet-new.result ≡ c.known_at-old.result → ⊥) c.same.result c.same.ensures c.if-same.false)
