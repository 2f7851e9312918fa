use Rattle.std.proofs.Common.{◌≡◌, ◌∙◌, ap, rules}
use Rattle.jz_leak.specs.declared.walk.Reach.TheVariants.{End}
use Rattle.jz_leak.proofs.Applied.{all_applied, cut_applied}
use Rattle.jz_leak.proofs.walk.walk_transformer.Goals.{then-eq+in_ok-emit-2, else-eq}
use Rattle.jz_leak.proofs.walk.walk_transformer.Goals as goal

pub returns : goal.returns
returns c = λ l e f.
    elim c.if-eq.branch [
      | then-eq+in_ok-emit-2 w ↦
          let ended : c.in_ok-reach.reach ≡ End = search (w.if-eq.ensures, w.if-eq.true, rules) in
          c.from_vec.ensures ∙ ap (λ v. v.items) w.events-is
          ∙ all_applied c.args.tr.now c.args.leak.now c.args.rsp l e f _ _ _ _ _ c.in_ok-reach.reach c.new-none.ensures c.new-events.ensures.items c.in_ok-emit.ensures c.in_ok-reach.ensures ended w.in_ok-emit-2.ensures
      | else-eq w ↦
          let not_ended : c.in_ok-reach.reach ≡ End → ⊥ = search (w.if-eq.ensures, w.if-eq.false, rules) in
          c.from_vec.ensures ∙ ap (λ v. v.items) w.events-is
          ∙ cut_applied c.args.tr.now c.args.leak.now c.args.rsp l e f _ _ _ _ c.in_ok-reach.reach c.new-none.ensures c.new-events.ensures.items c.in_ok-emit.ensures c.in_ok-reach.ensures not_ended
    ]
