use Rattle.std.proofs.Common.{rules, ℕ, ◌≤◌, List, [], ◌∷◌, ◌++◌, refl, sym, subst, ap, ◌∙◌}
use Rattle.jz_layers.specs.Spots.{spot_of}
use Rattle.jz_secrets.specs.Graphs.{drawn, Arrow, arrows_of}
use Rattle.jz_drawing.specs.Drawings.{arrow_between}
use Rattle.jz_drawn_arms.proofs.MeetingLabels.{again_for, now_for}
use Rattle.jz_drawn_arms.proofs.arms.meet_scalar.Goals as goal

pub put_named-requires-clause-floor : goal.put_named-requires-clause-floor
put_named-requires-clause-floor c = subst (λ (n : ℕ). c.args.drawing.now.table.floor ≤ n) (sym c.in_ok-node.ensures.number) c.requires.low

pub returns-then-before-start : goal.returns-then-before-start
returns-then-before-start c =
    again_for c.args.first.now c.args.second.now c.args.start (spot_of c.args.named) c.args.drawing.now c.requires.low c.get-below.result c.above-before.result c.requires.scalar c.get-below.ensures c.above-before.ensures (search rules)

pub returns : goal.returns
returns c =
    now_for c.args.first.now c.args.second.now c.args.start (spot_of c.args.named) c.args.drawing.now c.requires.low _ c.get-below.result c.above-before.result c.in_ok-node.node c.node-left.result c.node-right.result (arrows_of c.link.new.edges.items)
    c.requires.scalar c.get-below.ensures c.above-before.ensures (search rules) c.in_ok-node.ensures.number c.node-left.ensures c.node-right.ensures
    (c.in_ok-link.ensures ∙ ap (λ (xs : List Arrow). xs ++ arrow_between (drawn c.node-left.result) (drawn c.in_ok-node.node) ∷ []) c.in_ok-node.ensures.arrows) c.in_ok-link-2.ensures c.in_ok-put_named.ensures.nodes c.in_ok-put_named.ensures.seen refl
    c.put_named.ensures.floor c.put_named.ensures.below
