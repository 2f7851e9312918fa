use Rattle.std.proofs.Common.{rules, ℕ, ◌≤◌, ◌∙◌, sym, subst}
use Rattle.jz_drawn_labels.specs.Kept.{view_of}
use Rattle.jz_drawn_labels.proofs.Lefts.{lefts_more, lefts_all}
use Rattle.jz_drawn_labels.proofs.operating.draw_lefts.Goals as goal

pub draw_left-requires : goal.draw_left-requires
draw_left-requires c = subst (λ (n : ℕ). n ≤ c.args.node) (sym c.loop-left.invariant.0) c.requires

pub loop-left-preserved : goal.loop-left-preserved
loop-left-preserved c = (
  c.in_ok-draw_left.ensures.floor ∙ c.loop-left.invariant.0,
  c.in_ok-draw_left.ensures.below ∙ c.loop-left.invariant.1,
  lefts_more c.args.node c.args.to.now c.loop-left.left-index c.left-item.result (view_of c.args.drawing.now) (view_of c.loop-left.drawing) (view_of c.draw_left.new.drawing) (search rules) (search rules) c.in_ok-draw_left.ensures.view
      c.loop-left.invariant.2,
)

pub returns-clause-view : goal.returns-clause-view
returns-clause-view c =
    lefts_all c.args.node c.args.to.now c.loop-left.left-index (view_of c.args.drawing.now) (view_of c.loop-left.drawing) (search rules) c.loop-left.invariant.2
