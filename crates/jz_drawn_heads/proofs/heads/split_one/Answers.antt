use Rattle.std.proofs.Common.{rules, ℕ, ◌≤◌, refl, sym, subst}
use Rattle.jz_secrets.specs.Graphs.{arrows_of}
use Rattle.jz_drawn_heads.proofs.Splitting.{again_split, now_split}
use Rattle.jz_drawn_heads.proofs.heads.split_one.Goals as goal

pub put-requires : goal.put-requires
put-requires c = subst (λ (n : ℕ). c.args.drawing.now.table.floor ≤ n) (sym c.in_ok-node.ensures.number) c.requires

pub returns-then-before-start : goal.returns-then-before-start
returns-then-before-start c = again_split c.args.start c.args.var.now c.args.drawing.now c.args.heads.now.items c.requires c.node-before.result c.node-before.ensures (search rules)

pub returns : goal.returns
returns c =
    now_split c.args.start c.args.var.now c.args.drawing.now c.args.heads.now.items c.requires _ c.push.new.self.items _ c.node-before.result c.in_ok-node.node (arrows_of c.fresh.new.edges.items) refl refl c.in_ok-push.ensures.items c.node-before.ensures
    (search rules) c.in_ok-node.ensures.number c.in_ok-node.ensures.arrows c.in_ok-link.ensures c.in_ok-put.ensures.nodes refl c.put.ensures.floor c.put.ensures.below
