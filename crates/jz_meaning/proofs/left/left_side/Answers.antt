use Rattle.std.proofs.Common.{◌≡◌, ap, sym, ◌∙◌}
use Rattle.jz_tree.specs.declared.expr.Expr.TheVariants.{Bin}
use Rattle.jz_meaning.specs.Values.{own_size}
use Rattle.jz_meaning.proofs.LeftSideLemmas.{descended, wanted_of_left}
use Rattle.jz_meaning.proofs.left.left_side.Goals as goal

pub loop-first-preserved : goal.loop-first-preserved
loop-first-preserved c =
    let op = c.in-Bin.op in
    let inner = c.loop-first.inner in
    let left = c.get-first.result.now in
    let right = c.get-in-Bin-2.result in
    let whole : Bin op left right.now c.in-Bin.span ≡ c.loop-first.first.now = rw (c.get-first.ensures, c.get-in-Bin-2.ensures) (sym c.in-Bin.is) in
    descended c.args.wanted c.args.e.now c.loop-first.waiting.items c.push.new.self.items inner c.loop-first.first.now left
    (record { op = op; right = right; span = c.in-Bin.span; wanted = c.left_wanted-inner.result })
    whole c.in_ok-push.ensures.items c.loop-first.invariant
    (c.left_wanted-inner.ensures
    ∙ ap (λ z. wanted_of_left op inner (own_size z) (own_size c.get-in-Bin.result.now)) (c.get.ensures ∙ sym c.get-first.ensures)
    ∙ ap (λ z. wanted_of_left op inner (own_size left) (own_size z)) (c.get-in-Bin.ensures ∙ sym c.get-in-Bin-2.ensures))
