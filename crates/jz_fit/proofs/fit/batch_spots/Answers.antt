use Rattle.std.proofs.Common.{◌≡◌, ◌∙◌, ◌<◌, length, get_or, sym, ap, subst, arith}
use Rattle.std.specs.List.{All}
use Rattle.jz_ir.specs.Places.{Below}
use Rattle.jz_ir.specs.Tree.{tree_of}
use Rattle.jz_fit.specs.Branches.{LiveAt}
use Rattle.jz_fit.specs.InnerSpots.{AreWithin, AreSpots}
use Rattle.jz_fit.proofs.Counting.{counts, ops_count, rows_within, followed_exact}
use Rattle.jz_fit.proofs.fit.batch_spots.Goals as goal

pub spots_of-requires-clause-ops : goal.spots_of-requires-clause-ops
spots_of-requires-clause-ops c =
    subst (λ xs. All (Below c.len-count.result) xs) (sym c.as_slice.ensures) (subst (λ n. All (Below n) c.args.table.now.ops) (sym c.len-count.ensures) c.requires.table.within)

pub spots_of-requires-clause-below : goal.spots_of-requires-clause-below
spots_of-requires-clause-below c =
    subst (AreWithin c.len-count.result) (sym c.as_slice-2.ensures.value)
    (rows_within (tree_of c.args.table.now.code.now.nodes) c.in_ok-after.after.items c.in_ok-followed.followed c.len-count.result c.in_ok-followed.ensures.below c.in_ok-after.ensures.exact)

pub returns-clause-counts : goal.returns-clause-counts
returns-clause-counts c = λ k a b.
    let t = c.args.table.now in
    let v = get_or c.args.order.now k 0 in
    let n = c.len-count.result in
    let vl : v < n = omega (arith, c.requires.order k 0 (omega (arith, b, c.requires.to)), c.len-count.ensures) in
    let al : length c.in_ok-after.after.items ≡ length t.ops = c.in_ok-after.ensures.rows ∙ sym (ops_count (tree_of t.code.now.nodes) t.ops c.requires.table.ops_are) in
    let s = subst (λ o. AreSpots o c.in_ok-after.after.items n c.in_ok-spots.spots) c.as_slice.ensures (subst (λ r. AreSpots c.as_slice.result.now r n c.in_ok-spots.spots) c.as_slice-2.ensures.value c.in_ok-spots.ensures) in
    counts t.ops (LiveAt t.code.now) c.in_ok-after.after.items c.in_ok-spots.spots.writes.items c.in_ok-spots.spots.lives.items c.in_ok-spots.spots.crosses.items v al
    (followed_exact (tree_of t.code.now.nodes) t.ops c.in_ok-after.after.items c.in_ok-followed.followed al c.in_ok-after.ensures.exact v (c.in_ok-followed.ensures.has_each k a b))
    (λ i. s.writes v i vl) (λ i. s.lives v i vl) (λ i. s.crosses v i vl)
