use Rattle.std.proofs.Common.{◌∙◌, ap, arith, ◌++◌}
use Rattle.jz_bits.specs.Has.{has}
use Rattle.jz_ir.specs.Tree.{tree_of}
use Rattle.jz_live.specs.InnerLives.{column, live_after_each}
use Rattle.jz_live.proofs.Whole.{fine_wide, count_is, exact_tree}
use Rattle.jz_live.proofs.tree.live.Goals as goal

pub rows_block-requires-clause-below : goal.rows_block-requires-clause-below
rows_block-requires-clause-below c = fine_wide c.args.count _ _ (omega (arith, c.in_ok-behind.ensures.wide)) c.requires

pub returns-clause-rows : goal.returns-clause-rows
returns-clause-rows c = count_is (tree_of c.args.code.now) c.rows_block.new.rows.items _ c.reverse.ensures.items c.in_ok-behind.behind c.in_ok-behind.ensures.empty
    (λ v. c.in_ok-rows_block.ensures.rows v ∙ ap (λ x. live_after_each v (tree_of c.args.code.now) (has c.in_ok-behind.behind v) ++ column v x) c.new-rows.ensures.items)

pub returns-clause-exact : goal.returns-clause-exact
returns-clause-exact c = exact_tree (tree_of c.args.code.now) c.rows_block.new.rows.items _ c.reverse.ensures.items c.in_ok-behind.behind c.in_ok-behind.ensures.empty
    (λ v. c.in_ok-rows_block.ensures.rows v ∙ ap (λ x. live_after_each v (tree_of c.args.code.now) (has c.in_ok-behind.behind v) ++ column v x) c.new-rows.ensures.items)
