use Rattle.std.proofs.Common.{◌∙◌, ap, ◌++◌, []}
use Rattle.jz_ir.specs.Paths.{among}
use Rattle.jz_ir.specs.Tree.{tree_of}
use Rattle.jz_live.specs.Lives.{live_after_each}
use Rattle.jz_live_lists.specs.InnerColumns.{column}
use Rattle.jz_live_lists.proofs.Whole.{count_is, exact_tree}
use Rattle.jz_live_lists.proofs.tree.live.Goals as goal

pub returns-clause-rows : goal.returns-clause-rows
returns-clause-rows c = count_is (tree_of c.args.code.now) c.rows_block.new.rows.items _ c.reverse.ensures.items
    (λ v. c.in_ok-rows_block.ensures.rows v ∙ ap (λ x. live_after_each v (tree_of c.args.code.now) (among x v) ++ column v c.new-rows.result.items) c.new.ensures ∙ ap (λ x. live_after_each v (tree_of c.args.code.now) (among [] v) ++ column v x) c.new-rows.ensures.items)

pub returns-clause-exact : goal.returns-clause-exact
returns-clause-exact c = exact_tree (tree_of c.args.code.now) c.rows_block.new.rows.items _ c.reverse.ensures.items
    (λ v. c.in_ok-rows_block.ensures.rows v ∙ ap (λ x. live_after_each v (tree_of c.args.code.now) (among x v) ++ column v c.new-rows.result.items) c.new.ensures ∙ ap (λ x. live_after_each v (tree_of c.args.code.now) (among [] v) ++ column v x) c.new-rows.ensures.items)
