use Rattle.std.proofs.Common.{◌∙◌, ap, sym, ◌++◌, []}
use Rattle.jz_ir.specs.Tree.{tree_of}
use Rattle.jz_live_lists.specs.InnerOps.{ops_in}
use Rattle.jz_live_lists.proofs.Trees.{ops_are}
use Rattle.jz_live_lists.proofs.flat.flat_ops.Goals as goal

pub returns : goal.returns
returns c = c.in_ok-collect_block.ensures ∙ ap (λ x. x ++ ops_in (tree_of c.args.code.now)) c.new-ops.ensures ∙ sym (ops_are (tree_of c.args.code.now) [])
