use Rattle.std.proofs.Common.{List, subst, sym}
use Rattle.jz_ir.specs.declared.code.Node.{Node}
use Rattle.jz_ir.specs.Tree.{tree_of}
use Rattle.jz_live.specs.Lives.{TreeBelow}
use Rattle.jz_live.proofs.Nodes.{fine_push}
use Rattle.jasminc_tests.proofs.live_tests.append.Goals as goal

pub returns : goal.returns
returns c =
    subst (λ (nodes : List Node). TreeBelow 3 (tree_of nodes)) (sym c.in_ok-push.ensures.ok)
    (fine_push 3 c.args.nodes.now c.args.node c.requires.nodes c.requires.node)
