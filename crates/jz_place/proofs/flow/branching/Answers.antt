use Rattle.jz_place.specs.Bodies.{body_of, entry_op, return_op}
use Rattle.jz_place.proofs.Flows.{whole_is}
use Rattle.jz_place.proofs.flow.branching.Goals as goal

pub returns-clause-tree : goal.returns-clause-tree
returns-clause-tree c =
    whole_is entry_op return_op c.args.ir.now.entry c.args.ir.now.results (body_of c.args.ir.now.body) c.in_ok-nodes.nodes c.in_ok-inner.inner c.in_ok-last.last c.append.new.self c.append-2.new.self c.in_ok-nodes.ensures c.in_ok-inner.ensures c.in_ok-last.ensures c.in_ok-append.ensures.ok c.in_ok-append-2.ensures.ok
