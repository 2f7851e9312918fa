use Rattle.std.proofs.Common.{◌∙◌}
use Rattle.jz_stack.proofs.NodeFrames.{around_code}
use Rattle.jz_stack.proofs.frame.around.Goals as goal

pub returns : goal.returns
returns c =
    around_code c.args.size c.args.at c.args.saved.now c.down.result c.up.result c.args.body c.from_vec-nodes.result c.push.new.self c.push_saves.new.nodes c.append.new.self c.push_loads.new.nodes c.push-2.new.self
    c.requires.size c.down.ensures c.up.ensures (c.from_vec-nodes.ensures ∙ c.in_ok-with_capacity.ensures.items) c.in_ok-push.ensures.ok c.in_ok-push_saves.ensures c.in_ok-append.ensures.ok c.in_ok-push_loads.ensures c.in_ok-push-2.ensures.ok
