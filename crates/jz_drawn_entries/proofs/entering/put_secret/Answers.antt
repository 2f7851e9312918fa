use Rattle.std.proofs.Common.{rules}
use Rattle.jz_drawn_entries.proofs.Entered.{public_kept, secret_put}
use Rattle.jz_drawn_entries.proofs.entering.put_secret.Goals as goal

pub returns-then-is_public : goal.returns-then-is_public
returns-then-is_public c = public_kept c.args.param.now c.args.node c.args.table.now c.is_public.result c.is_public.ensures (search rules)

pub returns : goal.returns
returns c = secret_put c.args.param.now c.args.node c.args.table.now c.put.new.table c.is_public.result c.is_public.ensures (search rules) c.put.ensures.floor c.in_ok-put.ensures.nodes
