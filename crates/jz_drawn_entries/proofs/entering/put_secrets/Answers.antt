use Rattle.std.proofs.Common.{rules, ℕ, ◌≤◌, sym, subst}
use Rattle.jz_drawn_entries.proofs.Entered.{secrets_begun, secrets_next, secrets_done}
use Rattle.jz_drawn_entries.proofs.entering.put_secrets.Goals as goal

pub loop-param-init : goal.loop-param-init
loop-param-init c = secrets_begun c.args.params.now c.args.node c.args.table.now

pub put_secret-requires : goal.put_secret-requires
put_secret-requires c = subst (λ (n : ℕ). n ≤ c.args.node) (sym c.loop-param.invariant.floor) c.requires

pub loop-param-preserved : goal.loop-param-preserved
loop-param-preserved c =
    secrets_next c.args.params.now c.loop-param.param-index c.param-item.result c.args.node c.args.table.now c.loop-param.table c.put_secret.new.table (search rules) (search rules) c.loop-param.invariant c.in_ok-put_secret.ensures

pub returns : goal.returns
returns c = secrets_done c.args.params.now c.loop-param.param-index c.args.node c.args.table.now c.loop-param.table (search rules) c.loop-param.invariant
