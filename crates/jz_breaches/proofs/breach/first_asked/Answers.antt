use Rattle.std.proofs.Common.{rules}
use Rattle.jz_breaches.proofs.Answered.{secret_found, public_on, all_public}
use Rattle.jz_breaches.proofs.breach.first_asked.Goals as goal

pub returns-then-not-is_public : goal.returns-then-not-is_public
returns-then-not-is_public c =
    secret_found c.args.secrets.now c.args.asked.now c.loop-ask.ask-index c.ask-item.result c.is_public.result (search rules) (search rules) c.is_public.ensures (search rules) c.loop-ask.invariant

pub loop-ask-preserved : goal.loop-ask-preserved
loop-ask-preserved c =
    public_on c.args.secrets.now c.args.asked.now c.loop-ask.ask-index c.ask-item.result c.is_public.result (search rules) (search rules) c.is_public.ensures (search rules) c.loop-ask.invariant

pub returns : goal.returns
returns c = all_public c.args.secrets.now c.args.asked.now c.loop-ask.ask-index (search rules) c.loop-ask.invariant
