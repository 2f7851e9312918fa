use Rattle.std.proofs.Common.{ap, rules}
use Rattle.jz_meaning.specs.States.{State}
use Rattle.jz_meaning.specs.Stores.{state_of}
use Rattle.jz_interp.proofs.Rules.{mark_leads}
use Rattle.jz_interp.proofs.straight.run_mark.Goals as goal

pub returns : goal.returns
returns c =
    mark_leads c.args.vars.now c.args.fuel (state_of c.args.state.now) _ _
    (ap (λ v. let x : State = record { store = v; memory = c.args.state.now.memory } in x) c.in_ok-unset_all.ensures) (search rules)
