use Rattle.std.proofs.Common.{ap, ◌∙◌, subst}
use Rattle.jz_interp.specs.Outcomes.{values_of}
use Rattle.jz_interp.specs.InnerAnswers.{BodyShows}
use Rattle.jz_interp.proofs.Starts.{found_at, interprets}
use Rattle.jz_interp.proofs.interpreting.interpret.Goals as goal

pub returns : goal.returns
returns c =
    interprets c.args.typed.now.program c.args.fun c.args.input.now.words c.args.input.now.mem c.args.fuel c.in_ok-outcome.outcome c.index-as_slice-fun.result c.requires
    (found_at c.args.typed.now.program c.as_slice.result.now c.args.fun c.index-as_slice-fun.result c.requires.function (c.as_slice.ensures ∙ ap (λ q. q.funs) c.program.ensures) c.index-as_slice-fun.is c.requires.there)
    (subst (λ m. BodyShows c.args.typed.now.program.funs c.index-as_slice-fun.result (values_of c.args.input.now.words) m c.args.fuel c.in_ok-outcome.outcome) c.in_ok-mem.ensures
    (subst (λ fs. BodyShows fs c.index-as_slice-fun.result (values_of c.args.input.now.words) c.in_ok-mem.mem c.args.fuel c.in_ok-outcome.outcome) (c.in_ok-code.ensures ∙ ap (λ q. q.funs) c.program.ensures) c.in_ok-outcome.ensures))
