use Rattle.jasminc_compile.proofs.Choosing.{first_is_refusal, first_unmade}
use Rattle.jasminc_compile.proofs.settling.settled.Goals as goal

pub refusal_at-requires : goal.refusal_at-requires
refusal_at-requires c = first_is_refusal c.args.outcomes c.in-Some.place c.in-Some.ensures.found

pub returns-in-Some-clause-refused : goal.returns-in-Some-clause-refused
returns-in-Some-clause-refused c =
    first_unmade c.args.outcomes c.in-Some.place c.refusal_at.result c.in-Some.ensures.found c.refusal_at.ensures
