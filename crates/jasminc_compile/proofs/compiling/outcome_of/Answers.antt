use Rattle.std.proofs.Common.{subst}
use Rattle.jz_tree.specs.Failures.{IfRefused}
use Rattle.jz_whole_pipeline.specs.Correctness.{IsRefusedFor}
use Rattle.jasminc_compile.proofs.Making.{outcome_made, refused_there, outcome_not}
use Rattle.jasminc_compile.proofs.compiling.outcome_of.Goals as goal

pub returns-in-Ok : goal.returns-in-Ok
returns-in-Ok c =
    outcome_made c.args.typed.now.program c.requires.0 c.args.one c.in-Ok.compiled c.requires.1 c.in-Ok.ensures.made

pub unmade_at-requires-clause-ready : goal.unmade_at-requires-clause-ready
unmade_at-requires-clause-ready c = c.requires.1.ready

pub unmade_at-requires-clause-refused : goal.unmade_at-requires-clause-refused
unmade_at-requires-clause-refused c =
    refused_there c.args.typed.now.program c.requires.0 c.args.one c.in-Err-Refused.why c.requires.1
    (subst (λ x. IfRefused x (IsRefusedFor c.args.one.safe.expanded.fun)) c.in-Err-Refused.field-0-is c.in-Err-Refused.ensures.refused)

pub returns-in_ok-unmade-in-Err-Refused : goal.returns-in_ok-unmade-in-Err-Refused
returns-in_ok-unmade-in-Err-Refused c =
    outcome_not c.args.typed.now.program c.args.one.place c.in_ok-unmade-in-Err-Refused.unmade c.in_ok-unmade-in-Err-Refused.ensures
