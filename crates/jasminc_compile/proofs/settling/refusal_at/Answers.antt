use Rattle.jasminc_compile.proofs.Choosing.{refusal_below, refusal_only}
use Rattle.jasminc_compile.proofs.settling.refusal_at.Goals as goal

pub taken-requires : goal.taken-requires
taken-requires c = refusal_below c.args.outcomes c.args.place c.requires

pub unreachable-requires : goal.unreachable-requires
unreachable-requires c = refusal_only c.args.outcomes c.args.place _ c.requires c.taken.ensures _ c.in-Made.is
