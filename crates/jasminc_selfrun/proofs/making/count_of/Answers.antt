use Rattle.std.proofs.Common.{subst}
use Rattle.jz_first_limit.specs.FirstLimits.{IsMet}
use Rattle.jasminc_selfrun.proofs.OfTexts.{passes_none}
use Rattle.jasminc_selfrun.proofs.making.count_of.Goals as goal

pub unreachable-requires : goal.unreachable-requires
unreachable-requires c =
    passes_none c.args.program.now c.args.function.now _ c.requires (subst (IsMet c.args.program.now c.args.function.now) c.in-Passed.is c.in_ok-met.ensures)
