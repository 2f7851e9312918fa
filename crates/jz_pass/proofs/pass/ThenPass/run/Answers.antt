use Rattle.std.proofs.Common.{subst, sym}
use Rattle.jz_pass.specs.Cases.{IsBetween}
use Rattle.jz_pass.proofs.Twice.{carries_both}
use Rattle.jz_pass.proofs.Meeting.{between_both}
use Rattle.jz_pass.proofs.pass.ThenPass.run.Goals as goal

pub returns-clause-law : goal.returns-clause-law
returns-clause-law g c = carries_both _ _ _ _ _ c.in_ok-change.ensures.law _ _ _ c.in_ok-middle.ensures.law c.in_ok-program.ensures.law

pub returns-clause-cases : goal.returns-clause-cases
returns-clause-cases g c = subst (IsBetween _ _) (sym c.in_ok-change.ensures.is) (between_both c.in_ok-middle.ensures.cases c.in_ok-program.ensures.cases)

pub returns-clause-made : goal.returns-clause-made
returns-clause-made g c = (_, _, _, c.in_ok-middle.ensures.made, c.in_ok-program.ensures.made, c.in_ok-change.ensures.is)
