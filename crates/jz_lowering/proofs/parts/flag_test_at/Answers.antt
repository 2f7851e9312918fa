use Rattle.std.proofs.Common.{refl, sym, subst}
use Rattle.jz_operands.specs.TableHomes.{homes_of}
use Rattle.jz_lowering.specs.InnerParts.{IsTest}
use Rattle.jz_lowering.proofs.PartLemmas.{flag_test_is}
use Rattle.jz_lowering.proofs.PartsInOrder.{no_test}
use Rattle.jz_lowering.proofs.parts.flag_test_at.Goals as goal

pub returns-in-Some : goal.returns-in-Some
returns-in-Some c =
    let home = homes_of c.args.homes.now in
    subst (IsTest home c.args.span c.args.cond.now) (sym c.flag_asked.ensures) (flag_test_is home c.args.span c.args.cond.now c.in-Some.found c.in-Some.ensures)

pub returns-in-None : goal.returns-in-None
returns-in-None c = (refl, no_test (homes_of c.args.homes.now) (record { cond = c.args.cond.now; at = c.args.span }) c.requires c.in-None.ensures)
