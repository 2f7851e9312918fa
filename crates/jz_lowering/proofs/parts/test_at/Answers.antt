use Rattle.std.proofs.Common.{sym, subst}
use Rattle.jz_operands.specs.TableHomes.{homes_of}
use Rattle.jz_lowering.specs.InnerParts.{IsTest}
use Rattle.jz_lowering.proofs.PartLemmas.{test_is}
use Rattle.jz_lowering.proofs.parts.test_at.Goals as goal

pub flag_test_at-requires : goal.flag_test_at-requires
flag_test_at-requires c = c.in-None.ensures

pub returns-in_ok-made-in-Some : goal.returns-in_ok-made-in-Some
returns-in_ok-made-in-Some c =
    let home = homes_of c.args.homes.now in
    subst (IsTest home c.args.span c.args.cond.now) (sym c.in_ok-made-in-Some.ensures) (test_is home c.args.span c.args.cond.now c.in-Some.found c.in-Some.ensures)
