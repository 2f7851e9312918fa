use Rattle.std.proofs.Common.{◌≡◌, None, Some, refl, subst, length}
use Rattle.std.specs.Prelude.{slice_get}
use Rattle.std.proofs.lemmas.Option.{slice_get_past, slice_get_read}
use Rattle.jz_operands.specs.TableHomes.{homes_of}
use Rattle.jz_lowering.proofs.PassingLemmas.{passes, none_left}
use Rattle.jz_lowering.proofs.passing.pass_next.Goals as goal

pub returns-in-None-clause-refused : goal.returns-in-None-clause-refused
returns-in-None-clause-refused c =
    let regs = c.args.regs.now in
    none_left (homes_of c.args.homes.now) regs c.args.var.now (length c.args.passed.now) (subst (λ n. slice_get regs n ≡ None) c.len.ensures (slice_get_past regs c.len.result c.in-None.ensures.lookup.3))

pub returns-in_ok-push-in-Some-passed_in-clause-passed : goal.returns-in_ok-push-in-Some-passed_in-clause-passed
returns-in_ok-push-in-Some-passed_in-clause-passed c =
    let regs = c.args.regs.now in
    let reg = c.in-Some.reg.now in
    passes (homes_of c.args.homes.now) regs c.args.var.now c.args.passed.now c.push.new.self reg c.in-Some-passed_in.one
    (subst (λ n. slice_get regs n ≡ Some reg) c.len.ensures (slice_get_read regs (length regs) c.len.result reg refl c.in-Some.ensures.lookup.3.0 c.in-Some.ensures.lookup.1)) c.in-Some-passed_in.ensures c.in_ok-push-in-Some-passed_in.ensures.ok
