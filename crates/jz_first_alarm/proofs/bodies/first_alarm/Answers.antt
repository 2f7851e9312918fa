use Rattle.std.proofs.Common.{sym, subst, arith}
use Rattle.jz_fact_sets.specs.Kept.{AreDifferent, given_of}
use Rattle.jz_first_alarm.proofs.Stepping.{handed_on}
use Rattle.jz_first_alarm.proofs.Whole.{given_is, as_many}
use Rattle.jz_first_alarm.proofs.bodies.first_alarm.Goals as goal

pub ask_function-requires : goal.ask_function-requires
ask_function-requires c =
    let m = c.in_ok-given.given in
    let n = as_many c.args.fun.now c.args.pres.now m c.in_ok-given.ensures.params in
    let few = c.requires.few in
    record {
      different = subst AreDifferent (sym c.in_ok-given.ensures.params) c.requires.different;
      few = omega (arith, n, few);
      words = c.in_ok-given.ensures.ends.words;
      plain = c.requires.plain;
    }

pub returns-in_err-ask_function-clause-some : goal.returns-in_err-ask_function-clause-some
returns-in_err-ask_function-clause-some c =
    let m = c.in_ok-given.given in
    let is = given_is c.args.fun.now c.args.pres.now m c.in_ok-given.ensures.all c.in_ok-given.ensures.params c.in_ok-given.ensures.regions in
    handed_on c.from_residual-in_err-ask_function.result c.in_err-ask_function.field-0.0 _ _ c.from_residual-in_err-ask_function.ensures.1
    (λ v h. (given_of m, is, h)) c.in_err-ask_function.ensures.some

pub returns-clause-none : goal.returns-clause-none
returns-clause-none c =
    let m = c.in_ok-given.given in
    (given_of m, given_is c.args.fun.now c.args.pres.now m c.in_ok-given.ensures.all c.in_ok-given.ensures.params c.in_ok-given.ensures.regions, c.in_ok-ask_function.ensures.none)
