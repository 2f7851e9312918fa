use Rattle.std.proofs.Common.{◌≡◌, ◌<◌, ◌≤◌, ℕ, map, length, sym, subst}
use Rattle.std.specs.Prelude.{Some, None, slice_get}
use Rattle.std.proofs.lemmas.Result.{err_from_is_err_and}
use Rattle.jz_tree.specs.declared.program.Fun.{Fun}
use Rattle.jz_tree.specs.declared.program.Program.{Program}
use Rattle.jz_change.specs.Views.{change_of}
use Rattle.jz_fact_sets.specs.Kept.{AreDifferent}
use Rattle.jz_given.specs.Giving.{param_of}
use Rattle.jz_block_facts.specs.Heads.{HasNoFor, plain_block}
use Rattle.jz_asked.specs.declared.alarms.Alarm as asked
use Rattle.jz_asked.specs.Asked.{alarm_of}
use Rattle.jz_first_alarm.specs.FirstAlarms.{HasFirstAlarm}
use Rattle.jasminc_check.specs.InnerSafety.{IsJudgedAt}
use Rattle.jz_pass.proofs.Refusing.{refused_too}
use Rattle.jasminc_expansions.proofs.Readying.{ready_below, none_refused, expansion_at}
use Rattle.jasminc_check.proofs.Readying.{differ, few, plain, judged_at}
use Rattle.jasminc_check.proofs.functions.judge_at.Goals as goal

pub function_at-function-requires : goal.function_at-function-requires
function_at-function-requires c =
    subst (λ (q : Program). c.args.place < length q.funs) (sym c.program.ensures) (ready_below c.args.typed.now.program c.args.place c.requires)

pub stated-requires : goal.stated-requires
stated-requires c =
    let there = subst (λ (q : Program). slice_get q.funs c.args.place ≡ Some c.function_at-function.result.now) c.program.ensures c.function_at-function.ensures in
    none_refused c.args.typed.now.program c.args.place c.requires c.function_at-function.result.now there

pub first_alarm-requires-clause-different : goal.first_alarm-requires-clause-different
first_alarm-requires-clause-different c =
    let p = c.args.typed.now.program in
    let f = c.function_at-function.result.now in
    let r = c.in_ok-expanded.expanded in
    let there = subst (λ (q : Program). slice_get q.funs c.args.place ≡ Some f) c.program.ensures c.function_at-function.ensures in
    subst (λ (g : Fun). AreDifferent (map (param_of c.in_ok-pres.pres) g.params)) (sym c.fun.ensures)
    (differ p c.args.place c.requires f r.fun there (change_of r.change) r.count (expansion_at p c.args.place f r there c.in_ok-expanded.ensures) c.in_ok-pres.pres)

pub first_alarm-requires-clause-few : goal.first_alarm-requires-clause-few
first_alarm-requires-clause-few c =
    let p = c.args.typed.now.program in
    let f = c.function_at-function.result.now in
    let r = c.in_ok-expanded.expanded in
    let there = subst (λ (q : Program). slice_get q.funs c.args.place ≡ Some f) c.program.ensures c.function_at-function.ensures in
    subst (λ (g : Fun). length g.params ≤ 64) (sym c.fun.ensures)
    (few p c.args.place c.requires f r.fun there (change_of r.change) r.count (expansion_at p c.args.place f r there c.in_ok-expanded.ensures))

pub first_alarm-requires-clause-plain : goal.first_alarm-requires-clause-plain
first_alarm-requires-clause-plain c =
    let p = c.args.typed.now.program in
    let f = c.function_at-function.result.now in
    let r = c.in_ok-expanded.expanded in
    let there = subst (λ (q : Program). slice_get q.funs c.args.place ≡ Some f) c.program.ensures c.function_at-function.ensures in
    subst (λ (g : Fun). HasNoFor (plain_block g.body)) (sym c.fun.ensures)
    (plain p c.args.place c.requires f r.fun there (change_of r.change) r.count (expansion_at p c.args.place f r there c.in_ok-expanded.ensures))

pub returns-in_err-first_alarm-clause-alarm : goal.returns-in_err-first_alarm-clause-alarm
returns-in_err-first_alarm-clause-alarm c =
    let p = c.args.typed.now.program in
    let f = c.function_at-function.result.now in
    let r = c.in_ok-expanded.expanded in
    let there = subst (λ (q : Program). slice_get q.funs c.args.place ≡ Some f) c.program.ensures c.function_at-function.ensures in
    let e = err_from_is_err_and c.from_residual-in_err-first_alarm.result c.from_residual-in_err-first_alarm.ensures.1 in
    let expansion = expansion_at p c.args.place f r there c.in_ok-expanded.ensures in
    let told : (a : asked.Alarm) → HasFirstAlarm c.fun.result.now c.in_ok-pres.pres (Some (alarm_of a)) → (count : ℕ) × IsJudgedAt p c.args.place count (Some (alarm_of a)) =
    λ a h. (
      r.count,
      judged_at p c.args.place c.requires f r.fun there (change_of r.change) r.count expansion c.in_ok-pres.pres (Some (alarm_of a)) c.in_ok-pres.ensures
          (subst (λ (g : Fun). HasFirstAlarm g c.in_ok-pres.pres (Some (alarm_of a))) c.fun.ensures h),
    ) in
    rw (e.1, e.2) (refused_too _ (λ (a : asked.Alarm). HasFirstAlarm c.fun.result.now c.in_ok-pres.pres (Some (alarm_of a)))
    (λ (a : asked.Alarm). (count : ℕ) × IsJudgedAt p c.args.place count (Some (alarm_of a))) told c.in_err-first_alarm.ensures.some)

pub returns-clause-safe : goal.returns-clause-safe
returns-clause-safe c =
    let p = c.args.typed.now.program in
    let f = c.function_at-function.result.now in
    let r = c.in_ok-expanded.expanded in
    let there = subst (λ (q : Program). slice_get q.funs c.args.place ≡ Some f) c.program.ensures c.function_at-function.ensures in
    subst (λ (n : ℕ). IsJudgedAt p c.args.place n None) (sym c.count.ensures)
    (judged_at p c.args.place c.requires f r.fun there (change_of r.change) r.count (expansion_at p c.args.place f r there c.in_ok-expanded.ensures) c.in_ok-pres.pres None c.in_ok-pres.ensures
    (subst (λ (g : Fun). HasFirstAlarm g c.in_ok-pres.pres None) c.fun.ensures c.in_ok-first_alarm.ensures.none))
