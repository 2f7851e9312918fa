use Rattle.std.proofs.Common.{◌≡◌, subst, rules}
use Rattle.std.specs.Prelude.{All}
use Rattle.std.proofs.lemmas.Result.{err_from_is_err_and}
use Rattle.jz_tree.specs.declared.program.Program.{Program}
use Rattle.jz_types.specs.declared.typed.Typed.{Typed}
use Rattle.jasminc_source.specs.Texts.{TypesAs}
use Rattle.jasminc_source.specs.Unreadable.{IsUnread}
use Rattle.jasminc_source.specs.Exports.{WithinIfExported, HasLimit}
use Rattle.jasminc_source.proofs.Causing.{text_typed}
use Rattle.jasminc_source.proofs.Stopping.{stage_refuses, ok_says}
use Rattle.jasminc_expansions.proofs.Typing.{text_text}
use Rattle.jasminc_check.specs.declared.refused.Refused.TheVariants.{Unread, Limit, Alarm}
use Rattle.jasminc_check.specs.Safety.{AreSafe, HasAlarm}
use Rattle.jasminc_check.proofs.FirstCauses.{IsUnreadable, IsLimit, IsAlarm, reading_fails, limits_fail, alarms_fail, all_done}
use Rattle.jasminc_check.proofs.stages.check_text.Goals as goal

pub returns-in_err-typed : goal.returns-in_err-typed
returns-in_err-typed c =
    let text = c.args.text.now in
    let p = err_from_is_err_and c.from_residual.result c.from_residual.ensures.1 in
    rw (p.1, p.2) (reading_fails text _ (stage_refuses (IsUnread text) _ (IsUnreadable text) c.typed_program.result _ c.typed_program.ensures.refused
    (λ u r says becomes. let is : r ≡ Unread u = search rules in (u, is, says)) c.in_err-typed.ensures.refused))

pub returns-in_err-as_refused : goal.returns-in_err-as_refused
returns-in_err-as_refused c =
    let p = c.in_ok-typed.typed.program in
    let tree = c.program.result.now in
    let e = err_from_is_err_and c.from_residual-in_err-as_refused.result c.from_residual-in_err-as_refused.ensures.1 in
    rw (e.1, e.2) (limits_fail c.args.text.now p _ (ok_says (λ (t : Typed). TypesAs c.args.text.now t.program) c.typed_program.result c.in_ok-typed.typed c.in_ok-typed.ensures.ok c.typed_program.ensures.program)
    (stage_refuses (HasLimit tree) _ (IsLimit p) c.within_limits.result _ c.within_limits.ensures.refused
    (λ l r says becomes. let is : r ≡ Limit l = search rules in (l, is, subst (λ (q : Program). HasLimit q l) c.program.ensures says)) c.in_err-as_refused.ensures.refused))

pub check_functions-requires-clause-typed : goal.check_functions-requires-clause-typed
check_functions-requires-clause-typed c =
    let p = c.in_ok-typed.typed.program in
    text_typed c.args.text.now p (ok_says (λ (t : Typed). TypesAs c.args.text.now t.program) c.typed_program.result c.in_ok-typed.typed c.in_ok-typed.ensures.ok c.typed_program.ensures.program)

pub check_functions-requires-clause-text : goal.check_functions-requires-clause-text
check_functions-requires-clause-text c =
    let p = c.in_ok-typed.typed.program in
    text_text c.args.text.now p (ok_says (λ (t : Typed). TypesAs c.args.text.now t.program) c.typed_program.result c.in_ok-typed.typed c.in_ok-typed.ensures.ok c.typed_program.ensures.program)

pub check_functions-requires-clause-within : goal.check_functions-requires-clause-within
check_functions-requires-clause-within c =
    let tree = c.program.result.now in
    subst (λ (q : Program). All (WithinIfExported q) q.funs) c.program.ensures
    (ok_says (λ u. All (WithinIfExported tree) tree.funs) c.within_limits.result c.in_ok-as_refused.field-0 c.in_ok-as_refused.ensures.ok c.within_limits.ensures.within)

pub returns-in_err-lines : goal.returns-in_err-lines
returns-in_err-lines c =
    let p = c.in_ok-typed.typed.program in
    let tree = c.program.result.now in
    let types = ok_says (λ (t : Typed). TypesAs c.args.text.now t.program) c.typed_program.result c.in_ok-typed.typed c.in_ok-typed.ensures.ok c.typed_program.ensures.program in
    let within = subst (λ (q : Program). All (WithinIfExported q) q.funs) c.program.ensures
    (ok_says (λ u. All (WithinIfExported tree) tree.funs) c.within_limits.result c.in_ok-as_refused.field-0 c.in_ok-as_refused.ensures.ok c.within_limits.ensures.within) in
    let e = err_from_is_err_and c.from_residual-in_err-lines.result c.from_residual-in_err-lines.ensures.1 in
    rw (e.1, e.2) (alarms_fail c.args.text.now p _ types within
    (stage_refuses (HasAlarm p) _ (IsAlarm p) c.check_functions.result _ c.check_functions.ensures.alarm
    (λ a r says becomes. let is : r ≡ Alarm a = search rules in (a, is, says)) c.in_err-lines.ensures.refused))

pub returns : goal.returns
returns c =
    let p = c.in_ok-typed.typed.program in
    let tree = c.program.result.now in
    let types = ok_says (λ (t : Typed). TypesAs c.args.text.now t.program) c.typed_program.result c.in_ok-typed.typed c.in_ok-typed.ensures.ok c.typed_program.ensures.program in
    let within = subst (λ (q : Program). All (WithinIfExported q) q.funs) c.program.ensures
    (ok_says (λ u. All (WithinIfExported tree) tree.funs) c.within_limits.result c.in_ok-as_refused.field-0 c.in_ok-as_refused.ensures.ok c.within_limits.ensures.within) in
    all_done c.args.text.now p types within c.in_ok-lines.lines
    (ok_says (AreSafe p p.funs) c.check_functions.result c.in_ok-lines.lines c.in_ok-lines.ensures.ok c.check_functions.ensures.safe)
