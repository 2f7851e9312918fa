use Rattle.std.proofs.Common.{◌≡◌, ◌∙◌, ap, subst, rules}
use Rattle.std.specs.Prelude.{All}
use Rattle.std.proofs.lemmas.Result.{err_from_is_err_and}
use Rattle.jz_tree.specs.declared.program.Program.{Program}
use Rattle.jz_types.specs.declared.typed.Typed.{Typed}
use Rattle.jz_listing.specs.Listing.{listing_text}
use Rattle.jasminc_source.specs.Texts.{TypesAs}
use Rattle.jasminc_source.specs.Unreadable.{IsUnread}
use Rattle.jasminc_source.specs.Exports.{WithinIfExported, HasLimit}
use Rattle.jasminc_source.proofs.Causing.{text_typed}
use Rattle.jasminc_source.proofs.Stopping.{stage_refuses, ok_says}
use Rattle.jasminc_check.proofs.Typing.{text_text}
use Rattle.jasminc_check.specs.Safety.{HasAlarm}
use Rattle.jasminc_compile.specs.declared.refused.Refused.TheVariants.{Unread, Limit, Alarm, Making}
use Rattle.jasminc_compile.specs.declared.stages.Compilation.{Compilation}
use Rattle.jasminc_compile.specs.SafeFunctions.{AreSafe}
use Rattle.jasminc_compile.specs.Making.{AreMade}
use Rattle.jasminc_compile.specs.InnerMaking.{IsTold}
use Rattle.jasminc_compile.proofs.Saving.{each_safe}
use Rattle.jasminc_compile.proofs.FirstCauses.{IsUnreadable, IsLimit, IsAlarm, IsNotMade, reading_fails, limits_fail, alarms_fail, making_fails, all_done}
use Rattle.jasminc_compile.proofs.stages.compile_text.Goals as goal

pub returns-in_err-typed : goal.returns-in_err-typed
returns-in_err-typed c =
    let text = c.args.text.now in
    let p = err_from_is_err_and c.from_residual.result c.from_residual.ensures.1 in
    rw (p.1, p.2) (reading_fails text _ (stage_refuses (IsUnread text) _ (IsUnreadable text) c.typed_program.result _ c.typed_program.ensures.refused
    (λ u r says becomes. let is : r ≡ Unread u = search rules in (u, is, says)) c.in_err-typed.ensures.refused))

pub returns-in_err-as_refused : goal.returns-in_err-as_refused
returns-in_err-as_refused c =
    let p = c.in_ok-typed.typed.program in
    let tree = c.program.result.now in
    let e = err_from_is_err_and c.from_residual-in_err-as_refused.result c.from_residual-in_err-as_refused.ensures.1 in
    rw (e.1, e.2) (limits_fail c.args.text.now p _ (ok_says (λ (t : Typed). TypesAs c.args.text.now t.program) c.typed_program.result c.in_ok-typed.typed c.in_ok-typed.ensures.ok c.typed_program.ensures.program)
    (stage_refuses (HasLimit tree) _ (IsLimit p) c.within_limits.result _ c.within_limits.ensures.refused
    (λ l r says becomes. let is : r ≡ Limit l = search rules in (l, is, subst (λ (q : Program). HasLimit q l) c.program.ensures says)) c.in_err-as_refused.ensures.refused))

pub safe_functions-requires-clause-typed : goal.safe_functions-requires-clause-typed
safe_functions-requires-clause-typed c =
    let p = c.in_ok-typed.typed.program in
    text_typed c.args.text.now p (ok_says (λ (t : Typed). TypesAs c.args.text.now t.program) c.typed_program.result c.in_ok-typed.typed c.in_ok-typed.ensures.ok c.typed_program.ensures.program)

pub safe_functions-requires-clause-text : goal.safe_functions-requires-clause-text
safe_functions-requires-clause-text c =
    let p = c.in_ok-typed.typed.program in
    text_text c.args.text.now p (ok_says (λ (t : Typed). TypesAs c.args.text.now t.program) c.typed_program.result c.in_ok-typed.typed c.in_ok-typed.ensures.ok c.typed_program.ensures.program)

pub safe_functions-requires-clause-within : goal.safe_functions-requires-clause-within
safe_functions-requires-clause-within c =
    let tree = c.program.result.now in
    subst (λ (q : Program). All (WithinIfExported q) q.funs) c.program.ensures
    (ok_says (λ u. All (WithinIfExported tree) tree.funs) c.within_limits.result c.in_ok-as_refused.field-0 c.in_ok-as_refused.ensures.ok c.within_limits.ensures.within)

pub returns-in_err-safes : goal.returns-in_err-safes
returns-in_err-safes c =
    let p = c.in_ok-typed.typed.program in
    let tree = c.program.result.now in
    let types = ok_says (λ (t : Typed). TypesAs c.args.text.now t.program) c.typed_program.result c.in_ok-typed.typed c.in_ok-typed.ensures.ok c.typed_program.ensures.program in
    let within = subst (λ (q : Program). All (WithinIfExported q) q.funs) c.program.ensures
    (ok_says (λ u. All (WithinIfExported tree) tree.funs) c.within_limits.result c.in_ok-as_refused.field-0 c.in_ok-as_refused.ensures.ok c.within_limits.ensures.within) in
    let e = err_from_is_err_and c.from_residual-in_err-safes.result c.from_residual-in_err-safes.ensures.1 in
    rw (e.1, e.2) (alarms_fail c.args.text.now p _ types within
    (stage_refuses (HasAlarm p) _ (IsAlarm p) c.safe_functions.result _ c.safe_functions.ensures.alarm
    (λ a r says becomes. let is : r ≡ Alarm a = search rules in (a, is, says)) c.in_err-safes.ensures.refused))

pub compile_functions-requires : goal.compile_functions-requires
compile_functions-requires c =
    let p = c.in_ok-typed.typed.program in
    ok_says (AreSafe p) c.safe_functions.result c.in_ok-safes.safes c.in_ok-safes.ensures.ok c.safe_functions.ensures.safe

pub returns-in_err-functions : goal.returns-in_err-functions
returns-in_err-functions c =
    let p = c.in_ok-typed.typed.program in
    let tree = c.program.result.now in
    let types = ok_says (λ (t : Typed). TypesAs c.args.text.now t.program) c.typed_program.result c.in_ok-typed.typed c.in_ok-typed.ensures.ok c.typed_program.ensures.program in
    let within = subst (λ (q : Program). All (WithinIfExported q) q.funs) c.program.ensures
    (ok_says (λ u. All (WithinIfExported tree) tree.funs) c.within_limits.result c.in_ok-as_refused.field-0 c.in_ok-as_refused.ensures.ok c.within_limits.ensures.within) in
    let safe = each_safe p p.funs c.in_ok-safes.safes (ok_says (AreSafe p) c.safe_functions.result c.in_ok-safes.safes c.in_ok-safes.ensures.ok c.safe_functions.ensures.safe) in
    let e = err_from_is_err_and c.from_residual-in_err-functions.result c.from_residual-in_err-functions.ensures.1 in
    rw (e.1, e.2) (making_fails c.args.text.now p _ types within safe
    (stage_refuses (IsTold p) _ (IsNotMade p) c.compile_functions.result _ c.compile_functions.ensures.refused
    (λ u r says becomes. let is : r ≡ Making u = search rules in (u, is, says)) c.in_err-functions.ensures.refused))

pub returns : goal.returns
returns c =
    let p = c.in_ok-typed.typed.program in
    let tree = c.program.result.now in
    let types = ok_says (λ (t : Typed). TypesAs c.args.text.now t.program) c.typed_program.result c.in_ok-typed.typed c.in_ok-typed.ensures.ok c.typed_program.ensures.program in
    let within = subst (λ (q : Program). All (WithinIfExported q) q.funs) c.program.ensures
    (ok_says (λ u. All (WithinIfExported tree) tree.funs) c.within_limits.result c.in_ok-as_refused.field-0 c.in_ok-as_refused.ensures.ok c.within_limits.ensures.within) in
    let safe = each_safe p p.funs c.in_ok-safes.safes (ok_says (AreSafe p) c.safe_functions.result c.in_ok-safes.safes c.in_ok-safes.ensures.ok c.safe_functions.ensures.safe) in
    let made = ok_says (AreMade p) c.compile_functions.result c.in_ok-functions.functions c.in_ok-functions.ensures.ok c.compile_functions.ensures.made in
    let compiled : Compilation = record { functions = c.in_ok-functions.functions; listing = c.in_ok-listing.listing } in
    all_done c.args.text.now p types within safe compiled made (c.in_ok-listing.ensures ∙ ap listing_text c.as_slice.ensures)
