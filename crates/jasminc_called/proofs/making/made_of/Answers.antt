use Rattle.std.proofs.Common.{◌≡◌, subst, rules}
use Rattle.std.specs.Prelude.{All}
use Rattle.std.proofs.lemmas.Result.{err_from_is_err_and}
use Rattle.jz_tree.specs.declared.program.Program.{Program}
use Rattle.jasminc_source.specs.Exports.{WithinIfExported, HasLimit}
use Rattle.jasminc_source.proofs.Causing.{text_typed}
use Rattle.jasminc_source.proofs.Stopping.{stage_refuses, ok_says}
use Rattle.jasminc_compile.proofs.Typing.{text_text}
use Rattle.jasminc_compile.specs.CheckSafety.{HasAlarm}
use Rattle.jasminc_compile.specs.declared.refused.Refused.TheVariants.{Limit, Alarm, Making}
use Rattle.jasminc_compile.specs.SafeFunctions.{AreSafe}
use Rattle.jasminc_compile.specs.Making.{AreMade}
use Rattle.jasminc_compile.specs.InnerMaking.{IsTold}
use Rattle.jasminc_compile.proofs.Saving.{each_safe}
use Rattle.jasminc_compile.proofs.FirstCauses.{IsLimit, IsAlarm, IsNotMade}
use Rattle.jasminc_called.proofs.Stages.{limits_refuse, alarms_refuse, making_refuses, made_so}
use Rattle.jasminc_called.proofs.making.made_of.Goals as goal

pub returns-in_err-as_refused-clause-refused : goal.returns-in_err-as_refused-clause-refused
returns-in_err-as_refused-clause-refused c =
    let p = c.args.typed.now.program in
    let tree = c.program.result.now in
    let e = err_from_is_err_and c.from_residual.result c.from_residual.ensures.1 in
    rw (e.1, e.2) (limits_refuse p _
    (stage_refuses (HasLimit tree) _ (IsLimit p) c.within_limits.result _ c.within_limits.ensures.refused
    (λ l r says becomes. let is : r ≡ Limit l = search rules in (l, is, subst (λ (q : Program). HasLimit q l) c.program.ensures says)) c.in_err-as_refused.ensures.refused))

pub safe_functions-requires-clause-typed : goal.safe_functions-requires-clause-typed
safe_functions-requires-clause-typed c = text_typed c.requires.0 c.args.typed.now.program c.requires.1

pub safe_functions-requires-clause-text : goal.safe_functions-requires-clause-text
safe_functions-requires-clause-text c = text_text c.requires.0 c.args.typed.now.program c.requires.1

pub safe_functions-requires-clause-within : goal.safe_functions-requires-clause-within
safe_functions-requires-clause-within c =
    let tree = c.program.result.now in
    subst (λ (q : Program). All (WithinIfExported q) q.funs) c.program.ensures
    (ok_says (λ u. All (WithinIfExported tree) tree.funs) c.within_limits.result c.in_ok-as_refused.field-0 c.in_ok-as_refused.ensures.ok c.within_limits.ensures.within)

pub returns-in_err-safes-clause-refused : goal.returns-in_err-safes-clause-refused
returns-in_err-safes-clause-refused c =
    let p = c.args.typed.now.program in
    let tree = c.program.result.now in
    let within = subst (λ (q : Program). All (WithinIfExported q) q.funs) c.program.ensures
    (ok_says (λ u. All (WithinIfExported tree) tree.funs) c.within_limits.result c.in_ok-as_refused.field-0 c.in_ok-as_refused.ensures.ok c.within_limits.ensures.within) in
    let e = err_from_is_err_and c.from_residual-in_err-safes.result c.from_residual-in_err-safes.ensures.1 in
    rw (e.1, e.2) (alarms_refuse p within _
    (stage_refuses (HasAlarm p) _ (IsAlarm p) c.safe_functions.result _ c.safe_functions.ensures.alarm
    (λ a r says becomes. let is : r ≡ Alarm a = search rules in (a, is, says)) c.in_err-safes.ensures.refused))

pub compile_functions-requires : goal.compile_functions-requires
compile_functions-requires c =
    let p = c.args.typed.now.program in
    ok_says (AreSafe p) c.safe_functions.result c.in_ok-safes.safes c.in_ok-safes.ensures.ok c.safe_functions.ensures.safe

pub returns-in_err-functions-clause-refused : goal.returns-in_err-functions-clause-refused
returns-in_err-functions-clause-refused c =
    let p = c.args.typed.now.program in
    let tree = c.program.result.now in
    let within = subst (λ (q : Program). All (WithinIfExported q) q.funs) c.program.ensures
    (ok_says (λ u. All (WithinIfExported tree) tree.funs) c.within_limits.result c.in_ok-as_refused.field-0 c.in_ok-as_refused.ensures.ok c.within_limits.ensures.within) in
    let safe = each_safe p p.funs c.in_ok-safes.safes (ok_says (AreSafe p) c.safe_functions.result c.in_ok-safes.safes c.in_ok-safes.ensures.ok c.safe_functions.ensures.safe) in
    let e = err_from_is_err_and c.from_residual-in_err-functions.result c.from_residual-in_err-functions.ensures.1 in
    rw (e.1, e.2) (making_refuses p within safe _
    (stage_refuses (IsTold p) _ (IsNotMade p) c.compile_functions.result _ c.compile_functions.ensures.refused
    (λ u r says becomes. let is : r ≡ Making u = search rules in (u, is, says)) c.in_err-functions.ensures.refused))

pub returns-clause-made : goal.returns-clause-made
returns-clause-made c =
    let p = c.args.typed.now.program in
    let tree = c.program.result.now in
    let within = subst (λ (q : Program). All (WithinIfExported q) q.funs) c.program.ensures
    (ok_says (λ u. All (WithinIfExported tree) tree.funs) c.within_limits.result c.in_ok-as_refused.field-0 c.in_ok-as_refused.ensures.ok c.within_limits.ensures.within) in
    let safe = each_safe p p.funs c.in_ok-safes.safes (ok_says (AreSafe p) c.safe_functions.result c.in_ok-safes.safes c.in_ok-safes.ensures.ok c.safe_functions.ensures.safe) in
    made_so p within safe c.in_ok-functions.functions
    (ok_says (AreMade p) c.compile_functions.result c.in_ok-functions.functions c.in_ok-functions.ensures.ok c.compile_functions.ensures.made)
