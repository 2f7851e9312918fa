use Rattle.std.proofs.Common.{◌≡◌, ◌∙◌, sym, ap, subst, List, ℕ, rules, None}
use Rattle.std.specs.Prelude.{Ok}
use Rattle.std.proofs.lemmas.Result.{err_from_is_err_and}
use Rattle.jz_tree.specs.declared.program.Program.{Program}
use Rattle.jz_types.specs.declared.typed.Typed.{Typed}
use Rattle.jasminc_source.specs.Texts.{TypesAs}
use Rattle.jasminc_source.specs.Unreadable.{IsUnread}
use Rattle.jasminc_source.specs.Exports.{export_named, IsFoundAt}
use Rattle.jasminc_source.proofs.Stopping.{stage_refuses, ok_says}
use Rattle.jasminc_compile.specs.declared.refused.Refused.TheVariants.{Unread}
use Rattle.jasminc_compile.proofs.FirstCauses.{IsUnreadable}
use Rattle.jasminc_called.specs.declared.refused.Refused.TheVariants.{Compile, NoFunction}
use Rattle.jasminc_called.specs.Causes.{IsFirstCause}
use Rattle.jasminc_called.specs.InnerMaking.{AreMadeOf, RefusesMaking}
use Rattle.jasminc_called.proofs.FirstCauses.{function_first}
use Rattle.jasminc_called.proofs.Answering.{stage_says, IsCompiling, reading_fails, making_fails, made_is}
use Rattle.jasminc_called.proofs.making.made_for.Goals as goal

pub returns-in_err-typed : goal.returns-in_err-typed
returns-in_err-typed c =
    let text = c.args.text.now in
    let p = err_from_is_err_and c.from_residual.result c.from_residual.ensures.1 in
    let read = stage_says (IsUnread text) _ (IsUnreadable text) c.typed_program.result c.as_refused-read.result c.typed_program.ensures.refused
    (λ u r says becomes. let is : r ≡ Unread u = search rules in (u, is, says)) c.as_refused-read.ensures.refused in
    rw (p.1, p.2) (reading_fails text c.args.fun.now _
    (stage_refuses (IsUnreadable text) _ (IsCompiling (IsUnreadable text)) c.as_refused-read.result _ read
    (λ q r says becomes. let is : r ≡ Compile q = search rules in record { refused = q; is = is; says = says }) c.in_err-typed.ensures.refused))

pub returns-in_default : goal.returns-in_default
returns-in_default c =
    let text = c.args.text.now in
    let fun = c.args.fun.now in
    let typed = c.in_ok-typed.typed in
    let read = ok_says (λ (t : Typed). c.typed_program.result ≡ Ok t) c.as_refused-read.result typed c.in_ok-typed.ensures.ok c.as_refused-read.ensures.ok in
    let types = ok_says (λ t. TypesAs text t.program) c.typed_program.result typed read c.typed_program.ensures.program in
    let none : export_named fun typed.program.funs ≡ None = ap (λ (q : Program). export_named fun q.funs) (sym c.program-tree.ensures) ∙ c.place_of.ensures.none c.in_default.is in
    let name : c.from_string-name.result ≡ fun = c.from_string-name.ensures ∙ c.in_ok-from_str.ensures.ok in
    λ items. subst (λ (n : List ℕ). IsFirstCause text fun items (NoFunction n)) (sym name) (function_first text fun items typed.program types none)

pub made_of-made-requires : goal.made_of-made-requires
made_of-made-requires c =
    let text = c.args.text.now in
    let typed = c.in_ok-typed.typed in
    let read = ok_says (λ (t : Typed). c.typed_program.result ≡ Ok t) c.as_refused-read.result typed c.in_ok-typed.ensures.ok c.as_refused-read.ensures.ok in
    (text, ok_says (λ t. TypesAs text t.program) c.typed_program.result typed read c.typed_program.ensures.program)

pub returns-in_err-functions : goal.returns-in_err-functions
returns-in_err-functions c =
    let text = c.args.text.now in
    let fun = c.args.fun.now in
    let typed = c.in_ok-typed.typed in
    let read = ok_says (λ (t : Typed). c.typed_program.result ≡ Ok t) c.as_refused-read.result typed c.in_ok-typed.ensures.ok c.as_refused-read.ensures.ok in
    let types = ok_says (λ t. TypesAs text t.program) c.typed_program.result typed read c.typed_program.ensures.program in
    let found = subst (λ (q : Program). IsFoundAt fun q.funs c.in-Some.place) c.program-tree.ensures c.in-Some.ensures.found in
    let e = err_from_is_err_and c.from_residual-in_err-functions.result c.from_residual-in_err-functions.ensures.1 in
    rw (e.1, e.2) (making_fails text fun typed.program found.function _ types found.named
    (stage_refuses (RefusesMaking typed.program) _ (IsCompiling (RefusesMaking typed.program)) c.made_of-made.result _ c.made_of-made.ensures.refused
    (λ q r says becomes. let is : r ≡ Compile q = search rules in record { refused = q; is = is; says = says }) c.in_err-functions.ensures.refused))

pub returns : goal.returns
returns c =
    let text = c.args.text.now in
    let fun = c.args.fun.now in
    let typed = c.in_ok-typed.typed in
    let read = ok_says (λ (t : Typed). c.typed_program.result ≡ Ok t) c.as_refused-read.result typed c.in_ok-typed.ensures.ok c.as_refused-read.ensures.ok in
    let types = ok_says (λ t. TypesAs text t.program) c.typed_program.result typed read c.typed_program.ensures.program in
    let found = subst (λ (q : Program). IsFoundAt fun q.funs c.in-Some.place) c.program-tree.ensures c.in-Some.ensures.found in
    let functions = c.in_ok-functions.functions in
    made_is text fun (record { typed = typed; place = c.in-Some.place; functions = functions }) types found
    (ok_says (AreMadeOf typed.program) c.made_of-made.result functions c.in_ok-functions.ensures.ok c.made_of-made.ensures.made)
