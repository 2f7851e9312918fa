-- Calls of a function that was made, and what they answer of its text.
use Rattle.std.proofs.Common.{◌≡◌, ℕ, List, length, Option, Some, Ok, refl, sym, ◌∙◌, ap, subst}
use Rattle.std.specs.Prelude.{Result, Err, IfErr, slice_get}
use Rattle.std.specs.Str.{bytes_eq}
use Rattle.std.proofs.lemmas.Bool.{and_parts}
use Rattle.std.proofs.lemmas.List.Elements.{All-contains}
use Rattle.jz_tree.specs.Failure.{Failure}
use Rattle.jz_tree.specs.Failure.TheVariants as failure
use Rattle.jz_tree.specs.Failures.{IfRefused, IfAnswered}
use Rattle.jz_tree.specs.declared.program.Fun.{Fun}
use Rattle.jz_tree.specs.declared.program.Program.{Program}
use Rattle.jz_type_rows.specs.Exports.{is_exported}
use Rattle.jz_items.specs.declared.item.Item.{Item}
use Rattle.jz_listing.specs.declared.compiled.Compiled.{Compiled}
use Rattle.jasminc_compile.proofs.Followed.{contains_at}
use Rattle.jasminc_source.specs.Texts.{TypesAs}
use Rattle.jasminc_source.specs.Stage.{ComesFrom}
use Rattle.jasminc_source.specs.Exports.{export_named, IsFoundAt, WithinIfExported}
use Rattle.jasminc_source.proofs.Causing.{text_typed}
use Rattle.jasminc_source.proofs.Finding.{named_has}
use Rattle.jasminc_source.proofs.Stopping.{stage_refuses}
use Rattle.jasminc_compile.proofs.Typing.{text_text}
use Rattle.jasminc_calls.specs.declared.fitting.Unfit.{Unfit}
use Rattle.jasminc_calls.specs.declared.fitting.Unfit.TheVariants as misfit
use Rattle.jasminc_calls.specs.Calls.{AllHold}
use Rattle.jasminc_calls.specs.Fitting.{IsUnfit}
use Rattle.jasminc_runs.specs.declared.telling.Ran.{Ran}
use Rattle.jasminc_runs.specs.Calling as runs
use Rattle.jasminc_leaks.specs.Leaking as leaks
use Rattle.jasminc_compile.specs.declared.refused.Refused as making
use Rattle.jasminc_compile.proofs.FirstCauses.{IsUnreadable}
use Rattle.jasminc_called.specs.declared.making.MadeFor.{MadeFor}
use Rattle.jasminc_called.specs.declared.calling.Told.{Told}
use Rattle.jasminc_called.specs.declared.refused.Refused.{Refused}
use Rattle.jasminc_called.specs.declared.refused.Refused.TheVariants.{Compile}
use Rattle.jasminc_called.specs.Making.{IsCompiledAs, IsMadeFor, MakingAnswers}
use Rattle.jasminc_called.specs.Answers.{Executes, Leaks, Answers}
use Rattle.jasminc_called.specs.Calls.{as_refusal, CallAnswers}
use Rattle.jasminc_called.specs.Causes.{IsFirstCause}
use Rattle.jasminc_called.specs.InnerMaking.{AreMadeOf, RefusesMaking}
use Rattle.jasminc_called.proofs.Named.{function_so}
use Rattle.jasminc_called.proofs.FirstCauses.{reading_too, making_too, clear_too, unfit_first, all_clear}

same_fun : (f g : Fun) (o : Option Fun) → o ≡ Some f → o ≡ Some g → f ≡ g
same_fun f g o p q = cc

-- ---- what a stage says of its answer, where the answer is taken on
pub stage_says : {A E R : Type 0} (Says : E → Type 0) (Becomes : E → R → Type 0) (P : R → Type 0) (answer : Result A (Failure E)) (next : Result A (Failure R))
    → IfErr answer (λ d. IfRefused d Says) → ((fault : E) (r : R) → Says fault → Becomes fault r → P r) → IfErr next (λ e. IfRefused e (ComesFrom Becomes answer)) → IfErr next (λ e. IfRefused e P)
stage_says Says Becomes P answer (Ok x) says becomes from = tt
stage_says Says Becomes P answer (Err e) says becomes from = stage_refuses Says Becomes P answer e says becomes from

-- ---- refusals of making
answered : (text fun : List ℕ) (P : Refused → Type 0) (e : Failure Refused) → ((r : Refused) → P r → (items : List Item) → IsFirstCause text fun items r) → IfRefused e P
    → IfAnswered {A = MadeFor} (Err e) (MakingAnswers text fun)
answered text fun P (failure.Refused r) f h = f r h
answered text fun P failure.OutOfMemory f h = tt

-- a refusal of compiling that is one of the call
pub record IsCompiling (P : making.Refused → Type 0) (r : Refused) : Type 0 where
  pub refused : making.Refused
  pub is : r ≡ Compile refused
  pub says : P refused

pub reading_fails : (text fun : List ℕ) (e : Failure Refused) → IfRefused e (IsCompiling (IsUnreadable text)) → IfAnswered {A = MadeFor} (Err e) (MakingAnswers text fun)
reading_fails text fun e h =
    answered text fun (IsCompiling (IsUnreadable text)) e
    (λ r k. λ items. subst (IsFirstCause text fun items) (sym (k.is ∙ ap Compile k.says.1)) (reading_too text fun items k.says.0 k.says.2)) h

pub making_fails : (text fun : List ℕ) (p : Program) (f : Fun) (e : Failure Refused) → TypesAs text p → export_named fun p.funs ≡ Some f → IfRefused e (IsCompiling (RefusesMaking p))
    → IfAnswered {A = MadeFor} (Err e) (MakingAnswers text fun)
making_fails text fun p f e t found h =
    answered text fun (IsCompiling (RefusesMaking p)) e
    (λ r k. λ items. subst (IsFirstCause text fun items) (sym k.is) (making_too text fun items p t f found k.refused (k.says text t))) h

-- ---- what is made
pub made_is : (text fun : List ℕ) (m : MadeFor) → TypesAs text m.typed.program → IsFoundAt fun m.typed.program.funs m.place → AreMadeOf m.typed.program m.functions → IsMadeFor text fun m
made_is text fun m t found made =
    let p = m.typed.program in
    let exported = (and_parts (is_exported found.function.kind) (bytes_eq found.function.name fun) (named_has fun p.funs found.function found.named)).0 in
    record {
      types = t;
      function = found.function;
      there = found.there;
      found = found.named;
      ready = record {
        typed = text_typed text p t;
        text = text_text text p t;
        function = found.function;
        there = found.there;
        exported = exported;
        within = All-contains (WithinIfExported p) p.funs found.function made.within (contains_at p m.place found.function found.there) exported;
      };
      are_made = made.are_made;
      clear = λ items. clear_too text fun items p t found.function found.named (made.clear text t);
    }

-- ---- a call of it
module _ (text fun : List ℕ) (m : MadeFor) (h : IsMadeFor text fun m) (items : List Item) (c : Compiled) (k : IsCompiledAs m.typed.program fun m.functions c) where
  pub run_answers : (fuel : ℕ) (f : Fun) → slice_get m.typed.program.funs m.place ≡ Some f → (answer : Result Ran (Failure Unfit)) → IfAnswered answer (runs.ExecAnswers f c items fuel)
      → IfAnswered (as_refusal answer) (CallAnswers (Executes items fuel) fun items m)
  run_answers fuel f there (Ok ran) on =
      let same = function_so text fun m h f there c k in
      let to = subst (λ (g : Fun). runs.RunsOn g c items fuel ran) (sym same) on in
      record { compiled = c; is_compiled = k; many = to.many; held = to.held; tells = to }
  run_answers fuel f there (Err (failure.Refused misfit.Items)) on = record { function = f; there = there; why = misfit.Items; is = refl; unfit = on }
  run_answers fuel f there (Err (failure.Refused (misfit.Unmet pre))) on = record { function = f; there = there; why = misfit.Unmet pre; is = refl; unfit = on }
  run_answers fuel f there (Err failure.OutOfMemory) on = tt

  pub leak_answers : (fuel : ℕ) (answer : Result Ran (Failure Unfit)) → IfAnswered answer (leaks.LeakAnswers m.typed.program m.place c items fuel)
      → IfAnswered (as_refusal answer) (CallAnswers (Leaks items fuel) fun items m)
  leak_answers fuel (Ok ran) on =
      let same = function_so text fun m h on.function on.there c k in
      let to = subst (λ (g : Fun). leaks.LeaksOn m.typed.program g c items fuel ran) (sym same) on.leaks in
      record { compiled = c; is_compiled = k; many = to.many; held = to.held; tells = to }
  leak_answers fuel (Err (failure.Refused misfit.Items)) on = record { function = on.function; there = on.there; why = misfit.Items; is = refl; unfit = on.unfit }
  leak_answers fuel (Err (failure.Refused (misfit.Unmet pre))) on = record { function = on.function; there = on.there; why = misfit.Unmet pre; is = refl; unfit = on.unfit }
  leak_answers fuel (Err failure.OutOfMemory) on = tt

-- ---- the answer of the text
module _ (Tells : Program → Fun → Compiled → Ran → Type 0) (text fun : List ℕ) (items : List Item) where
  pub made_fails : (e : Failure Refused) → IfAnswered {A = MadeFor} (Err e) (MakingAnswers text fun) → IfAnswered {A = Told} (Err e) (Answers Tells text fun items)
  made_fails (failure.Refused r) h = h items
  made_fails failure.OutOfMemory h = tt

  module _ (m : MadeFor) (h : IsMadeFor text fun m) where
    pub call_fails : (e : Failure Refused) → IfAnswered {A = Ran} (Err e) (CallAnswers Tells fun items m) → IfAnswered {A = Told} (Err e) (Answers Tells text fun items)
    call_fails (failure.Refused r) k =
        let same = same_fun k.function h.function (slice_get m.typed.program.funs m.place) k.there h.there in
        subst (IsFirstCause text fun items) (sym k.is)
        (unfit_first text fun items m.typed.program h.types h.function h.found (h.clear items) k.why (subst (λ (g : Fun). IsUnfit g items k.why) same k.unfit))
    call_fails failure.OutOfMemory k = tt

    pub call_done : (ran : Ran) (told : Told) → told ≡ record { ran = ran; functions = m.functions } → IfAnswered {E = Refused} (Ok ran) (CallAnswers Tells fun items m)
        → IfAnswered {E = Refused} (Ok told) (Answers Tells text fun items)
    call_done ran told is k =
        let same = same_fun k.is_compiled.function h.function (export_named fun m.typed.program.funs) k.is_compiled.found h.found in
        subst (λ (x : Told). IfAnswered {E = Refused} (Ok x) (Answers Tells text fun items)) (sym is)
        (record {
          clear = all_clear text fun items m.typed.program h.types h.function h.found (h.clear items)
              (subst (λ (g : Fun). length items ≡ length g.params) same k.many) (subst (λ (g : Fun). AllHold g items) same k.held);
          gives = record { program = m.typed.program; types = h.types; are_made = h.are_made; compiled = k.compiled; is_compiled = k.is_compiled; tells = k.tells };
        })
