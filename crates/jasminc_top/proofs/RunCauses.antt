-- Which cause of a call of a compiled function is the first, and when none stands.
use Rattle.std.proofs.Common.{◌≡◌, ℕ, ◌≤◌, List, length, arith, Option, Some, refl, sym, ap, ◌∙◌, subst}
use Rattle.std.specs.Prelude.{Result, Ok, Err, IfErr}
use Rattle.std.specs.Option.{option_map}
use Rattle.jz_tree.specs.Failure.{Failure}
use Rattle.jz_tree.specs.Failure.TheVariants as failure
use Rattle.jz_tree.specs.Failures.{IfRefused, IfAnswered}
use Rattle.jz_tree.specs.declared.program.Fun.{Fun}
use Rattle.jz_tree.specs.declared.program.Program.{Program}
use Rattle.jz_items.specs.Items.{AreItems}
use Rattle.jz_listing.specs.declared.compiled.Compiled.{Compiled}
use Rattle.jasminc_words.specs.Wanted.{Called, Wanted, exec, leak, wanted_of, wanted_command, HasNumbers}
use Rattle.jasminc_words.specs.declared.request.Request.{Request}
use Rattle.jasminc_words.proofs.NumbersFit.{words_fit}
use Rattle.jasminc_source.specs.Stage.{ComesFrom}
use Rattle.jasminc_source.proofs.Stopping.{stage_refuses}
use Rattle.jasminc_runs.specs.declared.telling.Ran.{Ran}
use Rattle.jasminc_selfrun.specs.Causes as causes
use Rattle.jasminc_selfrun.specs.Answers as answers
use Rattle.jasminc_selfrun.specs.Refused.{Refused}
use Rattle.jasminc_selfrun.specs.Told.{Told}
use Rattle.jasminc_top.specs.declared.refusal.Status.{Status}
use Rattle.jasminc_top.specs.declared.refusal.Refusal.{Refusal}
use Rattle.jasminc_top.specs.declared.refusal.Refusal.TheVariants.{Usage, ReadFault, Source, Interp, Disasm, Check, Ct, Compile, Exec}
use Rattle.jasminc_top.specs.declared.answer.Reply.{Reply}
use Rattle.jasminc_top.specs.Refusals.{all_stages}
use Rattle.jasminc_top.specs.Answers.{source_limit, RunCause, Cause, Clear, IsFirstCause, IsToldBy, GivesRun, IsDone, After}

-- ---- the items of a request
pub request_numbers : (words : List (List ℕ)) (o : Option Request) (r : Request) → option_map wanted_of o ≡ wanted_command words → o ≡ Some r → HasNumbers (wanted_of r)
request_numbers words o r e is = words_fit words (wanted_of r) (sym e ∙ ap (option_map wanted_of) is)

pub exec_given : (call : Called) → HasNumbers (exec call) → AreItems call.items
exec_given call h = h.0

pub leak_given : (call : Called) → HasNumbers (leak call) → AreItems call.items
leak_given call h = h.0

-- ---- causes
cleared : (call : Called) (text : List ℕ) (n : ℕ) → length text ≤ source_limit → causes.Clear text call.fun call.items n → Clear (RunCause call text) n
cleared call text n short clear Usage lt c = c
cleared call text n short clear ReadFault lt c = c
cleared call text n short clear Source lt c = absurd (omega (arith, short, c))
cleared call text n short clear (Interp r) lt c = c
cleared call text n short clear (Disasm f) lt c = c
cleared call text n short clear (Check r) lt c = c
cleared call text n short clear (Ct r) lt c = c
cleared call text n short clear (Compile r) lt c = c
cleared call text n short clear (Exec r) lt c = clear r lt c

first_cause : (call : Called) (text : List ℕ) → length text ≤ source_limit → (r : Refused) → causes.IsFirstCause text call.fun call.items r → IsFirstCause (RunCause call text) (Exec r)
first_cause call text short r h = record { cause = h.cause; first = cleared call text (causes.stage_of r) short h.first }

-- ---- the answer of the stages
module _ (Tells : Program → Fun → Compiled → Ran → Type 0) (call : Called) (text : List ℕ) where
  says_refused : (answer : Result Told (Failure Refused)) → IfAnswered answer (answers.Answers Tells text call.fun call.items) → IfErr answer (λ d. IfRefused d (causes.IsFirstCause text call.fun call.items))
  says_refused (Ok x) h = tt
  says_refused (Err (failure.Refused r)) h = h
  says_refused (Err failure.OutOfMemory) h = tt

  says_done : (answer : Result Told (Failure Refused)) (x : Told) → answer ≡ Ok x → IfAnswered answer (answers.Answers Tells text call.fun call.items) → answers.IsDone Tells text call.fun call.items x
  says_done answer x is h = subst (λ (a : Result Told (Failure Refused)). IfAnswered a (answers.Answers Tells text call.fun call.items)) is h

  -- the first cause, where the call is refused
  call_fails : (Becomes : Refused → Refusal → Type 0) (answer : Result Told (Failure Refused)) (e : Failure Refusal) → length text ≤ source_limit
      → IfAnswered answer (answers.Answers Tells text call.fun call.items) → ((r : Refused) (q : Refusal) → Becomes r q → q ≡ Exec r) → IfRefused e (ComesFrom Becomes answer)
      → IfRefused e (IsFirstCause (RunCause call text))
  call_fails Becomes answer e short h becomes from =
      stage_refuses (causes.IsFirstCause text call.fun call.items) Becomes (IsFirstCause (RunCause call text)) answer e (says_refused answer h)
      (λ r q says b. subst (IsFirstCause (RunCause call text)) (sym (becomes r q b)) (first_cause call text short r says)) from

  -- no cause and what is told of it, where it is answered
  pub record IsCalled (s : Status) (output : List ℕ) (made : List Compiled) : Type 0 where
    pub clear : Clear (RunCause call text) all_stages
    pub gives : GivesRun Tells text call s output made

  pub call_done : (answer : Result Told (Failure Refused)) (x : Told) (s : Status) (output : List ℕ) (made : List Compiled) → length text ≤ source_limit → answer ≡ Ok x
      → IfAnswered answer (answers.Answers Tells text call.fun call.items) → IsToldBy x.ran s output → made ≡ x.functions → IsCalled s output made
  call_done answer x s output made short is h told same =
      let done = says_done answer x is h in
      record {
        clear = cleared call text all_stages short done.clear;
        gives = record {
          ran = x.ran;
          gives = subst (λ (fs : List Compiled). answers.Gives Tells text call.fun (record { ran = x.ran; functions = fs })) (sym same) done.gives;
          told = told;
        };
      }

failed : (wish : Wanted) (text : List ℕ) (e : Failure Refusal) → IfRefused e (IsFirstCause (Cause (Some wish) text)) → IfAnswered {A = Reply} (Err e) (After (Some wish) text)
failed wish text (failure.Refused r) h = h
failed wish text failure.OutOfMemory h = tt

-- ---- of `exec`
pub exec_fails : (call : Called) (text : List ℕ) (Becomes : Refused → Refusal → Type 0) (answer : Result Told (Failure Refused)) (e : Failure Refusal) → length text ≤ source_limit
    → IfAnswered answer (answers.Answers (answers.Executes call.items call.fuel) text call.fun call.items) → ((r : Refused) (q : Refusal) → Becomes r q → q ≡ Exec r)
    → IfRefused e (ComesFrom Becomes answer) → IfAnswered {A = Reply} (Err e) (After (Some (exec call)) text)
exec_fails call text Becomes answer e short h becomes from =
    failed (exec call) text e (call_fails (answers.Executes call.items call.fuel) call text Becomes answer e short h becomes from)

pub exec_done : (call : Called) (text : List ℕ) (answer : Result Told (Failure Refused)) (x : Told) (s : Status) (output : List ℕ) (made : List Compiled) → length text ≤ source_limit → answer ≡ Ok x
    → IfAnswered answer (answers.Answers (answers.Executes call.items call.fuel) text call.fun call.items) → IsToldBy x.ran s output → made ≡ x.functions
    → IsDone (Some (exec call)) text s output made
exec_done call text answer x s output made short is h told same =
    let d = call_done (answers.Executes call.items call.fuel) call text answer x s output made short is h told same in
    record { command = exec call; is = refl; clear = d.clear; gives = d.gives }

-- ---- of `leak`
pub leak_fails : (call : Called) (text : List ℕ) (Becomes : Refused → Refusal → Type 0) (answer : Result Told (Failure Refused)) (e : Failure Refusal) → length text ≤ source_limit
    → IfAnswered answer (answers.Answers (answers.Leaks call.items call.fuel) text call.fun call.items) → ((r : Refused) (q : Refusal) → Becomes r q → q ≡ Exec r)
    → IfRefused e (ComesFrom Becomes answer) → IfAnswered {A = Reply} (Err e) (After (Some (leak call)) text)
leak_fails call text Becomes answer e short h becomes from =
    failed (leak call) text e (call_fails (answers.Leaks call.items call.fuel) call text Becomes answer e short h becomes from)

pub leak_done : (call : Called) (text : List ℕ) (answer : Result Told (Failure Refused)) (x : Told) (s : Status) (output : List ℕ) (made : List Compiled) → length text ≤ source_limit → answer ≡ Ok x
    → IfAnswered answer (answers.Answers (answers.Leaks call.items call.fuel) text call.fun call.items) → IsToldBy x.ran s output → made ≡ x.functions
    → IsDone (Some (leak call)) text s output made
leak_done call text answer x s output made short is h told same =
    let d = call_done (answers.Leaks call.items call.fuel) call text answer x s output made short is h told same in
    record { command = leak call; is = refl; clear = d.clear; gives = d.gives }
