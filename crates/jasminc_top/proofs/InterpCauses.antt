-- Which cause of a run of the source is the first, and when none stands.
use Rattle.std.proofs.Common.{◌≡◌, ℕ, ◌≤◌, List, [], length, arith, Some, refl, sym, subst}
use Rattle.std.specs.Prelude.{Result, Ok, Err, IfErr}
use Rattle.jz_tree.specs.Failure.{Failure}
use Rattle.jz_tree.specs.Failure.TheVariants as failure
use Rattle.jz_tree.specs.Failures.{IfRefused, IfAnswered}
use Rattle.jz_listing.specs.declared.compiled.Compiled.{Compiled}
use Rattle.jasminc_words.specs.Wanted.{Called, interp}
use Rattle.jasminc_interp.specs.Causes as runs
use Rattle.jasminc_interp.specs.Answers as answers
use Rattle.jasminc_interp.specs.declared.refused.Refused.{Refused}
use Rattle.jasminc_interp.specs.declared.telling.Ran as source
use Rattle.jasminc_top.specs.declared.refusal.Status.{Status}
use Rattle.jasminc_top.specs.declared.refusal.Refusal.{Refusal}
use Rattle.jasminc_top.specs.declared.refusal.Refusal.TheVariants.{Usage, ReadFault, Source, Interp, Disasm, Check, Ct, Compile, Exec}
use Rattle.jasminc_top.specs.declared.answer.Reply.{Reply}
use Rattle.jasminc_top.specs.Refusals.{all_stages}
use Rattle.jasminc_source.specs.Stage.{ComesFrom}
use Rattle.jasminc_top.specs.Answers.{source_limit, InterpCause, Clear, IsFirstCause, IsToldAs, IsDone, After}
use Rattle.jasminc_source.proofs.Stopping.{stage_refuses}

cleared : (call : Called) (text : List ℕ) (n : ℕ) → length text ≤ source_limit → runs.Clear text call.fun call.items n → Clear (InterpCause call text) n
cleared call text n short clear Usage lt c = c
cleared call text n short clear ReadFault lt c = c
cleared call text n short clear Source lt c = absurd (omega (arith, short, c))
cleared call text n short clear (Interp r) lt c = clear r lt c
cleared call text n short clear (Disasm f) lt c = c
cleared call text n short clear (Check r) lt c = c
cleared call text n short clear (Ct r) lt c = c
cleared call text n short clear (Compile r) lt c = c
cleared call text n short clear (Exec r) lt c = c

first_cause : (call : Called) (text : List ℕ) → length text ≤ source_limit → (r : Refused) → runs.IsFirstCause text call.fun call.items r
    → IsFirstCause (InterpCause call text) (Interp r)
first_cause call text short r h = record { cause = h.cause; first = cleared call text (runs.stage_of r) short h.first }

-- ---- the answer of the stages
pub says_refused : (call : Called) (text : List ℕ) (answer : Result source.Ran (Failure Refused)) → IfAnswered answer (answers.Answers text call.fun call.items call.fuel)
    → IfErr answer (λ d. IfRefused d (runs.IsFirstCause text call.fun call.items))
says_refused call text (Ok x) h = tt
says_refused call text (Err (failure.Refused r)) h = h
says_refused call text (Err failure.OutOfMemory) h = tt

pub says_done : (call : Called) (text : List ℕ) (answer : Result source.Ran (Failure Refused)) (x : source.Ran) → answer ≡ Ok x
    → IfAnswered answer (answers.Answers text call.fun call.items call.fuel) → answers.IsDone text call.fun call.items call.fuel x
says_done call text answer x is h = subst (λ (a : Result source.Ran (Failure Refused)). IfAnswered a (answers.Answers text call.fun call.items call.fuel)) is h

failed : (call : Called) (text : List ℕ) (e : Failure Refusal) → IfRefused e (IsFirstCause (InterpCause call text)) → IfAnswered {A = Reply} (Err e) (After (Some (interp call)) text)
failed call text (failure.Refused r) h = h
failed call text failure.OutOfMemory h = tt

pub interp_fails : (call : Called) (text : List ℕ) (Becomes : Refused → Refusal → Type 0) (answer : Result source.Ran (Failure Refused)) (e : Failure Refusal) → length text ≤ source_limit
    → IfAnswered answer (answers.Answers text call.fun call.items call.fuel) → ((r : Refused) (q : Refusal) → Becomes r q → q ≡ Interp r)
    → IfRefused e (ComesFrom Becomes answer) → IfAnswered {A = Reply} (Err e) (After (Some (interp call)) text)
interp_fails call text Becomes answer e short h becomes from =
    failed call text e
    (stage_refuses (runs.IsFirstCause text call.fun call.items) Becomes (IsFirstCause (InterpCause call text)) answer e (says_refused call text answer h)
    (λ r q says b. subst (IsFirstCause (InterpCause call text)) (sym (becomes r q b)) (first_cause call text short r says)) from)

pub interp_done : (call : Called) (text : List ℕ) (x : source.Ran) (s : Status) (output : List ℕ) (made : List Compiled) → length text ≤ source_limit
    → answers.IsDone text call.fun call.items call.fuel x → IsToldAs x s output → made ≡ [] → IsDone (Some (interp call)) text s output made
interp_done call text x s output made short h told none = record {
  command = interp call;
  is = refl;
  clear = cleared call text all_stages short h.clear;
  gives = record { ran = x; gives = h.gives; told = told; none = none };
}
