-- Which cause of a disassembly is the first, and when none stands.
use Rattle.std.proofs.Common.{◌≡◌, ℕ, ◌<◌, ◌≤◌, List, [], length, arith, Some, refl, sym, subst}
use Rattle.std.specs.Prelude.{Result, Ok, Err, IfErr}
use Rattle.jz_tree.specs.Failure.{Failure}
use Rattle.jz_tree.specs.Failure.TheVariants as failure
use Rattle.jz_tree.specs.Failures.{IfRefused, IfAnswered}
use Rattle.jz_listing.specs.declared.compiled.Compiled.{Compiled}
use Rattle.jasminc_words.specs.Wanted.{disasm}
use Rattle.jz_disasm_text.specs.declared.Fault.{Fault}
use Rattle.jz_disasm_text.specs.Shown.{FailsAs, Shows}
use Rattle.jz_disasm_text.proofs.OneAnswer.{one_answer}
use Rattle.jasminc_top.specs.declared.refusal.Status.TheVariants as status
use Rattle.jasminc_top.specs.declared.refusal.Refusal.{Refusal}
use Rattle.jasminc_top.specs.declared.refusal.Refusal.TheVariants.{Usage, ReadFault, Source, Interp, Disasm, Check, Ct, Compile, Exec}
use Rattle.jasminc_top.specs.declared.answer.Reply.{Reply}
use Rattle.jasminc_top.specs.Refusals.{all_stages}
use Rattle.jasminc_source.specs.Stage.{ComesFrom}
use Rattle.jasminc_top.specs.Answers.{source_limit, DisasmCause, Clear, IsFirstCause, IsDone, After}
use Rattle.jasminc_source.proofs.Stopping.{stage_refuses}

cleared : (text : List ℕ) (n : ℕ) → length text ≤ source_limit → ((f : Fault) → 2 < n → FailsAs text f → ⊥) → Clear (DisasmCause text) n
cleared text n short clear Usage lt c = c
cleared text n short clear ReadFault lt c = c
cleared text n short clear Source lt c = absurd (omega (arith, short, c))
cleared text n short clear (Interp r) lt c = c
cleared text n short clear (Disasm f) lt c = clear f lt c
cleared text n short clear (Check r) lt c = c
cleared text n short clear (Ct r) lt c = c
cleared text n short clear (Compile r) lt c = c
cleared text n short clear (Exec r) lt c = c

first_cause : (text : List ℕ) (f : Fault) → length text ≤ source_limit → FailsAs text f → IsFirstCause (DisasmCause text) (Disasm f)
first_cause text f short h = record { cause = h; first = cleared text 2 short (λ g lt c. absurd (omega (arith, lt))) }

-- ---- the answer of the stages
says_fault : (text : List ℕ) (answer : Result (List ℕ) (Failure Fault)) → IfAnswered answer (Shows text) → IfErr answer (λ d. IfRefused d (FailsAs text))
says_fault text (Ok x) h = tt
says_fault text (Err (failure.Refused f)) h = h
says_fault text (Err failure.OutOfMemory) h = tt

says_shown : (text : List ℕ) (answer : Result (List ℕ) (Failure Fault)) (out : List ℕ) → answer ≡ Ok out → IfAnswered answer (Shows text) → Shows text (Ok out)
says_shown text answer out is h = subst (λ (a : Result (List ℕ) (Failure Fault)). IfAnswered a (Shows text)) is h

failed : (file text : List ℕ) (e : Failure Refusal) → IfRefused e (IsFirstCause (DisasmCause text)) → IfAnswered {A = Reply} (Err e) (After (Some (disasm file)) text)
failed file text (failure.Refused r) h = h
failed file text failure.OutOfMemory h = tt

pub disasm_fails : (file text : List ℕ) (Becomes : Fault → Refusal → Type 0) (answer : Result (List ℕ) (Failure Fault)) (e : Failure Refusal) → length text ≤ source_limit
    → IfAnswered answer (Shows text) → ((f : Fault) (r : Refusal) → Becomes f r → r ≡ Disasm f) → IfRefused e (ComesFrom Becomes answer)
    → IfAnswered {A = Reply} (Err e) (After (Some (disasm file)) text)
disasm_fails file text Becomes answer e short h becomes from =
    failed file text e
    (stage_refuses (FailsAs text) Becomes (IsFirstCause (DisasmCause text)) answer e (says_fault text answer h)
    (λ f r says b. subst (IsFirstCause (DisasmCause text)) (sym (becomes f r b)) (first_cause text f short says)) from)

shown_or_fault : (text out : List ℕ) (f : Fault) → Shows text (Ok out) → FailsAs text f → ⊥
shown_or_fault text out f a b = let e : Ok out ≡ Err f = one_answer text (Ok out) (Err f) a b in cc

pub disasm_done : (file text : List ℕ) (answer : Result (List ℕ) (Failure Fault)) (out : List ℕ) (made : List Compiled) → length text ≤ source_limit → answer ≡ Ok out
    → IfAnswered answer (Shows text) → made ≡ [] → IsDone (Some (disasm file)) text status.Ok out made
disasm_done file text answer out made short is h none =
    let shows = says_shown text answer out is h in
    record {
      command = disasm file;
      is = refl;
      clear = cleared text all_stages short (λ f lt c. shown_or_fault text out f shows c);
      gives = record { shows = shows; ok = refl; none = none };
    }
