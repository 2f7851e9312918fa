-- Which cause of `compile` is the first, and when none stands.
use Rattle.std.proofs.Common.{◌≡◌, ℕ, ◌<◌, ◌≤◌, List, length, arith, Some, refl, sym, subst}
use Rattle.std.specs.Prelude.{Result, Ok, Err, IfErr}
use Rattle.jz_tree.specs.Failure.{Failure}
use Rattle.jz_tree.specs.Failure.TheVariants as failure
use Rattle.jz_tree.specs.Failures.{IfRefused, IfAnswered}
use Rattle.jasminc_words.specs.Wanted.{compile}
use Rattle.jasminc_selfrun.specs.CompileRefused.{Refused}
use Rattle.jasminc_selfrun.specs.CompileRefused.TheVariants as refused
use Rattle.jasminc_selfrun.specs.Unmade.TheVariants as unmade
use Rattle.jasminc_selfrun.specs.Compilation.{Compilation}
use Rattle.jasminc_source.specs.declared.unread.Unread.TheVariants as unread
use Rattle.jasminc_selfrun.specs.CompileCauses as causes
use Rattle.jasminc_selfrun.specs.CompileAnswers as answers
use Rattle.jasminc_top.specs.declared.refusal.Status.TheVariants as status
use Rattle.jasminc_top.specs.declared.refusal.Refusal.{Refusal}
use Rattle.jasminc_top.specs.declared.refusal.Refusal.TheVariants.{Usage, ReadFault, Source, Interp, Disasm, Check, Ct, Compile, Exec}
use Rattle.jasminc_top.specs.declared.answer.Reply.{Reply}
use Rattle.jasminc_top.specs.Refusals.{all_stages}
use Rattle.jasminc_source.specs.Stage.{ComesFrom}
use Rattle.jasminc_top.specs.Answers.{source_limit, CompileCause, Clear, IsFirstCause, IsDone, After}
use Rattle.jasminc_source.proofs.Stopping.{stage_refuses}

cleared : (text : List ℕ) (n : ℕ) → length text ≤ source_limit → causes.Clear text n → Clear (CompileCause text) n
cleared text n short clear Usage lt c = c
cleared text n short clear ReadFault lt c = c
cleared text n short clear Source lt c = absurd (omega (arith, short, c))
cleared text n short clear (Interp r) lt c = c
cleared text n short clear (Disasm f) lt c = c
cleared text n short clear (Check r) lt c = c
cleared text n short clear (Ct r) lt c = c
cleared text n short clear (Compile r) lt c = clear r lt c
cleared text n short clear (Exec r) lt c = c

-- each cause is among the stages
early : (r : Refused) → causes.stage_of r < answers.all_stages
early (refused.Unread (unread.Lex fault)) = omega arith
early (refused.Unread (unread.Parse fault)) = omega arith
early (refused.Unread (unread.Typing fault)) = omega arith
early (refused.Limit l) = omega arith
early (refused.Alarm a) = omega arith
early (refused.Making (unmade.Frame name)) = omega arith
early (refused.Making (unmade.NoPlace w)) = omega arith

all_cleared : (text : List ℕ) → causes.Clear text answers.all_stages → causes.Clear text all_stages
all_cleared text clear r lt c = clear r (early r) c

first_cause : (text : List ℕ) → length text ≤ source_limit → (r : Refused) → causes.IsFirstCause text r → IsFirstCause (CompileCause text) (Compile r)
first_cause text short r h = record { cause = h.cause; first = cleared text (causes.stage_of r) short h.first }

-- ---- the answer of the stages
says_refused : (text : List ℕ) (answer : Result Compilation (Failure Refused)) → IfAnswered answer (answers.Answers text) → IfErr answer (λ d. IfRefused d (causes.IsFirstCause text))
says_refused text (Ok x) h = tt
says_refused text (Err (failure.Refused r)) h = h
says_refused text (Err failure.OutOfMemory) h = tt

says_done : (text : List ℕ) (answer : Result Compilation (Failure Refused)) (out : Compilation) → answer ≡ Ok out → IfAnswered answer (answers.Answers text) → answers.IsDone text out
says_done text answer out is h = subst (λ (a : Result Compilation (Failure Refused)). IfAnswered a (answers.Answers text)) is h

failed : (file text : List ℕ) (e : Failure Refusal) → IfRefused e (IsFirstCause (CompileCause text)) → IfAnswered {A = Reply} (Err e) (After (Some (compile file)) text)
failed file text (failure.Refused r) h = h
failed file text failure.OutOfMemory h = tt

pub compile_fails : (file text : List ℕ) (Becomes : Refused → Refusal → Type 0) (answer : Result Compilation (Failure Refused)) (e : Failure Refusal) → length text ≤ source_limit
    → IfAnswered answer (answers.Answers text) → ((r : Refused) (q : Refusal) → Becomes r q → q ≡ Compile r) → IfRefused e (ComesFrom Becomes answer)
    → IfAnswered {A = Reply} (Err e) (After (Some (compile file)) text)
compile_fails file text Becomes answer e short h becomes from =
    failed file text e
    (stage_refuses (causes.IsFirstCause text) Becomes (IsFirstCause (CompileCause text)) answer e (says_refused text answer h)
    (λ r q says b. subst (IsFirstCause (CompileCause text)) (sym (becomes r q b)) (first_cause text short r says)) from)

pub compile_done : (file text : List ℕ) (answer : Result Compilation (Failure Refused)) (out : Compilation) → length text ≤ source_limit → answer ≡ Ok out
    → IfAnswered answer (answers.Answers text) → IsDone (Some (compile file)) text status.Ok out.listing out.functions
compile_done file text answer out short is h =
    let done = says_done text answer out is h in
    record {
      command = compile file;
      is = refl;
      clear = cleared text all_stages short (all_cleared text done.clear);
      gives = record { gives = done.gives; ok = refl };
    }
