-- Which cause of `selfrun` is the first, and when none stands; and what a command reads.
use Rattle.std.proofs.Common.{◌≡◌, ℕ, ◌≤◌, List, Some, refl, sym, subst}
use Rattle.std.specs.Prelude.{Result, Ok, Err, IfErr}
use Rattle.jz_tree.specs.Failure.{Failure}
use Rattle.jz_tree.specs.Failure.TheVariants as failure
use Rattle.jz_tree.specs.Failures.{IfRefused, IfAnswered}
use Rattle.jz_listing.specs.declared.compiled.Compiled.{Compiled}
use Rattle.jasminc_words.specs.Wanted.{Wanted, compile, exec, interp, leak, disasm, check, ct, gen, selfrun, HasNumbers}
use Rattle.jasminc_words.specs.Inputs.{of_seed, origin_of}
use Rattle.jasminc_source.specs.Stage.{ComesFrom}
use Rattle.jasminc_source.proofs.Stopping.{stage_refuses}
use Rattle.jasminc_selfrun.specs.Causes as causes
use Rattle.jasminc_selfrun.specs.Answers as answers
use Rattle.jasminc_selfrun.specs.Refused.{Refused}
use Rattle.jasminc_selfrun.specs.Told.{Told}
use Rattle.jasminc_selfrun.specs.Calling.{main_name, main_items, SumsUpProgram}
use Rattle.jasminc_top.specs.declared.refusal.Status.{Status}
use Rattle.jasminc_top.specs.declared.refusal.Refusal.{Refusal}
use Rattle.jasminc_top.specs.declared.refusal.Refusal.TheVariants.{Usage, ReadFault, Source, Interp, Disasm, Check, Ct, Compile, Exec}
use Rattle.jasminc_top.specs.declared.answer.Reply.{Reply}
use Rattle.jasminc_top.specs.Refusals.{all_stages}
use Rattle.jasminc_top.specs.Answers.{SelfrunCause, Clear, IsFirstCause, IsToldBy, IsDone, After}

-- ---- a size is within its limit
pub few_statements : (wish : Wanted) (seed size : ℕ) → HasNumbers wish → of_seed seed size ≡ origin_of wish → size ≤ 30000
few_statements (compile name) seed size h e = cc
few_statements (exec call) seed size h e = cc
few_statements (interp call) seed size h e = cc
few_statements (leak call) seed size h e = cc
few_statements (disasm name) seed size h e = cc
few_statements (check name) seed size h e = cc
few_statements (ct name) seed size h e = cc
few_statements (gen a b) seed size h e = let same : b ≡ size = cc in subst (λ n. n ≤ 30000) same h.1
few_statements (selfrun a b fuel) seed size h e = let same : b ≡ size = cc in subst (λ n. n ≤ 30000) same h.1

-- ---- causes
cleared : (text : List ℕ) (n : ℕ) → causes.Clear text main_name main_items n → Clear (SelfrunCause text) n
cleared text n clear Usage lt c = c
cleared text n clear ReadFault lt c = c
cleared text n clear Source lt c = c
cleared text n clear (Interp r) lt c = c
cleared text n clear (Disasm f) lt c = c
cleared text n clear (Check r) lt c = c
cleared text n clear (Ct r) lt c = c
cleared text n clear (Compile r) lt c = c
cleared text n clear (Exec r) lt c = clear r lt c

first_cause : (text : List ℕ) (r : Refused) → causes.IsFirstCause text main_name main_items r → IsFirstCause (SelfrunCause text) (Exec r)
first_cause text r h = record { cause = h.cause; first = cleared text (causes.stage_of r) h.first }

-- ---- the answer of the stages
module _ (seed size fuel : ℕ) (text : List ℕ) (answer : Result Told (Failure Refused))
    (h : IfAnswered answer (answers.Answers (SumsUpProgram seed size main_items fuel) text main_name main_items)) where
  says_refused : IfErr answer (λ d. IfRefused d (causes.IsFirstCause text main_name main_items))
  says_refused = by answer h
    where
      by : (a : Result Told (Failure Refused)) → IfAnswered a (answers.Answers (SumsUpProgram seed size main_items fuel) text main_name main_items)
          → IfErr a (λ d. IfRefused d (causes.IsFirstCause text main_name main_items))
      by (Ok x) k = tt
      by (Err (failure.Refused r)) k = k
      by (Err failure.OutOfMemory) k = tt

  failed : (e : Failure Refusal) → IfRefused e (IsFirstCause (SelfrunCause text)) → IfAnswered {A = Reply} (Err e) (After (Some (selfrun seed size fuel)) text)
  failed (failure.Refused r) k = k
  failed failure.OutOfMemory k = tt

  pub selfrun_fails : (Becomes : Refused → Refusal → Type 0) (e : Failure Refusal) → ((r : Refused) (q : Refusal) → Becomes r q → q ≡ Exec r) → IfRefused e (ComesFrom Becomes answer)
      → IfAnswered {A = Reply} (Err e) (After (Some (selfrun seed size fuel)) text)
  selfrun_fails Becomes e becomes from =
      failed e
      (stage_refuses (causes.IsFirstCause text main_name main_items) Becomes (IsFirstCause (SelfrunCause text)) answer e says_refused
      (λ r q says b. subst (IsFirstCause (SelfrunCause text)) (sym (becomes r q b)) (first_cause text r says)) from)

  pub selfrun_done : (x : Told) (s : Status) (output : List ℕ) (made : List Compiled) → answer ≡ Ok x → IsToldBy x.ran s output → made ≡ x.functions
      → IsDone (Some (selfrun seed size fuel)) text s output made
  selfrun_done x s output made is told same =
      let done = subst (λ (a : Result Told (Failure Refused)). IfAnswered a (answers.Answers (SumsUpProgram seed size main_items fuel) text main_name main_items)) is h in
      record {
        command = selfrun seed size fuel;
        is = refl;
        clear = cleared text all_stages done.clear;
        gives = record {
          ran = x.ran;
          gives = subst (λ (fs : List Compiled). answers.Gives (SumsUpProgram seed size main_items fuel) text main_name (record { ran = x.ran; functions = fs })) (sym same) done.gives;
          told = told;
        };
      }
