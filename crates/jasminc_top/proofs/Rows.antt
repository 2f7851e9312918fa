-- The rows of the table of causes, from the whole meaning of a run.
use Rattle.std.proofs.Common.{◌≡◌, ◌⊎◌, ℕ, ◌<◌, ◌≤◌, inl, inr, List, [], refl, sym, ap, ◌∙◌, subst, arith, Option, Some, None}
use Rattle.std.specs.Prelude.{⊤, ◌≢◌}
use Rattle.jz_io.specs.Causes.{Rose}
use Rattle.jz_io.specs.Telling.{Telling, text_of}
use Rattle.jz_listing.specs.declared.compiled.Compiled.{Compiled}
use Rattle.jasminc_words.specs.Inputs.{Origin, of_file, of_seed, origin_of}
use Rattle.jasminc_words.specs.Wanted.{Wanted, compile, exec, interp, leak, disasm, check, ct, gen, selfrun}
use Rattle.jasminc_top.specs.declared.refusal.Status.{Status}
use Rattle.jasminc_top.specs.declared.refusal.Status.TheVariants as status
use Rattle.jasminc_top.specs.declared.refusal.Refusal.{Refusal}
use Rattle.jasminc_top.specs.declared.refusal.Refusal.TheVariants.{Usage, ReadFault, Interp, Disasm, Check, Ct, Compile, Exec}
use Rattle.jasminc_top.specs.Refusals.{status_of_refused, status_of_fault, status_of_unsafe, status_of_breached, status_of_uncompiled, status_of_uncalled, status_of, stage_of}
use Rattle.jasminc_top.specs.Told.{SourceTold}
use Rattle.jasminc_runs.specs.declared.telling.Ran.{Ran}
use Rattle.jasminc_runs.specs.declared.telling.Ran.TheVariants as ran
use Rattle.jasminc_interp.specs.declared.telling.Ran as source
use Rattle.jasminc_interp.specs.declared.telling.Ran.TheVariants as source_ran
use Rattle.jasminc_interp.specs.declared.refused.Refused.{Refused}
use Rattle.jasminc_interp.specs.declared.refused.Refused.TheVariants as refusing
use Rattle.jasminc_source.specs.declared.unread.Unread.TheVariants as unread
use Rattle.jasminc_interp.specs.Causes as interp_causes
use Rattle.jasminc_check.specs.declared.refused.Refused as checking
use Rattle.jasminc_check.specs.declared.refused.Refused.TheVariants as found
use Rattle.jasminc_check.specs.Causes as checks
use Rattle.jasminc_ct.specs.declared.refused.Refused as judging
use Rattle.jasminc_ct.specs.declared.refused.Refused.TheVariants as judged
use Rattle.jasminc_ct.specs.Causes as judgements
use Rattle.jasminc_selfrun.specs.CompileRefused as making
use Rattle.jasminc_selfrun.specs.CompileRefused.TheVariants as made
use Rattle.jasminc_selfrun.specs.Unmade.TheVariants as unmade
use Rattle.jasminc_selfrun.specs.CompileCauses as makings
use Rattle.jasminc_selfrun.specs.Refused as calling
use Rattle.jasminc_selfrun.specs.Refused.TheVariants as uncalled
use Rattle.jasminc_selfrun.specs.Causes as calls
use Rattle.jz_disasm_text.specs.declared.Fault.{Fault}
use Rattle.jz_disasm_text.specs.declared.Fault.TheVariants as fault
use Rattle.jasminc_top.specs.Answers.{Cause, HasInput, HasText, WasRead, IsDue, IsUsage, IsNoCommand, IsQuiet, IsToldBy, IsToldAs, IsResult, Gives}
use Rattle.jasminc_top.specs.Runs.{Run, Due, Runs, ReadsAll, Refuses, Completes, IsFree, IsGiven, IsEarlier, TellsInput, Tells, IsCaused, ComesOnly, IsTooLong}

run_bounded : (r : Refused) → interp_causes.stage_of r < 12
run_bounded (refusing.Unread (unread.Lex fault)) = omega arith
run_bounded (refusing.Unread (unread.Parse fault)) = omega arith
run_bounded (refusing.Unread (unread.Typing fault)) = omega arith
run_bounded (refusing.NoFunction name) = omega arith
run_bounded (refusing.Limit l) = omega arith
run_bounded refusing.Items = omega arith
run_bounded (refusing.Unmet pre) = omega arith

check_bounded : (r : checking.Refused) → checks.stage_of r < 12
check_bounded (found.Unread (unread.Lex fault)) = omega arith
check_bounded (found.Unread (unread.Parse fault)) = omega arith
check_bounded (found.Unread (unread.Typing fault)) = omega arith
check_bounded (found.Limit l) = omega arith
check_bounded (found.Alarm a) = omega arith

ct_bounded : (r : judging.Refused) → judgements.stage_of r < 12
ct_bounded (judged.Unread (unread.Lex fault)) = omega arith
ct_bounded (judged.Unread (unread.Parse fault)) = omega arith
ct_bounded (judged.Unread (unread.Typing fault)) = omega arith
ct_bounded (judged.Limit l) = omega arith
ct_bounded (judged.Breach b) = omega arith

compile_bounded : (r : making.Refused) → makings.stage_of r < 12
compile_bounded (made.Unread (unread.Lex fault)) = omega arith
compile_bounded (made.Unread (unread.Parse fault)) = omega arith
compile_bounded (made.Unread (unread.Typing fault)) = omega arith
compile_bounded (made.Limit l) = omega arith
compile_bounded (made.Alarm a) = omega arith
compile_bounded (made.Making (unmade.Frame name)) = omega arith
compile_bounded (made.Making (unmade.NoPlace w)) = omega arith

call_bounded : (r : calling.Refused) → calls.stage_of r < 12
call_bounded (uncalled.Compile r) = compile_bounded r
call_bounded (uncalled.NoFunction name) = omega arith
call_bounded uncalled.Items = omega arith
call_bounded (uncalled.Unmet pre) = omega arith

bounded : (r : Refusal) → stage_of r < 12
bounded Usage = omega arith
bounded (Interp r) = run_bounded r
bounded (Check r) = check_bounded r
bounded (Ct r) = ct_bounded r
bounded (Compile r) = compile_bounded r
bounded (Exec r) = call_bounded r
bounded _ = omega arith

same_text : (a b : List ℕ) (o : Option (List ℕ)) → o ≡ Some a → o ≡ Some b → a ≡ b
same_text a b o p q = cc

-- the text that was read is the text that is told
same_input : (o : Origin) (files : Option Telling) (text other : List ℕ) → HasInput o files text → TellsInput o files other → text ≡ other
same_input (of_file name) None text other h t = absurd t
same_input (of_file name) (Some told) text other h t = same_text text other (text_of told.texts name) h t
same_input (of_seed seed size) files text other h t = h ∙ sym t

same_told : (wish : Option Wanted) (files : Option Telling) (text other : List ℕ) → HasText wish files text → Tells wish files other → text ≡ other
same_told None files text other h t = h ∙ sym t
same_told (Some wish) files text other h t = same_input (origin_of wish) files text other h t

no_less : (a b : ℕ) → (b < a → ⊥) → a ≤ b
no_less a b h = grind arith

-- what is due by a text: no later cause than any that there is
due_refused : (wish : Option Wanted) (told : SourceTold) (s : Status) (output : List ℕ) (made : List Compiled)
    (d : IsDue wish told s output made) (r : Refusal) → Cause wish d.text r → IsEarlier wish d.text (stage_of r) s
due_refused wish told s output made d r c = elim d.answers [
  | inl x ↦ record {
    refusal = x.refusal;
    no_later = no_less _ _ (λ lt. x.first r lt c);
    cause = x.cause;
    status = x.status;
  }
  | inr x ↦ absurd (x.clear r (bounded r) c)
]

due_given : (wish : Option Wanted) (told : SourceTold) (s : Status) (output : List ℕ) (made : List Compiled)
    (d : IsDue wish told s output made) → ((r : Refusal) → Cause wish d.text r → ⊥) → IsGiven wish d.text s
due_given wish told s output made d none = elim d.answers [
  | inl x ↦ absurd (none x.refusal x.cause)
  | inr x ↦ record { command = x.command; is = x.is; output = output; made = made; gives = x.gives }
]

refused : (wish : Option Wanted) (told : SourceTold) (s : Status) (text : List ℕ) (made : List Compiled)
    → Due wish told s text made → Refuses wish told s
refused wish told status.ReadFault text made d other r t c = inl tt
refused wish told status.Memory text made d other r t c = inl tt
refused wish told status.WriteFault text made d other r t c = inl tt
refused wish told s text made d other r t c =
    let e = same_told wish told.files d.0.text other d.0.has t in
    let P : List ℕ → Type 0 = λ x. Cause wish x r in
    let Q : List ℕ → Type 0 = λ x. IsEarlier wish x (stage_of r) s in
    inr (subst Q e (due_refused wish told s text made d.0 r (subst P (sym e) c)))

given : (wish : Option Wanted) (told : SourceTold) (s : Status) (text : List ℕ) (made : List Compiled)
    → Due wish told s text made → Completes wish told s
given wish told status.ReadFault text made d other t none = inl tt
given wish told status.Memory text made d other t none = inl tt
given wish told status.WriteFault text made d other t none = inl tt
given wish told s text made d other t none =
    let e = same_told wish told.files d.0.text other d.0.has t in
    let P : List ℕ → Type 0 = λ x. (r : Refusal) → Cause wish x r → ⊥ in
    let Q : List ℕ → Type 0 = λ x. IsGiven wish x s in
    inr (subst Q e (due_given wish told s text made d.0 (subst P (sym e) none)))

pub run_refused : (run : Run) → Runs run → Refuses run.wish run.source run.done.status
run_refused run h = elim h.wrote [
  | inl x ↦ subst (λ (y : Status). Refuses run.wish run.source y) (sym x.0) (refused run.wish run.source h.due h.text h.made h.is_due)
  | inr x ↦ λ text r t c. inl (subst IsFree (sym x.0) tt)
]

pub run_completes : (run : Run) → Runs run → Completes run.wish run.source run.done.status
run_completes run h = elim h.wrote [
  | inl x ↦ subst (λ (y : Status). Completes run.wish run.source y) (sym x.0) (given run.wish run.source h.due h.text h.made h.is_due)
  | inr x ↦ λ text t none. inl (subst IsFree (sym x.0) tt)
]

-- ---- the status of a refusal comes only with its cause
-- a status of no refusal
abbrev IsOther : Status → Type 0
IsOther status.Ok = ⊤
IsOther status.OutOfFuel = ⊤
IsOther status.Stuck = ⊤
IsOther status.Memory = ⊤
IsOther status.WriteFault = ⊤
IsOther s = ⊥

no_other_run : (r : Refused) → IsOther (status_of_refused r) → ⊥
no_other_run (refusing.Unread (unread.Lex fault)) h = h
no_other_run (refusing.Unread (unread.Parse fault)) h = h
no_other_run (refusing.Unread (unread.Typing fault)) h = h
no_other_run (refusing.NoFunction name) h = h
no_other_run (refusing.Limit l) h = h
no_other_run refusing.Items h = h
no_other_run (refusing.Unmet pre) h = h

no_other_fault : (f : Fault) → IsOther (status_of_fault f) → ⊥
no_other_fault (fault.BadListing line) h = h
no_other_fault (fault.BadHex offset) h = h
no_other_fault (fault.Undecodable gap) h = h

no_other_check : (r : checking.Refused) → IsOther (status_of_unsafe r) → ⊥
no_other_check (found.Unread (unread.Lex fault)) h = h
no_other_check (found.Unread (unread.Parse fault)) h = h
no_other_check (found.Unread (unread.Typing fault)) h = h
no_other_check (found.Limit l) h = h
no_other_check (found.Alarm a) h = h

no_other_ct : (r : judging.Refused) → IsOther (status_of_breached r) → ⊥
no_other_ct (judged.Unread (unread.Lex fault)) h = h
no_other_ct (judged.Unread (unread.Parse fault)) h = h
no_other_ct (judged.Unread (unread.Typing fault)) h = h
no_other_ct (judged.Limit l) h = h
no_other_ct (judged.Breach b) h = h

no_other_compile : (r : making.Refused) → IsOther (status_of_uncompiled r) → ⊥
no_other_compile (made.Unread (unread.Lex fault)) h = h
no_other_compile (made.Unread (unread.Parse fault)) h = h
no_other_compile (made.Unread (unread.Typing fault)) h = h
no_other_compile (made.Limit l) h = h
no_other_compile (made.Alarm a) h = h
no_other_compile (made.Making (unmade.Frame name)) h = h
no_other_compile (made.Making (unmade.NoPlace w)) h = h

no_other_call : (r : calling.Refused) → IsOther (status_of_uncalled r) → ⊥
no_other_call (uncalled.Compile r) h = no_other_compile r h
no_other_call (uncalled.NoFunction name) h = h
no_other_call uncalled.Items h = h
no_other_call (uncalled.Unmet pre) h = h

no_other : (r : Refusal) → IsOther (status_of r) → ⊥
no_other Usage h = h
no_other (Interp r) h = no_other_run r h
no_other (Disasm f) h = no_other_fault f h
no_other (Check r) h = no_other_check r h
no_other (Ct r) h = no_other_ct r h
no_other (Compile r) h = no_other_compile r h
no_other (Exec r) h = no_other_call r h
no_other r h = h

pub never_refused : (r : Refusal) (s : Status) → IsOther s → s ≡ status_of r → ⊥
never_refused r s h e = no_other r (subst IsOther e h)

-- the words of a command and a fault of reading are no causes in a text
pub never_usage : (wish : Wanted) (text : List ℕ) → Cause (Some wish) text Usage → ⊥
never_usage (compile file) text c = c
never_usage (exec call) text c = c
never_usage (interp call) text c = c
never_usage (leak call) text c = c
never_usage (disasm file) text c = c
never_usage (check file) text c = c
never_usage (ct file) text c = c
never_usage (gen seed size) text c = c
never_usage (selfrun seed size fuel) text c = c

pub never_read_fault : (wish : Option Wanted) (text : List ℕ) → Cause wish text ReadFault → ⊥
never_read_fault None text c = cc
never_read_fault (Some (compile file)) text c = c
never_read_fault (Some (exec call)) text c = c
never_read_fault (Some (interp call)) text c = c
never_read_fault (Some (leak call)) text c = c
never_read_fault (Some (disasm file)) text c = c
never_read_fault (Some (check file)) text c = c
never_read_fault (Some (ct file)) text c = c
never_read_fault (Some (gen seed size)) text c = c
never_read_fault (Some (selfrun seed size fuel)) text c = c

usage_caused : (wish : Option Wanted) (text : List ℕ) → Cause wish text Usage → wish ≡ None
usage_caused None text c = refl
usage_caused (Some wish) text c = absurd (never_usage wish text c)

caused : (wish : Option Wanted) (told : SourceTold) (text : List ℕ) (r : Refusal) → HasText wish told.files text → Cause wish text r → IsCaused wish told r
caused wish told text Usage h c = usage_caused wish text c
caused wish told text ReadFault h c = absurd (never_read_fault wish text c)
caused wish told text r h c = (text, h, c)

-- what a command gives has a status of its own
told_result : (ran : Ran) (s : Status) (output : List ℕ) → IsToldBy ran s output → IsResult s
told_result (ran.Ended text) s output t = subst IsResult (sym t.0) tt
told_result (ran.Cut text) s output t = subst IsResult (sym t.0) tt

outcome_result : (x : source.Ran) (s : Status) (output : List ℕ) → IsToldAs x s output → IsResult s
outcome_result (source_ran.Ended text) s output t = subst IsResult (sym t.0) tt
outcome_result (source_ran.Cut text) s output t = subst IsResult (sym t.0) tt
outcome_result (source_ran.Stuck text) s output t = subst IsResult (sym t.0) tt

pub gives_result : (wish : Wanted) (text : List ℕ) (s : Status) (output : List ℕ) (made : List Compiled) → Gives wish text s output made → IsResult s
gives_result (compile file) text s output made g = subst IsResult (sym g.ok) tt
gives_result (exec call) text s output made g = told_result g.ran s output g.told
gives_result (interp call) text s output made g = outcome_result g.ran s output g.told
gives_result (leak call) text s output made g = told_result g.ran s output g.told
gives_result (disasm file) text s output made g = subst IsResult (sym g.ok) tt
gives_result (check file) text s output made g = subst IsResult (sym g.ok) tt
gives_result (ct file) text s output made g = subst IsResult (sym g.ok) tt
gives_result (gen seed size) text s output made g = subst IsResult (sym g.ok) tt
gives_result (selfrun seed size fuel) text s output made g = told_result g.ran s output g.told

pub result_other : (s : Status) → IsResult s → IsOther s
result_other status.Ok r = tt
result_other status.OutOfFuel r = tt
result_other status.Stuck r = tt
result_other s r = absurd r

due_comes : (wish : Option Wanted) (told : SourceTold) (s : Status) (output : List ℕ) (made : List Compiled) (r : Refusal)
    → IsDue wish told s output made → s ≡ status_of r → ComesOnly wish told s
due_comes wish told s output made r d e = elim d.answers [
  | inl x ↦ record { refusal = x.refusal; status = x.status; cause = caused wish told d.text x.refusal d.has x.cause }
  | inr x ↦ absurd (never_refused r s (result_other s (gives_result x.command d.text s output made x.gives)) e)
]

comes : (wish : Option Wanted) (told : SourceTold) (s : Status) (text : List ℕ) (made : List Compiled) (r : Refusal)
    → Due wish told s text made → s ≡ status_of r → ComesOnly wish told s
comes wish told status.ReadFault text made r d e = record { refusal = ReadFault; status = refl; cause = d.2 }
comes wish told status.Memory text made r d e = absurd (never_refused r status.Memory tt e)
comes wish told status.WriteFault text made r d e = absurd d
comes wish told s text made r d e = due_comes wish told s text made r d.0 e

pub run_comes : (run : Run) → Runs run → (r : Refusal) → run.done.status ≡ status_of r → ComesOnly run.wish run.source run.done.status
run_comes run h r e = elim h.wrote [
  | inl x ↦ subst (λ (y : Status). ComesOnly run.wish run.source y) (sym x.0) (comes run.wish run.source h.due h.text h.made r h.is_due (sym x.0 ∙ e))
  | inr x ↦ absurd (never_refused r status.WriteFault tt (sym x.0 ∙ e))
]

-- a write fault has its cause
never_due_write_fault : (wish : Option Wanted) (told : SourceTold) (s : Status) (text : List ℕ) (made : List Compiled)
    → Due wish told s text made → s ≡ status.WriteFault → ⊥
never_due_write_fault wish told s text made d e = subst (λ (y : Status). Due wish told y text made) e d

pub run_write_fault : (run : Run) → Runs run → run.done.status ≡ status.WriteFault → Rose run.sink.faults run.sink.faults_after
run_write_fault run h e = elim h.wrote [
  | inl x ↦ absurd (never_due_write_fault run.wish run.source h.due h.text h.made h.is_due (sym x.0 ∙ e))
  | inr x ↦ x.3
]

-- ---- what was read
-- words that are no command are refused as such
usage_alone : (r : Refusal) (s : Status) → IsUsage r → s ≡ status_of r → s ≡ status.Usage
usage_alone r s c e = e ∙ ap status_of c

no_command : (wish : Option Wanted) (told : SourceTold) (s : Status) (output : List ℕ) (made : List Compiled) → IsDue wish told s output made → IsNoCommand wish → s ≡ status.Usage
no_command None told s output made d none = elim d.answers [
  | inl x ↦ usage_alone x.refusal s x.cause x.status
  | inr x ↦ let e : None ≡ Some x.command = x.is in cc
]
no_command (Some wish) told s output made d none = absurd none

due_read : (wish : Option Wanted) (told : SourceTold) (s : Status) (output : List ℕ) (made : List Compiled) → IsDue wish told s output made → (s ≡ status.Usage → ⊥)
    → WasRead wish told ⊎ IsTooLong wish told
due_read wish told s output made d other = elim d.read [
  | inl was ↦ inl was
  | inr (inl none) ↦ absurd (other (no_command wish told s output made d none))
  | inr (inr long) ↦ inr (d.text, d.has, long)
]

read : (wish : Option Wanted) (told : SourceTold) (s : Status) (text : List ℕ) (made : List Compiled) → Due wish told s text made → ReadsAll wish told s
read wish told status.Usage text made d = tt
read wish told status.ReadFault text made d = tt
read wish told status.WriteFault text made d = tt
read wish told status.Memory text made d = tt
read wish told s text made d = due_read wish told s text made d.0 (λ e. cc)

pub run_reads : (run : Run) → Runs run → ReadsAll run.wish run.source run.done.status
run_reads run h = elim h.wrote [
  | inl x ↦ subst (λ (y : Status). ReadsAll run.wish run.source y) (sym x.0) (read run.wish run.source h.due h.text h.made h.is_due)
  | inr x ↦ subst (λ (y : Status). ReadsAll run.wish run.source y) (sym x.0) tt
]

-- ---- the counts of faults
due_quiet : (wish : Option Wanted) (told : SourceTold) (s : Status) (text : List ℕ) (made : List Compiled) → Due wish told s text made → IsFree s ⊎ IsQuiet told
due_quiet wish told status.ReadFault text made d = inl tt
due_quiet wish told status.Memory text made d = inl tt
due_quiet wish told status.WriteFault text made d = inl tt
due_quiet wish told s text made d = inr d.1

pub run_source_quiet : (run : Run) → Runs run → IsFree run.done.status ⊎ IsQuiet run.source
run_source_quiet run h = elim h.wrote [
  | inl x ↦ subst (λ (y : Status). IsFree y ⊎ IsQuiet run.source) (sym x.0) (due_quiet run.wish run.source h.due h.text h.made h.is_due)
  | inr x ↦ inl (subst IsFree (sym x.0) tt)
]

pub run_sink_quiet : (run : Run) → Runs run → (run.done.status ≡ status.WriteFault) ⊎ (run.sink.faults_after ≡ run.sink.faults)
run_sink_quiet run h = elim h.wrote [
  | inl x ↦ inr x.3
  | inr x ↦ inl x.0
]

-- ---- what was made
run_made_at : (x : Ran) (s : Status) (output : List ℕ) → (s ≡ status.Ok → ⊥) → (s ≡ status.OutOfFuel → ⊥) → IsToldBy x s output → ⊥
run_made_at (ran.Ended text) s output ok cut t = ok t.0
run_made_at (ran.Cut text) s output ok cut t = cut t.0

gives_none : (wish : Wanted) (text : List ℕ) (s : Status) (output : List ℕ) (made : List Compiled) → (s ≡ status.Ok → ⊥) → (s ≡ status.OutOfFuel → ⊥)
    → Gives wish text s output made → made ≡ []
gives_none (compile file) text s output made ok cut g = absurd (ok g.ok)
gives_none (exec call) text s output made ok cut g = absurd (run_made_at g.ran s output ok cut g.told)
gives_none (interp call) text s output made ok cut g = g.none
gives_none (leak call) text s output made ok cut g = absurd (run_made_at g.ran s output ok cut g.told)
gives_none (disasm file) text s output made ok cut g = g.none
gives_none (check file) text s output made ok cut g = g.none
gives_none (ct file) text s output made ok cut g = g.none
gives_none (gen seed size) text s output made ok cut g = g.none
gives_none (selfrun seed size fuel) text s output made ok cut g = absurd (run_made_at g.ran s output ok cut g.told)

due_made : (wish : Option Wanted) (told : SourceTold) (s : Status) (output : List ℕ) (made : List Compiled) → IsDue wish told s output made
    → (s ≡ status.Ok → ⊥) → (s ≡ status.OutOfFuel → ⊥) → made ≡ []
due_made wish told s output made d ok cut = elim d.answers [
  | inl x ↦ x.none
  | inr x ↦ gives_none x.command d.text s output made ok cut x.gives
]

none_made : (wish : Option Wanted) (told : SourceTold) (s : Status) (text : List ℕ) (made : List Compiled) → Due wish told s text made
    → (s ≡ status.Ok → ⊥) → (s ≡ status.OutOfFuel → ⊥) → made ≡ []
none_made wish told status.ReadFault text made d ok cut = d.1
none_made wish told status.Memory text made d ok cut = d.1
none_made wish told status.WriteFault text made d ok cut = absurd d
none_made wish told s text made d ok cut = due_made wish told s text made d.0 ok cut

pub run_made : (run : Run) → Runs run → run.done.status ≢ status.Ok → run.done.status ≢ status.OutOfFuel → run.done.made ≡ []
run_made run h ok cut = elim h.wrote [
  | inl x ↦ x.1 ∙ none_made run.wish run.source h.due h.text h.made h.is_due (λ e. ok (x.0 ∙ e)) (λ e. cut (x.0 ∙ e))
  | inr x ↦ x.1
]
