-- What the answer of all stages is, and what is due by it.
use Rattle.std.proofs.Common.{◌≡◌, ℕ, ◌<◌, ◌≤◌, List, [], length, refl, subst, arith, inl, inr, Option, Some, None}
use Rattle.std.specs.Prelude.{Result, Ok, Err, codes}
use Rattle.jz_tree.specs.Failure.{Failure}
use Rattle.jz_tree.specs.Failure.TheVariants as failure
use Rattle.jz_tree.specs.Failures.{IfRefused, IfAnswered}
use Rattle.jz_listing.specs.declared.compiled.Compiled.{Compiled}
use Rattle.jasminc_top.specs.declared.answer.Reply.{Reply}
use Rattle.jasminc_top.specs.declared.refusal.Status.{Status}
use Rattle.jasminc_top.specs.declared.refusal.Status.TheVariants as status
use Rattle.jasminc_top.specs.declared.refusal.Refusal.{Refusal}
use Rattle.jasminc_top.specs.declared.refusal.Refusal.TheVariants.{Usage, ReadFault, Source, Interp, Disasm, Check, Ct, Compile, Exec}
use Rattle.jasminc_words.specs.Inputs.{Origin, of_file, of_seed, origin_of}
use Rattle.jasminc_words.specs.Wanted.{Wanted, compile, exec, interp, leak, disasm, check, ct, gen, selfrun}
use Rattle.jasminc_interp.specs.declared.refused.Refused.{Refused}
use Rattle.jasminc_interp.specs.declared.refused.Refused.TheVariants as refused
use Rattle.jasminc_source.specs.declared.unread.Unread.TheVariants as unread
use Rattle.jasminc_interp.specs.Causes as interp_causes
use Rattle.jasminc_check.specs.declared.refused.Refused as checking
use Rattle.jasminc_check.specs.declared.refused.Refused.TheVariants as found
use Rattle.jasminc_check.specs.Causes as checks
use Rattle.jasminc_ct.specs.declared.refused.Refused as judging
use Rattle.jasminc_ct.specs.declared.refused.Refused.TheVariants as judged
use Rattle.jasminc_ct.specs.Causes as judgements
use Rattle.jasminc_selfrun.specs.CompileRefused as making
use Rattle.jasminc_selfrun.specs.CompileRefused.TheVariants as made
use Rattle.jasminc_selfrun.specs.Unmade.TheVariants as unmade
use Rattle.jasminc_selfrun.specs.CompileCauses as makings
use Rattle.jasminc_selfrun.specs.Refused as calling
use Rattle.jasminc_selfrun.specs.Refused.TheVariants as uncalled
use Rattle.jasminc_selfrun.specs.Causes as calls
use Rattle.jz_disasm_text.specs.declared.Fault.{Fault}
use Rattle.jz_disasm_text.specs.declared.Fault.TheVariants as fault
use Rattle.jasminc_top.specs.Refusals.{status_of_refused, status_of_fault, status_of_unsafe, status_of_breached, status_of_uncompiled, status_of_uncalled, status_of, line_of}
use Rattle.jasminc_top.specs.Told.{SourceTold}
use Rattle.jasminc_top.specs.Answers.{source_limit, Cause, Clear, HasInput, HasText, IsInputFault, WasRead, InputRefuses, IsDue, IsQuiet, IsResult, FileRefuses, After, Performs}
use Rattle.jasminc_top.specs.Runs.{Run, Due, Runs, IsFree, Writes, WritesRefusal, WritesNoMemory}
use Rattle.jasminc_top.proofs.Rows.{never_usage, never_read_fault, gives_result}

-- ---- a text that was read settles the answer
pub settled : (wish : Option Wanted) (told : SourceTold) (text : List ℕ) (answer : Result Reply (Failure Refusal)) → HasText wish told.files text
    → WasRead wish told → IsQuiet told → IfAnswered answer (After wish text) → IfAnswered answer (Performs wish told)
settled wish told text (Ok reply) has whole quiet a = record { text = text; has = has; after = a; read = inl whole; quiet = quiet }
settled wish told text (Err (failure.Refused ReadFault)) has whole quiet a = absurd (never_read_fault wish text a.cause)
settled wish told text (Err (failure.Refused r)) has whole quiet a = record { text = text; has = has; after = a; read = inl whole; quiet = quiet }
settled wish told text (Err failure.OutOfMemory) has whole quiet a = tt

-- ---- a file that was not read
long_cause : (wish : Wanted) (name text : List ℕ) → of_file name ≡ origin_of wish → source_limit < length text → Cause (Some wish) text Source
long_cause (compile file) n text is long = long
long_cause (exec call) n text is long = long
long_cause (interp call) n text is long = long
long_cause (leak call) n text is long = long
long_cause (disasm file) n text is long = long
long_cause (check file) n text is long = long
long_cause (ct file) n text is long = long
long_cause (gen seed size) n text is long = cc
long_cause (selfrun seed size fuel) n text is long = cc

run_late : (r : Refused) → 1 ≤ interp_causes.stage_of r
run_late (refused.Unread (unread.Lex fault)) = omega arith
run_late (refused.Unread (unread.Parse fault)) = omega arith
run_late (refused.Unread (unread.Typing fault)) = omega arith
run_late (refused.NoFunction name) = omega arith
run_late (refused.Limit l) = omega arith
run_late refused.Items = omega arith
run_late (refused.Unmet pre) = omega arith

check_late : (r : checking.Refused) → 1 ≤ checks.stage_of r
check_late (found.Unread (unread.Lex fault)) = omega arith
check_late (found.Unread (unread.Parse fault)) = omega arith
check_late (found.Unread (unread.Typing fault)) = omega arith
check_late (found.Limit l) = omega arith
check_late (found.Alarm a) = omega arith

ct_late : (r : judging.Refused) → 1 ≤ judgements.stage_of r
ct_late (judged.Unread (unread.Lex fault)) = omega arith
ct_late (judged.Unread (unread.Parse fault)) = omega arith
ct_late (judged.Unread (unread.Typing fault)) = omega arith
ct_late (judged.Limit l) = omega arith
ct_late (judged.Breach b) = omega arith

compile_late : (r : making.Refused) → 1 ≤ makings.stage_of r
compile_late (made.Unread (unread.Lex fault)) = omega arith
compile_late (made.Unread (unread.Parse fault)) = omega arith
compile_late (made.Unread (unread.Typing fault)) = omega arith
compile_late (made.Limit l) = omega arith
compile_late (made.Alarm a) = omega arith
compile_late (made.Making (unmade.Frame name)) = omega arith
compile_late (made.Making (unmade.NoPlace w)) = omega arith

call_late : (r : calling.Refused) → 1 ≤ calls.stage_of r
call_late (uncalled.Compile r) = compile_late r
call_late (uncalled.NoFunction name) = omega arith
call_late uncalled.Items = omega arith
call_late (uncalled.Unmet pre) = omega arith

clear_file : (wish : Wanted) (text : List ℕ) → Clear (Cause (Some wish) text) 1
clear_file wish text Usage lt c = never_usage wish text c
clear_file wish text (Interp r) lt c = let late = run_late r in absurd (omega (arith, lt, late))
clear_file wish text (Check r) lt c = let late = check_late r in absurd (omega (arith, lt, late))
clear_file wish text (Ct r) lt c = let late = ct_late r in absurd (omega (arith, lt, late))
clear_file wish text (Compile r) lt c = let late = compile_late r in absurd (omega (arith, lt, late))
clear_file wish text (Exec r) lt c = let late = call_late r in absurd (omega (arith, lt, late))
clear_file wish text r lt c = absurd (omega (arith, lt))

file_refused : (wish : Wanted) (name : List ℕ) (told : SourceTold) (r : Refusal) → of_file name ≡ origin_of wish → FileRefuses name told r → Performs (Some wish) told (Err r)
file_refused wish name told ReadFault is h = subst (λ (o : Origin). IsInputFault o told) is h
file_refused wish name told Source is h =
    let cause = long_cause wish name h.0.0 is h.0.2 in
    record {
      text = h.0.0;
      has = subst (λ (o : Origin). HasInput o told.files h.0.0) is h.0.1;
      after = record { cause = cause; first = clear_file wish h.0.0 };
      read = inr (inr cause);
      quiet = h.1;
    }
file_refused wish name told r is h = absurd h

input_refused : (wish : Wanted) (told : SourceTold) (r : Refusal) (o : Origin) → o ≡ origin_of wish → InputRefuses o told r → Performs (Some wish) told (Err r)
input_refused wish told r (of_file name) is h = file_refused wish name told r is h
input_refused wish told r (of_seed seed size) is h = absurd h

pub input_fails : (wish : Wanted) (told : SourceTold) (e : Failure Refusal) → IfRefused e (InputRefuses (origin_of wish) told)
    → IfAnswered {A = Reply} (Err e) (Performs (Some wish) told)
input_fails wish told (failure.Refused r) h = input_refused wish told r (origin_of wish) refl h
input_fails wish told failure.OutOfMemory h = tt

-- ---- words that are no command
pub no_command_settles : (told : SourceTold) → IsQuiet told → Performs None told (Err Usage)
no_command_settles told quiet = record {
  text = [];
  has = refl;
  after = record { cause = refl; first = λ r lt c. absurd (omega (arith, lt)) };
  read = inr (inl tt);
  quiet = quiet;
}

-- ---- what is due by an answer
-- at a status that is not free it is what the text asks for
plain_due : (wish : Option Wanted) (told : SourceTold) (s : Status) (output : List ℕ) (made : List Compiled) → (IsFree s → ⊥) → IsDue wish told s output made → IsQuiet told
    → Due wish told s output made
plain_due wish told status.ReadFault output made bound due quiet = absurd (bound tt)
plain_due wish told status.Memory output made bound due quiet = absurd (bound tt)
plain_due wish told status.WriteFault output made bound due quiet = absurd (bound tt)
plain_due wish told s output made bound due quiet = (due, quiet)

run_bound : (r : Refused) → IsFree (status_of_refused r) → ⊥
run_bound (refused.Unread (unread.Lex fault)) h = h
run_bound (refused.Unread (unread.Parse fault)) h = h
run_bound (refused.Unread (unread.Typing fault)) h = h
run_bound (refused.NoFunction name) h = h
run_bound (refused.Limit l) h = h
run_bound refused.Items h = h
run_bound (refused.Unmet pre) h = h

fault_bound : (f : Fault) → IsFree (status_of_fault f) → ⊥
fault_bound (fault.BadListing line) h = h
fault_bound (fault.BadHex offset) h = h
fault_bound (fault.Undecodable gap) h = h

check_bound : (r : checking.Refused) → IsFree (status_of_unsafe r) → ⊥
check_bound (found.Unread (unread.Lex fault)) h = h
check_bound (found.Unread (unread.Parse fault)) h = h
check_bound (found.Unread (unread.Typing fault)) h = h
check_bound (found.Limit l) h = h
check_bound (found.Alarm a) h = h

ct_bound : (r : judging.Refused) → IsFree (status_of_breached r) → ⊥
ct_bound (judged.Unread (unread.Lex fault)) h = h
ct_bound (judged.Unread (unread.Parse fault)) h = h
ct_bound (judged.Unread (unread.Typing fault)) h = h
ct_bound (judged.Limit l) h = h
ct_bound (judged.Breach b) h = h

compile_bound : (r : making.Refused) → IsFree (status_of_uncompiled r) → ⊥
compile_bound (made.Unread (unread.Lex fault)) h = h
compile_bound (made.Unread (unread.Parse fault)) h = h
compile_bound (made.Unread (unread.Typing fault)) h = h
compile_bound (made.Limit l) h = h
compile_bound (made.Alarm a) h = h
compile_bound (made.Making (unmade.Frame name)) h = h
compile_bound (made.Making (unmade.NoPlace w)) h = h

call_bound : (r : calling.Refused) → IsFree (status_of_uncalled r) → ⊥
call_bound (uncalled.Compile r) h = compile_bound r h
call_bound (uncalled.NoFunction name) h = h
call_bound uncalled.Items h = h
call_bound (uncalled.Unmet pre) h = h

refusal_due : (wish : Option Wanted) (told : SourceTold) (r : Refusal) → Performs wish told (Err r) → Due wish told (status_of r) (line_of r) []
refusal_due wish told ReadFault p = (refl, refl, p)
refusal_due wish told (Interp r) p =
    plain_due wish told (status_of_refused r) (line_of (Interp r)) [] (run_bound r)
    (record {
      text = p.text;
      has = p.has;
      answers = inl (record { refusal = Interp r; cause = p.after.cause; first = p.after.first; status = refl; line = refl; none = refl });
      read = p.read;
    })
    p.quiet
refusal_due wish told (Disasm f) p =
    plain_due wish told (status_of_fault f) (line_of (Disasm f)) [] (fault_bound f)
    (record {
      text = p.text;
      has = p.has;
      answers = inl (record { refusal = Disasm f; cause = p.after.cause; first = p.after.first; status = refl; line = refl; none = refl });
      read = p.read;
    })
    p.quiet
refusal_due wish told (Check r) p =
    plain_due wish told (status_of_unsafe r) (line_of (Check r)) [] (check_bound r)
    (record {
      text = p.text;
      has = p.has;
      answers = inl (record { refusal = Check r; cause = p.after.cause; first = p.after.first; status = refl; line = refl; none = refl });
      read = p.read;
    })
    p.quiet
refusal_due wish told (Ct r) p =
    plain_due wish told (status_of_breached r) (line_of (Ct r)) [] (ct_bound r)
    (record {
      text = p.text;
      has = p.has;
      answers = inl (record { refusal = Ct r; cause = p.after.cause; first = p.after.first; status = refl; line = refl; none = refl });
      read = p.read;
    })
    p.quiet
refusal_due wish told (Compile r) p =
    plain_due wish told (status_of_uncompiled r) (line_of (Compile r)) [] (compile_bound r)
    (record {
      text = p.text;
      has = p.has;
      answers = inl (record { refusal = Compile r; cause = p.after.cause; first = p.after.first; status = refl; line = refl; none = refl });
      read = p.read;
    })
    p.quiet
refusal_due wish told (Exec r) p =
    plain_due wish told (status_of_uncalled r) (line_of (Exec r)) [] (call_bound r)
    (record {
      text = p.text;
      has = p.has;
      answers = inl (record { refusal = Exec r; cause = p.after.cause; first = p.after.first; status = refl; line = refl; none = refl });
      read = p.read;
    })
    p.quiet
refusal_due wish told r p = (
  record {
    text = p.text;
    has = p.has;
    answers = inl (record { refusal = r; cause = p.after.cause; first = p.after.first; status = refl; line = refl; none = refl });
    read = p.read;
  },
  p.quiet,
)

result_due : (wish : Option Wanted) (told : SourceTold) (s : Status) (output : List ℕ) (made : List Compiled) → IsResult s → IsDue wish told s output made → IsQuiet told
    → Due wish told s output made
result_due wish told status.Ok output made r due quiet = (due, quiet)
result_due wish told status.OutOfFuel output made r due quiet = (due, quiet)
result_due wish told status.Stuck output made r due quiet = (due, quiet)
result_due wish told s output made r due quiet = absurd r

pub reply_due : (wish : Option Wanted) (told : SourceTold) (reply : Reply) → Performs wish told (Ok reply) → Due wish told reply.status reply.text reply.made
reply_due wish told reply p =
    result_due wish told reply.status reply.text reply.made
    (gives_result p.after.command p.text reply.status reply.text reply.made p.after.gives)
    (record { text = p.text; has = p.has; answers = inr p.after; read = p.read }) p.quiet

-- ---- what a run leaves
pub reply_runs : (run : Run) (reply : Reply) (text : List ℕ) → text ≡ reply.text → Performs run.wish run.source (Ok reply)
    → Writes reply.status text reply.made run.sink run.done → Runs run
reply_runs run reply text same p w = record {
  due = reply.status;
  text = reply.text;
  made = reply.made;
  is_due = reply_due run.wish run.source reply p;
  wrote = subst (λ (t : List ℕ). Writes reply.status t reply.made run.sink run.done) same w;
}

pub memory_runs : (run : Run) → WritesNoMemory run.sink run.done → Runs run
memory_runs run w = record { due = status.Memory; text = codes "out of memory\n"; made = []; is_due = (refl, refl); wrote = w }

refusal_runs : (run : Run) (r : Refusal) → Performs run.wish run.source (Err r) → WritesRefusal r run.sink run.done → Runs run
refusal_runs run r p (inl w) = record { due = status_of r; text = line_of r; made = []; is_due = refusal_due run.wish run.source r p; wrote = w }
refusal_runs run r p (inr w) = memory_runs run w

pub failure_runs : (run : Run) (e : Failure Refusal) (r : Refusal) → e ≡ failure.Refused r → IfAnswered {A = Reply} (Err e) (Performs run.wish run.source)
    → WritesRefusal r run.sink run.done → Runs run
failure_runs run e r is p w =
    refusal_runs run r (subst (λ (f : Failure Refusal). IfAnswered {A = Reply} (Err f) (Performs run.wish run.source)) is p) w
