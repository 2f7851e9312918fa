-- The table of refusals: status, line and stage.
use Rattle.std.specs.Prelude.{ℕ, List, ◌++◌, codes}
use Rattle.jasminc_top.specs.declared.refusal.Status.{Status}
use Rattle.jasminc_top.specs.declared.refusal.Status.TheVariants as status
use Rattle.jasminc_top.specs.declared.refusal.Refusal.{Refusal}
use Rattle.jasminc_top.specs.declared.refusal.Refusal.TheVariants.{Usage, ReadFault, Source}
use Rattle.jasminc_top.specs.declared.refusal.Refusal.TheVariants.{Interp, Disasm, Check, Ct}
use Rattle.jasminc_top.specs.declared.refusal.Refusal.TheVariants.{Compile, Exec}
use Rattle.jasminc_interp.specs.declared.refused.Refused.{Refused}
use Rattle.jasminc_interp.specs.declared.refused.Refused.TheVariants as refused
use Rattle.jasminc_source.specs.declared.unread.Unread.{Unread}
use Rattle.jasminc_source.specs.declared.unread.Unread.TheVariants as unread
use Rattle.jasminc_interp.specs.Causes as interp
use Rattle.jasminc_check.specs.declared.refused.Refused as checking
use Rattle.jasminc_check.specs.declared.refused.Refused.TheVariants as found
use Rattle.jasminc_check.specs.Causes as checks
use Rattle.jasminc_ct.specs.declared.refused.Refused as judging
use Rattle.jasminc_ct.specs.declared.refused.Refused.TheVariants as judged
use Rattle.jasminc_ct.specs.Causes as judgements
use Rattle.jasminc_selfrun.specs.CompileRefused as making
use Rattle.jasminc_selfrun.specs.CompileRefused.TheVariants as made
use Rattle.jasminc_selfrun.specs.Unmade.{Unmade}
use Rattle.jasminc_selfrun.specs.Unmade.TheVariants as unmade
use Rattle.jasminc_selfrun.specs.CompileCauses as makings
use Rattle.jasminc_selfrun.specs.Refused as calling
use Rattle.jasminc_selfrun.specs.Refused.TheVariants as uncalled
use Rattle.jasminc_selfrun.specs.Causes as calls
use Rattle.jz_disasm_text.specs.declared.Fault.{Fault}
use Rattle.jz_disasm_text.specs.declared.Fault.TheVariants as fault
use Rattle.jasminc_top.specs.InterpLines.{refused_text}
use Rattle.jasminc_top.specs.DisasmLines.{fault_text}
use Rattle.jasminc_top.specs.CheckLines.{unsafe_text}
use Rattle.jasminc_top.specs.CtLines.{breached_text}
use Rattle.jasminc_top.specs.CompileLines.{uncompiled_text}
use Rattle.jasminc_top.specs.RunLines.{uncalled_text}

abbrev pub status_of_unread : Unread → Status
status_of_unread (unread.Lex fault) = status.Syntax
status_of_unread (unread.Parse fault) = status.Syntax
status_of_unread (unread.Typing fault) = status.Typing

abbrev pub status_of_refused : Refused → Status
status_of_refused (refused.Unread u) = status_of_unread u
status_of_refused (refused.NoFunction name) = status.NoFunction
status_of_refused (refused.Limit l) = status.Limit
status_of_refused refused.Items = status.Precondition
status_of_refused (refused.Unmet pre) = status.Precondition

abbrev pub status_of_fault : Fault → Status
status_of_fault (fault.BadListing line) = status.Syntax
status_of_fault (fault.BadHex offset) = status.Syntax
status_of_fault (fault.Undecodable gap) = status.Undecodable

abbrev pub status_of_unsafe : checking.Refused → Status
status_of_unsafe (found.Unread u) = status_of_unread u
status_of_unsafe (found.Limit l) = status.Limit
status_of_unsafe (found.Alarm a) = status.Alarm

abbrev pub status_of_breached : judging.Refused → Status
status_of_breached (judged.Unread u) = status_of_unread u
status_of_breached (judged.Limit l) = status.Limit
status_of_breached (judged.Breach b) = status.CtNo

abbrev pub status_of_unmade : Unmade → Status
status_of_unmade (unmade.Frame name) = status.Limit
status_of_unmade (unmade.NoPlace u) = status.NoPlace

abbrev pub status_of_uncompiled : making.Refused → Status
status_of_uncompiled (made.Unread u) = status_of_unread u
status_of_uncompiled (made.Limit l) = status.Limit
status_of_uncompiled (made.Alarm a) = status.Alarm
status_of_uncompiled (made.Making u) = status_of_unmade u

abbrev pub status_of_uncalled : calling.Refused → Status
status_of_uncalled (uncalled.Compile r) = status_of_uncompiled r
status_of_uncalled (uncalled.NoFunction name) = status.NoFunction
status_of_uncalled uncalled.Items = status.Precondition
status_of_uncalled (uncalled.Unmet pre) = status.Precondition

abbrev pub status_of : Refusal → Status
status_of Usage = status.Usage
status_of ReadFault = status.ReadFault
status_of Source = status.Limit
status_of (Interp r) = status_of_refused r
status_of (Disasm f) = status_of_fault f
status_of (Check r) = status_of_unsafe r
status_of (Ct r) = status_of_breached r
status_of (Compile r) = status_of_uncompiled r
status_of (Exec r) = status_of_uncalled r

-- the line without its line feed
abbrev pub cause_text : Refusal → List ℕ
cause_text Usage = codes "usage: jasminc COMMAND ARGS"
cause_text ReadFault = codes "read fault"
cause_text Source = codes "limit Source"
cause_text (Interp r) = refused_text r
cause_text (Disasm f) = fault_text f
cause_text (Check r) = unsafe_text r
cause_text (Ct r) = breached_text r
cause_text (Compile r) = uncompiled_text r
cause_text (Exec r) = uncalled_text r

abbrev pub line_of : Refusal → List ℕ
line_of r = cause_text r ++ codes "\n"

-- the stages in their order: words, file, lexer, parser, typing, function name, limits, safety,
-- frames, places, the number of items, preconditions; a text has at most one reason to
-- have no disassembly, right after the file
abbrev pub stage_of : Refusal → ℕ
stage_of Usage = 0
stage_of ReadFault = 1
stage_of Source = 1
stage_of (Interp r) = interp.stage_of r
stage_of (Disasm f) = 2
stage_of (Check r) = checks.stage_of r
stage_of (Ct r) = judgements.stage_of r
stage_of (Compile r) = makings.stage_of r
stage_of (Exec r) = calls.stage_of r

-- one past the last stage
abbrev pub all_stages : ℕ
all_stages = 12
