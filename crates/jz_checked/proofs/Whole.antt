-- What is safe has an expansion without an alarm.
use Rattle.std.proofs.Common.{◌≡◌, ℕ, Bool, true, false, List, [], ◌∷◌, None, map, refl, sym, ap, ◌∙◌, subst}
use Rattle.std.specs.Prelude.{All, Contains}
use Rattle.std.proofs.lemmas.Bool.{false≢true}
use Rattle.std.proofs.lemmas.List.Elements.{All-nil, All-cons, All-contains}
use Rattle.jz_tree.specs.declared.program.Fun.{Fun}
use Rattle.jz_tree.specs.declared.program.Note.{Note}
use Rattle.jz_tree.specs.declared.program.Param.{Param}
use Rattle.jz_tree.specs.declared.program.Program.{Program}
use Rattle.jz_type_rows.specs.Exports.{is_exported}
use Rattle.jz_types.specs.TypedPrograms.{IsTypedProgram}
use Rattle.jz_texts.specs.Texts.{IsText}
use Rattle.jz_annotations.specs.declared.precondition.Pre.{Pre}
use Rattle.jz_type_names.specs.Scopes.{variable_named}
use Rattle.jz_preconditions.specs.Stating.{stated_in, pres_of, preconditions_of}
use Rattle.jz_function_runs.specs.FunctionRuns.{plain_body}
use Rattle.jz_first_alarm.specs.FirstAlarms.{HasFirstAlarm}
use Rattle.jz_never_stuck.specs.Safety.{HasNoAlarm, SharesHead}
use Rattle.jz_safe.proofs.Heads.{heads_are_fine}
use Rattle.jz_safe.proofs.Alarms.{no_alarm}
use Rattle.jz_safe.proofs.Whole.{source_never}
use Rattle.jasminc_expansions.proofs.Typing.{text_text}
use Rattle.jasminc_check.specs.Safety.{IsSafe, SafeIfExported, SafeLine, AreSafe}
use Rattle.jz_checked.specs.CheckedLaws.{IsNeverStuck, SafeIsNeverStuck, CheckedIsNeverStuck}

module _ (p : Program) (f : Fun) (count : ℕ) (typed : IsTypedProgram p) (text : IsText p) (has : Contains p.funs f) (exported : is_exported f.kind ≡ true) (s : IsSafe p f count) where
  head : SharesHead f s.expanded
  head = (heads_are_fine p f s.expanded s.change count typed text has exported s.expansion).1

  abbrev stated : List Param → List Note → List Pre
  stated ps notes = pres_of (stated_in (λ n. variable_named n (map (λ (q : Param). q.var) ps)) notes)

  same : preconditions_of s.expanded ≡ preconditions_of f
  same = ap (λ (ps : List Param). stated ps s.expanded.notes) head.params ∙ ap (λ (ns : List Note). stated f.params ns) head.notes

  none : HasNoAlarm (plain_body s.expanded) s.expanded
  none = no_alarm s.expanded (subst (λ (ps : List Pre). HasFirstAlarm s.expanded ps None) (sym same) s.first)

  never : IsNeverStuck p f
  never words values memory n w meets are run =
      source_never p f s.expanded s.change count words values memory n w (record { typed = typed; text = text; there = has; exported = exported; expansion = s.expansion }) none meets are run

pub safe_never : SafeIsNeverStuck
safe_never p f count typed text has exported s = never p f count typed text has exported s

-- ---- each function of a text

module _ (p : Program) where
  each_safe : (fs : List Fun) (text : List ℕ) → AreSafe p fs text → All (SafeIfExported p) fs
  each_safe [] text h = All-nil (SafeIfExported p)
  each_safe (f ∷ fs) text h = by (is_exported f.kind) refl h (λ rest. each_safe fs rest)
    where
      by : (b : Bool) → is_exported f.kind ≡ b → SafeLine b p f (AreSafe p fs) text → ((rest : List ℕ) → AreSafe p fs rest → All (SafeIfExported p) fs) → All (SafeIfExported p) (f ∷ fs)
      by true e (n, s, rest, q, r) on = All-cons (SafeIfExported p) f fs (λ x. (n, s)) (on rest r)
      by false e r on = All-cons (SafeIfExported p) f fs (λ x. absurd (false≢true (sym e ∙ x))) (on text r)

pub checked_never : CheckedIsNeverStuck
checked_never text output g f has exported =
    let p = g.program in
    let one = All-contains (SafeIfExported p) p.funs f (each_safe p p.funs output g.safe) has exported in
    safe_never p f one.0 (record { source = g.types.written; typed = g.types.typed; same = g.types.is }) (text_text text p g.types) has exported one.1
