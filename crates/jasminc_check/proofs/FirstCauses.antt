-- Which cause is the first, and when none stands before alarms.
use Rattle.std.proofs.Common.{◌≡◌, ℕ, List, arith, subst, sym}
use Rattle.std.specs.Prelude.{All, Err}
use Rattle.jz_tree.specs.Failure.{Failure}
use Rattle.jz_tree.specs.Failure.TheVariants as failure
use Rattle.jz_tree.specs.Failures.{IfRefused, IfAnswered}
use Rattle.jz_tree.specs.declared.program.Program.{Program}
use Rattle.jasminc_source.specs.declared.limits.FunLimit.{FunLimit}
use Rattle.jasminc_source.specs.declared.unread.Unread as source
use Rattle.jasminc_source.specs.Texts.{TypesAs}
use Rattle.jasminc_source.specs.Unreadable.{IsUnread, unread_stage}
use Rattle.jasminc_source.specs.Exports.{WithinIfExported, HasLimit}
use Rattle.jasminc_source.proofs.Causing.{types_as_read, first_unread, unread_early, types_one, text_typed}
use Rattle.jasminc_source.proofs.Limiting.{none_passes}
use Rattle.jz_asked.specs.declared.alarms.Alarm as asked
use Rattle.jasminc_expansions.proofs.Typing.{text_text}
use Rattle.jasminc_check.specs.declared.refused.Refused.{Refused}
use Rattle.jasminc_check.specs.declared.refused.Refused.TheVariants.{Unread, Limit, Alarm}
use Rattle.jasminc_check.specs.Safety.{AreSafe, HasAlarm}
use Rattle.jasminc_check.specs.Causes.{PassesLimit, GivesAlarm, Clear, IsFirstCause}
use Rattle.jasminc_check.specs.Answers.{all_stages, IsDone, Answers}
use Rattle.jasminc_check.proofs.Judged.{safe_no_alarm}

module _ (text : List ℕ) where
  before_reading : (u : source.Unread) → IsUnread text u → Clear text (unread_stage u)
  before_reading u c (Unread v) lt h = first_unread text u v c lt h
  before_reading u c (Limit l) lt h = let e = unread_early u in absurd (omega (arith, e, lt))
  before_reading u c (Alarm a) lt h = let e = unread_early u in absurd (omega (arith, e, lt))

  pub reading_first : (u : source.Unread) → IsUnread text u → IsFirstCause text (Unread u)
  reading_first u c = record { cause = c; first = before_reading u c }

  module _ (p : Program) (t : TypesAs text p) where
    before_limits : Clear text 6
    before_limits (Unread v) lt h = types_as_read text p t v h
    before_limits (Limit l) lt h = absurd (omega (arith, lt))
    before_limits (Alarm a) lt h = absurd (omega (arith, lt))

    pub limit_first : (l : FunLimit) → HasLimit p l → IsFirstCause text (Limit l)
    limit_first l h = record { cause = record { program = p; types = t; limit = h }; first = before_limits }

    module _ (within : All (WithinIfExported p) p.funs) where
      no_limit : (l : FunLimit) → PassesLimit text l → ⊥
      no_limit l h = none_passes p l within (subst (λ (q : Program). HasLimit q l) (types_one text h.program p h.types t) h.limit)

      before_alarms : Clear text 7
      before_alarms (Unread v) lt h = types_as_read text p t v h
      before_alarms (Limit l) lt h = no_limit l h
      before_alarms (Alarm a) lt h = absurd (omega (arith, lt))

      pub alarm_first : (a : asked.Alarm) → HasAlarm p a → IsFirstCause text (Alarm a)
      alarm_first a h = record { cause = record { program = p; types = t; alarm = h }; first = before_alarms }

      -- a text whose functions are safe has no alarm
      no_alarm : (output : List ℕ) → AreSafe p p.funs output → (a : asked.Alarm) → GivesAlarm text a → ⊥
      no_alarm output safe a h =
          safe_no_alarm p (record { typed = text_typed text p t; text = text_text text p t }) output a safe
          (subst (λ (q : Program). HasAlarm q a) (types_one text h.program p h.types t) h.alarm)

      before_all : (output : List ℕ) → AreSafe p p.funs output → Clear text all_stages
      before_all output safe (Unread v) lt h = types_as_read text p t v h
      before_all output safe (Limit l) lt h = no_limit l h
      before_all output safe (Alarm a) lt h = no_alarm output safe a h

      pub all_done : (output : List ℕ) → AreSafe p p.funs output → IsDone text output
      all_done output h = record { clear = before_all output h; gives = record { program = p; types = t; safe = h } }

-- ---- the same of failures

answered : (text : List ℕ) (P : Refused → Type 0) (e : Failure Refused) → ((r : Refused) → P r → IsFirstCause text r) → IfRefused e P
    → IfAnswered {A = List ℕ} (Err e) (Answers text)
answered text P (failure.Refused r) f h = f r h
answered text P failure.OutOfMemory f h = tt

-- no typed program, as a refusal
abbrev pub IsUnreadable : List ℕ → Refused → Type 0
IsUnreadable text r = (u : source.Unread) × (r ≡ Unread u) × IsUnread text u

pub reading_fails : (text : List ℕ) (e : Failure Refused) → IfRefused e (IsUnreadable text) → IfAnswered {A = List ℕ} (Err e) (Answers text)
reading_fails text e h = answered text (IsUnreadable text) e (λ r k. subst (IsFirstCause text) (sym k.1) (reading_first text k.0 k.2)) h

-- a limit, as a refusal
abbrev pub IsLimit : Program → Refused → Type 0
IsLimit p r = (l : FunLimit) × (r ≡ Limit l) × HasLimit p l

pub limits_fail : (text : List ℕ) (p : Program) (e : Failure Refused) → TypesAs text p → IfRefused e (IsLimit p) → IfAnswered {A = List ℕ} (Err e) (Answers text)
limits_fail text p e t h = answered text (IsLimit p) e (λ r k. subst (IsFirstCause text) (sym k.1) (limit_first text p t k.0 k.2)) h

-- an alarm, as a refusal
abbrev pub IsAlarm : Program → Refused → Type 0
IsAlarm p r = (a : asked.Alarm) × (r ≡ Alarm a) × HasAlarm p a

pub alarms_fail : (text : List ℕ) (p : Program) (e : Failure Refused) → TypesAs text p → All (WithinIfExported p) p.funs → IfRefused e (IsAlarm p) → IfAnswered {A = List ℕ} (Err e) (Answers text)
alarms_fail text p e t w h = answered text (IsAlarm p) e (λ r k. subst (IsFirstCause text) (sym k.1) (alarm_first text p t w k.0 k.2)) h
