-- Which cause is the first, and when none stands before others.
use Rattle.std.proofs.Common.{◌≡◌, ℕ, List, [], ◌∷◌, ◌++◌, Some, None, arith, refl, subst, sym}
use Rattle.std.specs.Prelude.{All, Contains, Err}
use Rattle.std.proofs.lemmas.List.Elements.{All-contains, Contains-append_right, Contains-append_left}
use Rattle.jz_tree.specs.Failure.{Failure}
use Rattle.jz_tree.specs.Failure.TheVariants as failure
use Rattle.jz_tree.specs.Failures.{IfRefused, IfAnswered}
use Rattle.jz_tree.specs.declared.program.Fun.{Fun}
use Rattle.jz_tree.specs.declared.program.Program.{Program}
use Rattle.jz_typed_runs.specs.TypedTexts.{IsTypedText}
use Rattle.jz_asked.specs.declared.alarms.Alarm as asked
use Rattle.jz_asked.specs.Asked.{alarm_of}
use Rattle.jz_listing.specs.Listing.{listing_text}
use Rattle.jz_unplaced.specs.declared.unplaced.Unplaced.{Unplaced}
use Rattle.jasminc_source.specs.declared.limits.FunLimit.{FunLimit}
use Rattle.jasminc_source.specs.declared.unread.Unread as source
use Rattle.jasminc_source.specs.Texts.{TypesAs}
use Rattle.jasminc_source.specs.Unreadable.{IsUnread, unread_stage}
use Rattle.jasminc_source.specs.Exports.{WithinIfExported, HasLimit}
use Rattle.jasminc_source.proofs.Causing.{types_as_read, first_unread, unread_early, types_one, text_typed}
use Rattle.jasminc_source.proofs.Limiting.{none_passes}
use Rattle.jasminc_check.proofs.Typing.{text_text}
use Rattle.jasminc_check.specs.Safety.{SafeIfExported, HasAlarm}
use Rattle.jasminc_check.specs.Causes.{PassesLimit, GivesAlarm}
use Rattle.jasminc_check.proofs.Judged.{one_judged}
use Rattle.jasminc_compile.specs.declared.outcome.Unmade.{Unmade}
use Rattle.jasminc_compile.specs.declared.outcome.Unmade.TheVariants as unmade
use Rattle.jasminc_compile.specs.declared.refused.Refused.{Refused}
use Rattle.jasminc_compile.specs.declared.refused.Refused.TheVariants.{Unread, Limit, Alarm, Making}
use Rattle.jasminc_compile.specs.declared.stages.Compilation.{Compilation}
use Rattle.jasminc_compile.specs.SafeFunctions.{exports_of}
use Rattle.jasminc_compile.specs.Refusals.{IsTooLargeFun, LeavesUnplaced}
use Rattle.jasminc_compile.specs.Making.{AreMade, HasNone, IsFirstOf}
use Rattle.jasminc_compile.specs.InnerMaking.{IsTold}
use Rattle.jasminc_compile.specs.Causes.{IsUnmadeText, Clear, IsFirstCause}
use Rattle.jasminc_compile.specs.Answers.{all_stages, IsDone, Answers}
use Rattle.jasminc_compile.proofs.Telling.{each_not_large, each_not_unplaced}

-- where no function of a list has a refusal of a kind, there is no first
none_first : {A : Type 0} (Refuses : Fun → A → Type 0) (fs : List Fun) (a : A) → All (HasNone Refuses) fs → IsFirstOf Refuses fs a → ⊥
none_first Refuses fs a none h =
    let all : All (HasNone Refuses) (h.front ++ h.function ∷ h.rest) = subst (All (HasNone Refuses)) h.split none in
    All-contains (HasNone Refuses) (h.front ++ h.function ∷ h.rest) h.function all
    (Contains-append_right h.front (h.function ∷ h.rest) h.function (Contains-append_left (h.function ∷ []) h.rest h.function (0, omega arith, refl))) a h.here

-- where each function is safe that is exported, there is no alarm
safe_no_alarm : (p : Program) → IsTypedText p → (a : asked.Alarm) → All (SafeIfExported p) p.funs → HasAlarm p a → ⊥
safe_no_alarm p t a safe h =
    let among : Contains p.funs h.function = subst (λ fs. Contains fs h.function) (sym h.split)
    (Contains-append_right h.front (h.function ∷ h.rest) h.function (Contains-append_left (h.function ∷ []) h.rest h.function (0, omega arith, refl))) in
    let good = All-contains (SafeIfExported p) p.funs h.function safe among h.exported in
    let e : None ≡ Some (alarm_of a) = (one_judged p h.function good.0 h.count None (Some (alarm_of a)) t among good.1 h.judged).1 in
    cc

module _ (text : List ℕ) where
  before_reading : (u : source.Unread) → IsUnread text u → Clear text (unread_stage u)
  before_reading u c (Unread v) lt h = first_unread text u v c lt h
  before_reading u c (Limit l) lt h = let e = unread_early u in absurd (omega (arith, e, lt))
  before_reading u c (Alarm a) lt h = let e = unread_early u in absurd (omega (arith, e, lt))
  before_reading u c (Making (unmade.Frame name)) lt h = let e = unread_early u in absurd (omega (arith, e, lt))
  before_reading u c (Making (unmade.NoPlace w)) lt h = let e = unread_early u in absurd (omega (arith, e, lt))

  pub reading_first : (u : source.Unread) → IsUnread text u → IsFirstCause text (Unread u)
  reading_first u c = record { cause = c; first = before_reading u c }

  module _ (p : Program) (t : TypesAs text p) where
    before_limits : Clear text 6
    before_limits (Unread v) lt h = types_as_read text p t v h
    before_limits (Limit l) lt h = absurd (omega (arith, lt))
    before_limits (Alarm a) lt h = absurd (omega (arith, lt))
    before_limits (Making (unmade.Frame name)) lt h = absurd (omega (arith, lt))
    before_limits (Making (unmade.NoPlace w)) lt h = absurd (omega (arith, lt))

    pub limit_first : (l : FunLimit) → HasLimit p l → IsFirstCause text (Limit l)
    limit_first l h = record { cause = record { program = p; types = t; limit = h }; first = before_limits }

    module _ (within : All (WithinIfExported p) p.funs) where
      no_limit : (l : FunLimit) → PassesLimit text l → ⊥
      no_limit l h = none_passes p l within (subst (λ (q : Program). HasLimit q l) (types_one text h.program p h.types t) h.limit)

      before_alarms : Clear text 7
      before_alarms (Unread v) lt h = types_as_read text p t v h
      before_alarms (Limit l) lt h = no_limit l h
      before_alarms (Alarm a) lt h = absurd (omega (arith, lt))
      before_alarms (Making (unmade.Frame name)) lt h = absurd (omega (arith, lt))
      before_alarms (Making (unmade.NoPlace w)) lt h = absurd (omega (arith, lt))

      pub alarm_first : (a : asked.Alarm) → HasAlarm p a → IsFirstCause text (Alarm a)
      alarm_first a h = record { cause = record { program = p; types = t; alarm = h }; first = before_alarms }

      module _ (safe : All (SafeIfExported p) p.funs) where
        no_alarm : (a : asked.Alarm) → GivesAlarm text a → ⊥
        no_alarm a h =
            safe_no_alarm p (record { typed = text_typed text p t; text = text_text text p t }) a safe
            (subst (λ (q : Program). HasAlarm q a) (types_one text h.program p h.types t) h.alarm)

        before_frames : Clear text 8
        before_frames (Unread v) lt h = types_as_read text p t v h
        before_frames (Limit l) lt h = no_limit l h
        before_frames (Alarm a) lt h = no_alarm a h
        before_frames (Making (unmade.Frame name)) lt h = absurd (omega (arith, lt))
        before_frames (Making (unmade.NoPlace w)) lt h = absurd (omega (arith, lt))

        no_frame : All (HasNone (IsTooLargeFun p)) (exports_of p.funs) → (name : List ℕ) → IsUnmadeText text (unmade.Frame name) → ⊥
        no_frame none name h =
            none_first (IsTooLargeFun p) (exports_of p.funs) name none
            (subst (λ (q : Program). IsFirstOf (IsTooLargeFun q) (exports_of q.funs) name) (types_one text h.program p h.types t) h.unmade)

        no_place : All (HasNone (LeavesUnplaced p)) (exports_of p.funs) → (w : Unplaced) → IsUnmadeText text (unmade.NoPlace w) → ⊥
        no_place none w h =
            none_first (LeavesUnplaced p) (exports_of p.funs) w none
            (subst (λ (q : Program). IsFirstOf (LeavesUnplaced q) (exports_of q.funs) w) (types_one text h.program p h.types t) h.unmade)

        before_places : All (HasNone (IsTooLargeFun p)) (exports_of p.funs) → Clear text 9
        before_places none (Unread v) lt h = types_as_read text p t v h
        before_places none (Limit l) lt h = no_limit l h
        before_places none (Alarm a) lt h = no_alarm a h
        before_places none (Making (unmade.Frame name)) lt h = no_frame none name h
        before_places none (Making (unmade.NoPlace w)) lt h = absurd (omega (arith, lt))

        pub making_first : (u : Unmade) → IsTold p u → IsFirstCause text (Making u)
        making_first (unmade.Frame name) h = record { cause = record { program = p; types = t; unmade = h.has }; first = before_frames }
        making_first (unmade.NoPlace w) h = record { cause = record { program = p; types = t; unmade = h.has }; first = before_places h.behind }

        module _ (made : Compilation) (are : AreMade p made.functions) where
          before_all : Clear text all_stages
          before_all (Unread v) lt h = types_as_read text p t v h
          before_all (Limit l) lt h = no_limit l h
          before_all (Alarm a) lt h = no_alarm a h
          before_all (Making (unmade.Frame name)) lt h = no_frame (each_not_large p (exports_of p.funs) made.functions are) name h
          before_all (Making (unmade.NoPlace w)) lt h = no_place (each_not_unplaced p (exports_of p.funs) made.functions are) w h

          pub all_done : made.listing ≡ listing_text made.functions → IsDone text made
          all_done listed = record { clear = before_all; gives = record { program = p; types = t; are_made = are; listed = listed } }

-- ---- the same of failures

answered : (text : List ℕ) (P : Refused → Type 0) (e : Failure Refused) → ((r : Refused) → P r → IsFirstCause text r) → IfRefused e P
    → IfAnswered {A = Compilation} (Err e) (Answers text)
answered text P (failure.Refused r) f h = f r h
answered text P failure.OutOfMemory f h = tt

-- no typed program, as a refusal
abbrev pub IsUnreadable : List ℕ → Refused → Type 0
IsUnreadable text r = (u : source.Unread) × (r ≡ Unread u) × IsUnread text u

pub reading_fails : (text : List ℕ) (e : Failure Refused) → IfRefused e (IsUnreadable text) → IfAnswered {A = Compilation} (Err e) (Answers text)
reading_fails text e h = answered text (IsUnreadable text) e (λ r k. subst (IsFirstCause text) (sym k.1) (reading_first text k.0 k.2)) h

-- a limit, as a refusal
abbrev pub IsLimit : Program → Refused → Type 0
IsLimit p r = (l : FunLimit) × (r ≡ Limit l) × HasLimit p l

pub limits_fail : (text : List ℕ) (p : Program) (e : Failure Refused) → TypesAs text p → IfRefused e (IsLimit p) → IfAnswered {A = Compilation} (Err e) (Answers text)
limits_fail text p e t h = answered text (IsLimit p) e (λ r k. subst (IsFirstCause text) (sym k.1) (limit_first text p t k.0 k.2)) h

-- an alarm, as a refusal
abbrev pub IsAlarm : Program → Refused → Type 0
IsAlarm p r = (a : asked.Alarm) × (r ≡ Alarm a) × HasAlarm p a

pub alarms_fail : (text : List ℕ) (p : Program) (e : Failure Refused) → TypesAs text p → All (WithinIfExported p) p.funs → IfRefused e (IsAlarm p) → IfAnswered {A = Compilation} (Err e) (Answers text)
alarms_fail text p e t w h = answered text (IsAlarm p) e (λ r k. subst (IsFirstCause text) (sym k.1) (alarm_first text p t w k.0 k.2)) h

-- what is not made, as a refusal
abbrev pub IsNotMade : Program → Refused → Type 0
IsNotMade p r = (u : Unmade) × (r ≡ Making u) × IsTold p u

pub making_fails : (text : List ℕ) (p : Program) (e : Failure Refused) → TypesAs text p → All (WithinIfExported p) p.funs → All (SafeIfExported p) p.funs → IfRefused e (IsNotMade p)
    → IfAnswered {A = Compilation} (Err e) (Answers text)
making_fails text p e t w s h = answered text (IsNotMade p) e (λ r k. subst (IsFirstCause text) (sym k.1) (making_first text p t w s k.0 k.2)) h
