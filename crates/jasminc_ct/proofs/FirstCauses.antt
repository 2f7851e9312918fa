-- Which cause is the first, and when none stands before breaches.
use Rattle.std.proofs.Common.{◌≡◌, ℕ, List, arith, subst, sym}
use Rattle.std.specs.Prelude.{All, Err}
use Rattle.jz_tree.specs.Failure.{Failure}
use Rattle.jz_tree.specs.Failure.TheVariants as failure
use Rattle.jz_tree.specs.Failures.{IfRefused, IfAnswered}
use Rattle.jz_tree.specs.declared.program.Program.{Program}
use Rattle.jasminc_source.specs.declared.limits.FunLimit.{FunLimit}
use Rattle.jasminc_source.specs.declared.unread.Unread as source
use Rattle.jasminc_source.specs.Texts.{TypesAs}
use Rattle.jasminc_source.specs.Unreadable.{IsUnread, unread_stage}
use Rattle.jasminc_source.specs.Exports.{WithinIfExported, HasLimit}
use Rattle.jasminc_source.proofs.Causing.{types_as_read, first_unread, unread_early, types_one}
use Rattle.jasminc_source.proofs.Limiting.{none_passes}
use Rattle.jasminc_ct.specs.declared.breaches.FunBreach.{FunBreach}
use Rattle.jasminc_ct.specs.declared.refused.Refused.{Refused}
use Rattle.jasminc_ct.specs.declared.refused.Refused.TheVariants.{Unread, Limit, Breach}
use Rattle.jasminc_ct.specs.Judging.{AreConstant, HasBreach}
use Rattle.jasminc_ct.specs.Causes.{PassesLimit, IsBreached, Clear, IsFirstCause}
use Rattle.jasminc_ct.specs.Answers.{all_stages, IsDone, Answers}
use Rattle.jasminc_ct.proofs.Judged.{constant_no_breach}

module _ (text : List ℕ) where
  before_reading : (u : source.Unread) → IsUnread text u → Clear text (unread_stage u)
  before_reading u c (Unread v) lt h = first_unread text u v c lt h
  before_reading u c (Limit l) lt h = let e = unread_early u in absurd (omega (arith, e, lt))
  before_reading u c (Breach a) lt h = let e = unread_early u in absurd (omega (arith, e, lt))

  pub reading_first : (u : source.Unread) → IsUnread text u → IsFirstCause text (Unread u)
  reading_first u c = record { cause = c; first = before_reading u c }

  module _ (p : Program) (t : TypesAs text p) where
    before_limits : Clear text 6
    before_limits (Unread v) lt h = types_as_read text p t v h
    before_limits (Limit l) lt h = absurd (omega (arith, lt))
    before_limits (Breach a) lt h = absurd (omega (arith, lt))

    pub limit_first : (l : FunLimit) → HasLimit p l → IsFirstCause text (Limit l)
    limit_first l h = record { cause = record { program = p; types = t; limit = h }; first = before_limits }

    module _ (within : All (WithinIfExported p) p.funs) where
      no_limit : (l : FunLimit) → PassesLimit text l → ⊥
      no_limit l h = none_passes p l within (subst (λ (q : Program). HasLimit q l) (types_one text h.program p h.types t) h.limit)

      before_breaches : Clear text 7
      before_breaches (Unread v) lt h = types_as_read text p t v h
      before_breaches (Limit l) lt h = no_limit l h
      before_breaches (Breach a) lt h = absurd (omega (arith, lt))

      pub breach_first : (a : FunBreach) → HasBreach p a → IsFirstCause text (Breach a)
      breach_first a h = record { cause = record { program = p; types = t; breach = h }; first = before_breaches }

      -- a text whose functions are constant time has no breach
      no_breach : (output : List ℕ) → AreConstant p p.funs output → (a : FunBreach) → IsBreached text a → ⊥
      no_breach output constant a h =
          constant_no_breach p output a constant
          (subst (λ (q : Program). HasBreach q a) (types_one text h.program p h.types t) h.breach)

      before_all : (output : List ℕ) → AreConstant p p.funs output → Clear text all_stages
      before_all output constant (Unread v) lt h = types_as_read text p t v h
      before_all output constant (Limit l) lt h = no_limit l h
      before_all output constant (Breach a) lt h = no_breach output constant a h

      pub all_done : (output : List ℕ) → AreConstant p p.funs output → IsDone text output
      all_done output h = record { clear = before_all output h; gives = record { program = p; types = t; constant = h } }

-- ---- the same of failures

answered : (text : List ℕ) (P : Refused → Type 0) (e : Failure Refused) → ((r : Refused) → P r → IsFirstCause text r) → IfRefused e P
    → IfAnswered {A = List ℕ} (Err e) (Answers text)
answered text P (failure.Refused r) f h = f r h
answered text P failure.OutOfMemory f h = tt

-- no typed program, as a refusal
abbrev pub IsUnreadable : List ℕ → Refused → Type 0
IsUnreadable text r = (u : source.Unread) × (r ≡ Unread u) × IsUnread text u

pub reading_fails : (text : List ℕ) (e : Failure Refused) → IfRefused e (IsUnreadable text) → IfAnswered {A = List ℕ} (Err e) (Answers text)
reading_fails text e h = answered text (IsUnreadable text) e (λ r k. subst (IsFirstCause text) (sym k.1) (reading_first text k.0 k.2)) h

-- a limit, as a refusal
abbrev pub IsLimit : Program → Refused → Type 0
IsLimit p r = (l : FunLimit) × (r ≡ Limit l) × HasLimit p l

pub limits_fail : (text : List ℕ) (p : Program) (e : Failure Refused) → TypesAs text p → IfRefused e (IsLimit p) → IfAnswered {A = List ℕ} (Err e) (Answers text)
limits_fail text p e t h = answered text (IsLimit p) e (λ r k. subst (IsFirstCause text) (sym k.1) (limit_first text p t k.0 k.2)) h

-- a breach, as a refusal
abbrev pub IsBreach : Program → Refused → Type 0
IsBreach p r = (a : FunBreach) × (r ≡ Breach a) × HasBreach p a

pub breaches_fail : (text : List ℕ) (p : Program) (e : Failure Refused) → TypesAs text p → All (WithinIfExported p) p.funs → IfRefused e (IsBreach p) → IfAnswered {A = List ℕ} (Err e) (Answers text)
breaches_fail text p e t w h = answered text (IsBreach p) e (λ r k. subst (IsFirstCause text) (sym k.1) (breach_first text p t w k.0 k.2)) h
