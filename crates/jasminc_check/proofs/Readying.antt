-- What the judgement of an export function asks: nothing refuses it, and what it becomes is as the
-- first alarm wants it.
use Rattle.std.proofs.Common.{◌≡◌, ℕ, ◌≤◌, ◌∙◌, List, ◌++◌, Option, Some, None, true, false, map, length, refl, sym, ap, subst, arith, inl, inr}
use Rattle.std.specs.Prelude.{slice_get}
use Rattle.std.proofs.lemmas.List.Elements.{All-contains}
use Rattle.jz_tree.specs.declared.program.Fun.{Fun}
use Rattle.jz_tree.specs.declared.program.Param.{Param}
use Rattle.jz_tree.specs.declared.program.Program.{Program}
use Rattle.jz_type_rows.specs.Exports.{is_exported}
use Rattle.jz_annotations.specs.declared.precondition.Pre.{Pre}
use Rattle.jz_preconditions.specs.Stating.{preconditions_of}
use Rattle.jz_change.specs.Changes.{Change}
use Rattle.jasminc_expansions.specs.Expansions.{IsExpansion}
use Rattle.jasminc_expansions.proofs.Followed.{same_at, contains_at}
use Rattle.jz_fact_sets.specs.Kept.{AreDifferent}
use Rattle.jz_given.specs.Giving.{param_of}
use Rattle.jz_given_laws.specs.GivenLaws.{HasDifferent, HasFew}
use Rattle.jz_given_laws.proofs.Parameters.{differ_law, few_law}
use Rattle.jz_block_facts.specs.Heads.{HasNoFor, plain_block}
use Rattle.jz_alarms.specs.Conditions.{Alarm}
use Rattle.jz_asked.specs.declared.alarms.Alarm as asked
use Rattle.jz_asked.specs.Asked.{alarm_of}
use Rattle.jz_expanded_numbers.proofs.OneExpansionExpansions.{expansion_plain}
use Rattle.jz_first_alarm.specs.FirstAlarms.{HasFirstAlarm}
use Rattle.jasminc_expansions.specs.Ready.{IsReadyAt}
use Rattle.jasminc_check.specs.Safety.{IsSafe, safe_line}
use Rattle.jasminc_check.specs.InnerSafety.{IsJudgedAt, AddsLine, AlarmAt}

-- ---- what it becomes

module _ (p : Program) (place : ℕ) (h : IsReadyAt p place) where
  module _ (f e : Fun) (there : slice_get p.funs place ≡ Some f) (k : Change) (n : ℕ) (x : IsExpansion p f e k n) where
    params_same : e.params ≡ f.params
    params_same = ap (λ (g : Fun). g.params) x.function ∙ x.head.params

    pub differ : (ps : List Pre) → AreDifferent (map (param_of ps) e.params)
    differ ps =
        subst (λ (qs : List Param). AreDifferent (map (param_of ps) qs)) (sym params_same)
        (All-contains HasDifferent p.funs f (differ_law p h.typed h.text) (contains_at p place f there) ps)

    pub few : length e.params ≤ 64
    few =
        let exported : is_exported f.kind ≡ true = subst (λ (g : Fun). is_exported g.kind ≡ true) (same_at p place h.function f h.there there) h.exported in
        let six : length f.params ≤ 6 = All-contains HasFew p.funs f (few_law p h.typed) (contains_at p place f there) exported in
        let l : length e.params ≡ length f.params = ap (λ (qs : List Param). length qs) params_same in omega (arith, six, l)

    pub plain : HasNoFor (plain_block e.body)
    plain = expansion_plain p f e k n x

    pub judged_at : (ps : List Pre) (w : Option Alarm) → ps ≡ preconditions_of f → HasFirstAlarm e ps w → IsJudgedAt p place n w
    judged_at ps w is first = record {
      function = f;
      there = there;
      judged = record { expanded = e; change = k; expansion = x; first = subst (λ (qs : List Pre). HasFirstAlarm e qs w) is first };
    }

-- ---- one of the functions

pub safe_at : (p : Program) (place n : ℕ) (f : Fun) → slice_get p.funs place ≡ Some f → IsJudgedAt p place n None → IsSafe p f n
safe_at p place n f there j = subst (λ (g : Fun). IsSafe p g n) (same_at p place j.function f j.there there) j.judged

pub alarm_at : (p : Program) (place : ℕ) (f : Fun) (a : asked.Alarm) → slice_get p.funs place ≡ Some f → is_exported f.kind ≡ true
    → (count : ℕ) × IsJudgedAt p place count (Some (alarm_of a)) → AlarmAt p place a
alarm_at p place f a there exported j = record {
  function = j.1.function;
  there = j.1.there;
  exported = subst (λ (g : Fun). is_exported g.kind ≡ true) (same_at p place f j.1.function there j.1.there) exported;
  count = j.0;
  judged = j.1.judged;
}

pub line_added : (p : Program) (place n : ℕ) (f : Fun) (old new : List ℕ) → slice_get p.funs place ≡ Some f → is_exported f.kind ≡ true
    → IsJudgedAt p place n None → new ≡ old ++ safe_line f n → AddsLine p place old new
line_added p place n f old new there exported j e = record {
  function = f;
  there = there;
  line = inl (exported, n, safe_at p place n f there j, e);
}

pub nothing_added : (p : Program) (place : ℕ) (f : Fun) (old : List ℕ) → slice_get p.funs place ≡ Some f → is_exported f.kind ≡ false → AddsLine p place old old
nothing_added p place f old there hidden = record { function = f; there = there; line = inr (hidden, refl) }
