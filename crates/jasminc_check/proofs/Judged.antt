-- How a function is judged is one.
use Rattle.std.proofs.Common.{◌≡◌, ℕ, ◌∙◌, Bool, true, false, List, [], ◌∷◌, ◌++◌, Option, Some, None, map, flat_map, refl, sym, ap, subst, arith}
use Rattle.std.specs.Prelude.{All, Contains}
use Rattle.std.proofs.lemmas.Bool.{false≢true}
use Rattle.std.proofs.lemmas.List.Elements.{All-nil, All-cons, All-contains, Contains-append_right, Contains-append_left}
use Rattle.jz_tree.specs.declared.expr.Var.{Var}
use Rattle.jz_tree.specs.declared.program.Fun.{Fun}
use Rattle.jz_tree.specs.declared.program.Param.{Param}
use Rattle.jz_tree.specs.declared.program.Program.{Program}
use Rattle.jz_annotations.specs.declared.precondition.Pre.{Pre}
use Rattle.jz_meaning.specs.Statements.{Block}
use Rattle.jz_typed_runs.specs.TypedTexts.{IsTypedText}
use Rattle.jz_intervals.specs.Constants.{constants, is_among}
use Rattle.jz_body_numbers.specs.Numbers.{Numbers, of_body, of_pres}
use Rattle.jz_fact_sets.specs.Kept.{start_of, region_of}
use Rattle.jz_given.specs.Giving as giving
use Rattle.jz_facts.specs.Facts.{Given}
use Rattle.jz_block_facts.specs.Heads.{plain_block}
use Rattle.jz_alarms.specs.Conditions.{Alarm}
use Rattle.jz_alarms.specs.Alarms.{IsFirstAlarm}
use Rattle.jz_one_alarm.specs.SetLaws.{IsGivenAlike}
use Rattle.jz_one_alarm.proofs.OneAlarms.{one_alarm_of_set}
use Rattle.jz_one_unrolling.proofs.One.{one_unrolling}
use Rattle.jz_expanded_numbers.specs.OneExpansion.{IsSame}
use Rattle.jz_expanded_numbers.proofs.OneExpansionExpansions.{expansions_same}
use Rattle.jz_expanded_numbers.proofs.Expansions.{one_numbers}
use Rattle.jz_preconditions.specs.Stating.{preconditions_of}
use Rattle.jz_type_rows.specs.Exports.{is_exported}
use Rattle.jz_asked.specs.declared.alarms.Alarm as asked
use Rattle.jz_asked.specs.Asked.{alarm_of}
use Rattle.jz_first_alarm.specs.FirstAlarms.{IsGiven, HasFirstAlarm}
use Rattle.jasminc_check.specs.Safety.{SafeIfExported, HasAlarm, SafeLine, AreSafe}
use Rattle.jasminc_check.specs.JudgementLaws.{OneJudgement}

-- what is given of two functions with one body and one head
module _ (e o : Fun) (ps : List Pre) (same : IsSame e o) (numbers : of_body e.body ≡ of_body o.body) where
  given_alike : (g h : Given) → IsGiven e ps g → IsGiven o ps h → IsGivenAlike g h
  given_alike g h a b = record {
    params = a.params ∙ ap (λ (qs : List Param). map start_of (map (giving.param_of ps) qs)) same.params ∙ sym b.params;
    regions = a.regions ∙ ap (λ (qs : List Param). map region_of (flat_map (giving.region_of (giving.variables qs)) ps)) same.params ∙ sym b.regions;
    consts = λ c. a.constants c ∙ ap (λ (ns : Numbers). is_among c (constants (ns ++ of_pres ps))) numbers ∙ sym (b.constants c);
  }

  one_first : (v w : Option Alarm) → HasFirstAlarm e ps v → HasFirstAlarm o ps w → v ≡ w
  one_first v w a b =
      one_alarm_of_set a.0 b.0 (plain_block e.body) e.result v w (given_alike a.0 b.0 a.1 b.1) a.2
      (subst (λ (t : Block). IsFirstAlarm b.0 t e.result w) (sym same.body)
      (subst (λ (xs : List Var). IsFirstAlarm b.0 (plain_block o.body) xs w) (sym same.result) b.2))

pub one_judged : OneJudgement
one_judged p f m n v w t has a b =
    let one = expansions_same one_unrolling p f a.expanded b.expanded a.change b.change m n a.expansion b.expansion in
    let numbers = one_numbers p f a.expanded b.expanded a.change b.change m n t has a.expansion b.expansion in
    (one.count, one_first a.expanded b.expanded (preconditions_of f) one.same numbers v w a.first b.first)

-- ---- safe, or an alarm

module _ (p : Program) where
  each_safe : (fs : List Fun) (text : List ℕ) → AreSafe p fs text → All (SafeIfExported p) fs
  each_safe [] text h = All-nil (SafeIfExported p)
  each_safe (f ∷ fs) text h = by (is_exported f.kind) refl h (λ rest. each_safe fs rest)
    where
      by : (b : Bool) → is_exported f.kind ≡ b → SafeLine b p f (AreSafe p fs) text → ((rest : List ℕ) → AreSafe p fs rest → All (SafeIfExported p) fs) → All (SafeIfExported p) (f ∷ fs)
      by true e (n, s, rest, q, r) on = All-cons (SafeIfExported p) f fs (λ x. (n, s)) (on rest r)
      by false e r on = All-cons (SafeIfExported p) f fs (λ x. absurd (false≢true (sym e ∙ x))) (on text r)

  among : (front rest : List Fun) (f : Fun) → p.funs ≡ front ++ f ∷ rest → Contains p.funs f
  among front rest f e =
      subst (λ fs. Contains fs f) (sym e)
      (Contains-append_right front (f ∷ rest) f (Contains-append_left (f ∷ []) rest f (0, omega arith, refl)))

  split_has : (h : All (SafeIfExported p) p.funs) (front rest : List Fun) (f : Fun) → p.funs ≡ front ++ f ∷ rest → SafeIfExported p f
  split_has h front rest f e = All-contains (SafeIfExported p) p.funs f h (among front rest f e)

pub safe_no_alarm : (p : Program) → IsTypedText p → (text : List ℕ) (a : asked.Alarm) → AreSafe p p.funs text → HasAlarm p a → ⊥
safe_no_alarm p t text a safe h =
    let good = split_has p (each_safe p p.funs text safe) h.front h.rest h.function h.split h.exported in
    let one = one_judged p h.function good.0 h.count None (Some (alarm_of a)) t (among p h.front h.rest h.function h.split) good.1 h.judged in
    let e : None ≡ Some (alarm_of a) = one.1 in
    cc
