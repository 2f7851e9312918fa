-- What the first alarm wants of a function holds of an expansion.
use Rattle.std.proofs.Common.{◌≡◌, ◌≤◌, ◌∙◌, List, [], Option, map, length, sym, ap, subst, arith}
use Rattle.std.proofs.lemmas.List.Elements.{All-contains}
use Rattle.jz_tree.specs.Span.{Span}
use Rattle.jz_tree.specs.declared.program.Fun.{Fun}
use Rattle.jz_tree.specs.declared.program.Note.{Note}
use Rattle.jz_tree.specs.declared.program.Param.{Param}
use Rattle.jz_type_names.specs.Scopes.{variable_named}
use Rattle.jz_annotations.specs.declared.precondition.Pre.{Pre}
use Rattle.jz_preconditions.specs.Naming.{ParametersByName}
use Rattle.jz_preconditions.specs.Refusals.{refused_in, refused_places}
use Rattle.jz_preconditions.specs.Stating.{stated_in, preconditions_of}
use Rattle.jz_stated.proofs.Annotated.{asked_well}
use Rattle.jz_change.specs.Views.{change_of}
use Rattle.jz_one_expansion.specs.Expanded.{Expanded}
use Rattle.jz_fact_sets.specs.Kept.{AreDifferent}
use Rattle.jz_given.specs.Giving.{param_of}
use Rattle.jz_given_laws.specs.GivenLaws.{HasDifferent, HasFew}
use Rattle.jz_given_laws.proofs.Parameters.{differ_law, few_law}
use Rattle.jz_block_facts.specs.Heads.{HasNoFor, plain_block}
use Rattle.jz_alarms.specs.Conditions.{Alarm}
use Rattle.jz_first_alarm.specs.FirstAlarms.{HasFirstAlarm}
use Rattle.jz_one_expansion.proofs.Expansions.{expansion_plain}
use Rattle.jz_safe.specs.Texts.{IsOfText}

-- the places of what is refused, by the parameters and the annotations alone
abbrev named : List Param → ParametersByName
named ps = λ n. variable_named n (map (λ (q : Param). q.var) ps)

abbrev refused_of : List Param → List Note → List Span
refused_of ps notes = refused_in (named ps) notes (stated_in (named ps) notes)

module _ (e : Expanded) (h : IsOfText e) where
  same : e.fun.params ≡ h.source.params
  same = ap (λ (g : Fun). g.params) h.from.expansion.function ∙ h.from.expansion.head.params

  notes_same : e.fun.notes ≡ h.source.notes
  notes_same = ap (λ (g : Fun). g.notes) h.from.expansion.function ∙ h.from.expansion.head.notes

  pub different : (ps : List Pre) → AreDifferent (map (param_of ps) e.fun.params)
  different ps =
      subst (λ (qs : List Param). AreDifferent (map (param_of ps) qs)) (sym same)
      (All-contains HasDifferent h.program.funs h.source (differ_law h.program h.from.typed h.from.text) h.from.there ps)

  pub few : length e.fun.params ≤ 64
  few =
      let six : length h.source.params ≤ 6 = All-contains HasFew h.program.funs h.source (few_law h.program h.from.typed) h.from.there h.from.exported in
      let l : length e.fun.params ≡ length h.source.params = ap (λ (qs : List Param). length qs) same in
      omega (arith, six, l)

  pub plain : HasNoFor (plain_block e.fun.body)
  plain = expansion_plain h.program h.source e.fun (change_of e.change) e.count h.from.expansion

  pub none_refused : refused_places e.fun ≡ []
  none_refused =
      ap (λ (ps : List Param). refused_of ps e.fun.notes) same
      ∙ ap (λ (ns : List Note). refused_of h.source.params ns) notes_same
      ∙ asked_well h.program h.source h.from.typed h.from.there h.from.exported

-- the first alarm under what is stated of the function
pub of_stated : (g f : Fun) (ps : List Pre) (w : Option Alarm) → f ≡ g → ps ≡ preconditions_of f → HasFirstAlarm f ps w → HasFirstAlarm g (preconditions_of g) w
of_stated g f ps w same is first =
    subst (λ (x : Fun). HasFirstAlarm x (preconditions_of x) w) same (subst (λ (qs : List Pre). HasFirstAlarm f qs w) is first)
