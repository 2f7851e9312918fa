-- How a function is judged is one.
use Rattle.std.proofs.Common.{◌≡◌, ℕ, Bool, true, false, List, [], ◌∷◌, ◌++◌, Option, Some, None, refl, sym, ◌∙◌, subst, arith}
use Rattle.std.specs.Prelude.{All, Contains}
use Rattle.std.proofs.lemmas.Bool.{false≢true}
use Rattle.std.proofs.lemmas.List.Elements.{All-nil, All-cons, All-contains, Contains-append_right, Contains-append_left}
use Rattle.jz_tree.specs.declared.program.Fun.{Fun}
use Rattle.jz_tree.specs.declared.program.Param.{Param}
use Rattle.jz_tree.specs.declared.program.Program.{Program}
use Rattle.jz_type_rows.specs.Exports.{is_exported}
use Rattle.jz_meaning.specs.Statements.{Block}
use Rattle.jz_labels.specs.Operations.{plain_of, tested_by}
use Rattle.jz_labels.specs.Required.{Breach}
use Rattle.jz_labels.specs.ConstantTime as labels
use Rattle.jz_labels.proofs.Comparing.{labels_no_breach}
use Rattle.jz_labels.proofs.OneBreach.{one_breach}
use Rattle.jz_function_runs.specs.FunctionRuns.{plain_body}
use Rattle.jz_one_unrolling.proofs.One.{one_unrolling}
use Rattle.jz_ct.specs.OneExpansion.{IsSame}
use Rattle.jz_ct.proofs.Expansions.{expansions_same}
use Rattle.jz_ct.specs.Told.{breach_of, HasFirstBreach}
use Rattle.jasminc_ct.specs.declared.breaches.FunBreach.{FunBreach}
use Rattle.jasminc_ct.specs.Judging.{IsConstant, IsJudged, ConstantIfExported, HasBreach, YesLine, AreConstant}
use Rattle.jasminc_ct.specs.JudgementLaws.{OneJudgement}

-- the first breach of functions with one body and one head
first_too : (e o : Fun) (w : Option Breach) → IsSame e o → HasFirstBreach e w → HasFirstBreach o w
first_too e o w s h =
    subst (λ (b : Block). labels.IsFirstBreach o.params b w) s.body
    (subst (λ (ps : List Param). labels.IsFirstBreach ps (plain_body e) w) s.params h)

pub constant_none : (p : Program) (f : Fun) (w : Option Breach) → IsConstant p f → IsJudged p f w → w ≡ None
constant_none p f w a b =
    let one = expansions_same one_unrolling p f b.expanded a.expanded b.change a.change b.count a.count b.expansion a.expansion in
    let first = first_too b.expanded a.expanded w one.same b.first in
    labels_no_breach plain_of tested_by (labels.at_entry a.expanded.params) (plain_body a.expanded) w a.constant first

pub one_judged : (p : Program) (f : Fun) (v w : Option Breach) → IsJudged p f v → IsJudged p f w → v ≡ w
one_judged p f v w a b =
    let one = expansions_same one_unrolling p f a.expanded b.expanded a.change b.change a.count b.count a.expansion b.expansion in
    let first = first_too a.expanded b.expanded v one.same a.first in
    one_breach plain_of tested_by (labels.at_entry b.expanded.params) (plain_body b.expanded) v w first b.first

pub one_law : OneJudgement
one_law = record { constant = constant_none; one = one_judged }

-- ---- constant time, or a breach

module _ (p : Program) where
  each_constant : (fs : List Fun) (text : List ℕ) → AreConstant p fs text → All (ConstantIfExported p) fs
  each_constant [] text h = All-nil (ConstantIfExported p)
  each_constant (f ∷ fs) text h = by (is_exported f.kind) refl h (λ rest. each_constant fs rest)
    where
      by : (b : Bool) → is_exported f.kind ≡ b → YesLine b p f (AreConstant p fs) text → ((rest : List ℕ) → AreConstant p fs rest → All (ConstantIfExported p) fs) → All (ConstantIfExported p) (f ∷ fs)
      by true e (s, rest, q, r) on = All-cons (ConstantIfExported p) f fs (λ x. s) (on rest r)
      by false e r on = All-cons (ConstantIfExported p) f fs (λ x. absurd (false≢true (sym e ∙ x))) (on text r)

  among : (front rest : List Fun) (f : Fun) → p.funs ≡ front ++ f ∷ rest → Contains p.funs f
  among front rest f e =
      subst (λ fs. Contains fs f) (sym e)
      (Contains-append_right front (f ∷ rest) f (Contains-append_left (f ∷ []) rest f (0, omega arith, refl)))

  split_has : (h : All (ConstantIfExported p) p.funs) (front rest : List Fun) (f : Fun) → p.funs ≡ front ++ f ∷ rest → ConstantIfExported p f
  split_has h front rest f e = All-contains (ConstantIfExported p) p.funs f h (among front rest f e)

pub constant_no_breach : (p : Program) (text : List ℕ) (a : FunBreach) → AreConstant p p.funs text → HasBreach p a → ⊥
constant_no_breach p text a good h =
    let constant = split_has p (each_constant p p.funs text good) h.front h.rest h.function h.split h.exported in
    let e : Some (breach_of a.breach) ≡ None = constant_none p h.function (Some (breach_of a.breach)) constant h.judged in
    cc
