-- What is told of an export function.
use Rattle.std.proofs.Common.{◌≡◌, ℕ, List, ◌++◌, Option, Some, true, false, refl, ap, subst, inl, inr}
use Rattle.std.specs.Prelude.{◌↔◌, slice_get}
use Rattle.jz_tree.specs.declared.program.Fun.{Fun}
use Rattle.jz_tree.specs.declared.program.Program.{Program}
use Rattle.jz_type_rows.specs.Exports.{is_exported}
use Rattle.jz_change.specs.Views.{change_of}
use Rattle.jz_labels.specs.Required.{Breach}
use Rattle.jasminc_expansions.specs.ExpansionExpanding.{IsExpandedAt}
use Rattle.jasminc_expansions.specs.Expanded.{Expanded}
use Rattle.jasminc_expansions.proofs.Followed.{same_at}
use Rattle.jz_ct.specs.declared.judging.Ct.{Ct}
use Rattle.jz_ct.specs.declared.judging.Ct.TheVariants as told
use Rattle.jz_ct.specs.Told.{told_by, IsConstantTime, HasFirstBreach}
use Rattle.jasminc_ct.specs.declared.breaches.FunBreach.{FunBreach}
use Rattle.jasminc_ct.specs.Judging.{IsConstant, IsJudged, yes_line}
use Rattle.jasminc_ct.specs.InnerJudging.{IsJudgedAt, AddsLine, BreachAt}

-- ---- what is told

pub judged_at : (p : Program) (place : ℕ) (r : Expanded) (ct : Ct) → IsExpandedAt p place r → (ct ≡ told.Yes) ↔ IsConstantTime r.fun → HasFirstBreach r.fun (told_by ct) → IsJudgedAt p place ct
judged_at p place r ct x whether first = record {
  function = x.source;
  there = x.there;
  expanded = r.fun;
  change = change_of r.change;
  count = r.count;
  expansion = x.expansion;
  constant = whether;
  first = first;
}

pub constant_at : (p : Program) (place : ℕ) (f : Fun) (ct : Ct) → slice_get p.funs place ≡ Some f → IsJudgedAt p place ct → ct ≡ told.Yes → IsConstant p f
constant_at p place f ct there j e =
    subst (λ (g : Fun). IsConstant p g) (same_at p place j.function f j.there there)
    (record { expanded = j.expanded; change = j.change; count = j.count; expansion = j.expansion; constant = j.constant.0 e })

first_at : (p : Program) (place : ℕ) (f : Fun) (ct : Ct) → slice_get p.funs place ≡ Some f → IsJudgedAt p place ct → IsJudged p f (told_by ct)
first_at p place f ct there j =
    subst (λ (g : Fun). IsJudged p g (told_by ct)) (same_at p place j.function f j.there there)
    (record { expanded = j.expanded; change = j.change; count = j.count; expansion = j.expansion; first = j.first })

-- ---- one of the functions

pub breach_at : (p : Program) (place : ℕ) (f : Fun) (ct : Ct) → slice_get p.funs place ≡ Some f → is_exported f.kind ≡ true → IsJudgedAt p place ct
    → (x : FunBreach) → (x.fun ≡ f.name) × (ct ≡ told.No x.breach) → BreachAt p place x
breach_at p place f ct there exported j x (named, is) = record {
  function = f;
  there = there;
  exported = exported;
  named = named;
  judged = subst (λ (w : Option Breach). IsJudged p f w) (ap told_by is) (first_at p place f ct there j);
}

pub line_added : (p : Program) (place : ℕ) (f : Fun) (ct : Ct) (old new : List ℕ) → slice_get p.funs place ≡ Some f → is_exported f.kind ≡ true
    → IsJudgedAt p place ct → ct ≡ told.Yes → new ≡ old ++ yes_line f → AddsLine p place old new
line_added p place f ct old new there exported j is e = record {
  function = f;
  there = there;
  line = inl (exported, constant_at p place f ct there j is, e);
}

pub nothing_added : (p : Program) (place : ℕ) (f : Fun) (old : List ℕ) → slice_get p.funs place ≡ Some f → is_exported f.kind ≡ false → AddsLine p place old old
nothing_added p place f old there hidden = record { function = f; there = there; line = inr (hidden, refl) }
