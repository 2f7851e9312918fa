-- There is one first breach.
use Rattle.std.proofs.Common.{◌≡◌, Option, subst}
use Rattle.jz_runs.specs.Trees.{Tree}
use Rattle.jz_flow.specs.Alarms.{First, no_more}
use Rattle.jz_flow.proofs.Ordering.{same_sets}
use Rattle.jz_flow.proofs.OneFirst.{one_first, none_more}
use Rattle.jz_terms.specs.Terms.{Term}
use Rattle.jz_labels.specs.Operations.{Plain}
use Rattle.jz_labels.specs.Labels.{Publics, label_steps}
use Rattle.jz_labels.specs.Required.{Breach, breach_asks}
use Rattle.jz_labels.specs.ConstantTime.{IsFirst}
use Rattle.jz_labels.proofs.MoreLabels.{labels_monotone}

pub one_breach : {O T N C : Type 0} (plain : O → Plain) (term : T → Term) (entry : Publics) (body : Tree O T N C) (v w : Option Breach) → IsFirst plain term entry body v → IsFirst plain term entry body w → v ≡ w
one_breach plain term entry body v w (a, m, f) (b, k, h) =
    let e : b ≡ a = same_sets b a (m.1 b k.0) (k.1 a m.0) in
    one_first (label_steps plain term a) (breach_asks plain term a) (labels_monotone plain term a) body entry v w no_more none_more f
    (subst (λ (x : Publics). First (label_steps plain term x) (breach_asks plain term x) body entry w no_more) e h)
