-- A first breach as it is listed.
use Rattle.std.proofs.Common.{Some, sym, subst}
use Rattle.jz_io.specs.declared.verdict.Ct.{Ct}
use Rattle.jz_io.specs.declared.verdict.Ct.TheVariants as ct
use Rattle.jz_tree.specs.declared.program.Fun.{Fun}
use Rattle.jz_tree.specs.Span.{Span}
use Rattle.jz_labels.specs.Required.{Reason, Breach}
use Rattle.jz_ct.specs.Told.{HasFirstBreach}
use Rattle.jz_verdict.specs.Said.{IsListedOf, IsSaidOf}

pub breach_said : (g : Fun) (b : Breach) (said : Ct) → HasFirstBreach g (Some b) → IsListedOf b said → IsSaidOf g said
breach_said g b ct.Yes h l = absurd l
breach_said g b (ct.No at why var) h (place, reason, name) = (
  b.secret,
  name,
  subst (λ (r : Reason). HasFirstBreach g (Some (record { span = at; why = r; secret = b.secret }))) (sym reason)
      (subst (λ (s : Span). HasFirstBreach g (Some (record { span = s; why = b.why; secret = b.secret }))) (sym place) h),
)
