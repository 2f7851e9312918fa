-- Refusals that are handed on.
use Rattle.std.proofs.Common.{◌≡◌, sym, subst, Result, Ok, Err, IsErrAnd}
use Rattle.std.specs.Prelude.{IfErr}
use Rattle.jz_tree.specs.Failure.{Failure}
use Rattle.jz_tree.specs.Failure.TheVariants.{Refused, OutOfMemory}
use Rattle.jz_tree.specs.Failures.{IfAnswered, IfRefused}
use Rattle.jz_tree.specs.Span.{Span}

cause : {A B : Type 0} (P : Result A Span → Type 0) (Q : Result B Span → Type 0) (v : Failure Span) → IfAnswered {A = A} (Err v) P → ((at : Span) → P (Err at) → Q (Err at)) → IfAnswered {A = B} (Err v) Q
cause P Q (Refused at) h f = f at h
cause P Q OutOfMemory h f = tt

pub handed : {A B : Type 0} (P : Result A Span → Type 0) (Q : Result B Span → Type 0) (r : Result B (Failure Span)) (e : Failure Span) → IsErrAnd r (λ v. v ≡ e) → IfAnswered {A = A} (Err e) P → ((at : Span) → P (Err at) → Q (Err at)) → IfAnswered r Q
handed P Q (Ok x) e is h f = absurd is
handed {A} P Q (Err v) e is h f = cause P Q v (subst (λ w. IfAnswered {A = A} (Err w) P) (sym is) h) f

-- where the cause alone is said
why : (P Q : Span → Type 0) (v : Failure Span) → IfRefused v P → ((at : Span) → P at → Q at) → IfRefused v Q
why P Q (Refused at) h f = f at h
why P Q OutOfMemory h f = tt

pub handed_cause : {B : Type 0} (P Q : Span → Type 0) (r : Result B (Failure Span)) (e : Failure Span) → IsErrAnd r (λ v. v ≡ e) → IfRefused e P → ((at : Span) → P at → Q at) → IfErr r (λ v. IfRefused v Q)
handed_cause P Q (Ok x) e is h f = absurd is
handed_cause P Q (Err v) e is h f = why P Q v (subst (λ w. IfRefused w P) (sym is) h) f

-- from an answer to its cause
refused : {A : Type 0} (P : Result A Span → Type 0) (Q : Span → Type 0) (v : Failure Span) → IfAnswered {A = A} (Err v) P → ((at : Span) → P (Err at) → Q at) → IfRefused v Q
refused P Q (Refused at) h f = f at h
refused P Q OutOfMemory h f = tt

pub handed_answer : {A B : Type 0} (P : Result A Span → Type 0) (Q : Span → Type 0) (r : Result B (Failure Span)) (e : Failure Span) → IsErrAnd r (λ v. v ≡ e) → IfAnswered {A = A} (Err e) P → ((at : Span) → P (Err at) → Q at) → IfErr r (λ v. IfRefused v Q)
handed_answer P Q (Ok x) e is h f = absurd is
handed_answer {A} P Q (Err v) e is h f = refused {A = A} P Q v (subst (λ w. IfAnswered {A = A} (Err w) P) (sym is) h) f

-- from a cause to an answer
with_cause : {B : Type 0} (P : Span → Type 0) (Q : Result B Span → Type 0) (v : Failure Span) → IfRefused v P → ((at : Span) → P at → Q (Err at)) → IfAnswered {A = B} (Err v) Q
with_cause P Q (Refused at) h f = f at h
with_cause P Q OutOfMemory h f = tt

pub answered : {B : Type 0} (P : Span → Type 0) (Q : Result B Span → Type 0) (r : Result B (Failure Span)) (e : Failure Span) → IsErrAnd r (λ v. v ≡ e) → IfRefused e P → ((at : Span) → P at → Q (Err at)) → IfAnswered r Q
answered P Q (Ok x) e is h f = absurd is
answered P Q (Err v) e is h f = with_cause P Q v (subst (λ w. IfRefused w P) (sym is) h) f
