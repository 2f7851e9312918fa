-- Parts of a statement, one after another.
use Rattle.std.proofs.Common.{◌≡◌, ℕ, List, ◌++◌, refl, ap, sym, subst, ◌∙◌, append_assoc}
use Rattle.std.specs.Prelude.{Result, Ok, Err, IsErrAnd}
use Rattle.jz_tree.specs.Failure.{Failure}
use Rattle.jz_tree.specs.Failure.TheVariants.{Refused, OutOfMemory}
use Rattle.jz_tree.specs.Failures.{IfAnswered}
use Rattle.jz_meaning.specs.declared.value.Stuck.{Stuck}
use Rattle.jz_runs.specs.Rules.{stuck, went}
use Rattle.jz_meaning.specs.Attempts.{Evaluation, numbers_first, and_then}

pub first_twice : {A : Type 0} (ms ns : List ℕ) (g : Evaluation A) → numbers_first ms (numbers_first ns g) ≡ numbers_first (ms ++ ns) g
first_twice ms ns (stuck w) = refl
first_twice ms ns (went ks x) = ap (λ y. went y x) (sym (append_assoc ms ns ks))

pub first_then : {A B : Type 0} (ns : List ℕ) (g : Evaluation A) (go : A → Evaluation B) → numbers_first ns (and_then g go) ≡ and_then (numbers_first ns g) go
first_then ns (stuck w) go = refl
first_then ns (went ms x) go = first_twice ns ms (go x)

-- the first part is stuck
pub stuck_then : {A B : Type 0} (ns : List ℕ) (g : Evaluation A) (go : A → Evaluation B) (k : Stuck) → stuck k ≡ numbers_first ns g → stuck k ≡ numbers_first ns (and_then g go)
stuck_then ns g go k e = ap (λ x. and_then x go) e ∙ sym (first_then ns g go)

-- it has gone
pub gone_then : {A B : Type 0} (ns ms : List ℕ) (g : Evaluation A) (go : A → Evaluation B) (x : A) (r : Evaluation B) → went ms x ≡ numbers_first ns g → r ≡ numbers_first ms (go x) → r ≡ numbers_first ns (and_then g go)
gone_then ns ms g go x r e f = f ∙ ap (λ y. and_then y go) e ∙ sym (first_then ns g go)

-- ---- failures that are handed on

refused_of : {A B : Type 0} (e : Failure Stuck) (P : Result A Stuck → Type 0) (Q : Result B Stuck → Type 0) →
    IfAnswered (Err e) P → ((k : Stuck) → P (Err k) → Q (Err k)) → IfAnswered (Err e) Q
refused_of (Refused k) P Q h f = f k h
refused_of OutOfMemory P Q h f = tt

-- a failure of a part is one of the whole, where the cause of a refusal is
pub handed_on : {A B : Type 0} (r : Result B (Failure Stuck)) (e : Failure Stuck) (P : Result A Stuck → Type 0) (Q : Result B Stuck → Type 0) →
    IsErrAnd r (λ v. v ≡ e) → IfAnswered (Err e) P → ((k : Stuck) → P (Err k) → Q (Err k)) → IfAnswered r Q
handed_on (Ok x) e P Q is h f = absurd is
handed_on (Err v) e P Q is h f = refused_of v P Q (subst (λ w. IfAnswered (Err w) P) (sym is) h) f

-- a cause becomes a refusal
pub becomes_refusal : {B : Type 0} (r : Result B (Failure Stuck)) (k : Stuck) (Q : Result B Stuck → Type 0) →
    IsErrAnd r (λ v. v ≡ Refused k) → Q (Err k) → IfAnswered r Q
becomes_refusal (Ok x) k Q is h = absurd is
becomes_refusal (Err v) k Q is h = subst (λ w. IfAnswered (Err w) Q) (sym is) h
