-- What parts of a statement give, one after another.
use Rattle.std.proofs.Common.{◌≡◌, ℕ, List, Option, Some, None, refl, subst}
use Rattle.jz_tree.specs.Span.{Span}
use Rattle.jz_meaning.specs.Rules.{stuck, went}
use Rattle.jz_meaning.specs.Attempts.{Evaluation, numbers_first, and_then, defined}
use Rattle.jz_run_laws.specs.Kept.{IfWent}

abbrev pub AnyOf : {A : Type 0} → A → Type 0
AnyOf x = Unit {0}

-- what is said of what is there
abbrev pub IfThere : {A : Type 0} → (A → Type 0) → Option A → Type 0
IfThere P None = Unit {0}
IfThere P (Some x) = P x

went_first : {A : Type 0} (P : A → Type 0) (ns : List ℕ) (g : Evaluation A) → IfWent P g → IfWent P (numbers_first ns g)
went_first P ns (stuck w) h = tt
went_first P ns (went ms x) h = h

pub went_then : {A B : Type 0} (P : A → Type 0) (Q : B → Type 0) (g : Evaluation A) (f : A → Evaluation B) → IfWent P g → ((x : A) → P x → IfWent Q (f x)) → IfWent Q (and_then g f)
went_then P Q (stuck w) f h k = tt
went_then P Q (went ns x) f h k = went_first Q ns (f x) (k x h)

pub went_any : {A : Type 0} (g : Evaluation A) → IfWent (AnyOf {A = A}) g
went_any (stuck w) = tt
went_any (went ns x) = tt

pub went_defined : {A : Type 0} (P : A → Type 0) (at : Span) (p : Option A) → IfThere P p → IfWent P (defined at p)
went_defined P at None h = tt
went_defined P at (Some x) h = h

-- from each value that is there
pub there_if : {A : Type 0} (P : A → Type 0) (p : Option A) → ((x : A) → p ≡ Some x → P x) → IfThere P p
there_if P None h = tt
there_if P (Some x) h = h x refl

pub there_is : {A : Type 0} (P : A → Type 0) (p : Option A) (x : A) → p ≡ Some x → IfThere P p → P x
there_is P p x e h = subst (IfThere P) e h
