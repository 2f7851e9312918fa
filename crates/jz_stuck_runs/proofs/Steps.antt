-- What is said of why an attempt is stuck.
use Rattle.std.proofs.Common.{◌≡◌, List, [], ◌∷◌, Some, None, refl, sym, subst, if◌then◌else◌}
use Rattle.std.specs.Prelude.{Contains}
use Rattle.std.proofs.lemmas.List.Elements.{All-head, All-tail, All-contains, All-contains_itself}
use Rattle.jz_tree.specs.Span.{Span}
use Rattle.jz_tree.specs.Size.{Size}
use Rattle.jz_judgement.specs.Places as place
use Rattle.jz_meaning.specs.declared.value.Stuck as code
use Rattle.jz_meaning.specs.declared.value.Why.TheVariants.{Init}
use Rattle.jz_meaning.specs.Rules.{stuck, went}
use Rattle.jz_meaning.specs.Attempts.{Evaluation, and_then, defined}
use Rattle.jz_meaning.specs.States.{Value, word, boolean, integer}
use Rattle.jz_meaning.specs.Operators.{word_at}
use Rattle.jz_meaning.specs.Assignments.{word_value, truth}
use Rattle.jz_meaning.specs.Statements.{number_at}
use Rattle.jz_run_laws.specs.Values.{IsAt}
use Rattle.jz_run_laws.proofs.Parts.{AnyOf, went_any}
use Rattle.jz_typed_runs.proofs.OperatorCauses.{IfStuck, size_fits}
use Rattle.jz_typed_runs.proofs.Causing.{stuck_then}

-- what is said of a reason that is no other than the want of a value
abbrev pub Lacks : (code.Stuck → Type 0) → code.Stuck → Type 0
Lacks D w = w.why ≡ Init → D w

pub by_stuck : {A : Type 0} (C : code.Stuck → Type 0) (g : Evaluation A) → ((w : code.Stuck) → g ≡ stuck w → C w) → IfStuck C g
by_stuck C (stuck w) f = f w refl
by_stuck C (went ns x) f = tt

pub weaker : {A : Type 0} (C D : code.Stuck → Type 0) (g : Evaluation A) → ((w : code.Stuck) → C w → D w) → IfStuck C g → IfStuck D g
weaker C D (stuck w) f h = f w h
weaker C D (went ns x) f h = tt

-- one after another, whatever came out
pub stuck_any : {A B : Type 0} (C : code.Stuck → Type 0) (g : Evaluation A) (f : A → Evaluation B) → IfStuck C g → ((x : A) → IfStuck C (f x)) → IfStuck C (and_then g f)
stuck_any {A} C g f h k = stuck_then C (AnyOf {A = A}) g f h (went_any g) (λ ns x e t. k x)

-- ---- values in places
pub word_there : (C : code.Stuck → Type 0) (at : Span) (z : Size) (u : Value) → IsAt (place.word z) u → IfStuck C (word_at at z u)
word_there C at z (word y a) k = subst (λ b. IfStuck C (defined at (if b then Some a else None))) (sym (size_fits z y k)) tt
word_there C at z (integer i) k = tt
word_there C at z (boolean c) k = absurd k

pub stated_there : (C : code.Stuck → Type 0) (at : Span) (z : Size) (u : Value) → IsAt (place.stated z) u → IfStuck C (word_at at z u)
stated_there C at z (word y a) k = subst (λ b. IfStuck C (defined at (if b then Some a else None))) (sym (size_fits z y k)) tt
stated_there C at z (integer i) k = tt
stated_there C at z (boolean c) k = absurd k

pub value_there : (C : code.Stuck → Type 0) (at : Span) (z : Size) (u : Value) → IsAt (place.word z) u → IfStuck C (word_value at z u)
value_there C at z u k = stuck_any C (word_at at z u) (λ a. went [] (word z a)) (word_there C at z u k) (λ a. tt)

pub truth_there : (C : code.Stuck → Type 0) (at : Span) (u : Value) → IsAt place.truth u → IfStuck C (truth at u)
truth_there C at (boolean c) k = tt
truth_there C at (word z a) k = absurd k
truth_there C at (integer i) k = absurd k

pub number_there : (C : code.Stuck → Type 0) (at : Span) (u : Value) → IsAt place.integer u → IfStuck C (number_at at u)
number_there C at (integer i) k = tt
number_there C at (word z a) k = absurd k
number_there C at (boolean c) k = absurd k

-- ---- items of lists
pub first_in : {A : Type 0} (x : A) (xs : List A) → Contains (x ∷ xs) x
first_in x xs = All-head (Contains (x ∷ xs)) x xs (All-contains_itself (x ∷ xs))

pub later_in : {A : Type 0} (x : A) (xs : List A) (y : A) → Contains xs y → Contains (x ∷ xs) y
later_in x xs y h = All-contains (Contains (x ∷ xs)) xs y (All-tail (Contains (x ∷ xs)) x xs (All-contains_itself (x ∷ xs))) h
