-- Parts of a statement from two states, one after another; and those that leak nothing.
use Rattle.std.proofs.Common.{◌≡◌, ℕ, Bool, true, false, List, [], ◌++◌, Option, Some, None, refl, sym, ap, subst, ◌∙◌, if◌then◌else◌}
use Rattle.std.specs.Prelude.{pos, negsuc}
use Rattle.jz_tree.specs.Span.{Span}
use Rattle.x64_insn.specs.Size.{Size}
use Rattle.x64_insn.specs.Words.{residue}
use Rattle.jz_tree.specs.Operators.{joins, divides, is_shift}
use Rattle.jz_tree.specs.declared.expr.BinOp.{BinOp}
use Rattle.jz_tree.specs.declared.expr.BinOp.TheVariants as o
use Rattle.jz_runs.specs.Rules.{stuck, went}
use Rattle.jz_meaning.specs.declared.value.Stuck.{Stuck}
use Rattle.jz_meaning.specs.declared.value.Why.TheVariants.{Init}
use Rattle.jz_meaning.specs.Attempts.{Evaluation, stuck_at, numbers_first, and_then, defined}
use Rattle.jz_meaning.specs.States.{Value, word, boolean, integer}
use Rattle.jz_meaning.specs.Operators.{same_size, plain, on_words, is_settled, combined, shifted, binary}
use Rattle.jz_equal_leaks.specs.TwoRuns.{BothGive}

-- ---- what both give

abbrev pub Any : {A : Type 0} → A → A → Type 0
Any x y = Unit {0}

pub give_stuck : {A : Type 0} (Q : A → A → Type 0) (e : Evaluation A) (w : Stuck) → BothGive Q e (stuck w)
give_stuck Q (stuck v) w = tt
give_stuck Q (went ns x) w = tt

pub stuck_give : {A : Type 0} (Q : A → A → Type 0) (e : Evaluation A) (w : Stuck) → BothGive Q (stuck w) e
stuck_give Q (stuck v) w = tt
stuck_give Q (went ns x) w = tt

pub less_give : {A : Type 0} (Q P : A → A → Type 0) (e f : Evaluation A) → ((x y : A) → Q x y → P x y) → BothGive Q e f → BothGive P e f
less_give Q P (went ns x) (went ms y) h k = (k.0, h x y k.1)
less_give Q P (went ns x) (stuck w) h k = tt
less_give Q P (stuck v) (went ms y) h k = tt
less_give Q P (stuck v) (stuck w) h k = tt

-- the same gives the same
pub itself : {A : Type 0} (Q : A → A → Type 0) (e : Evaluation A) → ((x : A) → Q x x) → BothGive Q e e
itself Q (went ns x) h = (refl, h x)
itself Q (stuck w) h = tt

pub equal_give : {A : Type 0} (Q : A → A → Type 0) (e f : Evaluation A) → e ≡ f → ((x : A) → Q x x) → BothGive Q e f
equal_give Q e f h k = subst (λ z. BothGive Q e z) h (itself Q e k)

pub first_give : {A : Type 0} (Q : A → A → Type 0) (ns : List ℕ) (e f : Evaluation A) → BothGive Q e f → BothGive Q (numbers_first ns e) (numbers_first ns f)
first_give Q ns (went ms x) (went ks y) h = (ap (λ k. ns ++ k) h.0, h.1)
first_give Q ns (went ms x) (stuck w) h = tt
first_give Q ns (stuck v) (went ks y) h = tt
first_give Q ns (stuck v) (stuck w) h = tt

-- one part, and then another
pub then_give : {A B : Type 0} (Q : A → A → Type 0) (P : B → B → Type 0) (e f : Evaluation A) (g h : A → Evaluation B) → BothGive Q e f → ((x y : A) → Q x y → BothGive P (g x) (h y)) → BothGive P (and_then e g) (and_then f h)
then_give Q P (went ns x) (went ms y) g h i go = subst (λ (k : List ℕ). BothGive P (numbers_first ns (g x)) (numbers_first k (h y))) i.0 (first_give P ns (g x) (h y) (go x y i.1))
then_give Q P (went ns x) (stuck w) g h i go = give_stuck P (numbers_first ns (g x)) w
then_give Q P (stuck v) (went ms y) g h i go = stuck_give P (numbers_first ms (h y)) v
then_give Q P (stuck v) (stuck w) g h i go = tt

pub then_same : {A B : Type 0} (e : Evaluation A) (g h : A → Evaluation B) → ((x : A) → g x ≡ h x) → and_then e g ≡ and_then e h
then_same (went ns x) g h k = ap (numbers_first ns) (k x)
then_same (stuck w) g h k = refl

-- the same part, and then the same
pub both_same : {A B : Type 0} (e f : Evaluation A) (g h : A → Evaluation B) → e ≡ f → ((x : A) → g x ≡ h x) → and_then e g ≡ and_then f h
both_same e f g h i k = ap (λ z. and_then z g) i ∙ then_same f g h k

-- ---- what leaks nothing

abbrev pub Silent : {A : Type 0} → Evaluation A → Type 0
Silent (stuck w) = Unit {0}
Silent (went ns x) = ns ≡ []

pub silent_give : {A : Type 0} (e f : Evaluation A) → Silent e → Silent f → BothGive (Any {A = A}) e f
silent_give (went ns x) (went ms y) h k = (h ∙ sym k, tt)
silent_give (went ns x) (stuck w) h k = tt
silent_give (stuck v) (went ms y) h k = tt
silent_give (stuck v) (stuck w) h k = tt

pub silent_defined : {A : Type 0} (at : Span) (p : Option A) → Silent (defined at p)
silent_defined at None = tt
silent_defined at (Some x) = refl

silent_first : {A : Type 0} (ns : List ℕ) (e : Evaluation A) → ns ≡ [] → Silent e → Silent (numbers_first ns e)
silent_first ns (went ms x) h k = ap (λ z. z ++ ms) h ∙ k
silent_first ns (stuck w) h k = tt

pub silent_then : {A B : Type 0} (e : Evaluation A) (g : A → Evaluation B) → Silent e → ((x : A) → Silent (g x)) → Silent (and_then e g)
silent_then (went ns x) g h k = silent_first ns (g x) h (k x)
silent_then (stuck w) g h k = tt

pub silent_if : {A : Type 0} (c : Bool) (e f : Evaluation A) → Silent e → Silent f → Silent (if c then e else f)
silent_if true e f h k = h
silent_if false e f h k = k

-- ---- operators that divide nothing

words_plain : (op : BinOp) (at : Span) (s : Size) (a b : ℕ) → divides op ≡ false → on_words op at s a b ≡ defined at (plain op s a b)
words_plain o.OrElse at s a b d = refl
words_plain o.AndThen at s a b d = refl
words_plain o.Or at s a b d = refl
words_plain o.Xor at s a b d = refl
words_plain o.And at s a b d = refl
words_plain o.Eq at s a b d = refl
words_plain o.Ne at s a b d = refl
words_plain o.Lt at s a b d = refl
words_plain o.Le at s a b d = refl
words_plain o.Gt at s a b d = refl
words_plain o.Ge at s a b d = refl
words_plain o.LtS at s a b d = refl
words_plain o.LeS at s a b d = refl
words_plain o.GtS at s a b d = refl
words_plain o.GeS at s a b d = refl
words_plain o.Shl at s a b d = refl
words_plain o.Shr at s a b d = refl
words_plain o.Sar at s a b d = refl
words_plain o.Rol at s a b d = refl
words_plain o.Ror at s a b d = refl
words_plain o.Add at s a b d = refl
words_plain o.Sub at s a b d = refl
words_plain o.Mul at s a b d = refl
words_plain o.Div at s a b d = absurd (cc d)
words_plain o.Rem at s a b d = absurd (cc d)
words_plain o.DivS at s a b d = absurd (cc d)
words_plain o.RemS at s a b d = absurd (cc d)

silent_words : (op : BinOp) (at : Span) (s : Size) (a b : ℕ) → divides op ≡ false → Silent (on_words op at s a b)
silent_words op at s a b d = subst (λ (e : Evaluation Value). Silent e) (sym (words_plain op at s a b d)) (silent_defined at (plain op s a b))

silent_combined : (op : BinOp) (at : Span) (x y : Value) → divides op ≡ false → Silent (combined op at x y)
unfolding combined
silent_combined op at (word s a) (word z b) d = silent_if (same_size s z) (on_words op at s a b) (stuck_at at Init) (silent_words op at s a b d) tt
silent_combined op at (word s a) (integer j) d = silent_words op at s a (residue s j) d
silent_combined op at (word s a) (boolean c) d = silent_defined at _
silent_combined op at (integer i) (word s b) d = silent_words op at s (residue s i) b d
silent_combined op at (integer i) (integer j) d = silent_defined at _
silent_combined op at (integer i) (boolean c) d = tt
silent_combined op at (boolean a) (word s b) d = tt
silent_combined op at (boolean a) (integer j) d = tt
silent_combined op at (boolean a) (boolean c) d = silent_defined at _

pub silent_binary : (op : BinOp) (at : Span) (w : Option Size) (x y : Value) → divides op ≡ false → Silent (binary op at w x y)
unfolding binary
silent_binary op at w x y d = silent_if (is_shift op) (defined at (shifted op w x y)) (combined op at x y) (silent_defined at (shifted op w x y)) (silent_combined op at x y d)

pub not_settled : (op : BinOp) (x : Value) → joins op ≡ false → is_settled op x ≡ false
not_settled o.OrElse x j = absurd (cc j)
not_settled o.AndThen x j = absurd (cc j)
not_settled o.Or x j = refl
not_settled o.Xor x j = refl
not_settled o.And x j = refl
not_settled o.Eq x j = refl
not_settled o.Ne x j = refl
not_settled o.Lt x j = refl
not_settled o.Le x j = refl
not_settled o.Gt x j = refl
not_settled o.Ge x j = refl
not_settled o.LtS x j = refl
not_settled o.LeS x j = refl
not_settled o.GtS x j = refl
not_settled o.GeS x j = refl
not_settled o.Shl x j = refl
not_settled o.Shr x j = refl
not_settled o.Sar x j = refl
not_settled o.Rol x j = refl
not_settled o.Ror x j = refl
not_settled o.Add x j = refl
not_settled o.Sub x j = refl
not_settled o.Mul x j = refl
not_settled o.Div x j = refl
not_settled o.Rem x j = refl
not_settled o.DivS x j = refl
not_settled o.RemS x j = refl
