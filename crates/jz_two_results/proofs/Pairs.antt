-- Two results: what operations on two words give, with a flag or a high word before the word.
use Rattle.std.proofs.Common.{◌≡◌, ℕ, ◌*◌, ◌%◌, List, [], ◌∷◌, Option, Some, None, Bool, false, true≢false, refl, ap, sym, ◌∙◌, subst, if◌then◌else◌}
use Rattle.std.specs.Prelude.{◌&&◌}
use Rattle.jz_tree.specs.Span.{Span}
use Rattle.x64_insn.specs.Size.{Size}
use Rattle.x64_insn.specs.Sizes.{modulus}
use Rattle.x64_insn.specs.Words.{residue, sum_of, difference_of}
use Rattle.jz_runs.specs.Rules.{stuck, went}
use Rattle.jz_meaning.specs.declared.value.Why.TheVariants.{Init}
use Rattle.jz_meaning.specs.Attempts.{Evaluation, stuck_at, numbers_first, and_then, defined}
use Rattle.jz_meaning.specs.States.{Value, word, boolean, integer}
use Rattle.jz_meaning.specs.Operators.{word_at, same_size, on_words, combined, binary}
use Rattle.jz_meaning.specs.Assignments.{Results, two_results}
use Rattle.jz_facts.specs.Holding.{some_value}
use Rattle.jz_fact_laws.specs.Saying.{Yields}
use Rattle.jz_fact_laws.proofs.Fitting.{yields_then}
use Rattle.jz_two_results.specs.TwoResults.{Pair, of_sum, of_difference, of_product, op_of, before}
use Rattle.jz_standing.proofs.Making.{OfSize, same_size-refl}
use Rattle.jz_instructed.proofs.Sums.{Runs}
use Rattle.jz_instructed.proofs.Instructing.{IsGot}

-- a value in the place of a word
abbrev pub number_of : Size → Value → ℕ
number_of z (word y n) = n
number_of z (integer j) = residue z j
number_of z (boolean c) = 0

pub at_word : (at : Span) (z : Size) (k : Bool) (v : Value) → OfSize z k v → Yields (λ x. x ≡ number_of z v) (word_at at z v)
at_word at z k (word y n) h = subst (λ u. Yields (λ x. x ≡ n) (defined at (if same_size z u then Some n else None))) (sym h) (subst (λ c. Yields (λ x. x ≡ n) (defined at (if c then Some n else None))) (sym (same_size-refl z)) refl)
at_word at z k (integer j) h = refl
at_word at z k (boolean c) h = absurd h

abbrev pub pair_word : Pair → Size → ℕ → ℕ → ℕ
pair_word of_sum z a b = sum_of z a b false
pair_word of_difference z a b = difference_of z a b false
pair_word of_product z a b = a * b % modulus z

from_words : (p : Pair) (at : Span) (z : Size) (P : Value → Type 0) (a b : ℕ) → Yields P (on_words (op_of p) at z a b) → P (word z (pair_word p z a b))
from_words of_sum at z P a b h = h
from_words of_difference at z P a b h = h
from_words of_product at z P a b h = h

pub plain_binary : (p : Pair) (at : Span) (w : Option Size) (P : Value → Type 0) (v u : Value) → Yields P (binary (op_of p) at w v u) → Yields P (combined (op_of p) at v u)
unfolding binary
plain_binary of_sum at w P v u h = h
plain_binary of_difference at w P v u h = h
plain_binary of_product at w P v u h = h

pub from_combined : (p : Pair) (at : Span) (z : Size) (P : Value → Type 0) (ka kb : Bool) → (ka && kb) ≡ false → (v u : Value) → OfSize z ka v → OfSize z kb u → Yields P (combined (op_of p) at v u) → P (word z (pair_word p z (number_of z v) (number_of z u)))
unfolding combined
from_combined p at z P ka kb n (word y a) (word x b) h k q =
    from_words p at z P a b
    (subst (λ c. Yields P (if c then on_words (op_of p) at z a b else stuck_at at Init)) (same_size-refl z)
    (subst (λ r. Yields P (if same_size z r then on_words (op_of p) at z a b else stuck_at at Init)) k
    (subst (λ r. Yields P (if same_size r x then on_words (op_of p) at r a b else stuck_at at Init)) h q)))
from_combined p at z P ka kb n (word y a) (integer j) h k q = from_words p at z P a (residue z j) (subst (λ r. Yields P (on_words (op_of p) at r a (residue r j))) h q)
from_combined p at z P ka kb n (integer i) (word x b) h k q = from_words p at z P (residue z i) b (subst (λ r. Yields P (on_words (op_of p) at r (residue r i) b)) k q)
from_combined p at z P ka kb n (integer i) (integer j) h k q = absurd (true≢false (sym (ap (λ c. c && kb) h ∙ k) ∙ n))
from_combined p at z P ka kb n (boolean c) u h k q = absurd h
from_combined p at z P ka kb n (word y a) (boolean c) h k q = absurd k
from_combined p at z P ka kb n (integer i) (boolean c) h k q = absurd k

-- a value, and behind it a word of which this is so
abbrev pub IsPairOf : Pair → Size → (Value → Type 0) → Results → Type 0
IsPairOf p z P vs = (o : Option Value) × (n : ℕ) × (vs ≡ o ∷ Some (word z n) ∷ []) × IsGot some_value (before p z) o × P (word z n)

pub results_pair : (p : Pair) (at : Span) (z : Size) (P : Value → Type 0) (x y : ℕ) → P (word z (pair_word p z x y)) → Yields (IsPairOf p z P) (two_results (op_of p) at z x y false)
results_pair of_sum at z P x y h = (_, _, refl, (_, refl), h)
results_pair of_difference at z P x y h = (_, _, refl, (_, refl), h)
results_pair of_product at z P x y h = (_, _, refl, (_, refl), h)

pub results_go : (p : Pair) (at : Span) (z : Size) (x y : ℕ) → Runs (λ vs. Unit {0}) (two_results (op_of p) at z x y false)
results_go of_sum at z x y = tt
results_go of_difference at z x y = tt
results_go of_product at z x y = tt

inside : {A : Type 0} (P : A → Type 0) (ns : List ℕ) (e : Evaluation A) → Yields P (numbers_first ns e) → Yields P e
inside P ns (stuck k) h = tt
inside P ns (went ms x) h = h

module _ (p : Pair) (at : Span) (z : Size) (P : Value → Type 0) (ka kb : Bool) (n : (ka && kb) ≡ false) where
  number_went : (k : Bool) (ns : List ℕ) (v : Value) → OfSize z k v → Yields (λ x. x ≡ number_of z v) (and_then (went ns v) (word_at at z))
  number_went k ns v a = yields_then (λ u. u ≡ v) (λ x. x ≡ number_of z v) (went ns v) (word_at at z) refl (λ u e. subst (λ u. Yields (λ x. x ≡ number_of z v) (word_at at z u)) (sym e) (at_word at z k v a))

  abbrev Rest : Evaluation Value → ℕ → Evaluation Results
  Rest B x = and_then (and_then B (word_at at z)) (λ y. two_results (op_of p) at z x y false)

  on_right : (v : Value) (B : Evaluation Value) → OfSize z ka v → Yields (OfSize z kb) B → Yields P (and_then B (λ u. binary (op_of p) at (Some z) v u)) → Yields (IsPairOf p z P) (Rest B (number_of z v))
  on_right v (stuck k) a b h = tt
  on_right v (went ns u) a b h =
      yields_then (λ y. y ≡ number_of z u) (IsPairOf p z P) (and_then (went ns u) (word_at at z)) (λ y. two_results (op_of p) at z (number_of z v) y false) (number_went kb ns u b) (λ y e.
      subst (λ y. Yields (IsPairOf p z P) (two_results (op_of p) at z (number_of z v) y false)) (sym e)
      (results_pair p at z P (number_of z v) (number_of z u)
      (from_combined p at z P ka kb n v u a b (plain_binary p at (Some z) P v u (inside P ns (binary (op_of p) at (Some z) v u) h)))))

  pub pair_of : (A B : Evaluation Value) → Yields (OfSize z ka) A → Yields (OfSize z kb) B → Yields P (and_then A (λ v. and_then B (λ u. binary (op_of p) at (Some z) v u))) → Yields (IsPairOf p z P) (and_then (and_then A (word_at at z)) (λ x. Rest B x))
  pair_of (stuck k) B a b h = tt
  pair_of (went ns v) B a b h =
      yields_then (λ x. x ≡ number_of z v) (IsPairOf p z P) (and_then (went ns v) (word_at at z)) (λ x. Rest B x) (number_went ka ns v a) (λ x e.
      subst (λ x. Yields (IsPairOf p z P) (Rest B x)) (sym e)
      (on_right v B a b (inside P ns (and_then B (λ u. binary (op_of p) at (Some z) v u)) h)))
