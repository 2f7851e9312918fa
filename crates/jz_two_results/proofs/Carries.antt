-- Two results with a flag behind the words: `a + b + c`, `a - b - c`.
use Rattle.std.proofs.Common.{◌≡◌, ℕ, ◌<◌, Some, Bool, true, false, refl, sym, subst, arith}
use Rattle.std.specs.Prelude.{◌&&◌}
use Rattle.jz_tree.specs.Span.{Span}
use Rattle.x64_insn.specs.Size.{Size}
use Rattle.x64_insn.specs.Size.TheVariants.{S8, S16, S32, S64}
use Rattle.x64_insn.specs.Sizes.{modulus}
use Rattle.x64_insn.specs.Words.{sum_of, difference_of}
use Rattle.jz_runs.specs.Rules.{stuck, went}
use Rattle.jz_meaning.specs.Attempts.{Evaluation, numbers_first, and_then}
use Rattle.jz_meaning.specs.States.{Value, word, boolean, integer}
use Rattle.jz_meaning.specs.Operators.{word_at, combined, binary}
use Rattle.jz_meaning.specs.Assignments.{carries, two_results, truth as truth_of}
use Rattle.jz_fact_laws.specs.Saying.{Yields}
use Rattle.jz_fact_laws.proofs.Fitting.{yields_then}
use Rattle.jz_two_results.specs.TwoResults.{Pair, of_sum, of_difference, of_product, op_of}
use Rattle.jz_standing.proofs.Making.{OfSize, IsTruth}
use Rattle.jz_instructed.proofs.Sums.{Runs}
use Rattle.jz_two_results.proofs.Pairs.{number_of, at_word, pair_word, plain_binary, from_combined, IsPairOf}

-- what is behind is so, of what came out before
pub behind : {A B : Type 0} (P : B → Type 0) (e : Evaluation A) (f : A → Evaluation B) → Yields P (and_then e f) → Yields (λ x. Yields P (f x)) e
behind P (stuck k) f h = tt
behind P (went ns x) f h = by (f x) h
  where
    by : (e : _) → Yields P (numbers_first ns e) → Yields P e
    by (stuck k) h = tt
    by (went ms y) h = h

again : (z : Size) (x y : ℕ) (c : Bool) → sum_of z (sum_of z x y false) 0 c ≡ sum_of z x y c
again S8 x y true = omega arith
again S8 x y false = omega arith
again S16 x y true = omega arith
again S16 x y false = omega arith
again S32 x y true = omega arith
again S32 x y false = omega arith
again S64 x y true = omega arith
again S64 x y false = omega arith

less_again : (z : Size) (x y : ℕ) (c : Bool) → y < modulus z → difference_of z (difference_of z x y false) 0 c ≡ difference_of z x y c
less_again S8 x y true l = omega (arith, l)
less_again S8 x y false l = omega (arith, l)
less_again S16 x y true l = omega (arith, l)
less_again S16 x y false l = omega (arith, l)
less_again S32 x y true l = omega (arith, l)
less_again S32 x y false l = omega (arith, l)
less_again S64 x y true l = omega (arith, l)
less_again S64 x y false l = omega (arith, l)

by_flag_so : (p : Pair) → carries (op_of p) (op_of p) ≡ true → (at : Span) (z : Size) (P : Value → Type 0) (x y : ℕ) (c : Bool) → y < modulus z → Yields P (combined (op_of p) at (word z (pair_word p z x y)) (boolean c)) → Yields (IsPairOf p z P) (two_results (op_of p) at z x y c)
unfolding combined
by_flag_so of_sum e at z P x y c l h = (_, _, refl, (_, refl), subst (λ n. P (word z n)) (again z x y c) h)
by_flag_so of_difference e at z P x y c l h = (_, _, refl, (_, refl), subst (λ n. P (word z n)) (less_again z x y c l) h)
by_flag_so of_product e at z P x y c l h = absurd (cc e)

pub carries_go : (p : Pair) → carries (op_of p) (op_of p) ≡ true → (at : Span) (z : Size) (x y : ℕ) (c : Bool) → Runs (λ vs. Unit {0}) (two_results (op_of p) at z x y c)
carries_go of_sum e at z x y c = tt
carries_go of_difference e at z x y c = tt
carries_go of_product e at z x y c = absurd (cc e)

-- a word in its place is below the modulus
abbrev pub IsBelow : Size → Value → Type 0
IsBelow z v = number_of z v < modulus z

module _ (p : Pair) (may : carries (op_of p) (op_of p) ≡ true) (inner at : Span) (z : Size) (P : Value → Type 0) (ka kb : Bool) (n : (ka && kb) ≡ false) where
  number_goes : (k : Bool) (Q : Value → Type 0) (E : Evaluation Value) → Yields (λ v. OfSize z k v × Q v) E → Yields (λ x. (v : Value) × (x ≡ number_of z v) × OfSize z k v × Q v) (and_then E (word_at at z))
  number_goes k Q E h = yields_then (λ v. OfSize z k v × Q v) (λ x. (v : Value) × (x ≡ number_of z v) × OfSize z k v × Q v) E (word_at at z) h (λ v q.
      yields_each (λ x. x ≡ number_of z v) (λ x. (v : Value) × (x ≡ number_of z v) × OfSize z k v × Q v) (word_at at z v) (at_word at z k v q.0) (λ x e. (v, e, q.0, q.1)))
    where
      yields_each : {A : Type 0} (P Q : A → Type 0) (e : Evaluation A) → Yields P e → ((x : A) → P x → Q x) → Yields Q e
      yields_each P Q (stuck k) h f = tt
      yields_each P Q (went ns x) h f = f x h

  abbrev Summed : Evaluation Value → Value → Type 0
  Summed C s = Yields P (and_then C (λ c. binary (op_of p) at (Some z) s c))

  abbrev Left : Evaluation Value → Evaluation Value → Value → Type 0
  Left B C v = Yields (Summed C) (and_then B (λ u. binary (op_of p) inner (Some z) v u))

  abbrev Right : Evaluation Value → Value → Value → Type 0
  Right C v u = Yields (Summed C) (binary (op_of p) inner (Some z) v u) × IsBelow z u

  two : {A : Type 0} (P Q : A → Type 0) (e : Evaluation A) → Yields P e → Yields Q e → Yields (λ x. P x × Q x) e
  two P Q (stuck k) p q = tt
  two P Q (went ns x) p q = (p, q)

  flag_goes : (C : Evaluation Value) (v u : Value) → OfSize z ka v → OfSize z kb u → Right C v u → Yields IsTruth C → Yields (IsPairOf p z P) (and_then (and_then C (truth_of at)) (λ c. two_results (op_of p) at z (number_of z v) (number_of z u) c))
  flag_goes C v u a b r t =
      let W : Value = word z (pair_word p z (number_of z v) (number_of z u)) in
      let h : Summed C W = from_combined p inner z (Summed C) ka kb n v u a b (plain_binary p inner (Some z) (Summed C) v u r.0) in
      let F : Bool → Type 0 = λ (c : Bool). Yields P (combined (op_of p) at W (boolean c)) in
      yields_then F (IsPairOf p z P) (and_then C (truth_of at)) (λ c. two_results (op_of p) at z (number_of z v) (number_of z u) c)
      (yields_then (λ c. IsTruth c × Yields P (binary (op_of p) at (Some z) W c)) F C (truth_of at) (two IsTruth (λ c. Yields P (binary (op_of p) at (Some z) W c)) C t (behind P C (λ c. binary (op_of p) at (Some z) W c) h)) (λ c q. by c q.0 q.1))
      (λ c q. by_flag_so p may at z P (number_of z v) (number_of z u) c r.1 q)
    where
      by : (c : Value) → IsTruth c → Yields P (binary (op_of p) at (Some z) (word z (pair_word p z (number_of z v) (number_of z u))) c) → Yields (λ (c : Bool). Yields P (combined (op_of p) at (word z (pair_word p z (number_of z v) (number_of z u))) (boolean c))) (truth_of at c)
      by (boolean c) t h = plain_binary p at (Some z) P (word z (pair_word p z (number_of z v) (number_of z u))) (boolean c) h
      by (word y m) t h = absurd t
      by (integer j) t h = absurd t

  pub carried_of : (A B C : Evaluation Value) → Yields (OfSize z ka) A → Yields (OfSize z kb) B → Yields (IsBelow z) B → Yields IsTruth C
      → Yields P (and_then (and_then A (λ v. and_then B (λ u. binary (op_of p) inner (Some z) v u))) (λ s. and_then C (λ c. binary (op_of p) at (Some z) s c)))
      → Yields (IsPairOf p z P) (and_then (and_then A (word_at at z)) (λ x. and_then (and_then B (word_at at z)) (λ y. and_then (and_then C (truth_of at)) (λ c. two_results (op_of p) at z x y c))))
  carried_of A B C a b l t h =
      let Q = λ (v : Value). Left B C v in
      let G = λ (x y : ℕ). and_then (and_then C (truth_of at)) (λ c. two_results (op_of p) at z x y c) in
      yields_then (λ x. (v : Value) × (x ≡ number_of z v) × OfSize z ka v × Q v) (IsPairOf p z P) (and_then A (word_at at z)) (λ x. and_then (and_then B (word_at at z)) (λ y. G x y))
      (number_goes ka Q A (two (OfSize z ka) Q A a (behind (Summed C) A (λ v. and_then B (λ u. binary (op_of p) inner (Some z) v u)) (behind P (and_then A (λ v. and_then B (λ u. binary (op_of p) inner (Some z) v u))) (λ s. and_then C (λ c. binary (op_of p) at (Some z) s c)) h)))) (λ x k.
      let R = λ (u : Value). Right C k.0 u in
      subst (λ x. Yields (IsPairOf p z P) (and_then (and_then B (word_at at z)) (λ y. G x y))) (sym k.1)
      (yields_then (λ y. (u : Value) × (y ≡ number_of z u) × OfSize z kb u × R u) (IsPairOf p z P) (and_then B (word_at at z)) (λ y. G (number_of z k.0) y)
      (number_goes kb R B (two (OfSize z kb) R B b (two (λ u. Yields (Summed C) (binary (op_of p) inner (Some z) k.0 u)) (IsBelow z) B (behind (Summed C) B (λ u. binary (op_of p) inner (Some z) k.0 u) k.3) l))) (λ y m.
      subst (λ y. Yields (IsPairOf p z P) (G (number_of z k.0) y)) (sym m.1) (flag_goes C k.0 m.0 k.2 m.2 m.3 t))))
