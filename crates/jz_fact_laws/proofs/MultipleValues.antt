-- Where a sum or a difference of multiples is asked, its value is one.
use Rattle.std.proofs.Common.{◌≡◌, ℕ, ◌+◌, ◌%◌, [], ◌∷◌, true, subst, arith}
use Rattle.jz_tree.specs.Span.{Span}
use Rattle.x64_insn.specs.Sizes.{modulus}
use Rattle.x64_insn.specs.Words.{residue}
use Rattle.jz_tree.specs.declared.expr.BinOp.TheVariants as o
use Rattle.jz_meaning.specs.declared.value.Why.TheVariants.{Init}
use Rattle.jz_meaning.specs.Attempts.{stuck_at}
use Rattle.jz_meaning.specs.States.{Value, word, boolean, integer}
use Rattle.jz_meaning.specs.Operators.{same_size, on_words, combined}
use Rattle.jz_facts.specs.Facts.{is_among}
use Rattle.jz_fact_laws.specs.Saying.{Yields, MultipleWord}
use Rattle.jz_fact_laws.proofs.Fitting.{yields_if}
use Rattle.jz_fact_laws.proofs.Multiples.{sum_multiple, product_multiple}

-- not two numbers
abbrev pub NotNumbers : Value → Value → Type 0
NotNumbers (integer i) (integer j) = ⊥
NotNumbers x y = Unit {0}

module _ (m : ℕ) (e : is_among m (2 ∷ 4 ∷ 8 ∷ []) ≡ true) where
  pub sum_value : (at : Span) (x y : Value) → NotNumbers x y → MultipleWord m x → MultipleWord m y → Yields (MultipleWord m) (combined o.Add at x y)
  unfolding combined
  sum_value at (word s a) (word t b) n p q = yields_if (MultipleWord m) (same_size s t) (on_words o.Add at s a b) (stuck_at at Init) (λ c. subst (λ z. z % modulus s % m ≡ 0) (plus0 (a + b)) (sum_multiple m e s a b p q)) (λ c. tt)
    where
      plus0 : (x : ℕ) → x ≡ x + 0
      plus0 x = omega arith
  sum_value at (word s a) (integer j) n p q = subst (λ z. z % modulus s % m ≡ 0) (plus0 (a + residue s j)) (sum_multiple m e s a (residue s j) p (q s))
    where
      plus0 : (x : ℕ) → x ≡ x + 0
      plus0 x = omega arith
  sum_value at (integer i) (word t b) n p q = subst (λ z. z % modulus t % m ≡ 0) (plus0 (residue t i + b)) (sum_multiple m e t (residue t i) b (p t) q)
    where
      plus0 : (x : ℕ) → x ≡ x + 0
      plus0 x = omega arith
  sum_value at (integer i) (integer j) n p q = absurd n
  sum_value at (boolean c) y n p q = absurd p
  sum_value at (word s a) (boolean c) n p q = absurd q
  sum_value at (integer i) (boolean c) n p q = absurd q

  pub product_value : (at : Span) (x y : Value) → NotNumbers x y → MultipleWord m x → Yields (MultipleWord m) (combined o.Mul at x y)
  unfolding combined
  product_value at (word s a) (word t b) n p = yields_if (MultipleWord m) (same_size s t) (on_words o.Mul at s a b) (stuck_at at Init) (λ c. product_multiple m e s a b p) (λ c. tt)
  product_value at (word s a) (integer j) n p = product_multiple m e s a (residue s j) p
  product_value at (word s a) (boolean c) n p = tt
  product_value at (integer i) (word t b) n p = product_multiple m e t (residue t i) b (p t)
  product_value at (integer i) (integer j) n p = absurd n
  product_value at (integer i) (boolean c) n p = tt
  product_value at (boolean c) y n p = absurd p
