-- A term that is a multiple of 2, 4 or 8 by the facts has such a value.
use Rattle.std.proofs.Common.{◌≡◌, ◌⊎◌, inl, inr, ℕ, ◌+◌, ◌-◌, ◌%◌, ◌^◌, List, [], ◌∷◌, Option, Some, None, Bool, true, false, refl, ap, sym, ◌∙◌, subst, arith, rules}
use Rattle.std.specs.Prelude.{◌==◌, ◌&&◌, ◌||◌, ℤ, pos, negsuc, bit_and}
use Rattle.std.specs.Int.Bits.{and_zero_l}
use Rattle.std.proofs.lemmas.Nat.{and_mod, and_comm}
use Rattle.std.proofs.lemmas.Nat.Gcd.{dvd_of_mod-eq-zero, mod-eq-zero_of_dvd, dvd_trans}
use Rattle.std.proofs.lemmas.Bool.{and_parts}
use Rattle.jz_tree.specs.Span.{Span}
use Rattle.x64_insn.specs.Size.{Size}
use Rattle.x64_insn.specs.Size.TheVariants.{S64}
use Rattle.x64_insn.specs.Sizes.{modulus}
use Rattle.x64_insn.specs.Words.{residue, modulo}
use Rattle.jz_tree.specs.declared.expr.BinOp.{BinOp}
use Rattle.jz_tree.specs.declared.expr.BinOp.TheVariants as o
use Rattle.jz_runs.specs.Rules.{stuck, went}
use Rattle.jz_meaning.specs.declared.value.Why.TheVariants.{Init}
use Rattle.jz_meaning.specs.Attempts.{Evaluation, stuck_at, and_then, defined}
use Rattle.jz_meaning.specs.States.{Value, word, boolean, integer, Key, State}
use Rattle.jz_meaning.specs.Operators.{same_size, on_words, is_settled, combined, shifted, binary}
use Rattle.jz_meaning.specs.Values.{key_of, left_wanted, right_wanted, with_right, run_binary}
use Rattle.jz_facts.specs.Terms.{Term, num, truth, var, cell, load, neg, inv, cast, bin, means, size_in}
use Rattle.jz_facts.specs.Facts.{Multiple, Facts, Given, is_among, multiples}
use Rattle.jz_facts.specs.Intervals.{interval, multiple, has_multiple, is_number_times}
use Rattle.jz_fact_laws.specs.Saying.{HasWord, Holds, Yields, MultipleWord, is_number, IsPlain}
use Rattle.jz_fact_laws.proofs.Fitting.{yields_then, yields_defined, yields_if, yields_all}
use Rattle.jz_fact_laws.proofs.Ranges.{Good, term_ok}
use Rattle.jz_fact_laws.proofs.Setting.{MultipleValue}
use Rattle.jz_fact_laws.proofs.Multiples.{three, product_multiple_right, number_multiple, difference_multiple}
use Rattle.jz_fact_laws.proofs.MultipleValues.{NotNumbers, sum_value, product_value}

either : (a b : Bool) → (a || b) ≡ true → (a ≡ true) ⊎ (b ≡ true)
either true b e = inl refl
either false b e = inr e

-- ---- on numbers

masked_2 : (a b : ℕ) → a % 2 ≡ 0 → bit_and a b % 2 ≡ 0
masked_2 a b p = and_mod a b 1 ∙ ap (λ x. bit_and x (b % 2)) p ∙ and_zero_l (b % 2)

masked_4 : (a b : ℕ) → a % 4 ≡ 0 → bit_and a b % 4 ≡ 0
masked_4 a b p = and_mod a b 2 ∙ ap (λ x. bit_and x (b % 4)) p ∙ and_zero_l (b % 4)

masked_8 : (a b : ℕ) → a % 8 ≡ 0 → bit_and a b % 8 ≡ 0
masked_8 a b p = and_mod a b 3 ∙ ap (λ x. bit_and x (b % 8)) p ∙ and_zero_l (b % 8)

masked : (m : ℕ) → is_among m multiples ≡ true → (a b : ℕ) → a % m ≡ 0 → bit_and a b % m ≡ 0
masked m e a b p =
    three (λ m. a % m ≡ 0 → bit_and a b % m ≡ 0) (masked_2 a b) (masked_4 a b) (masked_8 a b) m e p

masked_right : (m : ℕ) → is_among m multiples ≡ true → (a b : ℕ) → b % m ≡ 0 → bit_and a b % m ≡ 0
masked_right m e a b p = ap (λ x. x % m) (and_comm a b) ∙ masked m e b a p

divides_on : (n k m : ℕ) → n % k ≡ 0 → k % m ≡ 0 → n % m ≡ 0
divides_on n k m p q =
    mod-eq-zero_of_dvd m (dvd_trans m (dvd_of_mod-eq-zero m q) (dvd_of_mod-eq-zero k p))

-- ---- on values

-- a whole number comes from numbers alone
abbrev OnlyNumber : Bool → Value → Type 0
OnlyNumber k (integer j) = k ≡ true
OnlyNumber k (word s a) = Unit {0}
OnlyNumber k (boolean c) = Unit {0}

not_both : (k l : Bool) → k ≡ true → l ≡ true → (k && l) ≡ false → ⊥
not_both true true e f g = cc g
not_both true false e f g = cc f
not_both false l e f g = cc e

not_numbers : (k l : Bool) (x y : Value) → (k && l) ≡ false → OnlyNumber k x → OnlyNumber l y → NotNumbers x y
not_numbers k l (integer i) (integer j) n p q = not_both k l p q n
not_numbers k l (integer i) (word s a) n p q = tt
not_numbers k l (integer i) (boolean c) n p q = tt
not_numbers k l (word s a) y n p q = tt
not_numbers k l (boolean c) y n p q = tt

module _ (m : ℕ) (e : is_among m multiples ≡ true) where
  difference_value : (at : Span) (x y : Value) → NotNumbers x y → MultipleWord m x → MultipleWord m y → Yields (MultipleWord m) (combined o.Sub at x y)
  unfolding combined
  difference_value at x y n p q = by x y n p q
    where
      less : (s : Size) (a b : ℕ) → a % m ≡ 0 → b % m ≡ 0 → (a + modulus s - (b + 0)) % modulus s % m ≡ 0
      less s a b p q = subst (λ z. (a + modulus s - z) % modulus s % m ≡ 0) (plus0 b) (difference_multiple m e s a b p q)
        where
          plus0 : (x : ℕ) → x ≡ x + 0
          plus0 x = omega arith

      by : (x y : Value) → NotNumbers x y → MultipleWord m x → MultipleWord m y → Yields (MultipleWord m) (combined o.Sub at x y)
      by (word s a) (word t b) n p q = yields_if (MultipleWord m) (same_size s t) (on_words o.Sub at s a b) (stuck_at at Init) (λ c. less s a b p q) (λ c. tt)
      by (word s a) (integer j) n p q = less s a (residue s j) p (q s)
      by (integer i) (word t b) n p q = less t (residue t i) b (p t) q
      by (integer i) (integer j) n p q = absurd n
      by (boolean c) y n p q = absurd p
      by (word s a) (boolean c) n p q = absurd q
      by (integer i) (boolean c) n p q = absurd q

  product_value_right : (at : Span) (x y : Value) → NotNumbers x y → MultipleWord m y → Yields (MultipleWord m) (combined o.Mul at x y)
  unfolding combined
  product_value_right at (word s a) (word t b) n p = yields_if (MultipleWord m) (same_size s t) (on_words o.Mul at s a b) (stuck_at at Init) (λ c. product_multiple_right m e s a b p) (λ c. tt)
  product_value_right at (word s a) (integer j) n p = product_multiple_right m e s a (residue s j) (p s)
  product_value_right at (word s a) (boolean c) n p = absurd p
  product_value_right at (integer i) (word t b) n p = product_multiple_right m e t (residue t i) b p
  product_value_right at (integer i) (integer j) n p = absurd n
  product_value_right at (integer i) (boolean c) n p = absurd p
  product_value_right at (boolean c) (word t b) n p = tt
  product_value_right at (boolean c) (integer j) n p = tt
  product_value_right at (boolean c) (boolean d) n p = tt

  mask_value : (at : Span) (x : Value) (j : ℤ) → NotNumbers x (integer j) → MultipleWord m (integer j) → Yields (MultipleWord m) (combined o.And at x (integer j))
  unfolding combined
  mask_value at (word s a) j n p = masked_right m e a (residue s j) (p s)
  mask_value at (integer i) j n p = absurd n
  mask_value at (boolean c) j n p = tt

  shifted_value : (at : Span) (w : Option Size) (k : Bool) (n : ℕ) (x : Value) → (k && true) ≡ false → OnlyNumber k x → 2 ^ n % m ≡ 0 → Yields (MultipleWord m) (defined at (shifted o.Shl w x (integer (pos n))))
  unfolding shifted
  shifted_value at w k n (word s a) c g p = product_multiple_right m e s a (2 ^ n) p
  shifted_value at w k n (integer a) c g p = absurd (never k g c)
    where
      never : (k : Bool) → k ≡ true → (k && true) ≡ false → ⊥
      never true e f = cc f
      never false e f = cc e
  shifted_value at w k n (boolean a) c g p = tt

  -- the same of operations where a word of a size is wanted
  sum_binary : (at : Span) (w : Option Size) (x y : Value) → NotNumbers x y → MultipleWord m x → MultipleWord m y → Yields (MultipleWord m) (binary o.Add at w x y)
  unfolding binary
  sum_binary at w x y n p q = sum_value m e at x y n p q

  difference_binary : (at : Span) (w : Option Size) (x y : Value) → NotNumbers x y → MultipleWord m x → MultipleWord m y → Yields (MultipleWord m) (binary o.Sub at w x y)
  unfolding binary
  difference_binary at w x y n p q = difference_value at x y n p q

  product_binary : (at : Span) (w : Option Size) (x y : Value) → NotNumbers x y → MultipleWord m x → Yields (MultipleWord m) (binary o.Mul at w x y)
  unfolding binary
  product_binary at w x y n p = product_value m e at x y n p

  product_binary_right : (at : Span) (w : Option Size) (x y : Value) → NotNumbers x y → MultipleWord m y → Yields (MultipleWord m) (binary o.Mul at w x y)
  unfolding binary
  product_binary_right at w x y n p = product_value_right at x y n p

  mask_binary : (at : Span) (w : Option Size) (x : Value) (j : ℤ) → NotNumbers x (integer j) → MultipleWord m (integer j) → Yields (MultipleWord m) (binary o.And at w x (integer j))
  unfolding binary
  mask_binary at w x j n p = mask_value at x j n p

  shifted_binary : (at : Span) (w : Option Size) (k : Bool) (n : ℕ) (x : Value) → (k && true) ≡ false → OnlyNumber k x → 2 ^ n % m ≡ 0 → Yields (MultipleWord m) (binary o.Shl at w x (integer (pos n)))
  unfolding binary
  shifted_binary at w k n x c g p = shifted_value at w k n x c g p

-- ---- of terms

module _ (g : Given) (sizes : Key → Option Size) (entry : Key → ℕ) (s : Facts) (st : State) (H : Holds g sizes entry s st) where
  only_number : (t : Term) (w : Option Size) → IsPlain sizes t → Yields (OnlyNumber (is_number t)) ((means t).run w st)
  only_number t w p = yields_all (Good (interval g s S64 t) (is_number t) S64) (OnlyNumber (is_number t)) ((means t).run w st) only (term_ok g sizes entry s st H t p S64 w)
    where
      only : (v : Value) → Good (interval g s S64 t) (is_number t) S64 v → OnlyNumber (is_number t) v
      only (word y n) h = tt
      only (boolean c) h = tt
      only (integer j) h = h.0

  anything : {A : Type 0} (e : Evaluation A) → Yields (λ v. Unit {0}) e
  anything (stuck w) = tt
  anything (went ns v) = tt

  yields_with : (P Q : Value → Type 0) (e : Evaluation Value) → Yields P e → Yields Q e → Yields (λ v. P v × Q v) e
  yields_with P Q (stuck w) h k = tt
  yields_with P Q (went ns v) h k = (h, k)

  -- both operands, of which this is known
  both : (op : BinOp) (at : Span) (w : Option Size) (a b : Term) (P Q R : Value → Type 0) → ((x : Value) → (is_settled op x) ≡ false)
      → IsPlain sizes a → IsPlain sizes b → (is_number a && is_number b) ≡ false
      → ((u : Option Size) → Yields P ((means a).run u st)) → ((u : Option Size) → Yields Q ((means b).run u st))
      → ((x y : Value) → NotNumbers x y → P x → Q y → Yields R (binary op at w x y))
      → Yields R (run_binary op (means a).run (means b).run at w st)
  both op at w a b P Q R se pa pb n ha hb h =
      yields_then (λ x. P x × OnlyNumber (is_number a) x) R ((means a).run w st) (with_right op (means b).run at w st)
      (yields_with P (OnlyNumber (is_number a)) ((means a).run w st) (ha w) (only_number a w pa)) (λ x hx.
      yields_if R (is_settled op x) (went [] x) (and_then ((means b).run (right_wanted op w) st) (λ y. binary op at w x y)) (λ c. absurd (no x c)) (λ c.
      yields_then (λ y. Q y × OnlyNumber (is_number b) y) R ((means b).run (right_wanted op w) st) (λ y. binary op at w x y)
      (yields_with Q (OnlyNumber (is_number b)) ((means b).run (right_wanted op w) st) (hb (right_wanted op w)) (only_number b (right_wanted op w) pb)) (λ y hy.
      h x y (not_numbers (is_number a) (is_number b) x y n hx.1 hy.1) hx.0 hy.0)))
    where
      no : (x : Value) → is_settled op x ≡ true → ⊥
      no x c = true_false (sym c ∙ se x)
        where
          true_false : true ≡ false → ⊥
          true_false e = cc e

  some_number : (m : ℕ) (v : Key) (ks : List ℕ) → has_multiple g s v m ks ≡ true → (k : ℕ) × (s (Multiple v k) ≡ true) × (k % m ≡ 0)
  some_number m v [] e = absurd (cc e)
  some_number m v (k ∷ ks) e = by (either (s (Multiple v k) && (k % m == 0)) (has_multiple g s v m ks) e) (λ q. some_number m v ks q)
    where
      by : ((s (Multiple v k) && (k % m == 0)) ≡ true) ⊎ (has_multiple g s v m ks ≡ true) → (has_multiple g s v m ks ≡ true → (k : ℕ) × (s (Multiple v k) ≡ true) × (k % m ≡ 0)) → (k : ℕ) × (s (Multiple v k) ≡ true) × (k % m ≡ 0)
      by (inl q) f = let p = and_parts (s (Multiple v k)) (k % m == 0) q in (k, p.0, grind (arith, rules, p.1))
      by (inr q) f = f q

  module _ (m : ℕ) (e : is_among m multiples ≡ true) where
    variable_multiple : (v : Key) (x : Value) → has_multiple g s v m multiples ≡ true → st.store v ≡ Some x → MultipleWord m x
    variable_multiple v x h q = let k = some_number m v multiples h in by k.0 k.2 (H.says (Multiple v k.0) k.1)
      where
        value_same : (a b : Value) → Some a ≡ Some b → a ≡ b
        value_same a b i = cc i

        by : (k : ℕ) → k % m ≡ 0 → HasWord (st.store v) (λ n. n % k ≡ 0) → MultipleWord m x
        by k d (z, n, i, j) = subst (MultipleWord m) (value_same (word z n) x (sym i ∙ q)) (divides_on n k m j d)

    number_value : (i : ℤ) → (modulo i m == 0) ≡ true → MultipleWord m (integer i)
    number_value i h = λ u. number_multiple m e u i (grind (arith, rules, h))

    -- the number of a term that is one
    abbrev IsNumber : Value → Type 0
    IsNumber v = (i : ℤ) × ((v ≡ integer i) × MultipleWord m (integer i))

    number_left : (t : Term) (u : Option Size) → is_number_times t m ≡ true → Yields IsNumber ((means t).run u st)
    number_left (num i at) u h = (i, (refl, number_value i h))
    number_left (truth b at) u h = absurd (cc h)
    number_left (var x) u h = absurd (cc h)
    number_left (cell x i) u h = absurd (cc h)
    number_left (load q a) u h = absurd (cc h)
    number_left (neg a at) u h = absurd (cc h)
    number_left (inv a at) u h = absurd (cc h)
    number_left (cast z sign a at) u h = absurd (cc h)
    number_left (bin op a b at) u h = absurd (cc h)

    pub multiple_word : (t : Term) → IsPlain sizes t → (w : Option Size) → multiple g s t m ≡ true → Yields (MultipleWord m) ((means t).run w st)
    multiple_word (num i at) p w h = number_value i h
    multiple_word (truth b at) p w h = absurd (cc h)
    multiple_word (var x) p w h = yields_defined (MultipleWord m) x.span (st.store (key_of x)) (λ v q. variable_multiple (key_of x) v h q)
    multiple_word (cell x i) p w h = absurd (cc h)
    multiple_word (load q a) p w h = absurd (cc h)
    multiple_word (neg a at) p w h = absurd (cc h)
    multiple_word (inv a at) p w h = absurd (cc h)
    multiple_word (cast z sign a at) p w h = absurd (cc h)
    multiple_word (bin o.Add a b at) p w h =
        let q = and_parts (multiple g s a m) (multiple g s b m) h in
        let v = left_wanted o.Add w (size_in a) (size_in b) in
        both o.Add at v a b (MultipleWord m) (MultipleWord m) (MultipleWord m) (λ x. refl) p.1 p.2 p.0 (λ u. multiple_word a p.1 u q.0) (λ u. multiple_word b p.2 u q.1) (λ x y n i j. sum_binary m e at v x y n i j)
    multiple_word (bin o.Sub a b at) p w h =
        let q = and_parts (multiple g s a m) (multiple g s b m) h in
        let v = left_wanted o.Sub w (size_in a) (size_in b) in
        both o.Sub at v a b (MultipleWord m) (MultipleWord m) (MultipleWord m) (λ x. refl) p.1 p.2 p.0 (λ u. multiple_word a p.1 u q.0) (λ u. multiple_word b p.2 u q.1) (λ x y n i j. difference_binary m e at v x y n i j)
    multiple_word (bin o.Mul a b at) p w h = one (either (multiple g s a m) (multiple g s b m) h) (λ q u. multiple_word a p.1 u q) (λ q u. multiple_word b p.2 u q)
      where
        one : (multiple g s a m ≡ true) ⊎ (multiple g s b m ≡ true)
            → (multiple g s a m ≡ true → (u : Option Size) → Yields (MultipleWord m) ((means a).run u st))
            → (multiple g s b m ≡ true → (u : Option Size) → Yields (MultipleWord m) ((means b).run u st))
            → Yields (MultipleWord m) ((means (bin o.Mul a b at)).run w st)
        one (inl q) f k =
            let v = left_wanted o.Mul w (size_in a) (size_in b) in
            both o.Mul at v a b (MultipleWord m) (λ y. Unit {0}) (MultipleWord m) (λ x. refl) p.1 p.2 p.0 (f q) (λ u. anything ((means b).run u st)) (λ x y n i j. product_binary m e at v x y n i)
        one (inr q) f k =
            let v = left_wanted o.Mul w (size_in a) (size_in b) in
            both o.Mul at v a b (λ x. Unit {0}) (MultipleWord m) (MultipleWord m) (λ x. refl) p.1 p.2 p.0 (λ u. anything ((means a).run u st)) (k q) (λ x y n i j. product_binary_right m e at v x y n j)
    multiple_word (bin o.And a b at) p w h =
        let v = left_wanted o.And w (size_in a) (size_in b) in
        both o.And at v a b (λ x. Unit {0}) (IsNumber) (MultipleWord m) (λ x. refl) p.1 p.2 p.0 (λ u. anything ((means a).run u st)) (λ u. number_left b u h) (λ x y n i j. subst (λ c. NotNumbers x c → Yields (MultipleWord m) (binary o.And at v x c)) (sym j.1.0) (λ k. mask_binary m e at v x j.0 k j.1.1) n)
    multiple_word (bin o.Shl a (num (pos n) t) at) p w h =
        let v = left_wanted o.Shl w (size_in a) None in
        yields_then (OnlyNumber (is_number a)) (MultipleWord m) ((means a).run v st) (with_right o.Shl (means (num (pos n) t)).run at v st) (only_number a v p.1) (λ x hx.
        yields_then (λ y. y ≡ integer (pos n)) (MultipleWord m) (went [] (integer (pos n))) (λ y. binary o.Shl at v x y) refl (λ y i.
        subst (λ c. Yields (MultipleWord m) (binary o.Shl at v x c)) (sym i) (shifted_binary m e at v (is_number a) n x p.0 hx (grind (arith, rules, h)))))
    multiple_word (bin o.Shl a (num (negsuc n) t) at) p w h = absurd (cc h)
    multiple_word (bin o.Shl a (truth n t) at) p w h = absurd (cc h)
    multiple_word (bin o.Shl a (var n) at) p w h = absurd (cc h)
    multiple_word (bin o.Shl a (cell n t) at) p w h = absurd (cc h)
    multiple_word (bin o.Shl a (load n t) at) p w h = absurd (cc h)
    multiple_word (bin o.Shl a (neg n t) at) p w h = absurd (cc h)
    multiple_word (bin o.Shl a (inv n t) at) p w h = absurd (cc h)
    multiple_word (bin o.Shl a (cast n t u v) at) p w h = absurd (cc h)
    multiple_word (bin o.Shl a (bin n t u v) at) p w h = absurd (cc h)
    multiple_word (bin o.OrElse a b at) p w h = absurd (cc h)
    multiple_word (bin o.AndThen a b at) p w h = absurd (cc h)
    multiple_word (bin o.Or a b at) p w h = absurd (cc h)
    multiple_word (bin o.Xor a b at) p w h = absurd (cc h)
    multiple_word (bin o.Eq a b at) p w h = absurd (cc h)
    multiple_word (bin o.Ne a b at) p w h = absurd (cc h)
    multiple_word (bin o.Lt a b at) p w h = absurd (cc h)
    multiple_word (bin o.Le a b at) p w h = absurd (cc h)
    multiple_word (bin o.Gt a b at) p w h = absurd (cc h)
    multiple_word (bin o.Ge a b at) p w h = absurd (cc h)
    multiple_word (bin o.LtS a b at) p w h = absurd (cc h)
    multiple_word (bin o.LeS a b at) p w h = absurd (cc h)
    multiple_word (bin o.GtS a b at) p w h = absurd (cc h)
    multiple_word (bin o.GeS a b at) p w h = absurd (cc h)
    multiple_word (bin o.Shr a b at) p w h = absurd (cc h)
    multiple_word (bin o.Sar a b at) p w h = absurd (cc h)
    multiple_word (bin o.Rol a b at) p w h = absurd (cc h)
    multiple_word (bin o.Ror a b at) p w h = absurd (cc h)
    multiple_word (bin o.Div a b at) p w h = absurd (cc h)
    multiple_word (bin o.Rem a b at) p w h = absurd (cc h)
    multiple_word (bin o.DivS a b at) p w h = absurd (cc h)
    multiple_word (bin o.RemS a b at) p w h = absurd (cc h)

  -- what a term is known to be a multiple of
  pub multiple_ok : (t : Term) → IsPlain sizes t → (z : Size) (w : Option Size) → Yields (MultipleValue g sizes entry s st H z t) ((means t).run w st)
  multiple_ok t p z w = by ((means t).run w st) (λ m e h. multiple_word m e t p w h)
    where
      value : (v : Value) → ((m : ℕ) → is_among m multiples ≡ true → multiple g s t m ≡ true → MultipleWord m v) → MultipleValue g sizes entry s st H z t v
      value (word y n) h = λ m e i. h m e i
      value (integer j) h = λ m e i. h m e i z
      value (boolean c) h = tt

      by : (e : Evaluation Value) → ((m : ℕ) → is_among m multiples ≡ true → multiple g s t m ≡ true → Yields (MultipleWord m) e) → Yields (MultipleValue g sizes entry s st H z t) e
      by (stuck k) h = tt
      by (went ns v) h = value v h
