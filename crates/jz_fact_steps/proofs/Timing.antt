-- A multiple of 8 is one of 4, and that of 2.
use Rattle.std.proofs.Common.{◌≡◌, ◌⊎◌, inl, inr, ℕ, ◌%◌, ◌^◌, Bool, true, false, refl, ap, sym, subst, arith, rules, Option, Some, None}
use Rattle.std.specs.Prelude.{ℤ, pos, negsuc, ◌==◌, ◌&&◌, ◌||◌}
use Rattle.x64_insn.specs.Words.{modulo}
use Rattle.jz_tree.specs.declared.expr.BinOp.{BinOp}
use Rattle.jz_tree.specs.declared.expr.BinOp.TheVariants as o
use Rattle.jz_meaning.specs.Values.{key_of}
use Rattle.jz_terms.specs.Terms.{Term, num, truth, var, cell, load, neg, inv, cast, bin}
use Rattle.jz_facts.specs.Facts.{Facts, Given, Multiple, is_among, multiples}
use Rattle.jz_facts.specs.Intervals.{multiple, has_multiple, is_number_times, is_power_times, of_multiples}
use Rattle.jz_fact_readings.specs.declared.times.Times.{Times}
use Rattle.jz_fact_readings.specs.declared.times.Times.TheVariants.{Two, Four, Eight}
use Rattle.jz_fact_sets.specs.Kept.{is_times}

zero_is : (a : ℕ) → (a == 0) ≡ true → a ≡ 0
zero_is a e = grind (arith, rules, e)

is_zero : (a : ℕ) → a ≡ 0 → (a == 0) ≡ true
is_zero a e = ap (λ n. n == 0) e

-- one that is a multiple of the second where it is of the first
abbrev Falls : ℕ → ℕ → Type 0
Falls m n = (i : ℤ) → (modulo i m == 0) ≡ true → (modulo i n == 0) ≡ true

eight : Falls 8 4
eight (pos k) e = let h : k % 8 ≡ 0 = zero_is (k % 8) e in let j : k % 4 ≡ 0 = omega (arith, h) in is_zero (k % 4) j
eight (negsuc k) e = let h = zero_is (modulo (negsuc k) 8) e in let j : modulo (negsuc k) 4 ≡ 0 = omega (arith, h) in is_zero (modulo (negsuc k) 4) j

four : Falls 4 2
four (pos k) e = let h : k % 4 ≡ 0 = zero_is (k % 4) e in let j : k % 2 ≡ 0 = omega (arith, h) in is_zero (k % 2) j
four (negsuc k) e = let h = zero_is (modulo (negsuc k) 4) e in let j : modulo (negsuc k) 2 ≡ 0 = omega (arith, h) in is_zero (modulo (negsuc k) 2) j

both : (a b c d : Bool) → (a ≡ true → c ≡ true) → (b ≡ true → d ≡ true) → (a && b) ≡ true → (c && d) ≡ true
both true true c d f h e = rw (f refl, h refl) refl
both true false c d f h e = absurd (cc e)
both false b c d f h e = absurd (cc e)

some : (a b c d : Bool) → (a ≡ true → c ≡ true) → (b ≡ true → d ≡ true) → (a || b) ≡ true → (c || d) ≡ true
some true b c d f h e = rw (f refl) refl
some false true c d f h e = by c
  where
    by : (c : Bool) → (c || d) ≡ true
    by true = refl
    by false = h refl
some false false c d f h e = absurd (cc e)

module _ (g : Given) (s : Facts) (m n : ℕ) (falls : Falls m n) (vars : (v : _) → has_multiple g s v m multiples ≡ true → has_multiple g s v n multiples ≡ true) where
  number : (t : Term) → is_number_times t m ≡ true → is_number_times t n ≡ true
  number (num i at) e = falls i e
  number (truth b at) e = absurd (cc e)
  number (var x) e = absurd (cc e)
  number (cell x i) e = absurd (cc e)
  number (load p a) e = absurd (cc e)
  number (neg a at) e = absurd (cc e)
  number (inv a at) e = absurd (cc e)
  number (cast y z a at) e = absurd (cc e)
  number (bin op a b at) e = absurd (cc e)

  power : (t : Term) → is_power_times t m ≡ true → is_power_times t n ≡ true
  power (num (pos k) at) e = falls (pos (2 ^ k)) e
  power (num (negsuc k) at) e = absurd (cc e)
  power (truth b at) e = absurd (cc e)
  power (var x) e = absurd (cc e)
  power (cell x i) e = absurd (cc e)
  power (load p a) e = absurd (cc e)
  power (neg a at) e = absurd (cc e)
  power (inv a at) e = absurd (cc e)
  power (cast y z a at) e = absurd (cc e)
  power (bin op a b at) e = absurd (cc e)

  operation : (op : BinOp) (x y u v : Bool) (a b : Term) → (x ≡ true → u ≡ true) → (y ≡ true → v ≡ true) → of_multiples op x y a b m ≡ true → of_multiples op u v a b n ≡ true
  operation o.Add x y u v a b f h e = both x y u v f h e
  operation o.Sub x y u v a b f h e = both x y u v f h e
  operation o.Mul x y u v a b f h e = some x y u v f h e
  operation o.Shl x y u v a b f h e = power b e
  operation o.And x y u v a b f h e = number b e
  operation o.OrElse x y u v a b f h e = absurd (cc e)
  operation o.AndThen x y u v a b f h e = absurd (cc e)
  operation o.Or x y u v a b f h e = absurd (cc e)
  operation o.Xor x y u v a b f h e = absurd (cc e)
  operation o.Eq x y u v a b f h e = absurd (cc e)
  operation o.Ne x y u v a b f h e = absurd (cc e)
  operation o.Lt x y u v a b f h e = absurd (cc e)
  operation o.Le x y u v a b f h e = absurd (cc e)
  operation o.Gt x y u v a b f h e = absurd (cc e)
  operation o.Ge x y u v a b f h e = absurd (cc e)
  operation o.LtS x y u v a b f h e = absurd (cc e)
  operation o.LeS x y u v a b f h e = absurd (cc e)
  operation o.GtS x y u v a b f h e = absurd (cc e)
  operation o.GeS x y u v a b f h e = absurd (cc e)
  operation o.Shr x y u v a b f h e = absurd (cc e)
  operation o.Sar x y u v a b f h e = absurd (cc e)
  operation o.Rol x y u v a b f h e = absurd (cc e)
  operation o.Ror x y u v a b f h e = absurd (cc e)
  operation o.Div x y u v a b f h e = absurd (cc e)
  operation o.Rem x y u v a b f h e = absurd (cc e)
  operation o.DivS x y u v a b f h e = absurd (cc e)
  operation o.RemS x y u v a b f h e = absurd (cc e)

  fewer : (t : Term) → multiple g s t m ≡ true → multiple g s t n ≡ true
  fewer (num i at) e = falls i e
  fewer (truth b at) e = absurd (cc e)
  fewer (var x) e = vars (key_of x) e
  fewer (cell x i) e = absurd (cc e)
  fewer (load p a) e = absurd (cc e)
  fewer (neg a at) e = absurd (cc e)
  fewer (inv a at) e = absurd (cc e)
  fewer (cast y z a at) e = absurd (cc e)
  fewer (bin op a b at) e = operation op (multiple g s a m) (multiple g s b m) (multiple g s a n) (multiple g s b n) a b (fewer a) (fewer b) e

module _ (g : Given) (s : Facts) where
  vars_eight : (v : _) → has_multiple g s v 8 multiples ≡ true → has_multiple g s v 4 multiples ≡ true
  vars_eight v e = by (s (Multiple v 2)) (s (Multiple v 4)) (s (Multiple v 8)) e
    where
      by : (x y z : Bool) → ((x && false) || ((y && false) || ((z && true) || false))) ≡ true → ((x && false) || ((y && true) || ((z && true) || false))) ≡ true
      by x true z e = grind_free x z
        where
          grind_free : (x z : Bool) → ((x && false) || (true || ((z && true) || false))) ≡ true
          grind_free true z = refl
          grind_free false z = refl
      by true false z e = e
      by false false z e = e

  vars_four : (v : _) → has_multiple g s v 4 multiples ≡ true → has_multiple g s v 2 multiples ≡ true
  vars_four v e = by (s (Multiple v 2)) (s (Multiple v 4)) (s (Multiple v 8)) e
    where
      by : (x y z : Bool) → ((x && false) || ((y && true) || ((z && true) || false))) ≡ true → ((x && true) || ((y && true) || ((z && true) || false))) ≡ true
      by true y z e = refl
      by false y z e = e

  pub of_eight : (t : Term) → multiple g s t 8 ≡ true → multiple g s t 4 ≡ true
  of_eight = fewer g s 8 4 eight vars_eight

  pub of_four : (t : Term) → multiple g s t 4 ≡ true → multiple g s t 2 ≡ true
  of_four = fewer g s 4 2 four vars_four

pub one_of : (m : ℕ) → is_among m multiples ≡ true → (m ≡ 2) ⊎ ((m ≡ 4) ⊎ (m ≡ 8))
one_of m e = by (m == 2) refl (m == 4) refl (m == 8) refl e
  where
    same : (a b : ℕ) → (a == b) ≡ true → a ≡ b
    same a b h = grind (arith, rules, h)

    by : (x : Bool) → (m == 2) ≡ x → (y : Bool) → (m == 4) ≡ y → (z : Bool) → (m == 8) ≡ z → (x || (y || (z || false))) ≡ true → (m ≡ 2) ⊎ ((m ≡ 4) ⊎ (m ≡ 8))
    by true h y i z j k = inl (same m 2 h)
    by false h true i z j k = inr (inl (same m 4 i))
    by false h false i true j k = inr (inr (same m 8 j))
    by false h false i false j k = absurd (cc k)

-- what is so of 2, 4 and 8
pub each_times : (o : Option Times) (f : ℕ → Bool) → is_times o 2 ≡ f 2 → is_times o 4 ≡ f 4 → is_times o 8 ≡ f 8 → (m : ℕ) → (is_among m multiples && is_times o m) ≡ (is_among m multiples && f m)
each_times o f a b c m = by (is_among m multiples) refl
  where
    at : (m ≡ 2) ⊎ ((m ≡ 4) ⊎ (m ≡ 8)) → is_times o m ≡ f m
    at (inl e) = subst (λ n. is_times o n ≡ f n) (sym e) a
    at (inr (inl e)) = subst (λ n. is_times o n ≡ f n) (sym e) b
    at (inr (inr e)) = subst (λ n. is_times o n ≡ f n) (sym e) c

    by : (t : Bool) → is_among m multiples ≡ t → (t && is_times o m) ≡ (t && f m)
    by true e = at (one_of m e)
    by false e = refl

-- by the answers for 8, 4 and 2
module _ (g : Given) (s : Facts) (t : Term) where
  pub at_eight : multiple g s t 8 ≡ true → (m : ℕ) → (is_among m multiples && is_times (Some Eight) m) ≡ (is_among m multiples && multiple g s t m)
  at_eight e = each_times (Some Eight) (multiple g s t) (sym (of_four g s t (of_eight g s t e))) (sym (of_eight g s t e)) (sym e)

  pub at_four : multiple g s t 8 ≡ false → multiple g s t 4 ≡ true → (m : ℕ) → (is_among m multiples && is_times (Some Four) m) ≡ (is_among m multiples && multiple g s t m)
  at_four n e = each_times (Some Four) (multiple g s t) (sym (of_four g s t e)) (sym e) (sym n)

  pub at_two : multiple g s t 8 ≡ false → multiple g s t 4 ≡ false → multiple g s t 2 ≡ true → (m : ℕ) → (is_among m multiples && is_times (Some Two) m) ≡ (is_among m multiples && multiple g s t m)
  at_two n k e = each_times (Some Two) (multiple g s t) (sym e) (sym k) (sym n)

  pub at_none : multiple g s t 8 ≡ false → multiple g s t 4 ≡ false → multiple g s t 2 ≡ false → (m : ℕ) → (is_among m multiples && is_times None m) ≡ (is_among m multiples && multiple g s t m)
  at_none n k j = each_times None (multiple g s t) (sym j) (sym k) (sym n)
