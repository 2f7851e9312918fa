-- Parameters that have their bits in two numbers.
use Rattle.std.proofs.Common.{◌≡◌, ℕ, zero, suc, ◌/◌, ◌<◌, List, [], ◌∷◌, Bool, true, false, refl, ap, sym, ◌∙◌, min, max, arith}
use Rattle.std.specs.Prelude.{◌==◌, ◌&&◌, ◌||◌, bit_and, bit_or}
use Rattle.std.specs.Int.{bit_at}
use Rattle.std.proofs.lemmas.Nat.Bits.{bit_at_lowest, bit_at-suc, bit_at_and, bit_at_or, bit_at-lt, bit_at-zero}
use Rattle.std.proofs.Math.Path.{fun_ext}
use Rattle.jz_meaning.specs.States.{Key, same_key}
use Rattle.jz_layers.specs.Spots.{variable_key}
use Rattle.jz_fact_sets.specs.declared.given.Parameter.{Parameter}
use Rattle.jz_fact_sets.specs.Kept.{is_named, is_parameter, AreDifferent}
use Rattle.jz_fact_sets.proofs.KeyLemmas.{same_key-true}

-- by the bits, the first parameter the first one
abbrev pub named_by : List Parameter → (ℕ → ℕ) → Key → Bool
named_by [] b x = false
named_by (p ∷ ps) b x = ((b 0 == 1) && same_key (variable_key p.var) x) || named_by ps (λ i. b (suc i)) x

pub named_bits : (ps : List Parameter) (n : ℕ) (x : Key) → is_named ps n x ≡ named_by ps (bit_at n) x
named_bits [] n x = refl
named_bits (p ∷ ps) n x =
    ap (λ b. ((b == 1) && same_key (variable_key p.var) x) || is_named ps (n / 2) x) (sym (bit_at_lowest n))
    ∙ ap (λ r. ((bit_at n 0 == 1) && same_key (variable_key p.var) x) || r) (named_bits ps (n / 2) x ∙ ap (λ b. named_by ps b x) (fun_ext (λ i. sym (bit_at-suc n i))))

none_by : (ps : List Parameter) (b : ℕ → ℕ) (x : Key) → is_parameter ps x ≡ false → named_by ps b x ≡ false
none_by [] b x e = refl
none_by (p ∷ ps) b x e = by (b 0 == 1) (same_key (variable_key p.var) x) e (none_by ps (λ i. b (suc i)) x)
  where
    by : (c d : Bool) → (d || is_parameter ps x) ≡ false → (is_parameter ps x ≡ false → named_by ps (λ i. b (suc i)) x ≡ false) → ((c && d) || named_by ps (λ i. b (suc i)) x) ≡ false
    by c true e h = absurd (cc e)
    by true false e h = h e
    by false false e h = h e

both_one : (a b c : ℕ) → c ≡ min a b → a < 2 → b < 2 → (c == 1) ≡ ((a == 1) && (b == 1))
both_one zero zero c e l m = ap (λ n. n == 1) e
both_one zero (suc zero) c e l m = ap (λ n. n == 1) e
both_one (suc zero) zero c e l m = ap (λ n. n == 1) e
both_one (suc zero) (suc zero) c e l m = ap (λ n. n == 1) e
both_one (suc (suc a)) b c e l m = absurd (omega (arith, l))
both_one a (suc (suc b)) c e l m = absurd (omega (arith, m))

some_one : (a b c : ℕ) → c ≡ max a b → a < 2 → b < 2 → (c == 1) ≡ ((a == 1) || (b == 1))
some_one zero zero c e l m = ap (λ n. n == 1) e
some_one zero (suc zero) c e l m = ap (λ n. n == 1) e
some_one (suc zero) zero c e l m = ap (λ n. n == 1) e
some_one (suc zero) (suc zero) c e l m = ap (λ n. n == 1) e
some_one (suc (suc a)) b c e l m = absurd (omega (arith, l))
some_one a (suc (suc b)) c e l m = absurd (omega (arith, m))

named_both : (ps : List Parameter) (a b c : ℕ → ℕ) (x : Key) → AreDifferent ps → ((i : ℕ) → c i ≡ min (a i) (b i)) → ((i : ℕ) → a i < 2) → ((i : ℕ) → b i < 2)
    → named_by ps c x ≡ (named_by ps a x && named_by ps b x)
named_both [] a b c x d e l m = refl
named_both (p ∷ ps) a b c x d e l m =
    ap (λ z. (z && same_key (variable_key p.var) x) || named_by ps (λ i. c (suc i)) x) (both_one (a 0) (b 0) (c 0) (e 0) (l 0) (m 0))
    ∙ by (named_both ps (λ i. a (suc i)) (λ i. b (suc i)) (λ i. c (suc i)) x d.1 (λ i. e (suc i)) (λ i. l (suc i)) (λ i. m (suc i))) (a 0 == 1) (b 0 == 1) (same_key (variable_key p.var) x) refl
  where
    none : (f : ℕ → ℕ) → same_key (variable_key p.var) x ≡ true → named_by ps f x ≡ false
    none f h = none_by ps f x (ap (is_parameter ps) (sym (same_key-true (variable_key p.var) x h)) ∙ d.0)

    by : named_by ps (λ i. c (suc i)) x ≡ (named_by ps (λ i. a (suc i)) x && named_by ps (λ i. b (suc i)) x) → (y z k : Bool) → same_key (variable_key p.var) x ≡ k
        → (((y && z) && k) || named_by ps (λ i. c (suc i)) x) ≡ (((y && k) || named_by ps (λ i. a (suc i)) x) && ((z && k) || named_by ps (λ i. b (suc i)) x))
    by next true true true h = refl
    by next true false true h = none (λ i. c (suc i)) h ∙ sym (none (λ i. b (suc i)) h)
    by next false true true h = none (λ i. c (suc i)) h ∙ sym (ap (λ q. q && true) (none (λ i. a (suc i)) h))
    by next false false true h = next
    by next true true false h = next
    by next true false false h = next
    by next false true false h = next
    by next false false false h = next

named_some : (ps : List Parameter) (a b c : ℕ → ℕ) (x : Key) → ((i : ℕ) → c i ≡ max (a i) (b i)) → ((i : ℕ) → a i < 2) → ((i : ℕ) → b i < 2)
    → named_by ps c x ≡ (named_by ps a x || named_by ps b x)
named_some [] a b c x e l m = refl
named_some (p ∷ ps) a b c x e l m =
    ap (λ z. (z && same_key (variable_key p.var) x) || named_by ps (λ i. c (suc i)) x) (some_one (a 0) (b 0) (c 0) (e 0) (l 0) (m 0))
    ∙ ap (λ r. (((a 0 == 1) || (b 0 == 1)) && same_key (variable_key p.var) x) || r) (named_some ps (λ i. a (suc i)) (λ i. b (suc i)) (λ i. c (suc i)) x (λ i. e (suc i)) (λ i. l (suc i)) (λ i. m (suc i)))
    ∙ by (a 0 == 1) (b 0 == 1) (same_key (variable_key p.var) x) (named_by ps (λ i. a (suc i)) x) (named_by ps (λ i. b (suc i)) x)
  where
    by : (y z k r s : Bool) → (((y || z) && k) || (r || s)) ≡ (((y && k) || r) || ((z && k) || s))
    by true true true r s = refl
    by true false true r s = refl
    by false true true true s = refl
    by false true true false s = refl
    by false false true r s = refl
    by true true false r s = refl
    by true false false r s = refl
    by false true false r s = refl
    by false false false r s = refl

pub both_named : (ps : List Parameter) (a b : ℕ) (x : Key) → AreDifferent ps → is_named ps (bit_and a b) x ≡ (is_named ps a x && is_named ps b x)
both_named ps a b x d =
    named_bits ps (bit_and a b) x
    ∙ named_both ps (bit_at a) (bit_at b) (bit_at (bit_and a b)) x d (bit_at_and a b) (bit_at-lt a) (bit_at-lt b)
    ∙ sym (ap (λ p. p && is_named ps b x) (named_bits ps a x) ∙ ap (λ p. named_by ps (bit_at a) x && p) (named_bits ps b x))

pub some_named : (ps : List Parameter) (a b : ℕ) (x : Key) → is_named ps (bit_or a b) x ≡ (is_named ps a x || is_named ps b x)
some_named ps a b x =
    named_bits ps (bit_or a b) x
    ∙ named_some ps (bit_at a) (bit_at b) (bit_at (bit_or a b)) x (bit_at_or a b) (bit_at-lt a) (bit_at-lt b)
    ∙ sym (ap (λ p. p || is_named ps b x) (named_bits ps a x) ∙ ap (λ p. named_by ps (bit_at a) x || p) (named_bits ps b x))

zero_by : (ps : List Parameter) (b : ℕ → ℕ) (x : Key) → ((i : ℕ) → b i ≡ 0) → named_by ps b x ≡ false
zero_by [] b x e = refl
zero_by (p ∷ ps) b x e =
    ap (λ n. ((n == 1) && same_key (variable_key p.var) x) || named_by ps (λ i. b (suc i)) x) (e 0) ∙ zero_by ps (λ i. b (suc i)) x (λ i. e (suc i))

pub none_named : (ps : List Parameter) (x : Key) → is_named ps 0 x ≡ false
none_named ps x = named_bits ps 0 x ∙ zero_by ps (bit_at 0) x bit_at-zero
