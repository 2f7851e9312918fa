-- The value of an index or an address, and that an address that lies in a region has valid bytes.
use Rattle.std.proofs.Common.{◌≡◌, ℕ, ◌+◌, ◌-◌, ◌*◌, ◌%◌, ◌^◌, ◌<◌, List, [], Option, Some, None, Bool, true, false, refl, ap, sym, ◌∙◌, subst, arith, if◌then◌else◌, ℤ, pos, negsuc, ◌+ℤ◌, ◌-ℤ◌}
use Rattle.std.specs.Prelude.{◌&&◌}
use Rattle.std.proofs.lemmas.Nat.{mul-mod_first, mul-mod_second}
use Rattle.jz_tree.specs.Span.{Span}
use Rattle.x64_insn.specs.Size.{Size}
use Rattle.x64_insn.specs.Size.TheVariants.{S64}
use Rattle.x64_insn.specs.Sizes.{modulus}
use Rattle.x64_insn.specs.Words.{residue, sum_of, difference_of}
use Rattle.jz_tree.specs.declared.expr.BinOp.TheVariants as o
use Rattle.jz_runs.specs.Rules.{stuck, went}
use Rattle.jz_meaning.specs.declared.access.Kind.TheVariants as kind
use Rattle.jz_meaning.specs.declared.value.Why.{Why}
use Rattle.jz_meaning.specs.declared.value.Why.TheVariants.{Init}
use Rattle.jz_meaning.specs.Attempts.{Evaluation, stuck_at, numbers_first, and_then, defined}
use Rattle.jz_meaning.specs.States.{Value, word, boolean, integer, Key, State}
use Rattle.jz_meaning.specs.Operators.{same_size, on_words, combined, binary}
use Rattle.jz_meaning.specs.Values.{Ref, key_of, with_right}
use Rattle.jz_run_laws.specs.Kinds.{Kinds, IsOfKind}
use Rattle.jz_terms.specs.Terms.{Term, num, var, bin, means}
use Rattle.jz_facts.specs.Facts.{Set, Facts, Given}
use Rattle.jz_fact_laws.specs.Saying.{Yields, is_number}
use Rattle.jz_alarms.specs.Conditions.{Target, Alarm, named, or_else, unless, asks}
use Rattle.jz_standing.specs.Typing.{NoNumbers, IsScalar, IsSum}
use Rattle.jz_standing.specs.Standing.{Stands}
use Rattle.jz_standing.proofs.Held.{scalar_holds}
use Rattle.jz_standing.proofs.Making.{never_both, same_size-refl}
use Rattle.jz_standing.proofs.SumForms.{summed}
use Rattle.jz_unstuck.proofs.Totals.{residue_sum, residue_difference, residue_word, some_is}

-- ---- conditions that are met

pub met : (c : Bool) (at : Span) (why : Why) (t : Target) → unless c at why t ≡ None → c ≡ true
met true at why t e = refl
met false at why t e = absurd (cc e)

pub both_met : (a b : Option Alarm) → or_else a b ≡ None → (a ≡ None) × (b ≡ None)
both_met None b e = (refl, e)
both_met (Some x) b e = absurd (cc e)

-- ---- it went, and this is so of what came out

abbrev pub Runs : {A : Type 0} → (A → Type 0) → Evaluation A → Type 0
Runs Q (stuck k) = ⊥
Runs Q (went ns x) = Q x

runs_first : {A : Type 0} (Q : A → Type 0) (ns : List ℕ) (e : Evaluation A) → Runs Q e → Runs Q (numbers_first ns e)
runs_first Q ns (stuck k) h = absurd h
runs_first Q ns (went ms x) h = h

pub runs_then : {A B : Type 0} (Q : A → Type 0) (R : B → Type 0) (e : Evaluation A) (f : A → Evaluation B) → Runs Q e → ((x : A) → Q x → Runs R (f x)) → Runs R (and_then e f)
runs_then Q R (stuck k) f h g = absurd h
runs_then Q R (went ns x) f h g = runs_first R ns (f x) (g x h)

pub runs_yields : {A : Type 0} (Q : A → Type 0) (e : Evaluation A) → Runs Q e → Yields Q e
runs_yields Q (stuck k) h = tt
runs_yields Q (went ns x) h = h

-- ---- values as whole numbers

abbrev pub number_in : Option Value → ℕ
number_in None = 0
number_in (Some (word z n)) = n
number_in (Some (boolean c)) = 0
number_in (Some (integer i)) = 0

abbrev pub word_here : State → Ref → ℕ
word_here st x = number_in (st.store (key_of x))

abbrev pub HasWordAt : State → Ref → Type 0
HasWordAt st x = (n : ℕ) × (st.store (key_of x) ≡ Some (word S64 n)) × (n < 2 ^ 64)

pub here_is : (st : State) (x : Ref) (n : ℕ) → st.store (key_of x) ≡ Some (word S64 n) → word_here st x ≡ n
here_is st x n e = ap number_in e

-- a word times a whole number; times the word of one that is below zero
abbrev pub scaled_by : ℤ → ℕ → ℤ
scaled_by (pos k) n = pos (k * n)
scaled_by (negsuc k) n = pos (residue S64 (negsuc k) * n)

abbrev pub total_of : State → Term → ℤ
total_of st (num i at) = i
total_of st (var x) = pos (word_here st x)
total_of st (bin o.Mul (num k t) (var x) at) = scaled_by k (word_here st x)
total_of st (bin o.Mul (var x) (num k t) at) = scaled_by k (word_here st x)
total_of st (bin o.Add a b at) = total_of st a +ℤ total_of st b
total_of st (bin o.Sub a (num i t) at) = total_of st a -ℤ i
total_of st t = pos 0

abbrev pub HeldVars : State → Term → Type 0
HeldVars st (num i at) = Unit {0}
HeldVars st (var x) = HasWordAt st x
HeldVars st (bin o.Mul (num k t) (var x) at) = HasWordAt st x
HeldVars st (bin o.Mul (var x) (num k t) at) = HasWordAt st x
HeldVars st (bin o.Add a b at) = HeldVars st a × HeldVars st b
HeldVars st (bin o.Sub a (num i t) at) = HeldVars st a
HeldVars st t = Unit {0}

-- the word that a whole number stands for, or the number itself
abbrev pub StandsFor : ℤ → Bool → Value → Type 0
StandsFor i k (word z a) = (z ≡ S64) × (a ≡ residue S64 i)
StandsFor i k (integer j) = (k ≡ true) × (j ≡ i)
StandsFor i k (boolean c) = ⊥

-- ---- one operation

same_sized : (z w : Size) → z ≡ S64 → w ≡ S64 → same_size z w ≡ true
same_sized z w e f = ap (same_size z) (f ∙ sym e) ∙ same_size-refl z

sum_words : (z : Size) (a b : ℕ) (i j : ℤ) → z ≡ S64 → a ≡ residue S64 i → b ≡ residue S64 j → sum_of z a b false ≡ residue S64 (i +ℤ j)
sum_words z a b i j e p q =
    ap (λ y. sum_of y a b false) e ∙ ap (λ x. sum_of S64 x b false) p ∙ ap (λ x. sum_of S64 (residue S64 i) x false) q ∙ plus (residue S64 i) (residue S64 j) ∙ sym (residue_sum i j)
  where
    plus : (x y : ℕ) → sum_of S64 x y false ≡ (x + y) % 2 ^ 64
    plus x y = omega arith

difference_words : (z : Size) (a b : ℕ) (i j : ℤ) → z ≡ S64 → a ≡ residue S64 i → b ≡ residue S64 j → difference_of z a b false ≡ residue S64 (i -ℤ j)
difference_words z a b i j e p q =
    ap (λ y. difference_of y a b false) e ∙ ap (λ x. difference_of S64 x b false) p ∙ ap (λ x. difference_of S64 (residue S64 i) x false) q ∙ less (residue S64 i) (residue S64 j) ∙ sym (residue_difference i j)
  where
    less : (x y : ℕ) → difference_of S64 x y false ≡ (x + 2 ^ 64 - y) % 2 ^ 64
    less x y = omega arith

residue_at : (z : Size) (i j : ℤ) → z ≡ S64 → i ≡ j → residue z i ≡ residue S64 j
residue_at z i j e f = ap (λ y. residue y i) e ∙ ap (residue S64) f

add_values : (at : Span) (i j : ℤ) (k l : Bool) (x y : Value) → (k && l) ≡ false → StandsFor i k x → StandsFor j l y → Runs (StandsFor (i +ℤ j) (k && l)) (combined o.Add at x y)
unfolding combined
add_values at i j k l (word z a) (word w b) n p q = subst (λ c. Runs (StandsFor (i +ℤ j) (k && l)) (if c then on_words o.Add at z a b else stuck_at at Init)) (sym (same_sized z w p.0 q.0)) (p.0, sum_words z a b i j p.0 p.1 q.1)
add_values at i j k l (word z a) (integer b) n p q = (p.0, sum_words z a (residue z b) i j p.0 p.1 (residue_at z b j p.0 q.1))
add_values at i j k l (integer a) (word w b) n p q = (q.0, sum_words w (residue w a) b i j q.0 (residue_at w a i q.0 p.1) q.1)
add_values at i j k l (integer a) (integer b) n p q = absurd (never_both k l p.0 q.0 n)
add_values at i j k l (boolean a) y n p q = absurd p
add_values at i j k l (word z a) (boolean b) n p q = absurd q
add_values at i j k l (integer a) (boolean b) n p q = absurd q

take_value : (at : Span) (i j : ℤ) (k : Bool) (x : Value) → k ≡ false → StandsFor i k x → Runs (StandsFor (i -ℤ j) (k && true)) (combined o.Sub at x (integer j))
unfolding combined
take_value at i j k (word z a) n p = (p.0, difference_words z a (residue z j) i j p.0 p.1 (residue_at z j j p.0 refl))
take_value at i j k (integer a) n p = absurd (cc (sym p.0 ∙ n))
take_value at i j k (boolean a) n p = absurd p

scale_value : (at : Span) (k : ℤ) (n : ℕ) → Runs (StandsFor (scaled_by k n) false) (combined o.Mul at (integer k) (word S64 n))
unfolding combined
scale_value at (pos k) n = (refl, mul-mod_first k n (modulus S64))
scale_value at (negsuc k) n = (refl, refl)

swapped : (a b : ℕ) → a * b ≡ b * a
swapped a b = grind arith

scaled_value : (at : Span) (k : ℤ) (n : ℕ) → Runs (StandsFor (scaled_by k n) false) (combined o.Mul at (word S64 n) (integer k))
unfolding combined
scaled_value at (pos k) n = (refl, mul-mod_second n k (modulus S64) ∙ ap (λ x. x % modulus S64) (swapped n k))
scaled_value at (negsuc k) n = (refl, ap (λ x. x % modulus S64) (swapped n (residue S64 (negsuc k))))

-- the same of operations where a word of 64 bits is wanted
add_binary : (at : Span) (i j : ℤ) (k l : Bool) (x y : Value) → (k && l) ≡ false → StandsFor i k x → StandsFor j l y → Runs (StandsFor (i +ℤ j) (k && l)) (binary o.Add at (Some S64) x y)
unfolding binary
add_binary at i j k l x y n p q = add_values at i j k l x y n p q

take_binary : (at : Span) (i j : ℤ) (k : Bool) (x : Value) → k ≡ false → StandsFor i k x → Runs (StandsFor (i -ℤ j) (k && true)) (binary o.Sub at (Some S64) x (integer j))
unfolding binary
take_binary at i j k x n p = take_value at i j k x n p

scale_binary : (at : Span) (k : ℤ) (n : ℕ) → Runs (StandsFor (scaled_by k n) false) (binary o.Mul at (Some S64) (integer k) (word S64 n))
unfolding binary
scale_binary at k n = scale_value at k n

scaled_binary : (at : Span) (k : ℤ) (n : ℕ) → Runs (StandsFor (scaled_by k n) false) (binary o.Mul at (Some S64) (word S64 n) (integer k))
unfolding binary
scaled_binary at k n = scaled_value at k n

module _ (g : Given) (kinds : Kinds) (in_frame : Key → Bool) (entry : Key → ℕ) (s : Facts) (st : State) (H : Stands g kinds in_frame entry s st) (nn : NoNumbers kinds) where
  -- ---- each variable has a word

  word_of_kind : (v : Value) → IsOfKind (kind.Word S64) v → (n : ℕ) × (v ≡ word S64 n) × (n < 2 ^ 64)
  word_of_kind (word z n) h = (n, ap (λ y. word y n) h.0, h.1)
  word_of_kind (boolean c) h = absurd h
  word_of_kind (integer i) h = absurd h

  has_word : (x : Ref) → x.kind ≡ kind.Word S64 → IsScalar kinds in_frame x → asks g s (Some S64) (var x) ≡ None → HasWordAt st x
  has_word x e i q =
      let m = met (s (Set (key_of x))) x.span Init (named x.name x.cell) q in
      let b = some_is (st.store (key_of x)) (H.says (Set (key_of x)) m) in
      let w = word_of_kind b.0 (subst (λ k. IsOfKind k b.0) e (scalar_holds g kinds in_frame entry s st H x i b.0 b.1)) in
      (w.0, b.1 ∙ ap Some w.1, w.2)

  pub held_vars : (t : Term) → IsSum kinds in_frame t → asks g s (Some S64) t ≡ None → HeldVars st t
  held_vars = summed kinds in_frame (λ t. asks g s (Some S64) t ≡ None → HeldVars st t) (λ i at q. tt) (λ x e i q. has_word x e i q)
      (λ k t x at e i q. has_word x e i (both_met (asks g s (Some S64) (var x)) _ q).0)
      (λ x k t at e i q. has_word x e i (both_met (asks g s (Some S64) (var x)) _ q).0)
      (λ a b at n i j p r q. let d = both_met (asks g s (Some S64) a) _ q in let f = both_met (asks g s (Some S64) b) _ d.1 in (p d.0, r f.0))
      (λ a i t at n j p q. p (both_met (asks g s (Some S64) a) _ q).0)

  -- ---- it has a value, and that is the total

  variable_runs : (x : Ref) (w : Option Size) → HasWordAt st x → Runs (λ v. v ≡ word S64 (word_here st x)) ((means (var x)).run w st)
  variable_runs x w h = subst (λ q. Runs (λ v. v ≡ word S64 (word_here st x)) (defined x.span q)) (sym h.1) (ap (word S64) (sym (here_is st x h.0 h.1)))

  abbrev Totals : Term → Type 0
  Totals t = HeldVars st t → Runs (StandsFor (total_of st t) (is_number t)) ((means t).run (Some S64) st)

  pub totals : (t : Term) → IsSum kinds in_frame t → Totals t
  totals = summed kinds in_frame Totals (λ i at h. (refl, refl))
      (λ x e i h. runs_all (λ v. v ≡ word S64 (word_here st x)) (StandsFor (pos (word_here st x)) false) ((means (var x)).run (Some S64) st) (λ v q. as_total x h v q) (variable_runs x (Some S64) h))
      (λ k t x at e i h. runs_then (λ y. y ≡ integer k) (StandsFor (scaled_by k (word_here st x)) false) (went [] (integer k)) (with_right o.Mul (means (var x)).run at (Some S64) st) refl (λ y q.
      subst (λ u. Runs (StandsFor (scaled_by k (word_here st x)) false) (with_right o.Mul (means (var x)).run at (Some S64) st u)) (sym q)
      (runs_then (λ y. y ≡ word S64 (word_here st x)) (StandsFor (scaled_by k (word_here st x)) false) ((means (var x)).run (Some S64) st) (λ y. binary o.Mul at (Some S64) (integer k) y) (variable_runs x (Some S64) h) (λ y q.
      subst (λ u. Runs (StandsFor (scaled_by k (word_here st x)) false) (binary o.Mul at (Some S64) (integer k) u)) (sym q) (scale_binary at k (word_here st x))))))
      (λ x k t at e i h. runs_then (λ y. y ≡ word S64 (word_here st x)) (StandsFor (scaled_by k (word_here st x)) false) ((means (var x)).run (Some S64) st) (with_right o.Mul (means (num k t)).run at (Some S64) st) (variable_runs x (Some S64) h) (λ y q.
      subst (λ u. Runs (StandsFor (scaled_by k (word_here st x)) false) (with_right o.Mul (means (num k t)).run at (Some S64) st u)) (sym q)
      (runs_then (λ y. y ≡ integer k) (StandsFor (scaled_by k (word_here st x)) false) (went [] (integer k)) (λ y. binary o.Mul at (Some S64) (word S64 (word_here st x)) y) refl (λ y q.
      subst (λ u. Runs (StandsFor (scaled_by k (word_here st x)) false) (binary o.Mul at (Some S64) (word S64 (word_here st x)) u)) (sym q) (scaled_binary at k (word_here st x))))))
      (λ a b at n i j p r h. runs_then (StandsFor (total_of st a) (is_number a)) (StandsFor (total_of st a +ℤ total_of st b) (is_number a && is_number b)) ((means a).run (Some S64) st) (with_right o.Add (means b).run at (Some S64) st) (p h.0) (λ x hx.
      runs_then (StandsFor (total_of st b) (is_number b)) (StandsFor (total_of st a +ℤ total_of st b) (is_number a && is_number b)) ((means b).run (Some S64) st) (λ y. binary o.Add at (Some S64) x y) (r h.1) (λ y hy.
      add_binary at (total_of st a) (total_of st b) (is_number a) (is_number b) x y n hx hy)))
      (λ a i t at n j p h. runs_then (StandsFor (total_of st a) (is_number a)) (StandsFor (total_of st a -ℤ i) (is_number a && true)) ((means a).run (Some S64) st) (with_right o.Sub (means (num i t)).run at (Some S64) st) (p h) (λ x hx.
      runs_then (λ y. y ≡ integer i) (StandsFor (total_of st a -ℤ i) (is_number a && true)) (went [] (integer i)) (λ y. binary o.Sub at (Some S64) x y) refl (λ y q.
      subst (λ u. Runs (StandsFor (total_of st a -ℤ i) (is_number a && true)) (binary o.Sub at (Some S64) x u)) (sym q) (take_binary at (total_of st a) i (is_number a) x n hx))))
    where
      runs_all : (Q R : Value → Type 0) (e : Evaluation Value) → ((v : Value) → Q v → R v) → Runs Q e → Runs R e
      runs_all Q R (stuck k) f h = absurd h
      runs_all Q R (went ns v) f h = f v h

      as_total : (x : Ref) → HasWordAt st x → (v : Value) → v ≡ word S64 (word_here st x) → StandsFor (pos (word_here st x)) false v
      as_total x h v q = subst (StandsFor (pos (word_here st x)) false) (sym q) (refl, sym (residue_word (word_here st x) (subst (λ n. n < 2 ^ 64) (sym (here_is st x h.0 h.1)) h.2)))
