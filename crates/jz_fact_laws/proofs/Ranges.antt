-- The interval of a term holds of its value.
use Rattle.std.proofs.Common.{◌≡◌, ℕ, ◌+◌, ◌-◌, ◌*◌, ◌/◌, ◌%◌, ◌^◌, ◌<◌, ◌≤◌, List, [], ◌∷◌, Option, Some, None, Bool, true, false, refl, ap, sym, ◌∙◌, subst, arith, rules, min, max, if◌then◌else◌}
use Rattle.std.specs.Prelude.{◌==◌, nat_le, option_map, ℤ, pos, negsuc, not, ◌&&◌, ◌||◌, bit_and}
use Rattle.std.specs.Option.{option_or}
use Rattle.std.proofs.Math.Nat.{div-le_self, mod-lt, mod-le, mod-eq_of_lt, add-mod_right, mul-le-mul}
use Rattle.std.proofs.lemmas.Nat.{and_le_l, and_le_r}
use Rattle.jz_tree.specs.Span.{Span}
use Rattle.x64_insn.specs.Size.{Size}
use Rattle.x64_insn.specs.Size.TheVariants.{S8, S16, S32, S64}
use Rattle.x64_insn.specs.Sizes.{bytes_of, modulus, signed}
use Rattle.x64_insn.specs.Words.{residue, difference_of, carried}
use Rattle.x64_insn.specs.Memory.{loaded}
use Rattle.jz_words.proofs.Residues.{residue_below, some_words}
use Rattle.jz_tree.specs.declared.expr.BinOp.{BinOp}
use Rattle.jz_tree.specs.declared.expr.BinOp.TheVariants as o
use Rattle.jz_runs.specs.Rules.{stuck, went}
use Rattle.jz_meaning.specs.declared.value.Why.TheVariants.{Divide, Init, Align}
use Rattle.jz_meaning.specs.Attempts.{Evaluation, stuck_at, and_then, defined}
use Rattle.jz_meaning.specs.States.{Value, word, boolean, integer, Key, State}
use Rattle.jz_meaning.specs.Operators.{same_size, on_words, shifted_word, by_flag, joined, is_settled, combined, shifted, binary, is_shift, negated, inverted, cast as cast_value}
use Rattle.jz_meaning.specs.Values.{key_of, cell_key, size_of, left_wanted, right_wanted, with_right, run_binary, index_at, cell_value, load_at, load_word, address_at, accessed, is_aligned}
use Rattle.jz_meaning.proofs.Widths.{equal_sizes}
use Rattle.jz_facts.specs.Terms.{Term, num, truth, var, cell, load, neg, inv, cast, bin, means, size_in}
use Rattle.jz_facts.specs.Facts.{AtLeast, AtMost, Under, Facts, Start, Given, hi_of, greatest, least}
use Rattle.jz_intervals.specs.declared.interval.Interval.{Interval}
use Rattle.jz_intervals.specs.Intervals.{greatest_word, each_word, where_so, sum, difference, product, mask, quotient, remainder, shifted_by, fitted}
use Rattle.jz_facts.specs.Intervals.{size_or_64, is_flag, under_most, of_variable, interval}
use Rattle.jz_fact_laws.specs.Saying.{HasWord, InRanges, Fits, Holds, Yields, In, HasSize, is_number, IsSized, IsPlain}
use Rattle.jz_integers.specs.Integers as numbers
use Rattle.jz_facts.proofs.Narrowing.{div_more, power_some}
use Rattle.jz_fact_laws.proofs.Fitting.{yields_then, yields_defined, yields_if, yields_all, below_all, words_fit, flag_fits, count_fits, bools_fit, settled_is}

-- the value of a term, of which a word of size z is looked at; a whole number comes from numbers alone
abbrev pub Good : Interval → Bool → Size → Value → Type 0
Good i k z (word s a) = (a < modulus s) × (s ≡ z → In i a)
Good i k z (boolean c) = In i (carried c)
Good i k z (integer j) = (k ≡ true) × In i (residue z j)

pub in_each : (z : Size) (n : ℕ) → n < modulus z → In (each_word z) n
in_each z n h = (omega arith, omega (arith, h))

pub carried_below : (z : Size) (c : Bool) → carried c < modulus z
carried_below S8 true = omega arith
carried_below S16 true = omega arith
carried_below S32 true = omega arith
carried_below S64 true = omega arith
carried_below z false = some_words z

-- what fits is each word
pub each_good : (k : Bool) (z : Size) (v : Value) → Fits v → Good (each_word z) k z v
each_good k z (word s a) h = (h, λ e. in_each z a (subst (λ q. a < modulus q) e h))
each_good k z (boolean c) h = in_each z (carried c) (carried_below z c)
each_good k z (integer j) h = absurd h

pub bool_good : (k : Bool) (z : Size) (c : Bool) → Good (each_word z) k z (boolean c)
bool_good k z c = in_each z (carried c) (carried_below z c)

-- ---- the rows, on numbers

so : (c : Bool) (z : Size) (lo hi n : ℕ) → n < modulus z → (c ≡ true → (lo ≤ n) × (n ≤ hi)) → In (where_so c z lo hi) n
so true z lo hi n h k = k refl
so false z lo hi n h k = in_each z n h

pub sum_in : (z : Size) (i j : Interval) (a b t : ℕ) → In i a → In j b → t ≡ a + b → In (sum z i j) (t % modulus z)
sum_in z i j a b t p q e = so (nat_le (i.hi + j.hi) (greatest_word z)) z (min (i.lo + j.lo) (greatest_word z)) (i.hi + j.hi) (t % modulus z) (below_all z t) (λ c.
    let l : i.hi + j.hi ≤ modulus z - 1 = grind (arith, rules, c) in
    let s = some_words z in
    let lt : t < modulus z = omega (arith, l, p.1, q.1, e, s) in
    let m : t % modulus z ≡ t = mod-eq_of_lt lt in
    (omega (arith, m, e, p.0, q.0), omega (arith, m, e, p.1, q.1)))

pub difference_in : (z : Size) (i j : Interval) (a b t : ℕ) → a < modulus z → In i a → In j b → t ≡ b → In (difference z i j) ((a + modulus z - t) % modulus z)
difference_in z i j a b t f p q e = so (nat_le j.hi i.lo) z (i.lo - j.hi) (i.hi - j.lo) ((a + modulus z - t) % modulus z) (below_all z _) (λ c.
    let l : j.hi ≤ i.lo = grind (arith, rules, c) in
    let d : a + modulus z - t ≡ (a - b) + modulus z = omega (arith, l, p.0, q.1, e) in
    let m : (a + modulus z - t) % modulus z ≡ a - b = ap (λ x. x % modulus z) d ∙ add-mod_right (a - b) (modulus z) ∙ mod-eq_of_lt (omega (arith, f)) in
    (omega (arith, m, p.0, q.1), omega (arith, m, p.1, q.0)))

pub product_in : (z : Size) (i j : Interval) (a b : ℕ) → In i a → In j b → In (product z i j) (a * b % modulus z)
product_in z i j a b p q = so (nat_le (i.hi * j.hi) (greatest_word z)) z (min (i.lo * j.lo) (greatest_word z)) (i.hi * j.hi) (a * b % modulus z) (below_all z _) (λ c.
    let l : i.hi * j.hi ≤ modulus z - 1 = grind (arith, rules, c) in
    let s = some_words z in
    let lo : i.lo * j.lo ≤ a * b = mul-le-mul p.0 q.0 in
    let hi : a * b ≤ i.hi * j.hi = mul-le-mul p.1 q.1 in
    let m : a * b % modulus z ≡ a * b = mod-eq_of_lt (omega (arith, l, hi, s)) in
    (omega (arith, m, lo), omega (arith, m, hi)))

pub mask_in : (i j : Interval) (a b : ℕ) → In i a → In j b → In (mask i j) (bit_and a b)
mask_in i j a b p q = let x = and_le_l a b in let y = and_le_r a b in (omega arith, omega (arith, x, y, p.1, q.1))

pub quotient_in : (z : Size) (i j : Interval) (a b : ℕ) → a < modulus z → In i a → In j b → In (quotient z i j) (a / b)
quotient_in z i j a b f p q = let d = div-le_self a b in so (nat_le 1 j.lo) z (i.lo / max j.hi 1) (i.hi / j.lo) (a / b) (omega (arith, d, f)) (λ c.
    let l : 1 ≤ j.lo = grind (arith, rules, c) in
    (div_more i.lo a (max j.hi 1) b p.0 (omega (arith, q.1)) (omega (arith, l, q.0)), div_more a i.hi b j.lo p.1 q.0 (omega (arith, l))))

pub remainder_in : (z : Size) (i j : Interval) (a b : ℕ) → a < modulus z → In j b → In (remainder z j) (a % b)
remainder_in z i j a b f q = let d = mod-le a b in so (nat_le 1 j.lo) z 0 (j.hi - 1) (a % b) (omega (arith, d, f)) (λ c.
    let l : 1 ≤ j.lo = grind (arith, rules, c) in
    let m = mod-lt a {m = b} (omega (arith, l, q.0)) in
    (omega arith, omega (arith, m, q.1)))

pub shifted_in : (i : Interval) (a n : ℕ) → In i a → In (shifted_by n i) (a / 2 ^ n)
shifted_in i a n p = (div_more i.lo a (2 ^ n) (2 ^ n) p.0 (omega arith) (power_some n), div_more a i.hi (2 ^ n) (2 ^ n) p.1 (omega arith) (power_some n))

-- ---- operations on values

pub not_both : (k l : Bool) → k ≡ true → l ≡ true → (k && l) ≡ false → ⊥
not_both true true e f g = cc g
not_both true false e f g = cc f
not_both false l e f g = cc e

-- of words and numbers, of a word and a flag, of flags
combine : (op : BinOp) (at : Span) (z : Size) (r i j : Interval) (k l : Bool) (x y : Value) → (k && l) ≡ false
    → ((s : Size) (a b : ℕ) → a < modulus s → b < modulus s → (s ≡ z → In i a) → (s ≡ z → In j b) → Yields (Good r (k && l) z) (on_words op at s a b))
    → ((s : Size) (a : ℕ) (c : Bool) → a < modulus s → (s ≡ z → In i a) → In j (carried c) → Yields (Good r (k && l) z) (defined at (by_flag op s a c)))
    → ((c : Bool) → Yields (Good r (k && l) z) (defined at (joined op c)))
    → Good i k z x → Good j l z y → Yields (Good r (k && l) z) (combined op at x y)
unfolding combined
combine op at z r i j k l (word s a) (word t b) n ws fl bs p q =
    yields_if (Good r (k && l) z) (same_size s t) (on_words op at s a b) (stuck_at at Init)
    (λ e. let u = equal_sizes s t e in ws s a b p.0 (subst (λ v. b < modulus v) (sym u) q.0) p.1 (λ w. q.1 (sym u ∙ w)))
    (λ e. tt)
combine op at z r i j k l (word s a) (integer b) n ws fl bs p q =
    ws s a (residue s b) p.0 (residue_below s b) p.1 (λ e. subst (λ v. In j (residue v b)) (sym e) q.1)
combine op at z r i j k l (word s a) (boolean c) n ws fl bs p q = fl s a c p.0 p.1 q
combine op at z r i j k l (integer a) (word t b) n ws fl bs p q =
    ws t (residue t a) b (residue_below t a) q.0 (λ e. subst (λ v. In i (residue v a)) (sym e) p.1) q.1
combine op at z r i j k l (integer a) (integer b) n ws fl bs p q = absurd (not_both k l p.0 q.0 n)
combine op at z r i j k l (integer a) (boolean c) n ws fl bs p q = tt
combine op at z r i j k l (boolean a) (boolean c) n ws fl bs p q = bs c
combine op at z r i j k l (boolean a) (word t b) n ws fl bs p q = tt
combine op at z r i j k l (boolean a) (integer b) n ws fl bs p q = tt

-- an operation without a row
each_case : (op : BinOp) (at : Span) (z : Size) (i j : Interval) (k l : Bool) (x y : Value) → (k && l) ≡ false → Good i k z x → Good j l z y → Yields (Good (each_word z) (k && l) z) (combined op at x y)
each_case op at z i j k l x y n p q =
    combine op at z (each_word z) i j k l x y n
    (λ s a b f g h m. yields_all Fits (Good (each_word z) (k && l) z) (on_words op at s a b) (each_good (k && l) z) (words_fit op at s a b f g))
    (λ s a c f h m. yields_all Fits (Good (each_word z) (k && l) z) (defined at (by_flag op s a c)) (each_good (k && l) z) (flag_fits op at s a c f))
    (λ c. bools_fit op at c (Good (each_word z) (k && l) z) (bool_good (k && l) z))
    p q

-- a shift without a row
shift_each : (op : BinOp) (at : Span) (w : Option Size) (z : Size) (i j : Interval) (k l : Bool) (x y : Value) → (k && l) ≡ false → Good i k z x → Good j l z y → Yields (Good (each_word z) (k && l) z) (defined at (shifted op w x y))
unfolding shifted
shift_each op at w z i j k l (word s a) (word t n) e p q = yields_all Fits (Good (each_word z) (k && l) z) (defined at (shifted_word op s a n)) (each_good (k && l) z) (count_fits op at s a n p.0)
shift_each op at w z i j k l (word s a) (integer (pos n)) e p q = yields_all Fits (Good (each_word z) (k && l) z) (defined at (shifted_word op s a n)) (each_good (k && l) z) (count_fits op at s a n p.0)
shift_each op at w z i j k l (word s a) (integer (negsuc n)) e p q = tt
shift_each op at w z i j k l (word s a) (boolean c) e p q = tt
shift_each op at w z i j k l (integer a) (integer b) e p q = absurd (not_both k l p.0 q.0 e)
shift_each op at None z i j k l (integer a) (word t n) e p q = tt
shift_each op at (Some s) z i j k l (integer a) (word t n) e p q = yields_all Fits (Good (each_word z) (k && l) z) (defined at (shifted_word op s (residue s a) n)) (each_good (k && l) z) (count_fits op at s (residue s a) n (residue_below s a))
shift_each op at w z i j k l (integer a) (boolean c) e p q = tt
shift_each op at w z i j k l (boolean a) y e p q = tt

shift_right : (at : Span) (w : Option Size) (z : Size) (i : Interval) (k : Bool) (n : ℕ) (x : Value) → (k && true) ≡ false → Good i k z x → Yields (Good (shifted_by n i) (k && true) z) (defined at (shifted o.Shr w x (integer (pos n))))
unfolding shifted
shift_right at w z i k n (word s a) e p = (let h = div-le_self a (2 ^ n) in omega (arith, h, p.0), λ q. shifted_in i a n (p.1 q))
shift_right at w z i k n (integer a) e p = absurd (not_both k true p.0 refl e)
shift_right at w z i k n (boolean a) e p = tt

greatest_ok : (p : ℕ → Bool) (cs : List ℕ) (n : ℕ) → ((c : ℕ) → p c ≡ true → c ≤ n) → greatest p cs ≤ n
greatest_ok p [] n h = omega arith
greatest_ok p (c ∷ cs) n h = by (p c) refl (greatest_ok p cs n h)
  where
    by : (q : Bool) → p c ≡ q → greatest p cs ≤ n → (if q then max c (greatest p cs) else greatest p cs) ≤ n
    by true e b = let a = h c e in omega (arith, a, b)
    by false e b = b

least_ok : (p : ℕ → Bool) (m : ℕ) (cs : List ℕ) (n : ℕ) → n ≤ m → ((c : ℕ) → p c ≡ true → n ≤ c) → n ≤ least p m cs
least_ok p m [] n l h = l
least_ok p m (c ∷ cs) n l h = by (p c) refl (least_ok p m cs n l h)
  where
    by : (q : Bool) → p c ≡ q → n ≤ least p m cs → n ≤ (if q then min c (least p m cs) else least p m cs)
    by true e b = let a = h c e in omega (arith, a, b)
    by false e b = b

module _ (g : Given) (sizes : Key → Option Size) (entry : Key → ℕ) (s : Facts) (st : State) (H : Holds g sizes entry s st) where
  abbrev number : Value → ℕ
  number (word z n) = n
  number (boolean c) = carried c
  number (integer j) = 0

  the_number : (v : Key) (x : Value) (P : ℕ → Type 0) → st.store v ≡ Some x → HasWord (st.store v) P → P (number x)
  the_number v x P e (z, n, q, h) = subst P (ap number (same_some (sym q ∙ e))) h
    where
      same_some : {A : Type 0} {a b : A} → Some a ≡ Some b → a ≡ b
      same_some e = cc e

  under_ok : (v : Key) (x : Value) (m : ℕ) (ps : List Start) → st.store v ≡ Some x → number x ≤ m → InRanges entry ps → number x ≤ under_most g s v m ps
  under_ok v x m [] e l a = l
  under_ok v x m (p ∷ ps) e l a = by (s (Under v p.key)) refl (under_ok v x m ps e l a.1)
    where
      by : (q : Bool) → s (Under v p.key) ≡ q → number x ≤ under_most g s v m ps → number x ≤ (if q then min (hi_of p - 1) (under_most g s v m ps) else under_most g s v m ps)
      by true q b = let c = the_number v x (λ n. n < entry p.key) e (H.says (Under v p.key) q) in let r = a.0 in omega (arith, b, c, r)
      by false q b = b

  variable_in : (z : Size) (v : Key) (x : Value) → st.store v ≡ Some x → number x < modulus z → In (of_variable g s z v) (number x)
  variable_in z v x e f =
      let a = greatest_ok (λ c. s (AtLeast v c)) g.consts (number x) (λ c h. the_number v x (λ n. c ≤ n) e (H.says (AtLeast v c) h)) in
      let b = least_ok (λ c. s (AtMost v c)) (modulus z - 1) g.consts (number x) (omega (arith, f)) (λ c h. the_number v x (λ n. n ≤ c) e (H.says (AtMost v c) h)) in
      (omega (arith, a), under_ok v x _ g.params e b H.ranges)

  variable_good : (z : Size) (v : Key) (x : Value) → st.store v ≡ Some x → Good (of_variable g s z v) false z x
  variable_good z v (word t n) e = let f = H.fits v (word t n) e in (f, λ q. variable_in z v (word t n) e (subst (λ y. n < modulus y) q f))
  variable_good z v (boolean c) e = variable_in z v (boolean c) e (carried_below z c)
  variable_good z v (integer j) e = absurd (H.fits v (integer j) e)

  -- what is loaded
  loaded_good : (at : Span) (unaligned : Bool) (w : Option Size) (z : Size) (a : ℕ) → Yields Fits (load_word at unaligned w a st.memory)
  loaded_good at unaligned None z a = tt
  loaded_good at unaligned (Some t) z a = by (loaded st.memory a (bytes_of t)) refl
    where
      size_fits : (t : Size) (b : ℕ) → b < 256 ^ bytes_of t → b < modulus t
      size_fits S8 b h = omega (arith, h)
      size_fits S16 b h = omega (arith, h)
      size_fits S32 b h = omega (arith, h)
      size_fits S64 b h = omega (arith, h)

      by : (o : Option ℕ) → loaded st.memory a (bytes_of t) ≡ o → Yields Fits (and_then (accessed at unaligned t a o) (λ b. went [] (word t b)))
      by None e = tt
      by (Some b) e = yields_then (λ c. c ≡ b) Fits (accessed at unaligned t a (Some b)) (λ b. went [] (word t b)) (yields_if (λ c. c ≡ b) (unaligned || is_aligned t a) (went (a ∷ []) b) (stuck_at at Align) (λ q. refl) (λ q. tt)) (λ c q. subst (λ d. d < modulus t) (sym q) (size_fits t b (H.bytes a (bytes_of t) b e)))

  right_then : (op : BinOp) (at : Span) (w v : Option Size) (z : Size) (r i j : Interval) (k l : Bool) (x : Value) (right : Option Size → State → Evaluation Value)
      → Good i k z x
      → (is_settled op x ≡ true → Good r (k && l) z x)
      → ((u : Option Size) → Yields (Good j l z) (right u st))
      → ((y : Value) → Good i k z x → Good j l z y → Yields (Good r (k && l) z) (binary op at w x y))
      → Yields (Good r (k && l) z) (with_right op right at w st x)
  right_then op at w v z r i j k l x right p settled hr h =
      yields_if (Good r (k && l) z) (is_settled op x) (went [] x) _ settled
      (λ e. yields_then (Good j l z) (Good r (k && l) z) (right (right_wanted op w) st) (λ y. binary op at w x y) (hr _) (λ y q. h y p q))

  runs_good : (op : BinOp) (at : Span) (w : Option Size) (z : Size) (r i j : Interval) (k l : Bool) (left right : Option Size → State → Evaluation Value)
      → ((u : Option Size) → Yields (Good i k z) (left u st))
      → ((u : Option Size) → Yields (Good j l z) (right u st))
      → ((x : Value) → Good i k z x → is_settled op x ≡ true → Good r (k && l) z x)
      → ((x y : Value) → Good i k z x → Good j l z y → Yields (Good r (k && l) z) (binary op at w x y))
      → Yields (Good r (k && l) z) (run_binary op left right at w st)
  runs_good op at w z r i j k l left right hl hr settled h =
      yields_then (Good i k z) (Good r (k && l) z) (left w st) (with_right op right at w st) (hl w) (λ x p. right_then op at w w z r i j k l x right p (settled x p) hr (λ y. h x y))

  never : (op : BinOp) (r : Interval) (k : Bool) (z : Size) (x : Value) → is_settled op x ≡ true → ((b : Bool) → Good r k z (boolean b)) → Good r k z x
  never op r k z x e h = settled_is op x (Good r k z) h e

  anything : {A : Type 0} (e : Evaluation A) → Yields (λ v. Unit {0}) e
  anything (stuck w) = tt
  anything (went ns v) = tt

  some_size : (a b : Size) → Some a ≡ Some b → a ≡ b
  some_size a b e = cc e

  word_size : (y z : Size) (n m : ℕ) → word z m ≡ word y n → y ≡ z
  word_size y z n m e = cc e

  sized_load : (at : Span) (unaligned : Bool) (z : Size) (a : ℕ) → Yields (HasSize z) (load_word at unaligned (Some z) a st.memory)
  sized_load at unaligned z a = yields_then (λ b. Unit {0}) (HasSize z) (accessed at unaligned z a (loaded st.memory a (bytes_of z))) (λ b. went [] (word z b)) (anything _) (λ b h y n e. word_size y z n b e)

  sized_ok : (a : Term) → IsSized sizes a → (w : Option Size) → Yields (HasSize (size_or_64 (size_in a))) ((means a).run w st)
  sized_ok (var x) (z, e, f) w =
      yields_defined (HasSize (size_or_64 (size_of x.kind))) x.span (st.store (key_of x)) (λ v h y n q.
      let t = H.sized (key_of x) y n (h ∙ ap Some q) in
      some_size y _ (sym t ∙ f) ∙ sym (ap size_or_64 e))
  sized_ok (cell x i) (z, e, f) w =
      yields_then (λ v. Unit {0}) (HasSize (size_or_64 (size_of x.kind))) ((means i).run (Some S64) st) (λ v. cell_value x v st.store) (anything _) (λ v h.
      yields_then (λ v. Unit {0}) (HasSize (size_or_64 (size_of x.kind))) (index_at x v) (λ j. defined x.span (st.store (cell_key x j))) (anything _) (λ j h'.
      yields_defined (HasSize (size_or_64 (size_of x.kind))) x.span (st.store (cell_key x j)) (λ v' h'' y n q.
      let t = H.sized (cell_key x j) y n (h'' ∙ ap Some q) in
      some_size y _ (sym t ∙ f j) ∙ sym (ap size_or_64 e))))
  sized_ok (load p a) (z, e) w =
      yields_then (λ v. Unit {0}) (HasSize (size_or_64 p.size)) ((means a).run (Some S64) st) (λ v. load_at (record { size = p.size; at = (means a).run (Some S64); unaligned = p.unaligned; span = p.span }) w v st.memory) (anything _) (λ v h.
      yields_then (λ v. Unit {0}) (HasSize (size_or_64 p.size)) (address_at (record { size = p.size; at = (means a).run (Some S64); unaligned = p.unaligned; span = p.span }) v) (λ n. load_word p.span p.unaligned (option_or p.size w) n st.memory) (anything _) (λ n h'.
      subst (λ o. Yields (HasSize (size_or_64 o)) (load_word p.span p.unaligned (option_or o w) n st.memory)) (sym e) (sized_load p.span p.unaligned z n)))
  sized_ok (num i at) h w = absurd h
  sized_ok (truth i at) h w = absurd h
  sized_ok (neg i at) h w = absurd h
  sized_ok (inv i at) h w = absurd h
  sized_ok (cast z sign i at) h w = absurd h
  sized_ok (bin op a b at) h w = absurd h

  -- an operand with one sign before it
  neg_good : (i : Interval) (k : Bool) (z : Size) (at : Span) (v : Value) → Good i k z v → Yields (Good (each_word z) k z) (defined at (negated v))
  unfolding negated
  neg_good i k z at (word s a) h = each_good k z (word s (difference_of s 0 a false)) (below_all s _)
  neg_good i k z at (integer j) h = yields_option (numbers.negated j) (λ m. (h.0, in_each z (residue z m) (residue_below z m)))
    where
      yields_option : (o : Option ℤ) → ((m : ℤ) → Good (each_word z) k z (integer m)) → Yields (Good (each_word z) k z) (defined at (option_map integer o))
      yields_option None f = tt
      yields_option (Some m) f = f m
  neg_good i k z at (boolean c) h = tt

  inv_good : (i : Interval) (k : Bool) (z : Size) (v : Value) → Good i k z v → Good (each_word z) k z (inverted v)
  unfolding inverted
  inv_good i k z (word s a) h = each_good k z (word s (modulus s - 1 - a)) (let p = some_words s in omega (arith, p))
  inv_good i k z (integer j) h = (h.0, in_each z _ (residue_below z _))
  inv_good i k z (boolean c) h = bool_good k z (not c)

  cast_good : (i : Interval) (k : Bool) (y z y0 : Size) (at : Span) (v : Value) → HasSize y0 v → Good i k y0 v → Yields (Good (fitted z i) false z) (defined at (cast_value y false v))
  unfolding cast_value
  cast_good i k y z y0 at (word s a) u h = (
    below_all y a,
    λ e.
        subst (λ q. In (fitted z i) (a % modulus q)) (sym e)
        (so (nat_le i.hi (greatest_word z)) z (min i.lo (greatest_word z)) i.hi (a % modulus z) (below_all z a) (λ c.
        let l : i.hi ≤ modulus z - 1 = grind (arith, rules, c) in
        let b = h.1 (u s a refl) in
        let p = some_words z in
        let m : a % modulus z ≡ a = mod-eq_of_lt (omega (arith, l, b.1, p)) in
        (omega (arith, m, b.0), omega (arith, m, b.1)))),
  )
  cast_good i k y z y0 at (integer j) u h = tt
  cast_good i k y z y0 at (boolean c) u h = tt

  cast_signed : (y z : Size) (at : Span) (v : Value) → Yields (Good (each_word z) false z) (defined at (cast_value y true v))
  unfolding cast_value
  cast_signed y z at (word s a) = each_good false z (word y (residue y (signed s a))) (residue_below y _)
  cast_signed y z at (integer j) = tt
  cast_signed y z at (boolean c) = tt

  -- ---- operations on two operands
  plain_case : (op : BinOp) (at : Span) (w : Option Size) (z : Size) (i j : Interval) (k l : Bool) (x y : Value) → is_shift op ≡ false → (k && l) ≡ false → Good i k z x → Good j l z y → Yields (Good (each_word z) (k && l) z) (binary op at w x y)
  unfolding binary
  plain_case op at w z i j k l x y e n p q = subst (λ c. Yields (Good (each_word z) (k && l) z) (if c then defined at (shifted op w x y) else combined op at x y)) (sym e) (each_case op at z i j k l x y n p q)

  shift_case : (op : BinOp) (at : Span) (w : Option Size) (z : Size) (i j : Interval) (k l : Bool) (x y : Value) → is_shift op ≡ true → (k && l) ≡ false → Good i k z x → Good j l z y → Yields (Good (each_word z) (k && l) z) (binary op at w x y)
  unfolding binary
  shift_case op at w z i j k l x y e n p q = subst (λ c. Yields (Good (each_word z) (k && l) z) (if c then defined at (shifted op w x y) else combined op at x y)) (sym e) (shift_each op at w z i j k l x y n p q)

  add_case : (at : Span) (w : Option Size) (z : Size) (i j : Interval) (k l : Bool) (x y : Value) → (k && l) ≡ false → Good i k z x → Good j l z y → Yields (Good (sum z i j) (k && l) z) (binary o.Add at w x y)
  unfolding binary
  add_case at w z i j k l x y n p q = combine o.Add at z (sum z i j) i j k l x y n
      (λ s a b f g h m. (below_all s _, λ e. subst (λ v. In (sum z i j) ((a + b + 0) % modulus v)) (sym e) (sum_in z i j a b (a + b + 0) (h e) (m e) (omega arith))))
      (λ s a c f h m. (below_all s _, λ e. subst (λ v. In (sum z i j) ((a + 0 + carried c) % modulus v)) (sym e) (sum_in z i j a (carried c) (a + 0 + carried c) (h e) m (omega arith))))
      (λ c. tt) p q

  sub_case : (at : Span) (w : Option Size) (z : Size) (i j : Interval) (k l : Bool) (x y : Value) → (k && l) ≡ false → Good i k z x → Good j l z y → Yields (Good (difference z i j) (k && l) z) (binary o.Sub at w x y)
  unfolding binary
  sub_case at w z i j k l x y n p q = combine o.Sub at z (difference z i j) i j k l x y n
      (λ s a b f g h m. (below_all s _, λ e. subst (λ v. In (difference z i j) ((a + modulus v - (b + 0)) % modulus v)) (sym e) (difference_in z i j a b (b + 0) (subst (λ v. a < modulus v) e f) (h e) (m e) (omega arith))))
      (λ s a c f h m. (below_all s _, λ e. subst (λ v. In (difference z i j) ((a + modulus v - (0 + carried c)) % modulus v)) (sym e) (difference_in z i j a (carried c) (0 + carried c) (subst (λ v. a < modulus v) e f) (h e) m (omega arith))))
      (λ c. tt) p q

  -- with a flag they give each word
  add_flag : (c : Bool) (at : Span) (w : Option Size) (z : Size) (i j : Interval) (k l : Bool) (x y : Value) → (k && l) ≡ false → Good i k z x → Good j l z y → Yields (Good (if c then each_word z else sum z i j) (k && l) z) (binary o.Add at w x y)
  add_flag true at w z i j k l x y n p q = plain_case o.Add at w z i j k l x y refl n p q
  add_flag false at w z i j k l x y n p q = add_case at w z i j k l x y n p q

  sub_flag : (c : Bool) (at : Span) (w : Option Size) (z : Size) (i j : Interval) (k l : Bool) (x y : Value) → (k && l) ≡ false → Good i k z x → Good j l z y → Yields (Good (if c then each_word z else difference z i j) (k && l) z) (binary o.Sub at w x y)
  sub_flag true at w z i j k l x y n p q = plain_case o.Sub at w z i j k l x y refl n p q
  sub_flag false at w z i j k l x y n p q = sub_case at w z i j k l x y n p q

  mul_case : (at : Span) (w : Option Size) (z : Size) (i j : Interval) (k l : Bool) (x y : Value) → (k && l) ≡ false → Good i k z x → Good j l z y → Yields (Good (product z i j) (k && l) z) (binary o.Mul at w x y)
  unfolding binary
  mul_case at w z i j k l x y n p q = combine o.Mul at z (product z i j) i j k l x y n
      (λ s a b f g h m. (below_all s _, λ e. subst (λ v. In (product z i j) (a * b % modulus v)) (sym e) (product_in z i j a b (h e) (m e))))
      (λ s a c f h m. tt) (λ c. tt) p q

  and_case : (at : Span) (w : Option Size) (z : Size) (i j : Interval) (k l : Bool) (x y : Value) → (k && l) ≡ false → Good i k z x → Good j l z y → Yields (Good (mask i j) (k && l) z) (binary o.And at w x y)
  unfolding binary
  and_case at w z i j k l x y n p q = combine o.And at z (mask i j) i j k l x y n
      (λ s a b f g h m. (words_fit o.And at s a b f g, λ e. mask_in i j a b (h e) (m e)))
      (λ s a c f h m. tt) (λ c. tt) p q

  div_case : (at : Span) (w : Option Size) (z : Size) (i j : Interval) (k l : Bool) (x y : Value) → (k && l) ≡ false → Good i k z x → Good j l z y → Yields (Good (quotient z i j) (k && l) z) (binary o.Div at w x y)
  unfolding binary
  div_case at w z i j k l x y n p q = combine o.Div at z (quotient z i j) i j k l x y n
      (λ s a b f g h m. yields_if (Good (quotient z i j) (k && l) z) (b == 0) (stuck_at at Divide) (went (0 ∷ a ∷ b ∷ []) (word s (a / b))) (λ e. tt)
      (λ e. (let d = div-le_self a b in omega (arith, d, f), λ e. quotient_in z i j a b (subst (λ v. a < modulus v) e f) (h e) (m e))))
      (λ s a c f h m. tt) (λ c. tt) p q

  rem_case : (at : Span) (w : Option Size) (z : Size) (i j : Interval) (k l : Bool) (x y : Value) → (k && l) ≡ false → Good i k z x → Good j l z y → Yields (Good (remainder z j) (k && l) z) (binary o.Rem at w x y)
  unfolding binary
  rem_case at w z i j k l x y n p q = combine o.Rem at z (remainder z j) i j k l x y n
      (λ s a b f g h m. yields_if (Good (remainder z j) (k && l) z) (b == 0) (stuck_at at Divide) (went (0 ∷ a ∷ b ∷ []) (word s (a % b))) (λ e. tt)
      (λ e. (let d = mod-le a b in omega (arith, d, f), λ e. remainder_in z i j a b (subst (λ v. a < modulus v) e f) (m e))))
      (λ s a c f h m. tt) (λ c. tt) p q

  shr_case : (at : Span) (w : Option Size) (z : Size) (i : Interval) (k : Bool) (n : ℕ) (x : Value) → (k && true) ≡ false → Good i k z x → Yields (Good (shifted_by n i) (k && true) z) (binary o.Shr at w x (integer (pos n)))
  unfolding binary
  shr_case at w z i k n x e p = shift_right at w z i k n x e p

  pub term_ok : (t : Term) → IsPlain sizes t → (z : Size) (w : Option Size) → Yields (Good (interval g s z t) (is_number t) z) ((means t).run w st)
  term_ok (num i at) p z w = (refl, (omega arith, omega arith))
  term_ok (truth b at) p z w = bool_good false z b
  term_ok (var x) p z w = yields_defined (Good (of_variable g s z (key_of x)) false z) x.span (st.store (key_of x)) (λ v e. variable_good z (key_of x) v e)
  term_ok (cell x i) p z w =
      yields_then (λ v. Unit {0}) (Good (each_word z) false z) ((means i).run (Some S64) st) (λ v. cell_value x v st.store) (anything _) (λ v h.
      yields_then (λ v. Unit {0}) (Good (each_word z) false z) (index_at x v) (λ j. defined x.span (st.store (cell_key x j))) (anything _) (λ j h'.
      yields_defined (Good (each_word z) false z) x.span (st.store (cell_key x j)) (λ v' e. each_good false z v' (H.fits (cell_key x j) v' e))))
  term_ok (load p a) q z w =
      yields_then (λ v. Unit {0}) (Good (each_word z) false z) ((means a).run (Some S64) st) (λ v. load_at (record { size = p.size; at = (means a).run (Some S64); unaligned = p.unaligned; span = p.span }) w v st.memory) (anything _) (λ v h.
      yields_then (λ v. Unit {0}) (Good (each_word z) false z) (address_at (record { size = p.size; at = (means a).run (Some S64); unaligned = p.unaligned; span = p.span }) v) (λ n. load_word p.span p.unaligned (option_or p.size w) n st.memory) (anything _) (λ n h'.
      yields_all Fits (Good (each_word z) false z) (load_word p.span p.unaligned (option_or p.size w) n st.memory) (each_good false z) (loaded_good p.span p.unaligned (option_or p.size w) z n)))
  term_ok (neg a at) p z w = yields_then (Good (interval g s z a) (is_number a) z) (Good (each_word z) (is_number a) z) ((means a).run (option_or w (size_in a)) st) (λ v. defined at (negated v)) (term_ok a p z (option_or w (size_in a))) (neg_good (interval g s z a) (is_number a) z at)
  term_ok (inv a at) p z w = yields_then (Good (interval g s z a) (is_number a) z) (Good (each_word z) (is_number a) z) ((means a).run (option_or w (size_in a)) st) (λ v. went [] (inverted v)) (term_ok a p z (option_or w (size_in a))) (inv_good (interval g s z a) (is_number a) z)
  term_ok (cast y true a at) p z w = yields_then (λ v. Unit {0}) (Good (each_word z) false z) ((means a).run (size_in a) st) (λ v. defined at (cast_value y true v)) (anything _) (λ v h. cast_signed y z at v)
  term_ok (cast y false a at) p z w =
      let i = interval g s (size_or_64 (size_in a)) a in
      yields_then (λ v. HasSize (size_or_64 (size_in a)) v × Good i (is_number a) (size_or_64 (size_in a)) v) (Good (fitted z i) false z) ((means a).run (size_in a) st) (λ v. defined at (cast_value y false v))
      (yields_both _ _ ((means a).run (size_in a) st) (sized_ok a p.1 (size_in a)) (term_ok a p.0 (size_or_64 (size_in a)) (size_in a)))
      (λ v h. cast_good i (is_number a) y z (size_or_64 (size_in a)) at v h.0 h.1)
    where
      yields_both : (P Q : Value → Type 0) (e : Evaluation Value) → Yields P e → Yields Q e → Yields (λ v. P v × Q v) e
      yields_both P Q (stuck w) h k = tt
      yields_both P Q (went ns v) h k = (h, k)
  term_ok (bin o.OrElse a b at) p z w = runs_good o.OrElse at (left_wanted o.OrElse w (size_in a) (size_in b)) z (each_word z) (interval g s z a) (interval g s z b) (is_number a) (is_number b) (means a).run (means b).run (term_ok a p.1 z) (term_ok b p.2 z) (λ x q e. settled_is o.OrElse x (Good (each_word z) (is_number a && is_number b) z) (bool_good (is_number a && is_number b) z) e) (λ x y q r. plain_case o.OrElse at (left_wanted o.OrElse w (size_in a) (size_in b)) z (interval g s z a) (interval g s z b) (is_number a) (is_number b) x y refl p.0 q r)
  term_ok (bin o.AndThen a b at) p z w = runs_good o.AndThen at (left_wanted o.AndThen w (size_in a) (size_in b)) z (each_word z) (interval g s z a) (interval g s z b) (is_number a) (is_number b) (means a).run (means b).run (term_ok a p.1 z) (term_ok b p.2 z) (λ x q e. settled_is o.AndThen x (Good (each_word z) (is_number a && is_number b) z) (bool_good (is_number a && is_number b) z) e) (λ x y q r. plain_case o.AndThen at (left_wanted o.AndThen w (size_in a) (size_in b)) z (interval g s z a) (interval g s z b) (is_number a) (is_number b) x y refl p.0 q r)
  term_ok (bin o.Or a b at) p z w = runs_good o.Or at (left_wanted o.Or w (size_in a) (size_in b)) z (each_word z) (interval g s z a) (interval g s z b) (is_number a) (is_number b) (means a).run (means b).run (term_ok a p.1 z) (term_ok b p.2 z) (λ x q e. absurd (cc e)) (λ x y q r. plain_case o.Or at (left_wanted o.Or w (size_in a) (size_in b)) z (interval g s z a) (interval g s z b) (is_number a) (is_number b) x y refl p.0 q r)
  term_ok (bin o.Xor a b at) p z w = runs_good o.Xor at (left_wanted o.Xor w (size_in a) (size_in b)) z (each_word z) (interval g s z a) (interval g s z b) (is_number a) (is_number b) (means a).run (means b).run (term_ok a p.1 z) (term_ok b p.2 z) (λ x q e. absurd (cc e)) (λ x y q r. plain_case o.Xor at (left_wanted o.Xor w (size_in a) (size_in b)) z (interval g s z a) (interval g s z b) (is_number a) (is_number b) x y refl p.0 q r)
  term_ok (bin o.And a b at) p z w = runs_good o.And at (left_wanted o.And w (size_in a) (size_in b)) z (mask (interval g s z a) (interval g s z b)) (interval g s z a) (interval g s z b) (is_number a) (is_number b) (means a).run (means b).run (term_ok a p.1 z) (term_ok b p.2 z) (λ x q e. absurd (cc e)) (λ x y q r. and_case at (left_wanted o.And w (size_in a) (size_in b)) z (interval g s z a) (interval g s z b) (is_number a) (is_number b) x y p.0 q r)
  term_ok (bin o.Eq a b at) p z w = runs_good o.Eq at (left_wanted o.Eq w (size_in a) (size_in b)) z (each_word z) (interval g s z a) (interval g s z b) (is_number a) (is_number b) (means a).run (means b).run (term_ok a p.1 z) (term_ok b p.2 z) (λ x q e. absurd (cc e)) (λ x y q r. plain_case o.Eq at (left_wanted o.Eq w (size_in a) (size_in b)) z (interval g s z a) (interval g s z b) (is_number a) (is_number b) x y refl p.0 q r)
  term_ok (bin o.Ne a b at) p z w = runs_good o.Ne at (left_wanted o.Ne w (size_in a) (size_in b)) z (each_word z) (interval g s z a) (interval g s z b) (is_number a) (is_number b) (means a).run (means b).run (term_ok a p.1 z) (term_ok b p.2 z) (λ x q e. absurd (cc e)) (λ x y q r. plain_case o.Ne at (left_wanted o.Ne w (size_in a) (size_in b)) z (interval g s z a) (interval g s z b) (is_number a) (is_number b) x y refl p.0 q r)
  term_ok (bin o.Lt a b at) p z w = runs_good o.Lt at (left_wanted o.Lt w (size_in a) (size_in b)) z (each_word z) (interval g s z a) (interval g s z b) (is_number a) (is_number b) (means a).run (means b).run (term_ok a p.1 z) (term_ok b p.2 z) (λ x q e. absurd (cc e)) (λ x y q r. plain_case o.Lt at (left_wanted o.Lt w (size_in a) (size_in b)) z (interval g s z a) (interval g s z b) (is_number a) (is_number b) x y refl p.0 q r)
  term_ok (bin o.Le a b at) p z w = runs_good o.Le at (left_wanted o.Le w (size_in a) (size_in b)) z (each_word z) (interval g s z a) (interval g s z b) (is_number a) (is_number b) (means a).run (means b).run (term_ok a p.1 z) (term_ok b p.2 z) (λ x q e. absurd (cc e)) (λ x y q r. plain_case o.Le at (left_wanted o.Le w (size_in a) (size_in b)) z (interval g s z a) (interval g s z b) (is_number a) (is_number b) x y refl p.0 q r)
  term_ok (bin o.Gt a b at) p z w = runs_good o.Gt at (left_wanted o.Gt w (size_in a) (size_in b)) z (each_word z) (interval g s z a) (interval g s z b) (is_number a) (is_number b) (means a).run (means b).run (term_ok a p.1 z) (term_ok b p.2 z) (λ x q e. absurd (cc e)) (λ x y q r. plain_case o.Gt at (left_wanted o.Gt w (size_in a) (size_in b)) z (interval g s z a) (interval g s z b) (is_number a) (is_number b) x y refl p.0 q r)
  term_ok (bin o.Ge a b at) p z w = runs_good o.Ge at (left_wanted o.Ge w (size_in a) (size_in b)) z (each_word z) (interval g s z a) (interval g s z b) (is_number a) (is_number b) (means a).run (means b).run (term_ok a p.1 z) (term_ok b p.2 z) (λ x q e. absurd (cc e)) (λ x y q r. plain_case o.Ge at (left_wanted o.Ge w (size_in a) (size_in b)) z (interval g s z a) (interval g s z b) (is_number a) (is_number b) x y refl p.0 q r)
  term_ok (bin o.LtS a b at) p z w = runs_good o.LtS at (left_wanted o.LtS w (size_in a) (size_in b)) z (each_word z) (interval g s z a) (interval g s z b) (is_number a) (is_number b) (means a).run (means b).run (term_ok a p.1 z) (term_ok b p.2 z) (λ x q e. absurd (cc e)) (λ x y q r. plain_case o.LtS at (left_wanted o.LtS w (size_in a) (size_in b)) z (interval g s z a) (interval g s z b) (is_number a) (is_number b) x y refl p.0 q r)
  term_ok (bin o.LeS a b at) p z w = runs_good o.LeS at (left_wanted o.LeS w (size_in a) (size_in b)) z (each_word z) (interval g s z a) (interval g s z b) (is_number a) (is_number b) (means a).run (means b).run (term_ok a p.1 z) (term_ok b p.2 z) (λ x q e. absurd (cc e)) (λ x y q r. plain_case o.LeS at (left_wanted o.LeS w (size_in a) (size_in b)) z (interval g s z a) (interval g s z b) (is_number a) (is_number b) x y refl p.0 q r)
  term_ok (bin o.GtS a b at) p z w = runs_good o.GtS at (left_wanted o.GtS w (size_in a) (size_in b)) z (each_word z) (interval g s z a) (interval g s z b) (is_number a) (is_number b) (means a).run (means b).run (term_ok a p.1 z) (term_ok b p.2 z) (λ x q e. absurd (cc e)) (λ x y q r. plain_case o.GtS at (left_wanted o.GtS w (size_in a) (size_in b)) z (interval g s z a) (interval g s z b) (is_number a) (is_number b) x y refl p.0 q r)
  term_ok (bin o.GeS a b at) p z w = runs_good o.GeS at (left_wanted o.GeS w (size_in a) (size_in b)) z (each_word z) (interval g s z a) (interval g s z b) (is_number a) (is_number b) (means a).run (means b).run (term_ok a p.1 z) (term_ok b p.2 z) (λ x q e. absurd (cc e)) (λ x y q r. plain_case o.GeS at (left_wanted o.GeS w (size_in a) (size_in b)) z (interval g s z a) (interval g s z b) (is_number a) (is_number b) x y refl p.0 q r)
  term_ok (bin o.Shl a b at) p z w = runs_good o.Shl at (left_wanted o.Shl w (size_in a) (size_in b)) z (each_word z) (interval g s z a) (interval g s z b) (is_number a) (is_number b) (means a).run (means b).run (term_ok a p.1 z) (term_ok b p.2 z) (λ x q e. absurd (cc e)) (λ x y q r. shift_case o.Shl at (left_wanted o.Shl w (size_in a) (size_in b)) z (interval g s z a) (interval g s z b) (is_number a) (is_number b) x y refl p.0 q r)
  term_ok (bin o.Shr a (num (pos n) t) at) p z w = yields_then (Good (interval g s z a) (is_number a) z) (Good (shifted_by n (interval g s z a)) (is_number a && true) z) ((means a).run (left_wanted o.Shr w (size_in a) (size_in (num (pos n) t))) st) (with_right o.Shr (means (num (pos n) t)).run at (left_wanted o.Shr w (size_in a) (size_in (num (pos n) t))) st) (term_ok a p.1 z (left_wanted o.Shr w (size_in a) (size_in (num (pos n) t)))) (λ x q. yields_then (λ y. y ≡ integer (pos n)) (Good (shifted_by n (interval g s z a)) (is_number a && true) z) (went [] (integer (pos n))) (binary o.Shr at (left_wanted o.Shr w (size_in a) (size_in (num (pos n) t))) x) refl (λ y e. subst (λ v. Yields (Good (shifted_by n (interval g s z a)) (is_number a && true) z) (binary o.Shr at (left_wanted o.Shr w (size_in a) (size_in (num (pos n) t))) x v)) (sym e) (shr_case at (left_wanted o.Shr w (size_in a) (size_in (num (pos n) t))) z (interval g s z a) (is_number a) n x p.0 q)))
  term_ok (bin o.Shr a (num (negsuc n) t) at) p z w = runs_good o.Shr at (left_wanted o.Shr w (size_in a) (size_in (num (negsuc n) t))) z (each_word z) (interval g s z a) (interval g s z (num (negsuc n) t)) (is_number a) (is_number (num (negsuc n) t)) (means a).run (means (num (negsuc n) t)).run (term_ok a p.1 z) (term_ok (num (negsuc n) t) p.2 z) (λ x q e. absurd (cc e)) (λ x y q r. shift_case o.Shr at (left_wanted o.Shr w (size_in a) (size_in (num (negsuc n) t))) z (interval g s z a) (interval g s z (num (negsuc n) t)) (is_number a) (is_number (num (negsuc n) t)) x y refl p.0 q r)
  term_ok (bin o.Shr a (truth n t) at) p z w = runs_good o.Shr at (left_wanted o.Shr w (size_in a) (size_in (truth n t))) z (each_word z) (interval g s z a) (interval g s z (truth n t)) (is_number a) (is_number (truth n t)) (means a).run (means (truth n t)).run (term_ok a p.1 z) (term_ok (truth n t) p.2 z) (λ x q e. absurd (cc e)) (λ x y q r. shift_case o.Shr at (left_wanted o.Shr w (size_in a) (size_in (truth n t))) z (interval g s z a) (interval g s z (truth n t)) (is_number a) (is_number (truth n t)) x y refl p.0 q r)
  term_ok (bin o.Shr a (var n) at) p z w = runs_good o.Shr at (left_wanted o.Shr w (size_in a) (size_in (var n))) z (each_word z) (interval g s z a) (interval g s z (var n)) (is_number a) (is_number (var n)) (means a).run (means (var n)).run (term_ok a p.1 z) (term_ok (var n) p.2 z) (λ x q e. absurd (cc e)) (λ x y q r. shift_case o.Shr at (left_wanted o.Shr w (size_in a) (size_in (var n))) z (interval g s z a) (interval g s z (var n)) (is_number a) (is_number (var n)) x y refl p.0 q r)
  term_ok (bin o.Shr a (cell n t) at) p z w = runs_good o.Shr at (left_wanted o.Shr w (size_in a) (size_in (cell n t))) z (each_word z) (interval g s z a) (interval g s z (cell n t)) (is_number a) (is_number (cell n t)) (means a).run (means (cell n t)).run (term_ok a p.1 z) (term_ok (cell n t) p.2 z) (λ x q e. absurd (cc e)) (λ x y q r. shift_case o.Shr at (left_wanted o.Shr w (size_in a) (size_in (cell n t))) z (interval g s z a) (interval g s z (cell n t)) (is_number a) (is_number (cell n t)) x y refl p.0 q r)
  term_ok (bin o.Shr a (load n t) at) p z w = runs_good o.Shr at (left_wanted o.Shr w (size_in a) (size_in (load n t))) z (each_word z) (interval g s z a) (interval g s z (load n t)) (is_number a) (is_number (load n t)) (means a).run (means (load n t)).run (term_ok a p.1 z) (term_ok (load n t) p.2 z) (λ x q e. absurd (cc e)) (λ x y q r. shift_case o.Shr at (left_wanted o.Shr w (size_in a) (size_in (load n t))) z (interval g s z a) (interval g s z (load n t)) (is_number a) (is_number (load n t)) x y refl p.0 q r)
  term_ok (bin o.Shr a (neg n t) at) p z w = runs_good o.Shr at (left_wanted o.Shr w (size_in a) (size_in (neg n t))) z (each_word z) (interval g s z a) (interval g s z (neg n t)) (is_number a) (is_number (neg n t)) (means a).run (means (neg n t)).run (term_ok a p.1 z) (term_ok (neg n t) p.2 z) (λ x q e. absurd (cc e)) (λ x y q r. shift_case o.Shr at (left_wanted o.Shr w (size_in a) (size_in (neg n t))) z (interval g s z a) (interval g s z (neg n t)) (is_number a) (is_number (neg n t)) x y refl p.0 q r)
  term_ok (bin o.Shr a (inv n t) at) p z w = runs_good o.Shr at (left_wanted o.Shr w (size_in a) (size_in (inv n t))) z (each_word z) (interval g s z a) (interval g s z (inv n t)) (is_number a) (is_number (inv n t)) (means a).run (means (inv n t)).run (term_ok a p.1 z) (term_ok (inv n t) p.2 z) (λ x q e. absurd (cc e)) (λ x y q r. shift_case o.Shr at (left_wanted o.Shr w (size_in a) (size_in (inv n t))) z (interval g s z a) (interval g s z (inv n t)) (is_number a) (is_number (inv n t)) x y refl p.0 q r)
  term_ok (bin o.Shr a (cast n t u v) at) p z w = runs_good o.Shr at (left_wanted o.Shr w (size_in a) (size_in (cast n t u v))) z (each_word z) (interval g s z a) (interval g s z (cast n t u v)) (is_number a) (is_number (cast n t u v)) (means a).run (means (cast n t u v)).run (term_ok a p.1 z) (term_ok (cast n t u v) p.2 z) (λ x q e. absurd (cc e)) (λ x y q r. shift_case o.Shr at (left_wanted o.Shr w (size_in a) (size_in (cast n t u v))) z (interval g s z a) (interval g s z (cast n t u v)) (is_number a) (is_number (cast n t u v)) x y refl p.0 q r)
  term_ok (bin o.Shr a (bin n t u v) at) p z w = runs_good o.Shr at (left_wanted o.Shr w (size_in a) (size_in (bin n t u v))) z (each_word z) (interval g s z a) (interval g s z (bin n t u v)) (is_number a) (is_number (bin n t u v)) (means a).run (means (bin n t u v)).run (term_ok a p.1 z) (term_ok (bin n t u v) p.2 z) (λ x q e. absurd (cc e)) (λ x y q r. shift_case o.Shr at (left_wanted o.Shr w (size_in a) (size_in (bin n t u v))) z (interval g s z a) (interval g s z (bin n t u v)) (is_number a) (is_number (bin n t u v)) x y refl p.0 q r)
  term_ok (bin o.Sar a b at) p z w = runs_good o.Sar at (left_wanted o.Sar w (size_in a) (size_in b)) z (each_word z) (interval g s z a) (interval g s z b) (is_number a) (is_number b) (means a).run (means b).run (term_ok a p.1 z) (term_ok b p.2 z) (λ x q e. absurd (cc e)) (λ x y q r. shift_case o.Sar at (left_wanted o.Sar w (size_in a) (size_in b)) z (interval g s z a) (interval g s z b) (is_number a) (is_number b) x y refl p.0 q r)
  term_ok (bin o.Rol a b at) p z w = runs_good o.Rol at (left_wanted o.Rol w (size_in a) (size_in b)) z (each_word z) (interval g s z a) (interval g s z b) (is_number a) (is_number b) (means a).run (means b).run (term_ok a p.1 z) (term_ok b p.2 z) (λ x q e. absurd (cc e)) (λ x y q r. shift_case o.Rol at (left_wanted o.Rol w (size_in a) (size_in b)) z (interval g s z a) (interval g s z b) (is_number a) (is_number b) x y refl p.0 q r)
  term_ok (bin o.Ror a b at) p z w = runs_good o.Ror at (left_wanted o.Ror w (size_in a) (size_in b)) z (each_word z) (interval g s z a) (interval g s z b) (is_number a) (is_number b) (means a).run (means b).run (term_ok a p.1 z) (term_ok b p.2 z) (λ x q e. absurd (cc e)) (λ x y q r. shift_case o.Ror at (left_wanted o.Ror w (size_in a) (size_in b)) z (interval g s z a) (interval g s z b) (is_number a) (is_number b) x y refl p.0 q r)
  term_ok (bin o.Add a b at) p z w = runs_good o.Add at (left_wanted o.Add w (size_in a) (size_in b)) z (if is_flag b then each_word z else sum z (interval g s z a) (interval g s z b)) (interval g s z a) (interval g s z b) (is_number a) (is_number b) (means a).run (means b).run (term_ok a p.1 z) (term_ok b p.2 z) (λ x q e. absurd (cc e)) (λ x y q r. add_flag (is_flag b) at (left_wanted o.Add w (size_in a) (size_in b)) z (interval g s z a) (interval g s z b) (is_number a) (is_number b) x y p.0 q r)
  term_ok (bin o.Sub a b at) p z w = runs_good o.Sub at (left_wanted o.Sub w (size_in a) (size_in b)) z (if is_flag b then each_word z else difference z (interval g s z a) (interval g s z b)) (interval g s z a) (interval g s z b) (is_number a) (is_number b) (means a).run (means b).run (term_ok a p.1 z) (term_ok b p.2 z) (λ x q e. absurd (cc e)) (λ x y q r. sub_flag (is_flag b) at (left_wanted o.Sub w (size_in a) (size_in b)) z (interval g s z a) (interval g s z b) (is_number a) (is_number b) x y p.0 q r)
  term_ok (bin o.Mul a b at) p z w = runs_good o.Mul at (left_wanted o.Mul w (size_in a) (size_in b)) z (product z (interval g s z a) (interval g s z b)) (interval g s z a) (interval g s z b) (is_number a) (is_number b) (means a).run (means b).run (term_ok a p.1 z) (term_ok b p.2 z) (λ x q e. absurd (cc e)) (λ x y q r. mul_case at (left_wanted o.Mul w (size_in a) (size_in b)) z (interval g s z a) (interval g s z b) (is_number a) (is_number b) x y p.0 q r)
  term_ok (bin o.Div a b at) p z w = runs_good o.Div at (left_wanted o.Div w (size_in a) (size_in b)) z (quotient z (interval g s z a) (interval g s z b)) (interval g s z a) (interval g s z b) (is_number a) (is_number b) (means a).run (means b).run (term_ok a p.1 z) (term_ok b p.2 z) (λ x q e. absurd (cc e)) (λ x y q r. div_case at (left_wanted o.Div w (size_in a) (size_in b)) z (interval g s z a) (interval g s z b) (is_number a) (is_number b) x y p.0 q r)
  term_ok (bin o.Rem a b at) p z w = runs_good o.Rem at (left_wanted o.Rem w (size_in a) (size_in b)) z (remainder z (interval g s z b)) (interval g s z a) (interval g s z b) (is_number a) (is_number b) (means a).run (means b).run (term_ok a p.1 z) (term_ok b p.2 z) (λ x q e. absurd (cc e)) (λ x y q r. rem_case at (left_wanted o.Rem w (size_in a) (size_in b)) z (interval g s z a) (interval g s z b) (is_number a) (is_number b) x y p.0 q r)
  term_ok (bin o.DivS a b at) p z w = runs_good o.DivS at (left_wanted o.DivS w (size_in a) (size_in b)) z (each_word z) (interval g s z a) (interval g s z b) (is_number a) (is_number b) (means a).run (means b).run (term_ok a p.1 z) (term_ok b p.2 z) (λ x q e. absurd (cc e)) (λ x y q r. plain_case o.DivS at (left_wanted o.DivS w (size_in a) (size_in b)) z (interval g s z a) (interval g s z b) (is_number a) (is_number b) x y refl p.0 q r)
  term_ok (bin o.RemS a b at) p z w = runs_good o.RemS at (left_wanted o.RemS w (size_in a) (size_in b)) z (each_word z) (interval g s z a) (interval g s z b) (is_number a) (is_number b) (means a).run (means b).run (term_ok a p.1 z) (term_ok b p.2 z) (λ x q e. absurd (cc e)) (λ x y q r. plain_case o.RemS at (left_wanted o.RemS w (size_in a) (size_in b)) z (interval g s z a) (interval g s z b) (is_number a) (is_number b) x y refl p.0 q r)
