-- Of more facts, intervals are narrower, and what is a multiple stays one.
use Rattle.std.proofs.Common.{◌≡◌, ℕ, ◌+◌, ◌-◌, ◌*◌, ◌/◌, ◌%◌, ◌^◌, ◌<◌, ◌≤◌, zero, suc, List, [], ◌∷◌, Bool, true, false, true≢false, refl, sym, ◌∙◌, arith, rules, min, max, if◌then◌else◌}
use Rattle.std.specs.Prelude.{◌==◌, nat_le, ◌&&◌, ◌||◌, pos, negsuc}
use Rattle.std.proofs.Math.Nat.{div-le_self, div-mul-le_self, mul-le-mul_left, mul-le-mul}
use Rattle.std.proofs.lemmas.Nat.{le-div}
use Rattle.x64_insn.specs.Size.{Size}
use Rattle.jz_words.proofs.Residues.{residue_below}
use Rattle.jz_tree.specs.declared.expr.BinOp.TheVariants as o
use Rattle.jz_meaning.specs.States.{Key}
use Rattle.jz_meaning.specs.Values.{key_of}
use Rattle.jz_flow.specs.Sets.{Below}
use Rattle.jz_terms.specs.Terms.{Term, num, truth, var, cell, load, neg, inv, cast, bin, size_in}
use Rattle.jz_intervals.specs.declared.interval.Interval.{Interval}
use Rattle.jz_intervals.specs.Intervals.{greatest_word, each_word, where_so, sum, difference, product, mask, quotient, remainder, shifted_by, fitted}
use Rattle.jz_facts.specs.Facts.{AtLeast, AtMost, Under, Multiple, Facts, Start, Given, greatest, least, hi_of, multiples}
use Rattle.jz_facts.specs.Intervals.{size_or_64, is_flag, under_most, of_variable, interval, has_multiple, is_number_times, multiple}

-- ---- tests

pub both_are : (c d : Bool) → c ≡ true → d ≡ true → (c && d) ≡ true
both_are true true h k = refl
both_are true false h k = absurd (cc k)
both_are false d h k = absurd (cc h)

pub and_more : (a b c d : Bool) → (a ≡ true → c ≡ true) → (b ≡ true → d ≡ true) → (a && b) ≡ true → (c && d) ≡ true
and_more true true c d h k e = both_are c d (h refl) (k refl)
and_more true false c d h k e = absurd (cc e)
and_more false b c d h k e = absurd (cc e)

pub or_more : (a b c d : Bool) → (a ≡ true → c ≡ true) → (b ≡ true → d ≡ true) → (a || b) ≡ true → (c || d) ≡ true
or_more true b true d h k e = refl
or_more true b false d h k e = absurd (true≢false (sym (h refl)))
or_more false b true d h k e = refl
or_more false b false d h k e = k e

pub le_more : (c a b : ℕ) → a ≤ b → nat_le c a ≡ true → nat_le c b ≡ true
le_more c a b l e = let k : c ≤ a = grind (arith, rules, e) in let m : c ≤ b = omega (arith, k, l) in grind (arith, rules, m)

pub le_less : (a b c : ℕ) → b ≤ a → nat_le a c ≡ true → nat_le b c ≡ true
le_less a b c l e = let k : a ≤ c = grind (arith, rules, e) in let m : b ≤ c = omega (arith, k, l) in grind (arith, rules, m)

-- ---- intervals

-- the second lies in the first
abbrev pub Narrow : Interval → Interval → Type 0
Narrow i j = (i.lo ≤ j.lo) × (j.hi ≤ i.hi)

where_narrow : (c d : Bool) (z : Size) (lo hi lo' hi' : ℕ) → (c ≡ true → (d ≡ true) × (lo ≤ lo') × (hi' ≤ hi)) → (d ≡ true → hi' ≤ greatest_word z) → Narrow (where_so c z lo hi) (where_so d z lo' hi')
where_narrow true true z lo hi lo' hi' h k = ((h refl).1, (h refl).2)
where_narrow true false z lo hi lo' hi' h k = absurd (true≢false (sym (h refl).0))
where_narrow false true z lo hi lo' hi' h k = (omega arith, k refl)
where_narrow false false z lo hi lo' hi' h k = (omega arith, omega arith)

sum_narrow : (z : Size) (i j k l : Interval) → Narrow i k → Narrow j l → Narrow (sum z i j) (sum z k l)
sum_narrow z i j k l p q =
    where_narrow (nat_le (i.hi + j.hi) (greatest_word z)) (nat_le (k.hi + l.hi) (greatest_word z)) z (min (i.lo + j.lo) (greatest_word z)) (i.hi + j.hi) (min (k.lo + l.lo) (greatest_word z)) (k.hi + l.hi)
    (λ c. let m : k.hi + l.hi ≤ i.hi + j.hi = omega (arith, p.1, q.1) in (le_less (i.hi + j.hi) (k.hi + l.hi) (greatest_word z) m c, omega (arith, p.0, q.0), m))
    (λ d. grind (arith, rules, d))

difference_narrow : (z : Size) (i j k l : Interval) → k.hi ≤ greatest_word z → Narrow i k → Narrow j l → Narrow (difference z i j) (difference z k l)
difference_narrow z i j k l b p q =
    where_narrow (nat_le j.hi i.lo) (nat_le l.hi k.lo) z (i.lo - j.hi) (i.hi - j.lo) (k.lo - l.hi) (k.hi - l.lo)
    (λ c. (le_more l.hi i.lo k.lo p.0 (le_less j.hi l.hi i.lo q.1 c), omega (arith, p.0, q.1), omega (arith, p.1, q.0)))
    (λ d. omega (arith, b))

product_narrow : (z : Size) (i j k l : Interval) → Narrow i k → Narrow j l → Narrow (product z i j) (product z k l)
product_narrow z i j k l p q =
    let m : k.hi * l.hi ≤ i.hi * j.hi = mul-le-mul p.1 q.1 in
    let n : i.lo * j.lo ≤ k.lo * l.lo = mul-le-mul p.0 q.0 in
    where_narrow (nat_le (i.hi * j.hi) (greatest_word z)) (nat_le (k.hi * l.hi) (greatest_word z)) z (min (i.lo * j.lo) (greatest_word z)) (i.hi * j.hi) (min (k.lo * l.lo) (greatest_word z)) (k.hi * l.hi)
    (λ c. (le_less (i.hi * j.hi) (k.hi * l.hi) (greatest_word z) m c, omega (arith, n), m))
    (λ d. grind (arith, rules, d))

mask_narrow : (i j k l : Interval) → Narrow i k → Narrow j l → Narrow (mask i j) (mask k l)
mask_narrow i j k l p q = (omega arith, omega (arith, p.1, q.1))

pub div_more : (a b c d : ℕ) → a ≤ b → d ≤ c → 0 < d → a / c ≤ b / d
div_more a b c d h k p = le-div (a / c) b d p (le3 (a / c * d) (a / c * c) b (mul-le-mul_left (a / c) k) (le3 _ a b (div-mul-le_self a c) h))
  where
    le3 : (x y z : ℕ) → x ≤ y → y ≤ z → x ≤ z
    le3 x y z h k = omega (arith, h, k)

quotient_narrow : (z : Size) (i j k l : Interval) → k.hi ≤ greatest_word z → Narrow i k → Narrow j l → Narrow (quotient z i j) (quotient z k l)
quotient_narrow z i j k l b p q =
    where_narrow (nat_le 1 j.lo) (nat_le 1 l.lo) z (i.lo / max j.hi 1) (i.hi / j.lo) (k.lo / max l.hi 1) (k.hi / l.lo)
    (λ c.
    let m : 1 ≤ j.lo = grind (arith, rules, c) in
    (le_more 1 j.lo l.lo q.0 c, div_more i.lo k.lo (max j.hi 1) (max l.hi 1) p.0 (omega (arith, q.1)) (omega arith), div_more k.hi i.hi l.lo j.lo p.1 q.0 (omega (arith, m))))
    (λ d. let n = div-le_self k.hi l.lo in omega (arith, b, n))

remainder_narrow : (z : Size) (j l : Interval) → l.hi ≤ greatest_word z → Narrow j l → Narrow (remainder z j) (remainder z l)
remainder_narrow z j l b q =
    where_narrow (nat_le 1 j.lo) (nat_le 1 l.lo) z 0 (j.hi - 1) 0 (l.hi - 1)
    (λ c. (le_more 1 j.lo l.lo q.0 c, omega arith, omega (arith, q.1)))
    (λ d. omega (arith, b))

pub power_some : (n : ℕ) → 0 < 2 ^ n
power_some zero = omega arith
power_some (suc n) = let p = power_some n in omega (arith, p)

fitted_narrow : (z : Size) (i k : Interval) → Narrow i k → Narrow (fitted z i) (fitted z k)
fitted_narrow z i k p =
    where_narrow (nat_le i.hi (greatest_word z)) (nat_le k.hi (greatest_word z)) z (min i.lo (greatest_word z)) i.hi (min k.lo (greatest_word z)) k.hi
    (λ c. (le_less i.hi k.hi (greatest_word z) p.1 c, omega (arith, p.0), p.1))
    (λ d. grind (arith, rules, d))

shifted_narrow : (n : ℕ) (i k : Interval) → Narrow i k → Narrow (shifted_by n i) (shifted_by n k)
shifted_narrow n i k p = (div_more i.lo k.lo (2 ^ n) (2 ^ n) p.0 (omega arith) (power_some n), div_more k.hi i.hi (2 ^ n) (2 ^ n) p.1 (omega arith) (power_some n))

same_narrow : (i : Interval) → Narrow i i
same_narrow i = (omega arith, omega arith)

-- ---- constants and parameters

greatest_more : (p q : ℕ → Bool) (cs : List ℕ) → ((c : ℕ) → p c ≡ true → q c ≡ true) → greatest p cs ≤ greatest q cs
greatest_more p q [] h = omega arith
greatest_more p q (c ∷ cs) h = by (p c) refl (q c) refl (greatest_more p q cs h)
  where
    by : (a : Bool) → p c ≡ a → (b : Bool) → q c ≡ b → greatest p cs ≤ greatest q cs → (if a then max c (greatest p cs) else greatest p cs) ≤ (if b then max c (greatest q cs) else greatest q cs)
    by true e true f l = omega (arith, l)
    by true e false f l = absurd (true≢false (sym (h c e) ∙ f))
    by false e true f l = omega (arith, l)
    by false e false f l = l

least_more : (p q : ℕ → Bool) (m : ℕ) (cs : List ℕ) → ((c : ℕ) → p c ≡ true → q c ≡ true) → least q m cs ≤ least p m cs
least_more p q m [] h = omega arith
least_more p q m (c ∷ cs) h = by (p c) refl (q c) refl (least_more p q m cs h)
  where
    by : (a : Bool) → p c ≡ a → (b : Bool) → q c ≡ b → least q m cs ≤ least p m cs → (if b then min c (least q m cs) else least q m cs) ≤ (if a then min c (least p m cs) else least p m cs)
    by true e true f l = omega (arith, l)
    by true e false f l = absurd (true≢false (sym (h c e) ∙ f))
    by false e true f l = omega (arith, l)
    by false e false f l = l

least_below : (p : ℕ → Bool) (m : ℕ) (cs : List ℕ) → least p m cs ≤ m
least_below p m [] = omega arith
least_below p m (c ∷ cs) = by (p c) (least_below p m cs)
  where
    by : (a : Bool) → least p m cs ≤ m → (if a then min c (least p m cs) else least p m cs) ≤ m
    by true l = omega (arith, l)
    by false l = l

module _ (g : Given) (s : Facts) where
  under_below : (v : Key) (m : ℕ) (ps : List Start) → under_most g s v m ps ≤ m
  under_below v m [] = omega arith
  under_below v m (p ∷ ps) = by (s (Under v p.key)) (under_below v m ps)
    where
      by : (a : Bool) → under_most g s v m ps ≤ m → (if a then min (hi_of p - 1) (under_most g s v m ps) else under_most g s v m ps) ≤ m
      by true l = omega (arith, l)
      by false l = l

  where_below : (c : Bool) (z : Size) (lo hi : ℕ) → (c ≡ true → hi ≤ greatest_word z) → (where_so c z lo hi).hi ≤ greatest_word z
  where_below true z lo hi h = h refl
  where_below false z lo hi h = omega arith

  each_below : (z : Size) → (each_word z).hi ≤ greatest_word z
  each_below z = omega arith

  if_below : (c : Bool) (z : Size) (i : Interval) → i.hi ≤ greatest_word z → (if c then each_word z else i).hi ≤ greatest_word z
  if_below true z i h = each_below z
  if_below false z i h = h

  -- the end of an interval is a word
  pub hi_below : (z : Size) (t : Term) → (interval g s z t).hi ≤ greatest_word z
  hi_below z (num i at) = let l = residue_below z i in omega (arith, l)
  hi_below z (truth b at) = each_below z
  hi_below z (var x) =
      let a = least_below (λ c. s (AtMost (key_of x) c)) (greatest_word z) g.consts in
      let b = under_below (key_of x) (least (λ c. s (AtMost (key_of x) c)) (greatest_word z) g.consts) g.params in
      omega (arith, a, b)
  hi_below z (cell x i) = each_below z
  hi_below z (load p a) = each_below z
  hi_below z (neg a at) = each_below z
  hi_below z (inv a at) = each_below z
  hi_below z (cast y true a at) = each_below z
  hi_below z (cast y false a at) = let i = interval g s (size_or_64 (size_in a)) a in where_below (nat_le i.hi (greatest_word z)) z (min i.lo (greatest_word z)) i.hi (λ c. grind (arith, rules, c))
  hi_below z (bin o.Add a b at) = let i = interval g s z a in let j = interval g s z b in if_below (is_flag b) z (sum z i j) (where_below (nat_le (i.hi + j.hi) (greatest_word z)) z (min (i.lo + j.lo) (greatest_word z)) (i.hi + j.hi) (λ c. grind (arith, rules, c)))
  hi_below z (bin o.Sub a b at) = let i = interval g s z a in let j = interval g s z b in let l = hi_below z a in if_below (is_flag b) z (difference z i j) (where_below (nat_le j.hi i.lo) z (i.lo - j.hi) (i.hi - j.lo) (λ c. omega (arith, l)))
  hi_below z (bin o.Mul a b at) = let i = interval g s z a in let j = interval g s z b in where_below (nat_le (i.hi * j.hi) (greatest_word z)) z (min (i.lo * j.lo) (greatest_word z)) (i.hi * j.hi) (λ c. grind (arith, rules, c))
  hi_below z (bin o.And a b at) = let l = hi_below z a in omega (arith, l)
  hi_below z (bin o.Div a b at) = let i = interval g s z a in let j = interval g s z b in let l = hi_below z a in let n = div-le_self i.hi j.lo in where_below (nat_le 1 j.lo) z (i.lo / max j.hi 1) (i.hi / j.lo) (λ c. omega (arith, l, n))
  hi_below z (bin o.Rem a b at) = let j = interval g s z b in let l = hi_below z b in where_below (nat_le 1 j.lo) z 0 (j.hi - 1) (λ c. omega (arith, l))
  hi_below z (bin o.Shr a (num (pos n) t) at) = let i = interval g s z a in let l = hi_below z a in let m = div-le_self i.hi (2 ^ n) in omega (arith, l, m)
  hi_below z (bin o.Shr a (num (negsuc n) q) at) = each_below z
  hi_below z (bin o.Shr a (truth n q) at) = each_below z
  hi_below z (bin o.Shr a (var n) at) = each_below z
  hi_below z (bin o.Shr a (cell n q) at) = each_below z
  hi_below z (bin o.Shr a (load n q) at) = each_below z
  hi_below z (bin o.Shr a (neg n q) at) = each_below z
  hi_below z (bin o.Shr a (inv n q) at) = each_below z
  hi_below z (bin o.Shr a (cast n q u v) at) = each_below z
  hi_below z (bin o.Shr a (bin n q u v) at) = each_below z
  hi_below z (bin o.OrElse a b at) = each_below z
  hi_below z (bin o.AndThen a b at) = each_below z
  hi_below z (bin o.Or a b at) = each_below z
  hi_below z (bin o.Xor a b at) = each_below z
  hi_below z (bin o.Eq a b at) = each_below z
  hi_below z (bin o.Ne a b at) = each_below z
  hi_below z (bin o.Lt a b at) = each_below z
  hi_below z (bin o.Le a b at) = each_below z
  hi_below z (bin o.Gt a b at) = each_below z
  hi_below z (bin o.Ge a b at) = each_below z
  hi_below z (bin o.LtS a b at) = each_below z
  hi_below z (bin o.LeS a b at) = each_below z
  hi_below z (bin o.GtS a b at) = each_below z
  hi_below z (bin o.GeS a b at) = each_below z
  hi_below z (bin o.Shl a b at) = each_below z
  hi_below z (bin o.Sar a b at) = each_below z
  hi_below z (bin o.Rol a b at) = each_below z
  hi_below z (bin o.Ror a b at) = each_below z
  hi_below z (bin o.DivS a b at) = each_below z
  hi_below z (bin o.RemS a b at) = each_below z

module _ (g : Given) (s t : Facts) (h : Below s t) where
  under_more : (v : Key) (m n : ℕ) (ps : List Start) → n ≤ m → under_most g t v n ps ≤ under_most g s v m ps
  under_more v m n [] l = l
  under_more v m n (p ∷ ps) l = by (s (Under v p.key)) refl (t (Under v p.key)) refl (under_more v m n ps l)
    where
      by : (a : Bool) → s (Under v p.key) ≡ a → (b : Bool) → t (Under v p.key) ≡ b → under_most g t v n ps ≤ under_most g s v m ps → (if b then min (hi_of p - 1) (under_most g t v n ps) else under_most g t v n ps) ≤ (if a then min (hi_of p - 1) (under_most g s v m ps) else under_most g s v m ps)
      by true e true f l = omega (arith, l)
      by true e false f l = absurd (true≢false (sym (h (Under v p.key) e) ∙ f))
      by false e true f l = omega (arith, l)
      by false e false f l = l

  variable_narrow : (z : Size) (v : Key) → Narrow (of_variable g s z v) (of_variable g t z v)
  variable_narrow z v =
      let a = greatest_more (λ c. s (AtLeast v c)) (λ c. t (AtLeast v c)) g.consts (λ c. h (AtLeast v c)) in
      let b = least_more (λ c. s (AtMost v c)) (λ c. t (AtMost v c)) (greatest_word z) g.consts (λ c. h (AtMost v c)) in
      (omega (arith, a), under_more v _ _ g.params b)

  if_narrow : (c : Bool) (z : Size) (i j : Interval) → Narrow i j → Narrow (if c then each_word z else i) (if c then each_word z else j)
  if_narrow true z i j h = same_narrow _
  if_narrow false z i j h = h

  pub narrow : (z : Size) (e : Term) → Narrow (interval g s z e) (interval g t z e)
  narrow z (num i at) = same_narrow _
  narrow z (truth b at) = same_narrow _
  narrow z (var x) = variable_narrow z (key_of x)
  narrow z (cell x i) = same_narrow _
  narrow z (load p a) = same_narrow _
  narrow z (neg a at) = same_narrow _
  narrow z (inv a at) = same_narrow _
  narrow z (cast y true a at) = same_narrow _
  narrow z (cast y false a at) = fitted_narrow z (interval g s (size_or_64 (size_in a)) a) (interval g t (size_or_64 (size_in a)) a) (narrow (size_or_64 (size_in a)) a)
  narrow z (bin o.Add a b at) = if_narrow (is_flag b) z (sum z (interval g s z a) (interval g s z b)) (sum z (interval g t z a) (interval g t z b)) (sum_narrow z (interval g s z a) (interval g s z b) (interval g t z a) (interval g t z b) (narrow z a) (narrow z b))
  narrow z (bin o.Sub a b at) = if_narrow (is_flag b) z (difference z (interval g s z a) (interval g s z b)) (difference z (interval g t z a) (interval g t z b)) (difference_narrow z (interval g s z a) (interval g s z b) (interval g t z a) (interval g t z b) (hi_below g t z a) (narrow z a) (narrow z b))
  narrow z (bin o.Mul a b at) = product_narrow z (interval g s z a) (interval g s z b) (interval g t z a) (interval g t z b) (narrow z a) (narrow z b)
  narrow z (bin o.And a b at) = mask_narrow (interval g s z a) (interval g s z b) (interval g t z a) (interval g t z b) (narrow z a) (narrow z b)
  narrow z (bin o.Div a b at) = quotient_narrow z (interval g s z a) (interval g s z b) (interval g t z a) (interval g t z b) (hi_below g t z a) (narrow z a) (narrow z b)
  narrow z (bin o.Rem a b at) = remainder_narrow z (interval g s z b) (interval g t z b) (hi_below g t z b) (narrow z b)
  narrow z (bin o.Shr a (num (pos n) q) at) = shifted_narrow n _ _ (narrow z a)
  narrow z (bin o.Shr a (num (negsuc n) q) at) = same_narrow _
  narrow z (bin o.Shr a (truth n q) at) = same_narrow _
  narrow z (bin o.Shr a (var n) at) = same_narrow _
  narrow z (bin o.Shr a (cell n q) at) = same_narrow _
  narrow z (bin o.Shr a (load n q) at) = same_narrow _
  narrow z (bin o.Shr a (neg n q) at) = same_narrow _
  narrow z (bin o.Shr a (inv n q) at) = same_narrow _
  narrow z (bin o.Shr a (cast n q u v) at) = same_narrow _
  narrow z (bin o.Shr a (bin n q u v) at) = same_narrow _
  narrow z (bin o.OrElse a b at) = same_narrow _
  narrow z (bin o.AndThen a b at) = same_narrow _
  narrow z (bin o.Or a b at) = same_narrow _
  narrow z (bin o.Xor a b at) = same_narrow _
  narrow z (bin o.Eq a b at) = same_narrow _
  narrow z (bin o.Ne a b at) = same_narrow _
  narrow z (bin o.Lt a b at) = same_narrow _
  narrow z (bin o.Le a b at) = same_narrow _
  narrow z (bin o.Gt a b at) = same_narrow _
  narrow z (bin o.Ge a b at) = same_narrow _
  narrow z (bin o.LtS a b at) = same_narrow _
  narrow z (bin o.LeS a b at) = same_narrow _
  narrow z (bin o.GtS a b at) = same_narrow _
  narrow z (bin o.GeS a b at) = same_narrow _
  narrow z (bin o.Shl a b at) = same_narrow _
  narrow z (bin o.Sar a b at) = same_narrow _
  narrow z (bin o.Rol a b at) = same_narrow _
  narrow z (bin o.Ror a b at) = same_narrow _
  narrow z (bin o.DivS a b at) = same_narrow _
  narrow z (bin o.RemS a b at) = same_narrow _

  -- ---- multiples

  has_more : (v : Key) (m : ℕ) (ks : List ℕ) → has_multiple g s v m ks ≡ true → has_multiple g t v m ks ≡ true
  has_more v m [] e = e
  has_more v m (k ∷ ks) e = or_more (s (Multiple v k) && (k % m == 0)) (has_multiple g s v m ks) (t (Multiple v k) && (k % m == 0)) (has_multiple g t v m ks) (and_more (s (Multiple v k)) (k % m == 0) (t (Multiple v k)) (k % m == 0) (h (Multiple v k)) (λ i. i)) (has_more v m ks) e

  pub multiple_more : (e : Term) (m : ℕ) → multiple g s e m ≡ true → multiple g t e m ≡ true
  multiple_more (num i at) m q = q
  multiple_more (truth b at) m q = q
  multiple_more (var x) m q = has_more (key_of x) m multiples q
  multiple_more (cell x i) m q = q
  multiple_more (load p a) m q = q
  multiple_more (neg a at) m q = q
  multiple_more (inv a at) m q = q
  multiple_more (cast y sign a at) m q = q
  multiple_more (bin o.Add a b at) m q = and_more (multiple g s a m) (multiple g s b m) (multiple g t a m) (multiple g t b m) (multiple_more a m) (multiple_more b m) q
  multiple_more (bin o.Sub a b at) m q = and_more (multiple g s a m) (multiple g s b m) (multiple g t a m) (multiple g t b m) (multiple_more a m) (multiple_more b m) q
  multiple_more (bin o.Mul a b at) m q = or_more (multiple g s a m) (multiple g s b m) (multiple g t a m) (multiple g t b m) (multiple_more a m) (multiple_more b m) q
  multiple_more (bin o.And a b at) m q = q
  multiple_more (bin o.Shl a (num (pos n) q) at) m e = e
  multiple_more (bin o.Shl a (num (negsuc n) q) at) m e = e
  multiple_more (bin o.Shl a (truth n q) at) m e = e
  multiple_more (bin o.Shl a (var n) at) m e = e
  multiple_more (bin o.Shl a (cell n q) at) m e = e
  multiple_more (bin o.Shl a (load n q) at) m e = e
  multiple_more (bin o.Shl a (neg n q) at) m e = e
  multiple_more (bin o.Shl a (inv n q) at) m e = e
  multiple_more (bin o.Shl a (cast n q u v) at) m e = e
  multiple_more (bin o.Shl a (bin n q u v) at) m e = e
  multiple_more (bin o.OrElse a b at) m q = q
  multiple_more (bin o.AndThen a b at) m q = q
  multiple_more (bin o.Or a b at) m q = q
  multiple_more (bin o.Xor a b at) m q = q
  multiple_more (bin o.Eq a b at) m q = q
  multiple_more (bin o.Ne a b at) m q = q
  multiple_more (bin o.Lt a b at) m q = q
  multiple_more (bin o.Le a b at) m q = q
  multiple_more (bin o.Gt a b at) m q = q
  multiple_more (bin o.Ge a b at) m q = q
  multiple_more (bin o.LtS a b at) m q = q
  multiple_more (bin o.LeS a b at) m q = q
  multiple_more (bin o.GtS a b at) m q = q
  multiple_more (bin o.GeS a b at) m q = q
  multiple_more (bin o.Sar a b at) m q = q
  multiple_more (bin o.Rol a b at) m q = q
  multiple_more (bin o.Ror a b at) m q = q
  multiple_more (bin o.DivS a b at) m q = q
  multiple_more (bin o.RemS a b at) m q = q
  multiple_more (bin o.Shr a b at) m q = q
  multiple_more (bin o.Div a b at) m q = q
  multiple_more (bin o.Rem a b at) m q = q
