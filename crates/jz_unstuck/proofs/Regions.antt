-- An address that some reading puts into a region has valid bytes.
use Rattle.std.proofs.Common.{◌≡◌, ◌⊎◌, inl, inr, ℕ, ◌+◌, ◌*◌, ◌^◌, ◌<◌, ◌≤◌, List, [], ◌∷◌, ◌++◌, Option, Some, None, Bool, true, false, refl, ap, sym, ◌∙◌, subst, arith, rules, ℤ, pos, negsuc, ◌+ℤ◌, ◌-ℤ◌, ◌≤ℤ◌}
use Rattle.std.specs.Prelude.{◌||◌, int_le, nat_le, IsSome}
use Rattle.std.specs.FinMap.{get}
use Rattle.std.proofs.lemmas.Bool.{and_parts}
use Rattle.std.proofs.lemmas.Int.{ints}
use Rattle.std.proofs.Math.Nat.{mul-le-mul, mul-le-mul_left}
use Rattle.jz_tree.specs.Span.{Span}
use Rattle.x64_insn.specs.Size.TheVariants.{S64}
use Rattle.x64_insn.specs.Words.{residue}
use Rattle.jz_tree.specs.declared.expr.BinOp.TheVariants as o
use Rattle.jz_meaning.specs.Attempts.{defined}
use Rattle.jz_meaning.specs.States.{word, Key, State}
use Rattle.jz_meaning.specs.Values.{Ref, key_of}
use Rattle.jz_run_laws.specs.Kinds.{Kinds}
use Rattle.jz_terms.specs.Terms.{Term, num, var, bin}
use Rattle.jz_facts.specs.Facts.{Is, Under, Facts, Region, Given}
use Rattle.jz_facts.specs.Intervals.{interval}
use Rattle.jz_fact_laws.specs.Saying.{HasWord, Yields, In}
use Rattle.jz_fact_laws.proofs.Testing.{either}
use Rattle.jz_fact_laws.proofs.Ranges.{Good, term_ok}
use Rattle.jz_alarms.specs.Conditions.{Sum, joined, taken, sum_of as sum_in, Reading, readings, scaled_interval, least_length, below_length, is_inside, in_some_region, in_some_reading}
use Rattle.jz_standing.specs.Typing.{NoNumbers, IsSum, sizes_of}
use Rattle.jz_standing.specs.Standing.{length_of, IsValid, AreValid, Stands}
use Rattle.jz_standing.proofs.Held.{holds}
use Rattle.jz_standing.proofs.SumForms.{summed}
use Rattle.jz_unstuck.proofs.Totals.{residue_word, Bytes}
use Rattle.jz_unstuck.proofs.Sums.{number_in, word_here, HasWordAt, here_is, total_of, HeldVars}

-- ---- the total of a sum

abbrev plain_total : State → List Ref → ℤ
plain_total st [] = pos 0
plain_total st (x ∷ xs) = pos (word_here st x) +ℤ plain_total st xs

abbrev scaled_total : State → List (Ref × ℕ) → ℤ
scaled_total st [] = pos 0
scaled_total st (i ∷ is) = pos (i.1 * word_here st i.0) +ℤ scaled_total st is

abbrev AllPlain : State → List Ref → Type 0
AllPlain st [] = Unit {0}
AllPlain st (x ∷ xs) = HasWordAt st x × AllPlain st xs

abbrev AllScaled : State → List (Ref × ℕ) → Type 0
AllScaled st [] = Unit {0}
AllScaled st (i ∷ is) = HasWordAt st i.0 × AllScaled st is

nothing_before : (x : ℤ) → x ≡ pos 0 +ℤ x
nothing_before x = omega (arith, ints)

one_before : (a b c d : ℤ) → b ≡ c +ℤ d → a +ℤ b ≡ (a +ℤ c) +ℤ d
one_before a b c d h = omega (arith, ints, h)

plain_both : (st : State) (xs ys : List Ref) → plain_total st (xs ++ ys) ≡ plain_total st xs +ℤ plain_total st ys
plain_both st [] ys = nothing_before (plain_total st ys)
plain_both st (x ∷ xs) ys = one_before (pos (word_here st x)) _ (plain_total st xs) (plain_total st ys) (plain_both st xs ys)

scaled_both : (st : State) (xs ys : List (Ref × ℕ)) → scaled_total st (xs ++ ys) ≡ scaled_total st xs +ℤ scaled_total st ys
scaled_both st [] ys = nothing_before (scaled_total st ys)
scaled_both st (x ∷ xs) ys = one_before (pos (x.1 * word_here st x.0)) _ (scaled_total st xs) (scaled_total st ys) (scaled_both st xs ys)

all_plain : (st : State) (xs ys : List Ref) → AllPlain st xs → AllPlain st ys → AllPlain st (xs ++ ys)
all_plain st [] ys h k = k
all_plain st (x ∷ xs) ys h k = (h.0, all_plain st xs ys h.1 k)

all_scaled : (st : State) (xs ys : List (Ref × ℕ)) → AllScaled st xs → AllScaled st ys → AllScaled st (xs ++ ys)
all_scaled st [] ys h k = k
all_scaled st (x ∷ xs) ys h k = (h.0, all_scaled st xs ys h.1 k)

record IsTotal (st : State) (t : Term) : Type 0 where
  sum : Sum
  is : sum_in t ≡ Some sum
  total : (plain_total st sum.plain +ℤ scaled_total st sum.scaled) +ℤ sum.more ≡ total_of st t
  plain : AllPlain st sum.plain
  scaled : AllScaled st sum.scaled

three_sums : (a b c d e f p q x y : ℤ) → p ≡ a +ℤ d → q ≡ b +ℤ e → (a +ℤ b) +ℤ c ≡ x → (d +ℤ e) +ℤ f ≡ y → (p +ℤ q) +ℤ (c +ℤ f) ≡ x +ℤ y
three_sums a b c d e f p q x y h k l m = omega (arith, ints, h, k, l, m)

less_one : (a b c i x : ℤ) → (a +ℤ b) +ℤ c ≡ x → (a +ℤ b) +ℤ (c -ℤ i) ≡ x -ℤ i
less_one a b c i x h = omega (arith, ints, h)

only_more : (i : ℤ) → (pos 0 +ℤ pos 0) +ℤ i ≡ i
only_more i = omega (arith, ints)

only_plain : (n : ℕ) → ((pos n +ℤ pos 0) +ℤ pos 0) +ℤ pos 0 ≡ pos n
only_plain n = omega (arith, ints)

only_scaled : (n : ℕ) → (pos 0 +ℤ (pos n +ℤ pos 0)) +ℤ pos 0 ≡ pos n
only_scaled n = omega (arith, ints)

-- what is read as a sum has sums as its parts
both_some : (x y : Option Sum) → IsSome (joined x y) → IsSome x × IsSome y
both_some (Some x) (Some y) h = (refl, refl)
both_some (Some x) None h = absurd (cc h)
both_some None y h = absurd (cc h)

left_some : (x : Option Sum) (i : ℤ) (t : Span) → IsSome (taken x (num i t)) → IsSome x
left_some (Some x) i t h = refl
left_some None i t h = absurd (cc h)

module _ (kinds : Kinds) (in_frame : Key → Bool) (st : State) where
  total_is : (t : Term) → IsSum kinds in_frame t → HeldVars st t → IsSome (sum_in t) → IsTotal st t
  total_is = summed kinds in_frame (λ t. HeldVars st t → IsSome (sum_in t) → IsTotal st t)
      (λ i at h q. record { sum = record { plain = []; scaled = []; more = i }; is = refl; total = only_more i; plain = tt; scaled = tt })
      (λ x e i h q. record { sum = record { plain = x ∷ []; scaled = []; more = pos 0 }; is = refl; total = only_plain (word_here st x); plain = (h, tt); scaled = tt })
      (λ k t x at e i h q. scale k t x at h q)
      (λ x k t at e i h q. scaled x k t at h q)
      (λ a b at n i j p r h q. let d = both_some (sum_in a) (sum_in b) q in both a b at (p h.0 d.0) (r h.1 d.1))
      (λ a i t at n j p h q. less a i t at (p h (left_some (sum_in a) i t q)))
    where
      -- a scale below zero is read as no sum
      scale : (k : ℤ) (t : Span) (x : Ref) (at : Span) → HasWordAt st x → IsSome (sum_in (bin o.Mul (num k t) (var x) at)) → IsTotal st (bin o.Mul (num k t) (var x) at)
      scale (pos k) t x at h q = record { sum = record { plain = []; scaled = (x, k) ∷ []; more = pos 0 }; is = refl; total = only_scaled (k * word_here st x); plain = tt; scaled = (h, tt) }
      scale (negsuc k) t x at h q = absurd (cc q)

      scaled : (x : Ref) (k : ℤ) (t at : Span) → HasWordAt st x → IsSome (sum_in (bin o.Mul (var x) (num k t) at)) → IsTotal st (bin o.Mul (var x) (num k t) at)
      scaled x (pos k) t at h q = record { sum = record { plain = []; scaled = (x, k) ∷ []; more = pos 0 }; is = refl; total = only_scaled (k * word_here st x); plain = tt; scaled = (h, tt) }
      scaled x (negsuc k) t at h q = absurd (cc q)

      both : (a b : Term) (at : Span) → IsTotal st a → IsTotal st b → IsTotal st (bin o.Add a b at)
      both a b at x y = record {
        sum = record { plain = x.sum.plain ++ y.sum.plain; scaled = x.sum.scaled ++ y.sum.scaled; more = x.sum.more +ℤ y.sum.more };
        is = ap (λ u. joined u (sum_in b)) x.is ∙ ap (joined (Some x.sum)) y.is;
        total = three_sums (plain_total st x.sum.plain) (scaled_total st x.sum.scaled) x.sum.more (plain_total st y.sum.plain) (scaled_total st y.sum.scaled) y.sum.more (plain_total st (x.sum.plain ++ y.sum.plain)) (scaled_total st (x.sum.scaled ++ y.sum.scaled)) (total_of st a) (total_of st b) (plain_both st x.sum.plain y.sum.plain) (scaled_both st x.sum.scaled y.sum.scaled) x.total y.total;
        plain = all_plain st x.sum.plain y.sum.plain x.plain y.plain;
        scaled = all_scaled st x.sum.scaled y.sum.scaled x.scaled y.scaled;
      }

      less : (a : Term) (i : ℤ) (t at : Span) → IsTotal st a → IsTotal st (bin o.Sub a (num i t) at)
      less a i t at x = record {
        sum = record x.sum { more = x.sum.more -ℤ i };
        is = ap (λ u. taken u (num i t)) x.is;
        total = less_one (plain_total st x.sum.plain) (scaled_total st x.sum.scaled) x.sum.more i (total_of st a) x.total;
        plain = x.plain;
        scaled = x.scaled;
      }

-- ---- a reading in a region

abbrev index_total : State → Option (Ref × ℕ) → ℕ
index_total st None = 0
index_total st (Some i) = i.1 * word_here st i.0

abbrev IsIndexHeld : State → Option (Ref × ℕ) → Type 0
IsIndexHeld st None = Unit {0}
IsIndexHeld st (Some i) = HasWordAt st i.0

abbrev reading_total : State → Reading → ℤ
reading_total st r = (pos (word_here st r.base) +ℤ pos (index_total st r.index)) +ℤ r.more

int_at_most : (x y : ℤ) → int_le x y ≡ true → x ≤ℤ y
int_at_most x y e = grind (arith, ints)

number_of : (z : ℤ) → pos 0 ≤ℤ z → (n : ℕ) × (z ≡ pos n)
number_of (pos n) h = (n, refl)
number_of (negsuc n) h = absurd (omega (arith, ints, h))

-- k bytes from an offset on are inside
record IsWithin (st : State) (entry : Key → ℕ) (k : ℕ) (r : Reading) (e : Region) : Type 0 where
  off : ℕ
  is : reading_total st r ≡ pos (entry e.of + off)
  ends : off + k ≤ length_of entry e

-- what a word here is, where it is so
word_is : (st : State) (x : Ref) (P : ℕ → Type 0) → HasWord (st.store (key_of x)) P → P (word_here st x)
word_is st x P (z, n, q, h) = subst P (sym (ap number_in q)) h

offset_at_most : (it hi k least off : ℕ) (more : ℤ) → pos it +ℤ more ≡ pos off → it ≤ hi → (pos (hi + k) +ℤ more) ≤ℤ pos least → off + k ≤ least
offset_at_most it hi k least off more e h l = omega (arith, ints, e, h, l)

not_below_zero : (lo it : ℕ) (more : ℤ) → lo ≤ it → pos 0 ≤ℤ (pos lo +ℤ more) → pos 0 ≤ℤ (pos it +ℤ more)
not_below_zero lo it more h l = omega (arith, ints, h, l)

placed_at : (b x it off : ℕ) (more : ℤ) → b ≡ x → pos it +ℤ more ≡ pos off → (pos b +ℤ pos it) +ℤ more ≡ pos (x + off)
placed_at b x it off more e h = omega (arith, ints, e, h)

below_end : (a b c k off p t e : ℕ) (more : ℤ) → pos a +ℤ more ≡ pos off → a ≤ b → b + t ≤ c → (pos k +ℤ more) ≤ℤ pos (p + t) → off + k ≤ c + p
below_end a b c k off p t e more h l m n = omega (arith, ints, h, l, m, n)

module _ (g : Given) (kinds : Kinds) (in_frame : Key → Bool) (entry : Key → ℕ) (s : Facts) (st : State) (H : Stands g kinds in_frame entry s st) (nn : NoNumbers kinds) where
  index_in : (i : Option (Ref × ℕ)) → IsIndexHeld st i → In (scaled_interval g s i) (index_total st i)
  index_in None h = (omega arith, omega arith)
  index_in (Some i) h =
      let j = interval g s S64 (var i.0) in
      let w : Good j false S64 (word S64 h.0) = subst (λ q. Yields (Good j false S64) (defined i.0.span q)) h.1 (term_ok g (sizes_of kinds) entry s st (holds g kinds in_frame entry s st nn H) (var i.0) tt S64 (Some S64)) in
      let b : In j (word_here st i.0) = subst (In j) (sym (here_is st i.0 h.0 h.1)) (w.1 refl) in
      (mul-le-mul_left i.1 b.0, mul-le-mul_left i.1 b.1)

  least_ok : (o : Key) (t : ℕ) (b : Option Key) (p : ℕ) → least_length g s (record { of = o; times = t; by = b; plus = p }) ≤ length_of entry (record { of = o; times = t; by = b; plus = p })
  least_ok o t None p = omega arith
  least_ok o t (Some y) p = let l = mul-le-mul_left t (H.least y) in omega (arith, l)

  below_ok : (i : Option (Ref × ℕ)) → IsIndexHeld st i → (o : Key) (t : ℕ) (b : Option Key) (p k off : ℕ) (more : ℤ)
      → below_length g s i (record { of = o; times = t; by = b; plus = p }) (pos k +ℤ more) ≡ true
      → pos (index_total st i) +ℤ more ≡ pos off
      → off + k ≤ length_of entry (record { of = o; times = t; by = b; plus = p })
  below_ok None h o t b p k off more e q = absurd (cc e)
  below_ok (Some i) h o t None p k off more e q = absurd (cc e)
  below_ok (Some i) h o t (Some y) p k off more e q =
      let n = word_here st i.0 in
      let a = and_parts (s (Under (key_of i.0) y)) _ e in
      let b = and_parts (nat_le i.1 t) _ a.1 in
      let u : n < entry y = word_is st i.0 (λ n. n < entry y) (H.says (Under (key_of i.0) y) a.0) in
      let l : i.1 ≤ t = grind (arith, rules, b.0) in
      let m : i.1 * n ≤ t * n = times_less i.1 t n l in
      let c : t * n + t ≤ t * entry y = times_more t n (entry y) u in
      below_end (i.1 * n) (t * n) (t * entry y) k off p t 0 more q m c (int_at_most (pos k +ℤ more) (pos (p + t)) b.1)
    where
      times_less : (a b n : ℕ) → a ≤ b → a * n ≤ b * n
      times_less a b n l = mul-le-mul l (same n)
        where
          same : (n : ℕ) → n ≤ n
          same n = omega arith

      times_more : (t n e : ℕ) → n < e → t * n + t ≤ t * e
      times_more t n e l = let x : t * (n + 1) ≤ t * e = mul-le-mul_left t (omega (arith, l)) in let y : t * (n + 1) ≡ t * n + t = grind arith in omega (arith, x, y)

  region_ok : (k : ℕ) (r : Reading) (e : Region) → IsIndexHeld st r.index → is_inside g s k r e ≡ true → IsWithin st entry k r e
  region_ok k r e h q =
      let j = scaled_interval g s r.index in
      let a = and_parts (s (Is (key_of r.base) e.of)) _ q in
      let b = and_parts (int_le (pos 0) (pos j.lo +ℤ r.more)) _ a.1 in
      let base : word_here st r.base ≡ entry e.of = word_is st r.base (λ n. n ≡ entry e.of) (H.says (Is (key_of r.base) e.of) a.0) in
      let i = index_in r.index h in
      let z = number_of (pos (index_total st r.index) +ℤ r.more) (not_below_zero j.lo (index_total st r.index) r.more i.0 (int_at_most (pos 0) (pos j.lo +ℤ r.more) b.0)) in
      record {
        off = z.0;
        is = placed_at (word_here st r.base) (entry e.of) (index_total st r.index) z.0 r.more base z.1;
        ends = by z.0 z.1 (either (int_le (pos (j.hi + k) +ℤ r.more) (pos (least_length g s e))) (below_length g s r.index e (pos k +ℤ r.more)) b.1);
      }
    where
      by : (off : ℕ) → pos (index_total st r.index) +ℤ r.more ≡ pos off
          → (int_le (pos ((scaled_interval g s r.index).hi + k) +ℤ r.more) (pos (least_length g s e)) ≡ true) ⊎ (below_length g s r.index e (pos k +ℤ r.more) ≡ true)
          → off + k ≤ length_of entry e
      by off z (inl u) =
          let l = offset_at_most (index_total st r.index) (scaled_interval g s r.index).hi k (least_length g s e) off r.more z (index_in r.index h).1 (int_at_most _ _ u) in
          let m = least_ok e.of e.times e.by e.plus in
          omega (arith, l, m)
      by off z (inr u) = below_ok r.index h e.of e.times e.by e.plus k off r.more u z

  -- ---- some region, some reading

  record IsPlaced (k : ℕ) (r : Reading) : Type 0 where
    region : Region
    within : IsWithin st entry k r region
    valid : IsValid entry st.memory region

  some_region : (k : ℕ) (r : Reading) → IsIndexHeld st r.index → (rs : List Region) → AreValid entry st.memory rs → in_some_region g s k r rs ≡ true → IsPlaced k r
  some_region k r h [] v e = absurd (cc e)
  some_region k r h (x ∷ xs) v e = by (λ u. some_region k r h xs v.1 u) (either (is_inside g s k r x) (in_some_region g s k r xs) e)
    where
      by : (in_some_region g s k r xs ≡ true → IsPlaced k r) → (is_inside g s k r x ≡ true) ⊎ (in_some_region g s k r xs ≡ true) → IsPlaced k r
      by f (inl u) = record { region = x; within = region_ok k r x h u; valid = v.0 }
      by f (inr u) = f u

  record IsRead (k : ℕ) (total : ℤ) : Type 0 where
    reading : Reading
    is : reading_total st reading ≡ total
    placed : IsPlaced k reading

  read_as : (k : ℕ) (r : Reading) (total : ℤ) → IsIndexHeld st r.index → reading_total st r ≡ total → in_some_region g s k r g.regions ≡ true → IsRead k total
  read_as k r total h e q = record { reading = r; is = e; placed = some_region k r h g.regions H.regions q }

  alone : (c : Bool) → (c || false) ≡ true → c ≡ true
  alone true e = refl
  alone false e = e

  base_alone : (b : ℕ) (m : ℤ) → (pos b +ℤ pos 0) +ℤ m ≡ ((pos b +ℤ pos 0) +ℤ pos 0) +ℤ m
  base_alone b m = omega (arith, ints)

  with_scale : (b i : ℕ) (m : ℤ) → (pos b +ℤ pos i) +ℤ m ≡ ((pos b +ℤ pos 0) +ℤ (pos i +ℤ pos 0)) +ℤ m
  with_scale b i m = omega (arith, ints)

  with_index : (b i j : ℕ) (m : ℤ) → j ≡ 1 * i → (pos b +ℤ pos j) +ℤ m ≡ ((pos b +ℤ (pos i +ℤ pos 0)) +ℤ pos 0) +ℤ m
  with_index b i j m e = omega (arith, ints, e)

  index_with : (b i j : ℕ) (m : ℤ) → j ≡ 1 * b → (pos i +ℤ pos j) +ℤ m ≡ ((pos b +ℤ (pos i +ℤ pos 0)) +ℤ pos 0) +ℤ m
  index_with b i j m e = omega (arith, ints, e)

  some_reading : (k : ℕ) (ps : List Ref) (ss : List (Ref × ℕ)) (m : ℤ) → AllPlain st ps → AllScaled st ss
      → in_some_reading g s k (readings (Some (record { plain = ps; scaled = ss; more = m }))) ≡ true
      → IsRead k ((plain_total st ps +ℤ scaled_total st ss) +ℤ m)
  some_reading k (b ∷ []) [] m h i e = read_as k (record { base = b; index = None; more = m }) _ tt (base_alone (word_here st b) m) (alone _ e)
  some_reading k (b ∷ []) (j ∷ []) m h i e = read_as k (record { base = b; index = Some j; more = m }) _ i.0 (with_scale (word_here st b) (j.1 * word_here st j.0) m) (alone _ e)
  some_reading k (b ∷ j ∷ []) [] m h i e = by (either (in_some_region g s k (record { base = b; index = Some (j, 1); more = m }) g.regions) _ e)
    where
      by : (in_some_region g s k (record { base = b; index = Some (j, 1); more = m }) g.regions ≡ true) ⊎ ((in_some_region g s k (record { base = j; index = Some (b, 1); more = m }) g.regions || false) ≡ true)
          → IsRead k ((plain_total st (b ∷ j ∷ []) +ℤ scaled_total st []) +ℤ m)
      by (inl u) = read_as k (record { base = b; index = Some (j, 1); more = m }) _ h.1.0 (with_index (word_here st b) (word_here st j) (1 * word_here st j) m refl) u
      by (inr u) = read_as k (record { base = j; index = Some (b, 1); more = m }) _ h.0 (index_with (word_here st b) (word_here st j) (1 * word_here st b) m refl) (alone _ u)
  some_reading k [] [] m h i e = absurd (cc e)
  some_reading k [] (j ∷ js) m h i e = absurd (cc e)
  some_reading k (b ∷ []) (j ∷ l ∷ js) m h i e = absurd (cc e)
  some_reading k (b ∷ c ∷ []) (j ∷ js) m h i e = absurd (cc e)
  some_reading k (b ∷ c ∷ d ∷ bs) ss m h i e = absurd (cc e)

  -- ---- the address

  is_sum : (k : ℕ) (u : Option Sum) → in_some_reading g s k (readings u) ≡ true → IsSome u
  is_sum k (Some u) e = refl
  is_sum k None e = absurd (cc e)

  pub bytes_there : (k : ℕ) → 0 < k → (t : Term) → IsSum kinds in_frame t → HeldVars st t → in_some_reading g s k (readings (sum_in t)) ≡ true
      → (a : ℕ) → a ≡ residue S64 (total_of st t) → (a + k ≤ 2 ^ 64) × Bytes st.memory a k
  bytes_there k one t i h e a q =
      let T = total_is kinds in_frame st t i h (is_sum k (sum_in t) e) in
      let r = some_reading k T.sum.plain T.sum.scaled T.sum.more T.plain T.scaled (subst (λ u. in_some_reading g s k (readings u) ≡ true) T.is e) in
      let w = r.placed.within in
      let x = entry r.placed.region.of + w.off in
      let v = r.placed.valid in
      let total : total_of st t ≡ pos x = sym T.total ∙ sym r.is ∙ w.is in
      let l = v.ends in
      let m = w.ends in
      let below : x < 2 ^ 64 = omega (arith, l, m, one) in
      let at : a ≡ x = q ∙ ap (residue S64) total ∙ residue_word x below in (
        omega (arith, l, m, at),
        λ j lt.
            let y : entry r.placed.region.of + (w.off + j) ≡ a + j = omega (arith, at) in
            subst (λ z. IsSome (get st.memory z)) y (v.bytes (w.off + j) (omega (arith, m, lt))),
      )
