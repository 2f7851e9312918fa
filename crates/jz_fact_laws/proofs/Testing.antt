-- What a test with its answer adds holds.
use Rattle.std.proofs.Common.{◌≡◌, ◌≢◌, ◌⊎◌, inl, inr, ℕ, zero, suc, ◌+◌, ◌-◌, ◌%◌, ◌<◌, ◌≤◌, [], ◌∷◌, Option, Some, None, Bool, true, false, true≢false, refl, ap, sym, ◌∙◌, subst, arith, rules, if◌then◌else◌}
use Rattle.std.specs.Prelude.{◌==◌, nat_le, nat_lt, option_map, not, ◌&&◌, ◌||◌}
use Rattle.std.specs.Option.{option_or}
use Rattle.std.proofs.lemmas.Bool.{and_parts}
use Rattle.jz_tree.specs.Span.{Span}
use Rattle.x64_insn.specs.Size.{Size}
use Rattle.x64_insn.specs.Sizes.{modulus}
use Rattle.x64_insn.specs.Words.{residue}
use Rattle.jz_words.proofs.Residues.{residue_below}
use Rattle.jz_tree.specs.declared.expr.BinOp.{BinOp}
use Rattle.jz_tree.specs.declared.expr.BinOp.TheVariants as o
use Rattle.jz_runs.specs.Rules.{stuck, went}
use Rattle.jz_meaning.specs.declared.value.Why.TheVariants.{Init}
use Rattle.jz_meaning.specs.Attempts.{Evaluation, stuck_at, and_then, defined}
use Rattle.jz_meaning.specs.States.{Value, word, boolean, integer, Key, State}
use Rattle.jz_meaning.specs.Operators.{same_size, compared, on_words, by_flag, joined, is_settled, is_shift, combined, shifted, binary, inverted}
use Rattle.jz_meaning.specs.Values.{key_of, left_wanted, right_wanted, with_right}
use Rattle.jz_facts.specs.Terms.{Term, num, truth, var, cell, load, neg, inv, cast, bin, means, size_in}
use Rattle.jz_facts.specs.Facts.{Fact, Set, Cell, AtLeast, AtMost, Under, Is, Multiple, Facts, Given, is_among}
use Rattle.jz_facts.specs.Intervals.{size_or_64, interval}
use Rattle.jz_facts.specs.Tests.{is_var, ◌and◌, at_most, at_least, under, under_what_is, is_the_same, less, less_or_same, same, not_zero, by_true, opposite, adds}
use Rattle.jz_fact_laws.specs.Saying.{Says, Holds, Yields, In, HasSize, is_number, IsPlain, AreSized}
use Rattle.jz_fact_laws.proofs.Fitting.{yields_then, yields_if}
use Rattle.jz_fact_laws.proofs.Ranges.{Good, term_ok, not_both}
use Rattle.jz_fact_laws.proofs.Setting.{same_key-true, CopyOf, copy_ok, MultipleOf, MultipleValue, copied_says, no_copy}

pub either : (a b : Bool) → (a || b) ≡ true → (a ≡ true) ⊎ (b ≡ true)
either true b e = inl refl
either false b e = inr e

some_bool : (a b : Bool) → Some a ≡ Some b → a ≡ b
some_bool a b e = cc e

module _ (g : Given) (sizes : Key → Option Size) (entry : Key → ℕ) (s : Facts) (st : State) (H : Holds g sizes entry s st) where
  abbrev Copy : Term → Value → Type 0
  Copy = CopyOf g sizes entry s st H

  both_say : (a b : Facts) (f : Fact) → (a f ≡ true → Says entry st.store f) → (b f ≡ true → Says entry st.store f) → (a and b) f ≡ true → Says entry st.store f
  both_say a b f h k e = by (either (a f) (b f) e)
    where
      by : (a f ≡ true) ⊎ (b f ≡ true) → Says entry st.store f
      by (inl q) = h q
      by (inr q) = k q

  var_has : (t : Term) (z : Size) (m : ℕ) (v : Key) → Copy t (word z m) → is_var t v ≡ true → st.store v ≡ Some (word z m)
  var_has (var r) z m v c e = subst (λ k. st.store k ≡ Some (word z m)) (sym (same_key-true v (key_of r) e)) c
  var_has (num i at) z m v c e = absurd (cc e)
  var_has (truth b at) z m v c e = absurd (cc e)
  var_has (cell x i) z m v c e = absurd (cc e)
  var_has (load p a) z m v c e = absurd (cc e)
  var_has (neg a at) z m v c e = absurd (cc e)
  var_has (inv a at) z m v c e = absurd (cc e)
  var_has (cast y sign a at) z m v c e = absurd (cc e)
  var_has (bin op a b at) z m v c e = absurd (cc e)

  -- the term is a word m, of which its interval holds
  Num : Size → Term → ℕ → Type 0
  Num z t m = (m < modulus z) × In (interval g s z t) m × Copy t (word z m) × MultipleOf g sizes entry s st H t m

  most_says : (z : Size) (t : Term) (m n : ℕ) → Copy t (word z m) → m ≤ n → (f : Fact) → at_most g t n f ≡ true → Says entry st.store f
  most_says z t m n c l (AtMost v k) e =
      let p = and_parts (is_var t v) _ e in
      let r = and_parts (is_among k g.consts) _ p.1 in
      let q : n ≤ k = grind (arith, rules, r.1) in
      (z, m, var_has t z m v c p.0, omega (arith, l, q))
  most_says z t m n c l (Set v) e = absurd (cc e)
  most_says z t m n c l (Cell v k) e = absurd (cc e)
  most_says z t m n c l (AtLeast v k) e = absurd (cc e)
  most_says z t m n c l (Under v k) e = absurd (cc e)
  most_says z t m n c l (Is v k) e = absurd (cc e)
  most_says z t m n c l (Multiple v k) e = absurd (cc e)

  least_says : (z : Size) (t : Term) (m n : ℕ) → Copy t (word z m) → n ≤ m → (f : Fact) → at_least g t n f ≡ true → Says entry st.store f
  least_says z t m n c l (AtLeast v k) e =
      let p = and_parts (is_var t v) _ e in
      let r = and_parts (is_among k g.consts) _ p.1 in
      let q : k ≤ n = grind (arith, rules, r.1) in
      (z, m, var_has t z m v c p.0, omega (arith, l, q))
  least_says z t m n c l (Set v) e = absurd (cc e)
  least_says z t m n c l (Cell v k) e = absurd (cc e)
  least_says z t m n c l (AtMost v k) e = absurd (cc e)
  least_says z t m n c l (Under v k) e = absurd (cc e)
  least_says z t m n c l (Is v k) e = absurd (cc e)
  least_says z t m n c l (Multiple v k) e = absurd (cc e)

  under_says : (z : Size) (a b : Term) (m n : ℕ) → Copy a (word z m) → Copy b (word z n) → m ≤ n → (f : Fact) → under g s a b f ≡ true → Says entry st.store f
  under_says z a b m n c d l (Under v x) e =
      let p = and_parts (is_var a v) _ e in
      let q = copied_says g sizes entry s st H b z n (λ k. Under k x) (λ n. n < entry x) (λ k h. H.says (Under k x) h) d p.1 in
      (z, m, var_has a z m v c p.0, omega (arith, l, q))
  under_says z a b m n c d l (Set v) e = absurd (cc e)
  under_says z a b m n c d l (Cell v k) e = absurd (cc e)
  under_says z a b m n c d l (AtMost v k) e = absurd (cc e)
  under_says z a b m n c d l (AtLeast v k) e = absurd (cc e)
  under_says z a b m n c d l (Is v k) e = absurd (cc e)
  under_says z a b m n c d l (Multiple v k) e = absurd (cc e)

  below_says : (z : Size) (a b : Term) (m n : ℕ) → Copy a (word z m) → Copy b (word z n) → m < n → (f : Fact) → under_what_is g s a b f ≡ true → Says entry st.store f
  below_says z a b m n c d l (Under v x) e =
      let p = and_parts (is_var a v) _ e in
      let q = copied_says g sizes entry s st H b z n (λ k. Is k x) (λ n. n ≡ entry x) (λ k h. H.says (Is k x) h) d p.1 in
      (z, m, var_has a z m v c p.0, omega (arith, l, q))
  below_says z a b m n c d l (Set v) e = absurd (cc e)
  below_says z a b m n c d l (Cell v k) e = absurd (cc e)
  below_says z a b m n c d l (AtMost v k) e = absurd (cc e)
  below_says z a b m n c d l (AtLeast v k) e = absurd (cc e)
  below_says z a b m n c d l (Is v k) e = absurd (cc e)
  below_says z a b m n c d l (Multiple v k) e = absurd (cc e)

  same_says : (z : Size) (a b : Term) (m n : ℕ) → Copy a (word z m) → Copy b (word z n) → MultipleOf g sizes entry s st H b n → m ≡ n → (f : Fact) → is_the_same g s a b f ≡ true → Says entry st.store f
  same_says z a b m n c d mu l (Is v x) e =
      let p = and_parts (is_var a v) _ e in
      let q = copied_says g sizes entry s st H b z n (λ k. Is k x) (λ n. n ≡ entry x) (λ k h. H.says (Is k x) h) d p.1 in
      (z, m, var_has a z m v c p.0, l ∙ q)
  same_says z a b m n c d mu l (Multiple v k) e =
      let p = and_parts (is_var a v) _ e in
      let r = and_parts (is_among k (2 ∷ 4 ∷ 8 ∷ [])) _ p.1 in
      (z, m, var_has a z m v c p.0, ap (λ x. x % k) l ∙ mu k r.0 r.1)
  same_says z a b m n c d mu l (Set v) e = absurd (cc e)
  same_says z a b m n c d mu l (Cell v k) e = absurd (cc e)
  same_says z a b m n c d mu l (AtMost v k) e = absurd (cc e)
  same_says z a b m n c d mu l (AtLeast v k) e = absurd (cc e)
  same_says z a b m n c d mu l (Under v k) e = absurd (cc e)

  -- ---- the comparisons

  less_says : (z : Size) (a b : Term) (m n : ℕ) → Num z a m → Num z b n → m < n → (f : Fact) → less g s z a b f ≡ true → Says entry st.store f
  unfolding Num
  less_says z a b m n p q l f =
      let i = interval g s z a in let j = interval g s z b in
      let h = q.1.1 in let k = p.1.0 in
      both_say (at_most g a (j.hi - 1)) (at_least g b (i.lo + 1) and (under g s a b and under_what_is g s a b)) f (most_says z a m (j.hi - 1) p.2 (omega (arith, l, h)) f)
      (both_say (at_least g b (i.lo + 1)) (under g s a b and under_what_is g s a b) f (least_says z b n (i.lo + 1) q.2 (omega (arith, l, k)) f)
      (both_say (under g s a b) (under_what_is g s a b) f (under_says z a b m n p.2 q.2 (omega (arith, l)) f) (below_says z a b m n p.2 q.2 l f)))

  less_or_same_says : (z : Size) (a b : Term) (m n : ℕ) → Num z a m → Num z b n → m ≤ n → (f : Fact) → less_or_same g s z a b f ≡ true → Says entry st.store f
  unfolding Num
  less_or_same_says z a b m n p q l f =
      let i = interval g s z a in let j = interval g s z b in
      let h = q.1.1 in let k = p.1.0 in
      both_say (at_most g a j.hi) (at_least g b i.lo and under g s a b) f (most_says z a m j.hi p.2 (omega (arith, l, h)) f)
      (both_say (at_least g b i.lo) (under g s a b) f (least_says z b n i.lo q.2 (omega (arith, l, k)) f) (under_says z a b m n p.2 q.2 l f))

  equal_says : (z : Size) (a b : Term) (m n : ℕ) → Num z a m → Num z b n → m ≡ n → (f : Fact) → same g s z a b f ≡ true → Says entry st.store f
  unfolding Num
  equal_says z a b m n p q l f =
      both_say (less_or_same g s z a b and less_or_same g s z b a) (is_the_same g s a b and is_the_same g s b a) f
      (both_say (less_or_same g s z a b) (less_or_same g s z b a) f (less_or_same_says z a b m n p q (omega (arith, l)) f) (less_or_same_says z b a n m q p (omega (arith, l)) f))
      (both_say (is_the_same g s a b) (is_the_same g s b a) f (same_says z a b m n p.2 q.2 q.3 l f) (same_says z b a n m q.2 p.2 p.3 (sym l) f))

  unequal_says : (z : Size) (a b : Term) (m n : ℕ) → Num z a m → Num z b n → m ≢ n → (f : Fact) → not_zero g z a b f ≡ true → Says entry st.store f
  unfolding Num
  unequal_says z a (num i at) m n p q l f = by (residue z i == 0) refl
    where
      by : (c : Bool) → (residue z i == 0) ≡ c → (if c then at_least g a 1 else (λ f. false)) f ≡ true → Says entry st.store f
      by true e h =
          let w : residue z i ≡ 0 = grind (arith, rules, e) in
          let u = q.1.1 in
          let k : 1 ≤ m = pos m n (omega (arith, w, u)) l in
          least_says z a m 1 p.2 k f h
        where
          pos : (m n : ℕ) → n ≡ 0 → m ≢ n → 1 ≤ m
          pos zero n e ne = absurd (ne (sym e))
          pos (suc m) n e ne = omega arith
      by false e h = absurd (cc h)
  unequal_says z a (truth i at) m n p q l f = λ e. absurd (cc e)
  unequal_says z a (var i) m n p q l f = λ e. absurd (cc e)
  unequal_says z a (cell i at) m n p q l f = λ e. absurd (cc e)
  unequal_says z a (load i at) m n p q l f = λ e. absurd (cc e)
  unequal_says z a (neg i at) m n p q l f = λ e. absurd (cc e)
  unequal_says z a (inv i at) m n p q l f = λ e. absurd (cc e)
  unequal_says z a (cast i at u v) m n p q l f = λ e. absurd (cc e)
  unequal_says z a (bin i at u v) m n p q l f = λ e. absurd (cc e)

  -- of the answer
  core : (op : BinOp) (z : Size) (a b : Term) (m n : ℕ) → Num z a m → Num z b n → (c : Bool) → compared op z m n ≡ Some c → (f : Fact) → by_true g (if c then op else opposite g op) s z a b f ≡ true → Says entry st.store f
  core o.OrElse z a b m n p q true e f h = absurd (cc h)
  core o.OrElse z a b m n p q false e f h = absurd (cc h)
  core o.AndThen z a b m n p q true e f h = absurd (cc h)
  core o.AndThen z a b m n p q false e f h = absurd (cc h)
  core o.Or z a b m n p q true e f h = absurd (cc h)
  core o.Or z a b m n p q false e f h = absurd (cc h)
  core o.Xor z a b m n p q true e f h = absurd (cc h)
  core o.Xor z a b m n p q false e f h = absurd (cc h)
  core o.And z a b m n p q true e f h = absurd (cc h)
  core o.And z a b m n p q false e f h = absurd (cc h)
  core o.Eq z a b m n p q true e f h = let r : (m == n) ≡ true = some_bool _ _ e in let l : m ≡ n = grind (arith, rules, r) in equal_says z a b m n p q l f h
  core o.Eq z a b m n p q false e f h = let r : (m == n) ≡ false = some_bool _ _ e in unequal_says z a b m n p q (λ i. let l : (m == n) ≡ true = grind (arith, rules, i) in true≢false (sym l ∙ r)) f h
  core o.Ne z a b m n p q true e f h = let r : not (m == n) ≡ true = some_bool _ _ e in unequal_says z a b m n p q (λ i. let l : (m == n) ≡ true = grind (arith, rules, i) in true≢false (sym r ∙ ap not l)) f h
  core o.Ne z a b m n p q false e f h = let r : not (m == n) ≡ false = some_bool _ _ e in let l : m ≡ n = grind (arith, rules, r) in equal_says z a b m n p q l f h
  core o.Lt z a b m n p q true e f h = let r : nat_lt m n ≡ true = some_bool _ _ e in let l : m < n = grind (arith, rules, r) in less_says z a b m n p q l f h
  core o.Lt z a b m n p q false e f h = let r : nat_lt m n ≡ false = some_bool _ _ e in let l : n ≤ m = grind (arith, rules, r) in less_or_same_says z b a n m q p l f h
  core o.Le z a b m n p q true e f h = let r : nat_le m n ≡ true = some_bool _ _ e in let l : m ≤ n = grind (arith, rules, r) in less_or_same_says z a b m n p q l f h
  core o.Le z a b m n p q false e f h = let r : nat_le m n ≡ false = some_bool _ _ e in let l : n < m = grind (arith, rules, r) in less_says z b a n m q p l f h
  core o.Gt z a b m n p q true e f h = let r : nat_lt n m ≡ true = some_bool _ _ e in let l : n < m = grind (arith, rules, r) in less_says z b a n m q p l f h
  core o.Gt z a b m n p q false e f h = let r : nat_lt n m ≡ false = some_bool _ _ e in let l : m ≤ n = grind (arith, rules, r) in less_or_same_says z a b m n p q l f h
  core o.Ge z a b m n p q true e f h = let r : nat_le n m ≡ true = some_bool _ _ e in let l : n ≤ m = grind (arith, rules, r) in less_or_same_says z b a n m q p l f h
  core o.Ge z a b m n p q false e f h = let r : nat_le n m ≡ false = some_bool _ _ e in let l : m < n = grind (arith, rules, r) in less_says z a b m n p q l f h
  core o.LtS z a b m n p q true e f h = absurd (cc h)
  core o.LtS z a b m n p q false e f h = absurd (cc h)
  core o.LeS z a b m n p q true e f h = absurd (cc h)
  core o.LeS z a b m n p q false e f h = absurd (cc h)
  core o.GtS z a b m n p q true e f h = absurd (cc h)
  core o.GtS z a b m n p q false e f h = absurd (cc h)
  core o.GeS z a b m n p q true e f h = absurd (cc h)
  core o.GeS z a b m n p q false e f h = absurd (cc h)
  core o.Shl z a b m n p q true e f h = absurd (cc h)
  core o.Shl z a b m n p q false e f h = absurd (cc h)
  core o.Shr z a b m n p q true e f h = absurd (cc h)
  core o.Shr z a b m n p q false e f h = absurd (cc h)
  core o.Sar z a b m n p q true e f h = absurd (cc h)
  core o.Sar z a b m n p q false e f h = absurd (cc h)
  core o.Rol z a b m n p q true e f h = absurd (cc h)
  core o.Rol z a b m n p q false e f h = absurd (cc h)
  core o.Ror z a b m n p q true e f h = absurd (cc h)
  core o.Ror z a b m n p q false e f h = absurd (cc h)
  core o.Add z a b m n p q true e f h = absurd (cc h)
  core o.Add z a b m n p q false e f h = absurd (cc h)
  core o.Sub z a b m n p q true e f h = absurd (cc h)
  core o.Sub z a b m n p q false e f h = absurd (cc h)
  core o.Mul z a b m n p q true e f h = absurd (cc h)
  core o.Mul z a b m n p q false e f h = absurd (cc h)
  core o.Div z a b m n p q true e f h = absurd (cc h)
  core o.Div z a b m n p q false e f h = absurd (cc h)
  core o.Rem z a b m n p q true e f h = absurd (cc h)
  core o.Rem z a b m n p q false e f h = absurd (cc h)
  core o.DivS z a b m n p q true e f h = absurd (cc h)
  core o.DivS z a b m n p q false e f h = absurd (cc h)
  core o.RemS z a b m n p q true e f h = absurd (cc h)
  core o.RemS z a b m n p q false e f h = absurd (cc h)

  -- ---- on values

  -- a value of the wanted size is a number
  abbrev IsNum : Size → Term → Value → Type 0
  IsNum z t (word y n) = (y ≡ z) × Num z t n
  IsNum z t (integer j) = Num z t (residue z j)
  IsNum z t (boolean c) = Unit {0}

  abbrev Multiplied : Size → Term → Value → Type 0
  Multiplied = MultipleValue g sizes entry s st H

  is_num : (z : Size) (t : Term) (k : Bool) (v : Value) → Good (interval g s z t) k z v → Copy t v → Multiplied z t v → HasSize z v → IsNum z t v
  unfolding Num
  is_num z t k (word y n) h c m u = let e = u y n refl in (e, (subst (λ q. n < modulus q) e h.0, h.1 e, subst (λ q. Copy t (word q n)) e c, m))
  is_num z t k (integer j) h c m u = (residue_below z j, h.1, no_copy g sizes entry s st H t j z c, m)
  is_num z t k (boolean b) h c m u = tt

  -- what the answer adds holds
  abbrev Answers : Term → Value → Type 0
  Answers t v = (c : Bool) → v ≡ boolean c → (f : Fact) → adds g s t c f ≡ true → Says entry st.store f

  bool_same : (a b : Bool) → boolean a ≡ boolean b → a ≡ b
  bool_same a b e = cc e

  -- of an operation
  abbrev Says_if : BinOp → Size → Term → Term → Value → Type 0
  Says_if op z a b v = (c : Bool) → v ≡ boolean c → (f : Fact) → by_true g (if c then op else opposite g op) s z a b f ≡ true → Says entry st.store f

  compared_says : (op : BinOp) (at : Span) (z : Size) (a b : Term) (k l : Bool) (x y : Value)
      → ((u : Size) (m n : ℕ) → on_words op at u m n ≡ defined at (option_map boolean (compared op u m n)))
      → ((u : Size) (m : ℕ) (c : Bool) → by_flag op u m c ≡ None)
      → ((c : Bool) → joined op c ≡ None)
      → (k && l) ≡ false → Good (interval g s z a) k z x → Good (interval g s z b) l z y → IsNum z a x → IsNum z b y
      → Yields (Says_if op z a b) (combined op at x y)
  unfolding combined
  compared_says op at z a b k l x y ow fl jo n hx hy p q = by x y hx hy p q
    where
      of_option : (m n : ℕ) → Num z a m → Num z b n → (o : Option Bool) → compared op z m n ≡ o → Yields (Says_if op z a b) (defined at (option_map boolean o))
      of_option m n p q None e = tt
      of_option m n p q (Some d) e = λ c i f h. core op z a b m n p q c (e ∙ ap Some (bool_same d c i)) f h

      of_numbers : (u : Size) (m n : ℕ) → u ≡ z → Num z a m → Num z b n → Yields (Says_if op z a b) (on_words op at u m n)
      of_numbers u m n e p q = subst (λ w. Yields (Says_if op z a b) (on_words op at w m n)) (sym e)
          (subst (λ w. Yields (Says_if op z a b) w) (sym (ow z m n)) (of_option m n p q (compared op z m n) refl))

      by : (x y : Value) → Good (interval g s z a) k z x → Good (interval g s z b) l z y → IsNum z a x → IsNum z b y → Yields (Says_if op z a b) (combined op at x y)
      by (word u m) (word w n) hx hy p q = yields_if (Says_if op z a b) (same_size u w) (on_words op at u m n) (stuck_at at Init) (λ e. of_numbers u m n p.0 p.1 q.1) (λ e. tt)
      by (word u m) (integer j) hx hy p q = subst (λ r. Yields (Says_if op z a b) (on_words op at u m (residue r j))) (sym p.0) (of_numbers u m (residue z j) p.0 p.1 q)
      by (word u m) (boolean c) hx hy p q = subst (λ o. Yields (Says_if op z a b) (defined at o)) (sym (fl u m c)) tt
      by (integer i) (word w n) hx hy p q = subst (λ r. Yields (Says_if op z a b) (on_words op at w (residue r i) n)) (sym q.0) (of_numbers w (residue z i) n q.0 p q.1)
      by (integer i) (integer j) hx hy p q = absurd (not_both k l hx.0 hy.0 n)
      by (integer i) (boolean c) hx hy p q = tt
      by (boolean a') (boolean c) hx hy p q = subst (λ o. Yields (Says_if op z a b) (defined at o)) (sym (jo c)) tt
      by (boolean a') (word w n) hx hy p q = tt
      by (boolean a') (integer j) hx hy p q = tt

  module _ (MO : (t : Term) → IsPlain sizes t → (z : Size) (w : Option Size) → Yields (Multiplied z t) ((means t).run w st)) where
    abbrev All4 : Size → Term → Value → Type 0
    All4 z t v = Good (interval g s z t) (is_number t) z v × IsNum z t v

    operand : (z : Size) (t : Term) (w : Option Size) → IsPlain sizes t → Yields (HasSize z) ((means t).run w st) → Yields (All4 z t) ((means t).run w st)
    operand z t w p u = by ((means t).run w st) (term_ok g sizes entry s st H t p z w) (copy_ok g sizes entry s st H t w) (MO t p z w) u
      where
        by : (e : Evaluation Value) → Yields (Good (interval g s z t) (is_number t) z) e → Yields (Copy t) e → Yields (Multiplied z t) e → Yields (HasSize z) e → Yields (All4 z t) e
        by (stuck k) a b c d = tt
        by (went ns v) a b c d = (a, is_num z t (is_number t) v a b c d)

    compare_ok : (op : BinOp) (a b : Term) (at : Span) (w : Option Size) → is_shift op ≡ false
        → ((x : Value) → is_settled op x ≡ false)
        → ((u : Size) (m n : ℕ) → on_words op at u m n ≡ defined at (option_map boolean (compared op u m n)))
        → ((u : Size) (m : ℕ) (c : Bool) → by_flag op u m c ≡ None)
        → ((c : Bool) → joined op c ≡ None)
        → left_wanted op w (size_in a) (size_in b) ≡ option_or (size_in a) (size_in b)
        → IsPlain sizes (bin op a b at) → AreSized st w (bin op a b at)
        → Yields (Says_if op (size_or_64 (option_or (size_in a) (size_in b))) a b) ((means (bin op a b at)).run w st)
    unfolding binary
    compare_ok op a b at w sh se ow fl jo lw p u =
        let v = left_wanted op w (size_in a) (size_in b) in
        let z = size_or_64 v in
        subst (λ q. Yields (Says_if op (size_or_64 q) a b) ((means (bin op a b at)).run w st)) lw
        (yields_then (All4 z a) (Says_if op z a b) ((means a).run v st) (with_right op (means b).run at v st) (operand z a v p.1 (u.2 sh)) (λ x hx.
        yields_if (Says_if op z a b) (is_settled op x) (went [] x) (and_then ((means b).run (right_wanted op v) st) (λ y. binary op at v x y)) (λ e. absurd (true≢false (sym e ∙ se x))) (λ e.
        yields_then (All4 z b) (Says_if op z a b) ((means b).run (right_wanted op v) st) (λ y. binary op at v x y) (operand z b (right_wanted op v) p.2 (u.3 sh)) (λ y hy.
        yields_if (Says_if op z a b) (is_shift op) (defined at (shifted op v x y)) (combined op at x y) (λ e. absurd (true≢false (sym e ∙ sh))) (λ e.
        compared_says op at z a b (is_number a) (is_number b) x y ow fl jo p.0 hx.0 hy.0 hx.1 hy.1)))))

    nothing_says : (t : Term) (w : Option Size) → ((c : Bool) (f : Fact) → adds g s t c f ≡ true → ⊥) → Yields (Answers t) ((means t).run w st)
    nothing_says t w h = by ((means t).run w st)
      where
        by : (e : Evaluation Value) → Yields (Answers t) e
        by (stuck k) = tt
        by (went ns v) = λ c e f i. absurd (h c f i)

    inverted_says : (a : Term) (at : Span) (v : Value) → Answers a v → Answers (inv a at) (inverted v)
    unfolding inverted
    inverted_says a at (boolean d) h c e f i = h (not c) (ap boolean (flip d c (bool_same (not d) c e))) f i
      where
        flip : (d c : Bool) → not d ≡ c → d ≡ not c
        flip true c e = ap not e
        flip false c e = ap not e
    inverted_says a at (word y n) h c e f i = absurd (cc e)
    inverted_says a at (integer j) h c e f i = absurd (cc e)

    pub test_ok : (t : Term) (w : Option Size) → IsPlain sizes t → AreSized st w t → Yields (Answers t) ((means t).run w st)
    test_ok (num i at) w p u = nothing_says (num i at) w (λ c f e. cc e)
    test_ok (truth b at) w p u = nothing_says (truth b at) w (λ c f e. cc e)
    test_ok (var x) w p u = nothing_says (var x) w (λ c f e. cc e)
    test_ok (cell x i) w p u = nothing_says (cell x i) w (λ c f e. cc e)
    test_ok (load q a) w p u = nothing_says (load q a) w (λ c f e. cc e)
    test_ok (neg a at) w p u = nothing_says (neg a at) w (λ c f e. cc e)
    test_ok (inv a at) w p u = yields_then (Answers a) (Answers (inv a at)) ((means a).run (option_or w (size_in a)) st) (λ v. went [] (inverted v)) (test_ok a (option_or w (size_in a)) p u) (λ v h. inverted_says a at v h)
    test_ok (cast y sign a at) w p u = nothing_says (cast y sign a at) w (λ c f e. cc e)
    test_ok (bin o.OrElse a b at) w p u = nothing_says (bin o.OrElse a b at) w none
      where
        none : (c : Bool) (f : Fact) → adds g s (bin o.OrElse a b at) c f ≡ true → ⊥
        none true f e = cc e
        none false f e = cc e
    test_ok (bin o.AndThen a b at) w p u = nothing_says (bin o.AndThen a b at) w none
      where
        none : (c : Bool) (f : Fact) → adds g s (bin o.AndThen a b at) c f ≡ true → ⊥
        none true f e = cc e
        none false f e = cc e
    test_ok (bin o.Or a b at) w p u = nothing_says (bin o.Or a b at) w none
      where
        none : (c : Bool) (f : Fact) → adds g s (bin o.Or a b at) c f ≡ true → ⊥
        none true f e = cc e
        none false f e = cc e
    test_ok (bin o.Xor a b at) w p u = nothing_says (bin o.Xor a b at) w none
      where
        none : (c : Bool) (f : Fact) → adds g s (bin o.Xor a b at) c f ≡ true → ⊥
        none true f e = cc e
        none false f e = cc e
    test_ok (bin o.And a b at) w p u = nothing_says (bin o.And a b at) w none
      where
        none : (c : Bool) (f : Fact) → adds g s (bin o.And a b at) c f ≡ true → ⊥
        none true f e = cc e
        none false f e = cc e
    test_ok (bin o.Eq a b at) w p u = compare_ok o.Eq a b at w refl (λ x. refl) (λ u m n. refl) (λ u m c. refl) (λ c. refl) refl p u
    test_ok (bin o.Ne a b at) w p u = compare_ok o.Ne a b at w refl (λ x. refl) (λ u m n. refl) (λ u m c. refl) (λ c. refl) refl p u
    test_ok (bin o.Lt a b at) w p u = compare_ok o.Lt a b at w refl (λ x. refl) (λ u m n. refl) (λ u m c. refl) (λ c. refl) refl p u
    test_ok (bin o.Le a b at) w p u = compare_ok o.Le a b at w refl (λ x. refl) (λ u m n. refl) (λ u m c. refl) (λ c. refl) refl p u
    test_ok (bin o.Gt a b at) w p u = compare_ok o.Gt a b at w refl (λ x. refl) (λ u m n. refl) (λ u m c. refl) (λ c. refl) refl p u
    test_ok (bin o.Ge a b at) w p u = compare_ok o.Ge a b at w refl (λ x. refl) (λ u m n. refl) (λ u m c. refl) (λ c. refl) refl p u
    test_ok (bin o.LtS a b at) w p u = nothing_says (bin o.LtS a b at) w none
      where
        none : (c : Bool) (f : Fact) → adds g s (bin o.LtS a b at) c f ≡ true → ⊥
        none true f e = cc e
        none false f e = cc e
    test_ok (bin o.LeS a b at) w p u = nothing_says (bin o.LeS a b at) w none
      where
        none : (c : Bool) (f : Fact) → adds g s (bin o.LeS a b at) c f ≡ true → ⊥
        none true f e = cc e
        none false f e = cc e
    test_ok (bin o.GtS a b at) w p u = nothing_says (bin o.GtS a b at) w none
      where
        none : (c : Bool) (f : Fact) → adds g s (bin o.GtS a b at) c f ≡ true → ⊥
        none true f e = cc e
        none false f e = cc e
    test_ok (bin o.GeS a b at) w p u = nothing_says (bin o.GeS a b at) w none
      where
        none : (c : Bool) (f : Fact) → adds g s (bin o.GeS a b at) c f ≡ true → ⊥
        none true f e = cc e
        none false f e = cc e
    test_ok (bin o.Shl a b at) w p u = nothing_says (bin o.Shl a b at) w none
      where
        none : (c : Bool) (f : Fact) → adds g s (bin o.Shl a b at) c f ≡ true → ⊥
        none true f e = cc e
        none false f e = cc e
    test_ok (bin o.Shr a b at) w p u = nothing_says (bin o.Shr a b at) w none
      where
        none : (c : Bool) (f : Fact) → adds g s (bin o.Shr a b at) c f ≡ true → ⊥
        none true f e = cc e
        none false f e = cc e
    test_ok (bin o.Sar a b at) w p u = nothing_says (bin o.Sar a b at) w none
      where
        none : (c : Bool) (f : Fact) → adds g s (bin o.Sar a b at) c f ≡ true → ⊥
        none true f e = cc e
        none false f e = cc e
    test_ok (bin o.Rol a b at) w p u = nothing_says (bin o.Rol a b at) w none
      where
        none : (c : Bool) (f : Fact) → adds g s (bin o.Rol a b at) c f ≡ true → ⊥
        none true f e = cc e
        none false f e = cc e
    test_ok (bin o.Ror a b at) w p u = nothing_says (bin o.Ror a b at) w none
      where
        none : (c : Bool) (f : Fact) → adds g s (bin o.Ror a b at) c f ≡ true → ⊥
        none true f e = cc e
        none false f e = cc e
    test_ok (bin o.Add a b at) w p u = nothing_says (bin o.Add a b at) w none
      where
        none : (c : Bool) (f : Fact) → adds g s (bin o.Add a b at) c f ≡ true → ⊥
        none true f e = cc e
        none false f e = cc e
    test_ok (bin o.Sub a b at) w p u = nothing_says (bin o.Sub a b at) w none
      where
        none : (c : Bool) (f : Fact) → adds g s (bin o.Sub a b at) c f ≡ true → ⊥
        none true f e = cc e
        none false f e = cc e
    test_ok (bin o.Mul a b at) w p u = nothing_says (bin o.Mul a b at) w none
      where
        none : (c : Bool) (f : Fact) → adds g s (bin o.Mul a b at) c f ≡ true → ⊥
        none true f e = cc e
        none false f e = cc e
    test_ok (bin o.Div a b at) w p u = nothing_says (bin o.Div a b at) w none
      where
        none : (c : Bool) (f : Fact) → adds g s (bin o.Div a b at) c f ≡ true → ⊥
        none true f e = cc e
        none false f e = cc e
    test_ok (bin o.Rem a b at) w p u = nothing_says (bin o.Rem a b at) w none
      where
        none : (c : Bool) (f : Fact) → adds g s (bin o.Rem a b at) c f ≡ true → ⊥
        none true f e = cc e
        none false f e = cc e
    test_ok (bin o.DivS a b at) w p u = nothing_says (bin o.DivS a b at) w none
      where
        none : (c : Bool) (f : Fact) → adds g s (bin o.DivS a b at) c f ≡ true → ⊥
        none true f e = cc e
        none false f e = cc e
    test_ok (bin o.RemS a b at) w p u = nothing_says (bin o.RemS a b at) w none
      where
        none : (c : Bool) (f : Fact) → adds g s (bin o.RemS a b at) c f ≡ true → ⊥
        none true f e = cc e
        none false f e = cc e
