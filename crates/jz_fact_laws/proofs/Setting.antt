-- Behind an assignment to a variable the facts hold.
use Rattle.std.proofs.Common.{◌≡◌, ◌≢◌, ℕ, ◌%◌, ◌<◌, ◌≤◌, [], ◌∷◌, Option, Some, None, Bool, true, false, true≢false, refl, ap, sym, ◌∙◌, subst, arith, rules, if◌then◌else◌}
use Rattle.std.specs.Prelude.{◌==◌, ℤ, not, IsSome}
use Rattle.std.specs.Str.{bytes_eq}
use Rattle.std.proofs.lemmas.Bool.{and_parts}
use Rattle.std.proofs.lemmas.Bool.Decides.{nat_tests}
use Rattle.std.proofs.lemmas.Slice.Eq.{bytes_eq-Decides}
use Rattle.jz_data.proofs.Texts.{bytes_eq-true}
use Rattle.jz_tree.specs.Span.{Span}
use Rattle.x64_insn.specs.Size.{Size}
use Rattle.x64_insn.specs.Sizes.{modulus}
use Rattle.x64_insn.specs.Words.{residue}
use Rattle.jz_words.proofs.Residues.{residue_below}
use Rattle.jz_runs.specs.Rules.{stuck, went}
use Rattle.jz_meaning.specs.declared.access.Kind.{Kind}
use Rattle.jz_meaning.specs.declared.access.Kind.TheVariants as kind
use Rattle.jz_meaning.specs.Attempts.{Evaluation, and_then}
use Rattle.jz_meaning.specs.States.{Value, word, boolean, integer, Key, same_cell, same_key, Store, put, State}
use Rattle.jz_meaning.specs.Operators.{same_size, word_at}
use Rattle.jz_meaning.specs.Values.{Ref, key_of}
use Rattle.jz_meaning.specs.Assignments.{held, held_or_unset, with_value}
use Rattle.jz_meaning.proofs.Widths.{equal_sizes}
use Rattle.jz_facts.specs.Terms.{Term, num, truth, var, cell, load, neg, inv, cast, bin, means}
use Rattle.jz_facts.specs.Facts.{Fact, Set, Cell, AtLeast, AtMost, Under, Is, Multiple, Facts, subject, Given, is_among}
use Rattle.jz_facts.specs.Intervals.{interval, multiple}
use Rattle.jz_facts.specs.Holding.{renewed, only_set, is_read, copied, of_word, gained, the_word}
use Rattle.jz_fact_laws.specs.Saying.{HasWord, Says, Fits, Holds, Yields, In}
use Rattle.jz_fact_laws.proofs.Fitting.{yields_then, yields_defined}
use Rattle.jz_fact_laws.proofs.Ranges.{Good}

-- ---- keys

same_cell-true : (a b : Option ℕ) → same_cell a b ≡ true → a ≡ b
same_cell-true None None e = refl
same_cell-true (Some i) (Some j) e = ap Some (grind (arith, nat_tests, e))
same_cell-true None (Some j) e = absurd cc
same_cell-true (Some i) None e = absurd cc

pub same_key-true : (a b : Key) → same_key a b ≡ true → a ≡ b
same_key-true a b e =
    let p = and_parts (bytes_eq a.name b.name) _ e in
    let q = and_parts (a.copy == b.copy) _ p.1 in
    let n : a.name ≡ b.name = bytes_eq-true _ _ p.0 in
    let c : a.copy ≡ b.copy = grind (arith, nat_tests, q.0) in
    let i = same_cell-true a.cell b.cell q.1 in
    λ z. record { name = n z; copy = c z; cell = i z }

number_same : (i : ℕ) → (i == i) ≡ true
number_same i = grind (arith, nat_tests)

cell_same : (c : Option ℕ) → same_cell c c ≡ true
cell_same None = refl
cell_same (Some i) = number_same i

pub same_key-refl : (k : Key) → same_key k k ≡ true
same_key-refl k = let a = (bytes_eq-Decides k.name k.name).1 refl in let b = number_same k.copy in let c = cell_same k.cell in rw (a, b, c)

other_way : (a b : Key) (c : Bool) → same_key b a ≡ c → same_key a b ≡ false → c ≡ false
other_way a b true e h = absurd (true≢false (sym (ap (same_key a) (same_key-true b a e) ∙ same_key-refl a) ∙ h))
other_way a b false e h = refl

put_at : (store : Store) (x v : Key) (o : Option Value) → v ≡ x → put store x o v ≡ o
put_at store x v o e = ap (λ c. if c then o else store v) (ap (same_key x) e ∙ same_key-refl x)

put_other : (store : Store) (x v : Key) (o : Option Value) → same_key v x ≡ false → put store x o v ≡ store v
put_other store x v o h = ap (λ c. if c then o else store v) (other_way v x (same_key x v) refl h)

module _ (entry : Key → ℕ) where
  moved : (P : Option Value → Type 0) (o q : Option Value) → q ≡ o → P o → P q
  moved P o q e h = subst P (sym e) h

  -- a fact on another variable
  says_other : (store : Store) (x : Key) (u : Value) (f : Fact) → same_key (subject f) x ≡ false → Says entry store f → Says entry (put store x (Some u)) f
  says_other store x u (Set v) e h = moved IsSome _ _ (put_other store x v (Some u) e) h
  says_other store x u (Cell a k) e h = by (same_key x (record { name = a.name; copy = a.copy; cell = Some k }))
    where
      by : (c : Bool) → IsSome (if c then Some u else store (record { name = a.name; copy = a.copy; cell = Some k }))
      by true = refl
      by false = h
  says_other store x u (AtLeast v c) e h = moved (λ o. HasWord o (λ n. c ≤ n)) _ _ (put_other store x v (Some u) e) h
  says_other store x u (AtMost v c) e h = moved (λ o. HasWord o (λ n. n ≤ c)) _ _ (put_other store x v (Some u) e) h
  says_other store x u (Under v y) e h = moved (λ o. HasWord o (λ n. n < entry y)) _ _ (put_other store x v (Some u) e) h
  says_other store x u (Is v y) e h = moved (λ o. HasWord o (λ n. n ≡ entry y)) _ _ (put_other store x v (Some u) e) h
  says_other store x u (Multiple v m) e h = moved (λ o. HasWord o (λ n. n % m ≡ 0)) _ _ (put_other store x v (Some u) e) h

module _ (g : Given) (sizes : Key → Option Size) (entry : Key → ℕ) (s : Facts) (st : State) (H : Holds g sizes entry s st) where
  -- the variable x becomes u, of which these facts hold
  set_ok : (x : Key) (u : Value) (new : Facts) → Fits u → ((z : Size) (n : ℕ) → u ≡ word z n → sizes x ≡ Some z)
      → ((f : Fact) → subject f ≡ x → new f ≡ true → Says entry (put st.store x (Some u)) f)
      → Holds g sizes entry (renewed x new s) (with_value st x (Some u))
  set_ok x u new fit size h = record {
    says = λ f e. by f (same_key (subject f) x) refl e;
    fits = λ k v e. fit_at k v (same_key x k) refl e;
    sized = λ k z n e. size_at k z n (same_key x k) refl e;
    bytes = H.bytes;
    ranges = H.ranges;
  }
    where
      by : (f : Fact) (c : Bool) → same_key (subject f) x ≡ c → (if c then new f else s f) ≡ true → Says entry (put st.store x (Some u)) f
      by f true q e = h f (same_key-true (subject f) x q) e
      by f false q e = says_other entry st.store x u f q (H.says f e)

      value_same : (a b : Value) → Some a ≡ Some b → a ≡ b
      value_same a b e = cc e

      fit_at : (k : Key) (v : Value) (c : Bool) → same_key x k ≡ c → (if c then Some u else st.store k) ≡ Some v → Fits v
      fit_at k v true q e = subst Fits (value_same u v e) fit
      fit_at k v false q e = H.fits k v e

      size_at : (k : Key) (z : Size) (n : ℕ) (c : Bool) → same_key x k ≡ c → (if c then Some u else st.store k) ≡ Some (word z n) → sizes k ≡ Some z
      size_at k z n true q e = subst (λ y. sizes y ≡ Some z) (same_key-true x k q) (size z n (value_same u (word z n) e))
      size_at k z n false q e = H.sized k z n e

  -- the value of a variable that stands alone
  abbrev pub CopyOf : Term → Value → Type 0
  CopyOf (var r) v = st.store (key_of r) ≡ Some v
  CopyOf t v = Unit {0}

  anything : {A : Type 0} (e : Evaluation A) → Yields (λ v. Unit {0}) e
  anything (stuck w) = tt
  anything (went ns v) = tt

  pub copy_ok : (t : Term) (w : Option Size) → Yields (CopyOf t) ((means t).run w st)
  copy_ok (num i at) w = tt
  copy_ok (truth b at) w = tt
  copy_ok (var r) w = yields_defined (λ v. st.store (key_of r) ≡ Some v) r.span (st.store (key_of r)) (λ v e. e)
  copy_ok (cell x i) w = anything _
  copy_ok (load p a) w = anything _
  copy_ok (neg a at) w = anything _
  copy_ok (inv a at) w = anything _
  copy_ok (cast z sign a at) w = anything _
  copy_ok (bin op a b at) w = anything _

  pub the_word_has : (k : Key) (y : Size) (n : ℕ) (P : ℕ → Type 0) → st.store k ≡ Some (word y n) → HasWord (st.store k) P → P n
  the_word_has k y n P e (z, m, q, h) = subst P (same z y m n (sym q ∙ e)) h
    where
      same : (z y : Size) (m n : ℕ) → Some (word z m) ≡ Some (word y n) → m ≡ n
      same z y m n e = cc e

  pub copied_says : (t : Term) (y : Size) (n : ℕ) (F : Key → Fact) (P : ℕ → Type 0) → ((k : Key) → s (F k) ≡ true → HasWord (st.store k) P) → CopyOf t (word y n) → copied s t F ≡ true → P n
  copied_says (var r) y n F P h c e = the_word_has (key_of r) y n P c (h (key_of r) e)
  copied_says (num i at) y n F P h c e = absurd (cc e)
  copied_says (truth b at) y n F P h c e = absurd (cc e)
  copied_says (cell x i) y n F P h c e = absurd (cc e)
  copied_says (load p a) y n F P h c e = absurd (cc e)
  copied_says (neg a at) y n F P h c e = absurd (cc e)
  copied_says (inv a at) y n F P h c e = absurd (cc e)
  copied_says (cast z sign a at) y n F P h c e = absurd (cc e)
  copied_says (bin op a b at) y n F P h c e = absurd (cc e)

  -- what a multiple of m gives: proved where the operations are
  abbrev pub MultipleOf : Term → ℕ → Type 0
  MultipleOf t n = (m : ℕ) → is_among m (2 ∷ 4 ∷ 8 ∷ []) ≡ true → multiple g s t m ≡ true → n % m ≡ 0

  word_new : (x : Key) (z : Size) (t : Term) (n : ℕ) → In (interval g s z t) n → CopyOf t (word z n) → MultipleOf t n → (f : Fact) → subject f ≡ x → of_word g s z t f ≡ true → Says entry (put st.store x (Some (word z n))) f
  word_new x z t n i c m (Set v) q e = moved entry IsSome (Some (word z n)) _ (put_at st.store x v _ q) refl
  word_new x z t n i c m (Cell a k) q e = absurd (cc e)
  word_new x z t n i c m (AtLeast v k) q e =
      let p = and_parts (not (is_read t)) _ e in
      let r = and_parts (is_among k g.consts) _ p.1 in
      let l : k ≤ (interval g s z t).lo = grind (arith, rules, r.1) in
      let a = i.0 in
      (z, n, put_at st.store x v _ q, omega (arith, l, a))
  word_new x z t n i c m (AtMost v k) q e =
      let p = and_parts (not (is_read t)) _ e in
      let r = and_parts (is_among k g.consts) _ p.1 in
      let l : (interval g s z t).hi ≤ k = grind (arith, rules, r.1) in
      let a = i.1 in
      (z, n, put_at st.store x v _ q, omega (arith, l, a))
  word_new x z t n i c m (Under v y) q e = (z, n, put_at st.store x v _ q, copied_says t z n (λ k. Under k y) (λ n. n < entry y) (λ k h. H.says (Under k y) h) c e)
  word_new x z t n i c m (Is v y) q e = (z, n, put_at st.store x v _ q, copied_says t z n (λ k. Is k y) (λ n. n ≡ entry y) (λ k h. H.says (Is k y) h) c e)
  word_new x z t n i c m (Multiple v k) q e = let p = and_parts (is_among k (2 ∷ 4 ∷ 8 ∷ [])) _ e in (z, n, put_at st.store x v _ q, m k p.0 p.1)

  -- what it is a multiple of, as a word of size z
  abbrev pub MultipleValue : Size → Term → Value → Type 0
  MultipleValue z t (word y n) = MultipleOf t n
  MultipleValue z t (integer j) = MultipleOf t (residue z j)
  MultipleValue z t (boolean c) = Unit {0}

  only_new : (x : Key) (u : Value) (f : Fact) → subject f ≡ x → only_set f ≡ true → Says entry (put st.store x (Some u)) f
  only_new x u (Set v) q e = moved entry IsSome (Some u) _ (put_at st.store x v _ q) refl
  only_new x u (Cell a k) q e = absurd (cc e)
  only_new x u (AtLeast v c) q e = absurd (cc e)
  only_new x u (AtMost v c) q e = absurd (cc e)
  only_new x u (Under v c) q e = absurd (cc e)
  only_new x u (Is v c) q e = absurd (cc e)
  only_new x u (Multiple v c) q e = absurd (cc e)

  pub no_copy : (t : Term) (j : ℤ) (z : Size) → CopyOf t (integer j) → CopyOf t (word z (residue z j))
  no_copy (var r) j z e = absurd (H.fits (key_of r) (integer j) e)
  no_copy (num i at) j z e = tt
  no_copy (truth b at) j z e = tt
  no_copy (cell x i) j z e = tt
  no_copy (load p a) j z e = tt
  no_copy (neg a at) j z e = tt
  no_copy (inv a at) j z e = tt
  no_copy (cast y sign a at) j z e = tt
  no_copy (bin op a b at) j z e = tt

  AsWord : Size → Term → ℕ → Type 0
  AsWord z t n = (n < modulus z) × In (interval g s z t) n × CopyOf t (word z n) × MultipleOf t n

  as_word : (at : Span) (z : Size) (t : Term) (k : Bool) (v : Value) → Good (interval g s z t) k z v → CopyOf t v → MultipleValue z t v → Yields (AsWord z t) (word_at at z v)
  unfolding AsWord
  as_word at z t k (word y n) h c m = yields_defined (AsWord z t) at (if same_size z y then Some n else None) (λ a e. by (same_size z y) refl a e)
    where
      by : (b : Bool) → same_size z y ≡ b → (a : ℕ) → (if b then Some n else None) ≡ Some a → (a < modulus z) × In (interval g s z t) a × CopyOf t (word z a) × MultipleOf t a
      by true q a e = let w = equal_sizes z y q in let i : n ≡ a = cc e in
          subst (λ a. (a < modulus z) × In (interval g s z t) a × CopyOf t (word z a) × MultipleOf t a) i
          (subst (λ q. n < modulus q) (sym w) h.0, h.1 (sym w), subst (λ q. CopyOf t (word q n)) (sym w) c, m)
      by false q a e = absurd (cc e)
  as_word at z t k (integer j) h c m = (residue_below z j, h.1, no_copy t j z c, m)
  as_word at z t k (boolean b) h c m = tt

  -- a value is written to a variable that holds words of size z or flags
  pub written_ok : (r : Ref) (knd : Kind) (z : Size) (t : Term) (k : Bool) (v : Value) → ((y : Size) → knd ≡ kind.Word y → (y ≡ z) × (sizes (key_of r) ≡ Some y)) → knd ≢ kind.Int → Good (interval g s z t) k z v → CopyOf t v → MultipleValue z t v
      → Yields (λ t'. Holds g sizes entry (renewed (key_of r) (gained g s knd (the_word z t)) s) t') (and_then (held_or_unset r.span knd (Some v)) (λ h. went [] (with_value st (key_of r) h)))
  unfolding AsWord
  written_ok r (kind.Word y) z t k v ws ni h c m =
      let e = (ws y refl).0 in
      let h' = subst (λ q. Good (interval g s q t) k q v) (sym e) h in
      let m' = subst (λ q. MultipleValue q t v) (sym e) m in
      subst (λ q. Yields (λ t'. Holds g sizes entry (renewed (key_of r) (of_word g s q t) s) t') (and_then (held_or_unset r.span (kind.Word y) (Some v)) (λ h. went [] (with_value st (key_of r) h)))) e
      (yields_then (λ o. (n : ℕ) × (o ≡ Some (word y n)) × AsWord y t n) (λ t'. Holds g sizes entry (renewed (key_of r) (of_word g s y t) s) t') (held_or_unset r.span (kind.Word y) (Some v)) (λ h. went [] (with_value st (key_of r) h))
      (yields_then (λ u. (n : ℕ) × (u ≡ word y n) × AsWord y t n) (λ o. (n : ℕ) × (o ≡ Some (word y n)) × AsWord y t n) (held r.span (kind.Word y) v) (λ h. went [] (Some h))
      (yields_then (AsWord y t) (λ u. (n : ℕ) × (u ≡ word y n) × AsWord y t n) (word_at r.span y v) (λ a. went [] (word y a)) (as_word r.span y t k v h' c m') (λ n a. (n, refl, a)))
      (λ u a. (a.0, ap Some a.1, a.2)))
      (λ o a. subst (λ q. Holds g sizes entry (renewed (key_of r) (of_word g s y t) s) (with_value st (key_of r) q)) (sym a.1)
      (set_ok (key_of r) (word y a.0) (of_word g s y t) a.2.0 (λ q n i. (ws y refl).1 ∙ ap Some (same y q a.0 n i)) (λ f q i. word_new (key_of r) y t a.0 a.2.1 a.2.2 a.2.3 f q i))))
    where
      same : (y z : Size) (a b : ℕ) → word y a ≡ word z b → y ≡ z
      same y z a b e = cc e
  written_ok r kind.Bool z t k (boolean b) ws ni h c m = set_ok (key_of r) (boolean b) only_set tt (λ q n i. absurd (cc i)) (λ f q i. only_new (key_of r) (boolean b) f q i)
  written_ok r kind.Bool z t k (word y n) ws ni h c m = tt
  written_ok r kind.Bool z t k (integer j) ws ni h c m = tt
  written_ok r kind.Int z t k v ws ni h c m = absurd (ni refl)
  written_ok r kind.Undeclared z t k v ws ni h c m = tt
  written_ok r (kind.Array y n) z t k v ws ni h c m = tt
