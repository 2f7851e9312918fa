-- Where conditions are met, no typed term is stuck.
use Rattle.std.proofs.Common.{◌≡◌, ◌⊎◌, inl, inr, ℕ, zero, suc, ◌+◌, ◌%◌, ◌^◌, ◌<◌, ◌≤◌, List, [], ◌∷◌, Option, Some, None, Bool, true, false, refl, ap, sym, ◌∙◌, subst, arith, rules, if◌then◌else◌, ℤ}
use Rattle.std.specs.Prelude.{◌||◌, nat_lt, IsSome}
use Rattle.std.specs.Option.{option_or}
use Rattle.std.proofs.lemmas.Bool.{and_parts}
use Rattle.jz_tree.specs.Span.{Span}
use Rattle.x64_insn.specs.Size.{Size}
use Rattle.x64_insn.specs.Size.TheVariants.{S8, S16, S32, S64}
use Rattle.x64_insn.specs.Sizes.{bytes_of}
use Rattle.x64_insn.specs.Words.{residue}
use Rattle.x64_insn.specs.Memory.{loaded}
use Rattle.jz_tree.specs.declared.expr.BinOp.{BinOp}
use Rattle.jz_tree.specs.declared.expr.BinOp.TheVariants as o
use Rattle.jz_runs.specs.Rules.{stuck, went}
use Rattle.jz_meaning.specs.declared.access.Kind.TheVariants as kind
use Rattle.jz_meaning.specs.declared.value.Why.TheVariants.{Bounds, Address, Align, Init, Divide}
use Rattle.jz_meaning.specs.Attempts.{Evaluation, stuck_at, numbers_first, and_then, defined}
use Rattle.jz_meaning.specs.States.{Value, word, boolean, integer, Key, State}
use Rattle.jz_meaning.specs.Operators.{binary, is_shift, is_settled, word_at, negated, inverted, cast as cast_value}
use Rattle.jz_meaning.specs.Values.{Ref, key_of, cell_key, left_wanted, right_wanted, with_right, in_cells, index_at, cell_value, load_at, load_word, accessed, is_aligned}
use Rattle.jz_run_laws.specs.Kinds.{Kinds}
use Rattle.jz_terms.specs.Terms.{Spot, Term, num, truth, var, cell, load, neg, inv, cast, bin, means, size_in}
use Rattle.jz_facts.specs.Facts.{Set, Cell, Facts, Given}
use Rattle.jz_facts.specs.Intervals.{size_or_64, is_multiple}
use Rattle.jz_fact_laws.specs.Saying.{Yields, is_number, MultipleWord}
use Rattle.jz_fact_laws.proofs.Fitting.{yields_then, yields_all}
use Rattle.jz_fact_laws.proofs.MultipleTerms.{multiple_word}
use Rattle.jz_alarms.specs.Conditions.{named, memory, division, unless, or_else, readings, sum_of, in_some_reading, asks_access, all_cells, cell_set, asks_index, divides, asks}
use Rattle.jz_alarms.specs.AlarmLaws.{Calm}
use Rattle.jz_alarms.proofs.Meeting.{calm_term}
use Rattle.jz_standing.specs.Typing.{IsRead, sizes_of, NoNumbers, is_computed, is_carried, IsFlag, IsCount, IsSum, IsWord, IsAnswer}
use Rattle.jz_standing.specs.Standing.{Stands}
use Rattle.jz_standing.proofs.Held.{holds}
use Rattle.jz_standing.proofs.Counts.{counted}
use Rattle.jz_standing.proofs.SumForms.{summed, sum_word}
use Rattle.jz_standing.proofs.Making.{Made, OfSize, IsTruth, OfCount, binary_word, binary_flag, binary_answer, binary_shift, negated_made, cast_made, computed_no_shift, compared_no_shift}
use Rattle.jz_standing.proofs.Typed.{no_number, typed, answered, flag_typed, count_typed, compared_wanted}
use Rattle.jz_standing.proofs.Plain.{plain_word, plain_answer, sized_word, sized_answer}
use Rattle.jz_unstuck.proofs.Totals.{some_is, Bytes, bytes_loaded}
use Rattle.jz_unstuck.proofs.Sums.{met, both_met, Runs, StandsFor, total_of, held_vars, totals}
use Rattle.jz_unstuck.proofs.Regions.{bytes_there}

-- it went, or is stuck for a reason of which conditions of intervals speak
abbrev pub Firm : {A : Type 0} → Evaluation A → Type 0
Firm (stuck k) = (k.why ≡ Bounds) ⊎ (k.why ≡ Divide)
Firm (went ns x) = Unit {0}

firm_first : {A : Type 0} (ns : List ℕ) (e : Evaluation A) → Firm e → Firm (numbers_first ns e)
firm_first ns (stuck k) h = h
firm_first ns (went ms x) h = tt

pub firm_then : {A B : Type 0} (Q : A → Type 0) (e : Evaluation A) (f : A → Evaluation B) → Firm e → Yields Q e → ((x : A) → Q x → Firm (f x)) → Firm (and_then e f)
firm_then Q (stuck k) f h q g = h
firm_then Q (went ns x) f h q g = firm_first ns (f x) (g x q)

made_firm : {A : Type 0} (Q : A → Type 0) (e : Evaluation A) → Made Q e → Firm e
made_firm Q (stuck k) h = inr h
made_firm Q (went ns x) h = tt

runs_firm : {A : Type 0} (Q : A → Type 0) (e : Evaluation A) → Runs Q e → Firm e
runs_firm Q (stuck k) h = absurd h
runs_firm Q (went ns x) h = tt

runs_yields : {A : Type 0} (Q : A → Type 0) (e : Evaluation A) → Runs Q e → Yields Q e
runs_yields Q (stuck k) h = tt
runs_yields Q (went ns x) h = h

yields_two : {A : Type 0} (P Q : A → Type 0) (e : Evaluation A) → Yields P e → Yields Q e → Yields (λ x. P x × Q x) e
yields_two P Q (stuck k) h g = tt
yields_two P Q (went ns x) h g = (h, g)

firm_if : {A : Type 0} (c : Bool) (a b : Evaluation A) → Firm a → Firm b → Firm (if c then a else b)
firm_if true a b h k = h
firm_if false a b h k = k

there_firm : {A : Type 0} (at : Span) (p : Option A) → IsSome p → Firm (defined at p)
there_firm at None h = absurd (cc h)
there_firm at (Some x) h = tt

pub some_size : (z : Size) → 0 < bytes_of z
some_size S8 = omega arith
some_size S16 = omega arith
some_size S32 = omega arith
some_size S64 = omega arith

-- a value of an index or an address as a word
pub word_of_value : (at : Span) (i : ℤ) (k : Bool) (v : Value) → StandsFor i k v → Runs (λ a. a ≡ residue S64 i) (word_at at S64 v)
word_of_value at i k (word z a) h = subst (λ y. Runs (λ a. a ≡ residue S64 i) (word_at at S64 (word y a))) (sym h.0) h.1
word_of_value at i k (integer j) h = ap (residue S64) h.1
word_of_value at i k (boolean c) h = absurd h

-- the address is a multiple of the size
abbrev pub IsAligned : Size → Value → Type 0
IsAligned z (word y n) = is_aligned z n ≡ true
IsAligned z (integer j) = is_aligned z (residue S64 j) ≡ true
IsAligned z (boolean c) = Unit {0}

aligned_by : (m : ℕ) (z : Size) → bytes_of z ≡ m → (v : Value) → MultipleWord m v → IsAligned z v
aligned_by m z e (word y n) h = let q : n % bytes_of z ≡ 0 = ap (λ b. n % b) e ∙ h in grind (arith, rules, q)
aligned_by m z e (integer j) h = let q : residue S64 j % bytes_of z ≡ 0 = ap (λ b. residue S64 j % b) e ∙ h S64 in grind (arith, rules, q)
aligned_by m z e (boolean c) h = tt

module _ (g : Given) (kinds : Kinds) (in_frame : Key → Bool) (entry : Key → ℕ) (s : Facts) (st : State) (H : Stands g kinds in_frame entry s st) (nn : NoNumbers kinds) where
  abbrev Here : Option Size → Term → Evaluation Value
  Here w t = (means t).run w st

  right_firm : (op : BinOp) (P : Value → Type 0) (b : Term) (at : Span) (v : Option Size) (x : Value)
      → Firm (Here (right_wanted op v) b) → Yields P (Here (right_wanted op v) b)
      → ((y : Value) → P y → Firm (binary op at v x y))
      → Firm (with_right op (means b).run at v st x)
  right_firm op P b at v x f q h = firm_if (is_settled op x) (went [] x) (and_then (Here (right_wanted op v) b) (λ y. binary op at v x y)) tt (firm_then P (Here (right_wanted op v) b) (λ y. binary op at v x y) f q h)

  -- ---- variables

  set_there : (x : Ref) (w : Option Size) → asks g s w (var x) ≡ None → IsSome (st.store (key_of x))
  set_there x w q = H.says (Set (key_of x)) (met (s (Set (key_of x))) x.span Init (named x.name x.cell) q)

  var_firm : (x : Ref) (w : Option Size) → asks g s w (var x) ≡ None → Firm (Here w (var x))
  var_firm x w q = there_firm x.span (st.store (key_of x)) (set_there x w q)

  flag_firm : (t : Term) (w : Option Size) → IsFlag kinds in_frame t → asks g s w t ≡ None → Firm (Here w t)
  flag_firm (var x) w i q = var_firm x w q
  flag_firm (num n at) w i q = absurd i
  flag_firm (truth b at) w i q = absurd i
  flag_firm (cell x j) w i q = absurd i
  flag_firm (load p a) w i q = absurd i
  flag_firm (neg a at) w i q = absurd i
  flag_firm (inv a at) w i q = absurd i
  flag_firm (cast y sign a at) w i q = absurd i
  flag_firm (bin op a b at) w i q = absurd i

  count_firm : (t : Term) → IsCount kinds in_frame t → asks g s (Some S8) t ≡ None → Firm (Here (Some S8) t)
  count_firm = counted kinds in_frame (λ t. asks g s (Some S8) t ≡ None → Firm (Here (Some S8) t)) (λ n at q. tt) (λ x n t at e i q.
      firm_then (OfSize S8 false) (Here (Some S8) (var x)) (with_right o.And (means (num n t)).run at (Some S8) st) (var_firm x (Some S8) (both_met (asks g s (Some S8) (var x)) _ q).0) (typed g kinds in_frame entry s st H (var x) (Some S8) S8 (e, i)) (λ v h.
      right_firm o.And (λ y. y ≡ integer n) (num n t) at (Some S8) v tt refl (λ y k.
      subst (λ y. Firm (binary o.And at (Some S8) v y)) (sym k) (made_firm (OfSize S8 false) (binary o.And at (Some S8) v (integer n)) (binary_word o.And refl at (Some S8) S8 false true v (integer n) refl h refl)))))

  -- ---- cells

  one_of_all : (a : Key) (n i : ℕ) → all_cells g s a n ≡ true → i < n → s (Cell a i) ≡ true
  one_of_all a zero i e l = absurd (omega (arith, l))
  one_of_all a (suc n) i e l = by (λ r. one_of_all a n i (and_parts (s (Cell a n)) (all_cells g s a n) e).1 r) (nat_lt i n) refl
    where
      by : (i < n → s (Cell a i) ≡ true) → (c : Bool) → nat_lt i n ≡ c → s (Cell a i) ≡ true
      by f true q = f (let r : i < n = grind (arith, rules, q) in r)
      by f false q =
          let r : n ≤ i = grind (arith, rules, q) in
          let j : n ≡ i = omega (arith, r, l) in
          subst (λ k. s (Cell a k) ≡ true) j (and_parts (s (Cell a n)) (all_cells g s a n) e).0

  cell_there : (x : Ref) (z : Size) (m : ℕ) (j : Term) → IsSum kinds in_frame j → cell_set g s x (kind.Array z m) j ≡ true → (n : ℕ) → n ≡ residue S64 (total_of st j) → n < m → IsSome (st.store (cell_key x n))
  cell_there x z m = summed kinds in_frame (λ j. cell_set g s x (kind.Array z m) j ≡ true → (n : ℕ) → n ≡ residue S64 (total_of st j) → n < m → IsSome (st.store (cell_key x n)))
      (λ i at e n q l. subst (λ k. IsSome (st.store (cell_key x k))) (sym q) (H.says (Cell (key_of x) (residue S64 i)) e))
      (λ r k i e n q l. H.says (Cell (key_of x) n) (one_of_all (key_of x) m n e l))
      (λ k t r at d i e n q l. H.says (Cell (key_of x) n) (one_of_all (key_of x) m n e l))
      (λ r k t at d i e n q l. H.says (Cell (key_of x) n) (one_of_all (key_of x) m n e l))
      (λ a b at d i j p r e n q l. H.says (Cell (key_of x) n) (one_of_all (key_of x) m n e l))
      (λ a i t at d j p e n q l. H.says (Cell (key_of x) n) (one_of_all (key_of x) m n e l))

  cells_firm : (at : Span) (z : Size) (m n : ℕ) → Firm (in_cells at (kind.Array z m) n)
  cells_firm at z m n = firm_if (nat_lt n m) (went (n ∷ []) n) (stuck_at at Bounds) tt (inl refl)

  cells_within : (at : Span) (z : Size) (m n : ℕ) (i : ℤ) → n ≡ residue S64 i → Yields (λ n. (n ≡ residue S64 i) × (n < m)) (in_cells at (kind.Array z m) n)
  cells_within at z m n i e = by (nat_lt n m) refl
    where
      by : (c : Bool) → nat_lt n m ≡ c → Yields (λ n. (n ≡ residue S64 i) × (n < m)) (if c then went (n ∷ []) n else stuck_at at Bounds)
      by true q = (e, let r : n < m = grind (arith, rules, q) in r)
      by false q = tt

  index_firm : (x : Ref) (z : Size) (m : ℕ) → x.kind ≡ kind.Array z m → (i : ℤ) (k : Bool) (v : Value) → StandsFor i k v → Firm (index_at x v)
  index_firm x z m e i k v h =
      subst (λ d. Firm (and_then (word_at x.span S64 v) (in_cells x.span d))) (sym e)
      (firm_then (λ a. a ≡ residue S64 i) (word_at x.span S64 v) (in_cells x.span (kind.Array z m)) (runs_firm (λ a. a ≡ residue S64 i) (word_at x.span S64 v) (word_of_value x.span i k v h)) (runs_yields (λ a. a ≡ residue S64 i) (word_at x.span S64 v) (word_of_value x.span i k v h)) (λ n q. cells_firm x.span z m n))

  index_within : (x : Ref) (z : Size) (m : ℕ) → x.kind ≡ kind.Array z m → (i : ℤ) (k : Bool) (v : Value) → StandsFor i k v → Yields (λ n. (n ≡ residue S64 i) × (n < m)) (index_at x v)
  index_within x z m e i k v h =
      subst (λ d. Yields (λ n. (n ≡ residue S64 i) × (n < m)) (and_then (word_at x.span S64 v) (in_cells x.span d))) (sym e)
      (yields_then (λ a. a ≡ residue S64 i) (λ n. (n ≡ residue S64 i) × (n < m)) (word_at x.span S64 v) (in_cells x.span (kind.Array z m)) (runs_yields (λ a. a ≡ residue S64 i) (word_at x.span S64 v) (word_of_value x.span i k v h)) (λ n q. cells_within x.span z m n i q))

  -- ---- loads

  aligned_here : (z : Size) (a : Term) → IsSum kinds in_frame a → is_multiple g s a (bytes_of z) ≡ true → Yields (IsAligned z) (Here (Some S64) a)
  aligned_here S8 a i e = yields_all (λ v. Unit {0}) (IsAligned S8) (Here (Some S64) a) (λ v u. any v) (any_here (Here (Some S64) a))
    where
      any : (v : Value) → IsAligned S8 v
      any (word y n) = grind (arith, rules)
      any (integer j) = grind (arith, rules)
      any (boolean c) = tt

      any_here : (e : Evaluation Value) → Yields (λ v. Unit {0}) e
      any_here (stuck k) = tt
      any_here (went ns v) = tt
  aligned_here S16 a i e = yields_all (MultipleWord 2) (IsAligned S16) (Here (Some S64) a) (aligned_by 2 S16 refl) (multiple_word g (sizes_of kinds) entry s st (holds g kinds in_frame entry s st nn H) 2 refl a (plain_word kinds in_frame a (Some S64) S64 (sum_word kinds in_frame a i)) (Some S64) e)
  aligned_here S32 a i e = yields_all (MultipleWord 4) (IsAligned S32) (Here (Some S64) a) (aligned_by 4 S32 refl) (multiple_word g (sizes_of kinds) entry s st (holds g kinds in_frame entry s st nn H) 4 refl a (plain_word kinds in_frame a (Some S64) S64 (sum_word kinds in_frame a i)) (Some S64) e)
  aligned_here S64 a i e = yields_all (MultipleWord 8) (IsAligned S64) (Here (Some S64) a) (aligned_by 8 S64 refl) (multiple_word g (sizes_of kinds) entry s st (holds g kinds in_frame entry s st nn H) 8 refl a (plain_word kinds in_frame a (Some S64) S64 (sum_word kinds in_frame a i)) (Some S64) e)

  pub may_be_aligned : (u : Bool) (z : Size) (a : Term) → IsSum kinds in_frame a → (u || is_multiple g s a (bytes_of z)) ≡ true → Yields (λ v. (u ≡ true) ⊎ IsAligned z v) (Here (Some S64) a)
  may_be_aligned true z a i e = any (Here (Some S64) a)
    where
      any : (e : Evaluation Value) → Yields (λ v. (true ≡ true) ⊎ IsAligned z v) e
      any (stuck k) = tt
      any (went ns v) = inl refl
  may_be_aligned false z a i e = yields_all (IsAligned z) (λ v. (false ≡ true) ⊎ IsAligned z v) (Here (Some S64) a) (λ v h. inr h) (aligned_here z a i e)

  pub aligned_at : (u : Bool) (z : Size) (i : ℤ) (k : Bool) (v : Value) (a : ℕ) → StandsFor i k v → a ≡ residue S64 i → (u ≡ true) ⊎ IsAligned z v → (u || is_aligned z a) ≡ true
  aligned_at u z i k v a h e (inl q) = ap (λ c. c || is_aligned z a) q
  aligned_at u z i k (word y n) a h e (inr q) = or_right u (is_aligned z a) (ap (is_aligned z) (e ∙ sym h.1) ∙ q)
    where
      or_right : (c d : Bool) → d ≡ true → (c || d) ≡ true
      or_right true d e = refl
      or_right false d e = e
  aligned_at u z i k (integer j) a h e (inr q) = or_right u (is_aligned z a) (ap (is_aligned z) (e ∙ sym (ap (residue S64) h.1)) ∙ q)
    where
      or_right : (c d : Bool) → d ≡ true → (c || d) ≡ true
      or_right true d e = refl
      or_right false d e = e
  aligned_at u z i k (boolean c) a h e (inr q) = absurd h

  load_firm : (p : Spot) (y : Option Size) (z : Size) (a : ℕ) → y ≡ Some z → (a + bytes_of z ≤ 2 ^ 64) × Bytes st.memory a (bytes_of z) → (p.unaligned || is_aligned z a) ≡ true → Firm (load_word p.span p.unaligned y a st.memory)
  load_firm p None z a e b q = absurd (cc e)
  load_firm p (Some y) z a e b q =
      let f : y ≡ z = same e in
      let l = some_is (loaded st.memory a (bytes_of z)) (bytes_loaded st.memory a (bytes_of z) b.0 b.1) in
      subst (λ r. Firm (load_word p.span p.unaligned (Some r) a st.memory)) (sym f)
      (subst (λ r. Firm (and_then (accessed p.span p.unaligned z a r) (λ b. went [] (word z b)))) (sym l.1)
      (subst (λ c. Firm (and_then (if c then went (a ∷ []) l.0 else stuck_at p.span Align) (λ b. went [] (word z b)))) (sym q) tt))
    where
      same : {x y : Size} → Some x ≡ Some y → x ≡ y
      same e = cc e

  -- ---- terms

  pub sum_firm : (t : Term) → IsSum kinds in_frame t → asks g s (Some S64) t ≡ None → Firm (Here (Some S64) t)
  sum_firm t i q = runs_firm (StandsFor (total_of st t) (is_number t)) (Here (Some S64) t) (totals g kinds in_frame entry s st H nn t i (held_vars g kinds in_frame entry s st H nn t i q))

  pub sum_yields : (t : Term) → IsSum kinds in_frame t → asks g s (Some S64) t ≡ None → Yields (StandsFor (total_of st t) (is_number t)) (Here (Some S64) t)
  sum_yields t i q = runs_yields (StandsFor (total_of st t) (is_number t)) (Here (Some S64) t) (totals g kinds in_frame entry s st H nn t i (held_vars g kinds in_frame entry s st H nn t i q))

  pub firm_word : (t : Term) (w : Option Size) (z : Size) → IsWord kinds in_frame w z t → asks g s w t ≡ None → Firm (Here w t)
  firm_word (num n at) w z i q = tt
  firm_word (truth b at) w z i q = tt
  firm_word (var x) w z i q = var_firm x w q
  firm_word (cell x j) w z i q =
      let a = both_met (asks g s (Some S64) j) _ q in
      let b = both_met (asks_index g s x j) _ a.1 in
      let c : cell_set g s x (kind.Array z i.0) j ≡ true = subst (λ d. cell_set g s x d j ≡ true) i.1.is (met (cell_set g s x x.kind j) x.span Init (named x.name x.cell) b.1) in
      firm_then (StandsFor (total_of st j) (is_number j)) (Here (Some S64) j) (λ v. cell_value x v st.store) (sum_firm j i.2 a.0) (sum_yields j i.2 a.0) (λ v h.
      firm_then (λ n. (n ≡ residue S64 (total_of st j)) × (n < i.0)) (index_at x v) (λ n. defined x.span (st.store (cell_key x n))) (index_firm x z i.0 i.1.is (total_of st j) (is_number j) v h) (index_within x z i.0 i.1.is (total_of st j) (is_number j) v h) (λ n k.
      there_firm x.span (st.store (cell_key x n)) (cell_there x z i.0 j i.2 c n k.0 k.1)))
  firm_word (load p a) w z i q =
      let d = both_met (asks g s (Some S64) a) _ q in
      let e : asks_access g s p z a ≡ None = subst (λ u. asks_access g s p (size_or_64 u) a ≡ None) i.0 d.1 in
      let f = both_met (unless (in_some_reading g s (bytes_of z) (readings (sum_of a))) p.span Address memory) _ e in
      let r = met (in_some_reading g s (bytes_of z) (readings (sum_of a))) p.span Address memory f.0 in
      let u = met (p.unaligned || is_multiple g s a (bytes_of z)) p.span Align memory f.1 in
      let held = held_vars g kinds in_frame entry s st H nn a i.1 d.0 in
      firm_then (λ v. StandsFor (total_of st a) (is_number a) v × ((p.unaligned ≡ true) ⊎ IsAligned z v)) (Here (Some S64) a) (λ v. load_at (record { size = p.size; at = (means a).run (Some S64); unaligned = p.unaligned; span = p.span }) w v st.memory) (sum_firm a i.1 d.0)
      (yields_two (StandsFor (total_of st a) (is_number a)) (λ v. (p.unaligned ≡ true) ⊎ IsAligned z v) (Here (Some S64) a) (sum_yields a i.1 d.0) (may_be_aligned p.unaligned z a i.1 u)) (λ v h.
      let x = word_of_value p.span (total_of st a) (is_number a) v h.0 in
      firm_then (λ n. n ≡ residue S64 (total_of st a)) (word_at p.span S64 v) (λ n. load_word p.span p.unaligned (option_or p.size w) n st.memory) (runs_firm (λ n. n ≡ residue S64 (total_of st a)) (word_at p.span S64 v) x) (runs_yields (λ n. n ≡ residue S64 (total_of st a)) (word_at p.span S64 v) x) (λ n k.
      load_firm p (option_or p.size w) z n i.0 (bytes_there g kinds in_frame entry s st H nn (bytes_of z) (some_size z) a i.1 held r n k) (aligned_at p.unaligned z (total_of st a) (is_number a) v n h.0 k h.1)))
  firm_word (neg a at) w z i q =
      firm_then (OfSize z (is_number a)) (Here (option_or w (size_in a)) a) (λ v. defined at (negated v)) (firm_word a (option_or w (size_in a)) z i.1 q) (typed g kinds in_frame entry s st H a (option_or w (size_in a)) z i.1) (λ v h.
      made_firm (OfSize z false) (defined at (negated v)) (negated_made at z v (no_number z (is_number a) v i.0 h)))
  firm_word (inv a at) w z i q = firm_then (OfSize z (is_number a)) (Here (option_or w (size_in a)) a) (λ v. went [] (inverted v)) (firm_word a (option_or w (size_in a)) z i.1 q) (typed g kinds in_frame entry s st H a (option_or w (size_in a)) z i.1) (λ v h. tt)
  firm_word (cast y sign a at) w z i q =
      firm_then (OfSize i.1 (is_number a)) (Here (size_in a) a) (λ v. defined at (cast_value y sign v)) (firm_word a (size_in a) i.1 i.3 q) (typed g kinds in_frame entry s st H a (size_in a) i.1 i.3) (λ v h.
      made_firm (OfSize y false) (defined at (cast_value y sign v)) (cast_made at i.1 y sign v (no_number i.1 (is_number a) v (read_no_number i.1 a i.2) h)))
    where
      read_no_number : (u : Size) (a : Term) → IsRead u a → is_number a ≡ false
      read_no_number u (var x) r = refl
      read_no_number u (cell x j) r = refl
      read_no_number u (load p b) r = refl
      read_no_number u (num n at) r = absurd r
      read_no_number u (truth b at) r = absurd r
      read_no_number u (neg b at) r = absurd r
      read_no_number u (inv b at) r = absurd r
      read_no_number u (cast y sign b at) r = absurd r
      read_no_number u (bin op b c at) r = absurd r
  firm_word (bin op a b at) w z i q =
      let v = left_wanted op w (size_in a) (size_in b) in
      let m = both_met (asks g s v a) _ q in
      let n = both_met (asks g s (right_wanted op v) b) _ m.1 in
      firm_then (OfSize z (is_number a)) (Here v a) (with_right op (means b).run at v st) (firm_word a v z i.2 m.0) (typed g kinds in_frame entry s st H a v z i.2) (λ x h. on_right v (λ k r. firm_word b v z k r) i.0 x h n.0 i.3)
    where
      on_right : (v : Option Size) → (IsWord kinds in_frame v z b → asks g s v b ≡ None → Firm (Here v b)) → v ≡ Some z → (x : Value) → OfSize z (is_number a) x → asks g s (right_wanted op v) b ≡ None
          → (((is_shift op ≡ true) × IsCount kinds in_frame b) ⊎ (((is_computed op ≡ true) × IsWord kinds in_frame v z b) ⊎ ((is_carried op ≡ true) × (is_number a ≡ false) × IsFlag kinds in_frame b)))
          → Firm (with_right op (means b).run at v st x)
      on_right v f e x h q (inl c) =
          let r : right_wanted op v ≡ Some S8 = ap (λ d. if d then Some S8 else v) c.0 in
          right_firm op (OfCount (is_number b)) b at v x
          (subst (λ u. Firm (Here u b)) (sym r) (count_firm b c.1 (subst (λ u. asks g s u b ≡ None) r q)))
          (subst (λ u. Yields (OfCount (is_number b)) (Here u b)) (sym r) (count_typed g kinds in_frame entry s st H b c.1))
          (λ y k. made_firm (OfSize z false) (binary op at v x y) (binary_shift op c.0 at v z (is_number a) (is_number b) x y e i.1 h k))
      on_right v f e x h q (inr (inl c)) =
          let r : right_wanted op v ≡ v = ap (λ d. if d then Some S8 else v) (computed_no_shift op c.0) in
          right_firm op (OfSize z (is_number b)) b at v x
          (subst (λ u. Firm (Here u b)) (sym r) (f c.1 (subst (λ u. asks g s u b ≡ None) r q)))
          (subst (λ u. Yields (OfSize z (is_number b)) (Here u b)) (sym r) (typed g kinds in_frame entry s st H b v z c.1))
          (λ y k. made_firm (OfSize z false) (binary op at v x y) (binary_word op c.0 at v z (is_number a) (is_number b) x y i.1 h k))
      on_right v f e x h q (inr (inr c)) =
          right_firm op IsTruth b at v x (flag_firm b (right_wanted op v) c.2 q) (flag_typed g kinds in_frame entry s st H b (right_wanted op v) c.2)
          (λ y k. made_firm (OfSize z false) (binary op at v x y) (binary_flag op c.0 at v z x y (no_number z (is_number a) x c.1 h) k))

  pub firm_answer : (t : Term) (w : Option Size) → IsAnswer kinds in_frame t → asks g s w t ≡ None → Firm (Here w t)
  firm_answer (truth b at) w i q = tt
  firm_answer (var x) w i q = var_firm x w q
  firm_answer (inv a at) w i q = firm_then (λ v. Unit {0}) (Here (option_or w (size_in a)) a) (λ v. went [] (inverted v)) (firm_answer a (option_or w (size_in a)) i q) (any (Here (option_or w (size_in a)) a)) (λ v h. tt)
    where
      any : (e : Evaluation Value) → Yields (λ v. Unit {0}) e
      any (stuck k) = tt
      any (went ns v) = tt
  firm_answer (bin op a b at) w i q = by (left_wanted op w (size_in a) (size_in b)) (compared_wanted op w (size_in a) (size_in b) i.0) q
    where
      by : (v : Option Size) → left_wanted op None (size_in a) (size_in b) ≡ v → or_else (asks g s v a) (or_else (asks g s (right_wanted op v) b) (unless (divides g s op (size_or_64 v) b) at Divide division)) ≡ None → Firm (and_then (Here v a) (with_right op (means b).run at v st))
      by v e q =
          let m = both_met (asks g s v a) _ q in
          let n = both_met (asks g s (right_wanted op v) b) _ m.1 in
          let r : right_wanted op v ≡ v = ap (λ d. if d then Some S8 else v) (compared_no_shift op i.0) in
          let wa = subst (λ u. IsWord kinds in_frame u i.1 a) e i.4 in
          let wb = subst (λ u. IsWord kinds in_frame u i.1 b) e i.5 in
          firm_then (OfSize i.1 (is_number a)) (Here v a) (with_right op (means b).run at v st) (firm_word a v i.1 wa m.0) (typed g kinds in_frame entry s st H a v i.1 wa) (λ x h.
          right_firm op (OfSize i.1 (is_number b)) b at v x
          (subst (λ u. Firm (Here u b)) (sym r) (firm_word b v i.1 wb (subst (λ u. asks g s u b ≡ None) r n.0)))
          (subst (λ u. Yields (OfSize i.1 (is_number b)) (Here u b)) (sym r) (typed g kinds in_frame entry s st H b v i.1 wb))
          (λ y k. made_firm IsTruth (binary op at v x y) (binary_answer op i.0 at v i.1 (is_number a) (is_number b) x y i.3 h k)))
  firm_answer (num n at) w i q = absurd i
  firm_answer (cell x j) w i q = absurd i
  firm_answer (load p a) w i q = absurd i
  firm_answer (neg a at) w i q = absurd i
  firm_answer (cast y sign a at) w i q = absurd i

  -- ---- never stuck

  firm_and_calm : (Q : Value → Type 0) (e : Evaluation Value) → Firm e → Calm e → Yields Q e → Runs Q e
  firm_and_calm Q (stuck k) (inl f) c y = c.0 f
  firm_and_calm Q (stuck k) (inr f) c y = c.1 f
  firm_and_calm Q (went ns v) f c y = y

  pub word_runs : (t : Term) (w : Option Size) (z : Size) → IsWord kinds in_frame w z t → asks g s w t ≡ None → Runs (OfSize z (is_number t)) (Here w t)
  word_runs t w z i q = firm_and_calm (OfSize z (is_number t)) (Here w t) (firm_word t w z i q)
      (calm_term g (sizes_of kinds) entry s st (holds g kinds in_frame entry s st nn H) t w (plain_word kinds in_frame t w z i) (sized_word g kinds in_frame entry s st H t w z i) q)
      (typed g kinds in_frame entry s st H t w z i)

  pub answer_runs : (t : Term) (w : Option Size) → IsAnswer kinds in_frame t → asks g s w t ≡ None → Runs IsTruth (Here w t)
  answer_runs t w i q = firm_and_calm IsTruth (Here w t) (firm_answer t w i q)
      (calm_term g (sizes_of kinds) entry s st (holds g kinds in_frame entry s st nn H) t w (plain_answer kinds in_frame t i) (sized_answer g kinds in_frame entry s st H t w i) q)
      (answered g kinds in_frame entry s st H t w i)
