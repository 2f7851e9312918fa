-- Where a term's conditions are met, it is stuck neither for Bounds nor for Divide.
use Rattle.std.proofs.Common.{◌≡◌, ◌≢◌, ℕ, ◌-◌, ◌/◌, ◌%◌, ◌<◌, ◌≤◌, List, [], ◌∷◌, Option, Some, None, Bool, true, false, refl, sym, subst, arith, rules, if◌then◌else◌}
use Rattle.std.specs.Prelude.{◌==◌, nat_le, nat_lt, ℤ, ◌||◌, int_div, int_rem}
use Rattle.std.specs.Option.{option_or}
use Rattle.std.proofs.lemmas.Bool.{and_parts}
use Rattle.jz_tree.specs.Span.{Span}
use Rattle.x64_insn.specs.Size.{Size}
use Rattle.x64_insn.specs.Size.TheVariants.{S64}
use Rattle.x64_insn.specs.Sizes.{bytes_of, modulus, half, signed}
use Rattle.x64_insn.specs.Words.{residue}
use Rattle.x64_insn.specs.Memory.{loaded}
use Rattle.jz_words.proofs.Residues.{double_half}
use Rattle.jz_tree.specs.declared.expr.BinOp.{BinOp}
use Rattle.jz_tree.specs.declared.expr.BinOp.TheVariants as o
use Rattle.jz_runs.specs.Rules.{stuck, went}
use Rattle.jz_meaning.specs.declared.value.Why.{Why}
use Rattle.jz_meaning.specs.declared.value.Why.TheVariants.{Bounds, Align, Init, Divide}
use Rattle.jz_meaning.specs.declared.access.Kind.{Kind}
use Rattle.jz_meaning.specs.declared.access.Kind.TheVariants as kind
use Rattle.jz_meaning.specs.Attempts.{Evaluation, stuck_at, numbers_first, and_then, defined}
use Rattle.jz_meaning.specs.States.{Value, word, boolean, integer, Key, State}
use Rattle.jz_meaning.specs.Operators.{same_size, word_of, word_at, divided, signed_divided, is_least_by_minus_one, sign_word, plain, on_words, by_flag, joined, is_settled, combined, shifted, binary, is_shift, negated, inverted, cast as cast_value}
use Rattle.jz_meaning.specs.Values.{Ref, key_of, cell_key, left_wanted, right_wanted, with_right, index_at, in_cells, cell_value, load_at, load_word, address_at, accessed, is_aligned}
use Rattle.jz_meaning.proofs.Widths.{equal_sizes}
use Rattle.jz_terms.specs.Terms.{Term, num, truth, var, cell, load, neg, inv, cast, bin, means, size_in}
use Rattle.jz_intervals.specs.declared.interval.Interval.{Interval}
use Rattle.jz_facts.specs.Facts.{Facts, Given}
use Rattle.jz_facts.specs.Intervals.{size_or_64, interval}
use Rattle.jz_alarms.specs.Conditions.{Alarm, Target, named, division, or_else, unless, bounds_of, asks_index, divides, asks}
use Rattle.jz_alarms.specs.AlarmLaws.{Calm}
use Rattle.jz_fact_laws.specs.Saying.{Holds, Yields, In, HasSize, is_number, IsPlain, AreSized}
use Rattle.jz_fact_laws.proofs.Fitting.{yields_defined}
use Rattle.jz_fact_laws.proofs.Ranges.{Good, term_ok}

calm_first : {A : Type 0} (ns : List ℕ) (e : Evaluation A) → Calm e → Calm (numbers_first ns e)
calm_first ns (stuck k) h = h
calm_first ns (went ms x) h = tt

calm_then : {A B : Type 0} (Q : A → Type 0) (e : Evaluation A) (f : A → Evaluation B) → Calm e → Yields Q e → ((x : A) → Q x → Calm (f x)) → Calm (and_then e f)
calm_then Q (stuck k) f h q g = h
calm_then Q (went ns x) f h q g = calm_first ns (f x) (g x q)

init_calm : (Init ≢ Bounds) × (Init ≢ Divide)
init_calm = (λ e. cc e, λ e. cc e)

calm_defined : {A : Type 0} (at : Span) (o : Option A) → Calm (defined at o)
calm_defined at None = init_calm
calm_defined at (Some x) = tt

calm_if : {A : Type 0} (c : Bool) (a b : Evaluation A) → (c ≡ true → Calm a) → (c ≡ false → Calm b) → Calm (if c then a else b)
calm_if true a b h k = h refl
calm_if false a b h k = k refl

met : (c : Bool) (at : Span) (why : Why) (t : Target) → unless c at why t ≡ None → c ≡ true
met true at why t e = refl
met false at why t e = absurd (cc e)

both_met : (a b : Option Alarm) → or_else a b ≡ None → (a ≡ None) × (b ≡ None)
both_met None b e = (refl, e)
both_met (Some x) b e = absurd (cc e)

-- ---- an index

below_cells : (at : Span) (k : Kind) (i : Interval) (n : ℕ) → bounds_of k i ≡ true → In i n → Calm (in_cells at k n)
below_cells at (kind.Array z m) i n e h = calm_if (nat_lt n m) (went (n ∷ []) n) (stuck_at at Bounds) (λ q. tt) (λ q. absurd (no q))
  where
    no : nat_lt n m ≡ false → ⊥
    no q = let a : i.hi < m = grind (arith, rules, e) in let b : m ≤ n = grind (arith, rules, q) in let c = h.1 in omega (arith, a, b, c)
below_cells at kind.Undeclared i n e h = absurd (cc e)
below_cells at kind.Int i n e h = absurd (cc e)
below_cells at kind.Bool i n e h = absurd (cc e)
below_cells at (kind.Word z) i n e h = absurd (cc e)

word_in_range : (at : Span) (i : Interval) (k : Bool) (v : Value) → Good i k S64 v → Yields (In i) (word_at at S64 v)
word_in_range at i k (word z n) h = yields_defined (In i) at (if same_size S64 z then Some n else None) (λ m e. one (same_size S64 z) refl m e)
  where
    one : (c : Bool) → same_size S64 z ≡ c → (m : ℕ) → (if c then Some n else None) ≡ Some m → In i m
    one true q m e = subst (In i) (the_same n m e) (h.1 (sym (equal_sizes S64 z q)))
      where
        the_same : (a b : ℕ) → Some a ≡ Some b → a ≡ b
        the_same a b e = cc e
    one false q m e = absurd (cc e)
word_in_range at i k (integer j) h = h.1
word_in_range at i k (boolean c) h = tt

index_calm : (x : Ref) (i : Interval) (k : Bool) (v : Value) → bounds_of x.kind i ≡ true → Good i k S64 v → Calm (index_at x v)
index_calm x i k v e h = calm_then (In i) (word_at x.span S64 v) (in_cells x.span x.kind) (calm_defined x.span (word_of S64 v)) (word_in_range x.span i k v h) (λ n q. below_cells x.span x.kind i n e q)

-- ---- a division

-- what the divisor is, where the operation divides
abbrev DivisorIs : BinOp → Size → ℕ → Type 0
DivisorIs o.Div s b = 1 ≤ b
DivisorIs o.Rem s b = 1 ≤ b
DivisorIs o.DivS s b = (1 ≤ b) × (b < half s)
DivisorIs o.RemS s b = (1 ≤ b) × (b < half s)
DivisorIs op s b = Unit {0}

divided_calm : (at : Span) (s : Size) (h a b r : ℕ) → 1 ≤ b → Calm (divided at s h a b r)
divided_calm at s h a b r l = calm_if (b == 0) (stuck_at at Divide) (went (h ∷ a ∷ b ∷ []) (word s r)) (λ e. absurd (no e)) (λ e. tt)
  where
    no : (b == 0) ≡ true → ⊥
    no e = let q : b ≡ 0 = grind (arith, rules, e) in omega (arith, q, l)

or_false : (a b : Bool) → (a ≡ true → ⊥) → (b ≡ true → ⊥) → (a || b) ≡ true → ⊥
or_false true b h k e = h refl
or_false false b h k e = k e

signed_calm : (at : Span) (s : Size) (a b : ℕ) (r : ℤ) → 1 ≤ b → b < half s → Calm (signed_divided at s a b r)
signed_calm at s a b r l m = calm_if (b == 0 || is_least_by_minus_one s a b) (stuck_at at Divide) (went (sign_word s a ∷ a ∷ b ∷ []) (word s (residue s r))) (λ e. absurd (or_false (b == 0) (is_least_by_minus_one s a b) zero_no least_no e)) (λ e. tt)
  where
    zero_no : (b == 0) ≡ true → ⊥
    zero_no e = let q : b ≡ 0 = grind (arith, rules, e) in omega (arith, q, l)

    least_no : is_least_by_minus_one s a b ≡ true → ⊥
    least_no e = let p = and_parts (a == half s) (b == modulus s - 1) e in let q : b ≡ modulus s - 1 = grind (arith, rules, p.1) in let d = double_half s in omega (arith, q, d, m, l)

words_calm : (op : BinOp) (at : Span) (s : Size) (a b : ℕ) → DivisorIs op s b → Calm (on_words op at s a b)
words_calm o.OrElse at s a b h = calm_defined at (plain o.OrElse s a b)
words_calm o.AndThen at s a b h = calm_defined at (plain o.AndThen s a b)
words_calm o.Or at s a b h = calm_defined at (plain o.Or s a b)
words_calm o.Xor at s a b h = calm_defined at (plain o.Xor s a b)
words_calm o.And at s a b h = calm_defined at (plain o.And s a b)
words_calm o.Eq at s a b h = calm_defined at (plain o.Eq s a b)
words_calm o.Ne at s a b h = calm_defined at (plain o.Ne s a b)
words_calm o.Lt at s a b h = calm_defined at (plain o.Lt s a b)
words_calm o.Le at s a b h = calm_defined at (plain o.Le s a b)
words_calm o.Gt at s a b h = calm_defined at (plain o.Gt s a b)
words_calm o.Ge at s a b h = calm_defined at (plain o.Ge s a b)
words_calm o.LtS at s a b h = calm_defined at (plain o.LtS s a b)
words_calm o.LeS at s a b h = calm_defined at (plain o.LeS s a b)
words_calm o.GtS at s a b h = calm_defined at (plain o.GtS s a b)
words_calm o.GeS at s a b h = calm_defined at (plain o.GeS s a b)
words_calm o.Shl at s a b h = calm_defined at (plain o.Shl s a b)
words_calm o.Shr at s a b h = calm_defined at (plain o.Shr s a b)
words_calm o.Sar at s a b h = calm_defined at (plain o.Sar s a b)
words_calm o.Rol at s a b h = calm_defined at (plain o.Rol s a b)
words_calm o.Ror at s a b h = calm_defined at (plain o.Ror s a b)
words_calm o.Add at s a b h = calm_defined at (plain o.Add s a b)
words_calm o.Sub at s a b h = calm_defined at (plain o.Sub s a b)
words_calm o.Mul at s a b h = calm_defined at (plain o.Mul s a b)
words_calm o.Div at s a b h = divided_calm at s 0 a b (a / b) h
words_calm o.Rem at s a b h = divided_calm at s 0 a b (a % b) h
words_calm o.DivS at s a b h = signed_calm at s a b (int_div (signed s a) (signed s b)) h.0 h.1
words_calm o.RemS at s a b h = signed_calm at s a b (int_rem (signed s a) (signed s b)) h.0 h.1

module _ (g : Given) (s : Facts) where
  divisor_is : (op : BinOp) (z : Size) (t : Term) (b : ℕ) → divides g s op z t ≡ true → In (interval g s z t) b → DivisorIs op z b
  divisor_is o.OrElse z t b e h = tt
  divisor_is o.AndThen z t b e h = tt
  divisor_is o.Or z t b e h = tt
  divisor_is o.Xor z t b e h = tt
  divisor_is o.And z t b e h = tt
  divisor_is o.Eq z t b e h = tt
  divisor_is o.Ne z t b e h = tt
  divisor_is o.Lt z t b e h = tt
  divisor_is o.Le z t b e h = tt
  divisor_is o.Gt z t b e h = tt
  divisor_is o.Ge z t b e h = tt
  divisor_is o.LtS z t b e h = tt
  divisor_is o.LeS z t b e h = tt
  divisor_is o.GtS z t b e h = tt
  divisor_is o.GeS z t b e h = tt
  divisor_is o.Shl z t b e h = tt
  divisor_is o.Shr z t b e h = tt
  divisor_is o.Sar z t b e h = tt
  divisor_is o.Rol z t b e h = tt
  divisor_is o.Ror z t b e h = tt
  divisor_is o.Add z t b e h = tt
  divisor_is o.Sub z t b e h = tt
  divisor_is o.Mul z t b e h = tt
  divisor_is o.Div z t b e h = let l : 1 ≤ (interval g s z t).lo = grind (arith, rules, e) in let q = h.0 in omega (arith, l, q)
  divisor_is o.Rem z t b e h = let l : 1 ≤ (interval g s z t).lo = grind (arith, rules, e) in let q = h.0 in omega (arith, l, q)
  divisor_is o.DivS z t b e h = let p = and_parts (nat_le 1 (interval g s z t).lo) (nat_lt (interval g s z t).hi (half z)) e in let l : 1 ≤ (interval g s z t).lo = grind (arith, rules, p.0) in let m : (interval g s z t).hi < half z = grind (arith, rules, p.1) in let q = h.0 in let r = h.1 in (omega (arith, l, q), omega (arith, m, r))
  divisor_is o.RemS z t b e h = let p = and_parts (nat_le 1 (interval g s z t).lo) (nat_lt (interval g s z t).hi (half z)) e in let l : 1 ≤ (interval g s z t).lo = grind (arith, rules, p.0) in let m : (interval g s z t).hi < half z = grind (arith, rules, p.1) in let q = h.0 in let r = h.1 in (omega (arith, l, q), omega (arith, m, r))

  -- both operands have the size that is wanted
  combined_calm : (op : BinOp) (at : Span) (z : Size) (t : Term) (k : Bool) (x y : Value) → divides g s op z t ≡ true → HasSize z x → HasSize z y → Good (interval g s z t) k z y → Calm (combined op at x y)
  unfolding combined
  combined_calm op at z t k (word u a) (word v b) e p q h =
      calm_if (same_size u v) (on_words op at u a b) (stuck_at at Init)
      (λ c. let w = p u a refl in subst (λ n. Calm (on_words op at n a b)) (sym w) (words_calm op at z a b (divisor_is op z t b e (h.1 (q v b refl)))))
      (λ c. init_calm)
  combined_calm op at z t k (word u a) (integer j) e p q h =
      let w = p u a refl in subst (λ n. Calm (on_words op at n a (residue n j))) (sym w) (words_calm op at z a (residue z j) (divisor_is op z t (residue z j) e h.1))
  combined_calm op at z t k (word u a) (boolean c) e p q h = calm_defined at (by_flag op u a c)
  combined_calm op at z t k (integer i) (word v b) e p q h =
      let w = q v b refl in subst (λ n. Calm (on_words op at n (residue n i) b)) (sym w) (words_calm op at z (residue z i) b (divisor_is op z t b e (h.1 w)))
  combined_calm op at z t k (integer i) (integer j) e p q h = calm_defined at _
  combined_calm op at z t k (integer i) (boolean c) e p q h = init_calm
  combined_calm op at z t k (boolean a) (boolean c) e p q h = calm_defined at (joined op c)
  combined_calm op at z t k (boolean a) (word v b) e p q h = init_calm
  combined_calm op at z t k (boolean a) (integer j) e p q h = init_calm

  binary_calm : (op : BinOp) (at : Span) (w : Option Size) (z : Size) (t : Term) (k : Bool) (x y : Value) → divides g s op z t ≡ true → (is_shift op ≡ false → HasSize z x × HasSize z y) → Good (interval g s z t) k z y → Calm (binary op at w x y)
  unfolding binary
  binary_calm op at w z t k x y e p h = calm_if (is_shift op) (defined at (shifted op w x y)) (combined op at x y) (λ c. calm_defined at (shifted op w x y)) (λ c. let q = p c in combined_calm op at z t k x y e q.0 q.1 h)

module _ (g : Given) (sizes : Key → Option Size) (entry : Key → ℕ) (s : Facts) (st : State) (H : Holds g sizes entry s st) where
  anything : {A : Type 0} (e : Evaluation A) → Yields (λ v. Unit {0}) e
  anything (stuck w) = tt
  anything (went ns v) = tt

  pub yields_with : (P Q : Value → Type 0) (e : Evaluation Value) → Yields P e → Yields Q e → Yields (λ v. P v × Q v) e
  yields_with P Q (stuck w) h k = tt
  yields_with P Q (went ns v) h k = (h, k)

  -- what a premise gives where it holds
  yields_when : (c : Bool) (Q : Value → Type 0) (e : Evaluation Value) → (c ≡ false → Yields Q e) → Yields (λ v. c ≡ false → Q v) e
  yields_when c Q (stuck w) h = tt
  yields_when c Q (went ns v) h = h

  pub calm_term : (t : Term) (w : Option Size) → IsPlain sizes t → AreSized st w t → asks g s w t ≡ None → Calm ((means t).run w st)
  calm_term (num i at) w p z e = tt
  calm_term (truth b at) w p z e = tt
  calm_term (var x) w p z e = calm_defined x.span (st.store (key_of x))
  calm_term (cell x i) w p z e =
      let a = both_met (asks g s (Some S64) i) _ e in
      let b = both_met (asks_index g s x i) _ a.1 in
      let c = met (bounds_of x.kind (interval g s S64 i)) x.span Bounds (named x.name x.cell) b.0 in
      calm_then (Good (interval g s S64 i) (is_number i) S64) ((means i).run (Some S64) st) (λ v. cell_value x v st.store) (calm_term i (Some S64) p z a.0) (term_ok g sizes entry s st H i p S64 (Some S64)) (λ v h.
      calm_then (λ n. Unit {0}) (index_at x v) (λ n. defined x.span (st.store (cell_key x n))) (index_calm x (interval g s S64 i) (is_number i) v c h) (anything _) (λ n u. calm_defined x.span (st.store (cell_key x n))))
  calm_term (load q a) w p z e =
      let b = both_met (asks g s (Some S64) a) _ e in
      calm_then (λ v. Unit {0}) ((means a).run (Some S64) st) (λ v. load_at (record { size = q.size; at = (means a).run (Some S64); unaligned = q.unaligned; span = q.span }) w v st.memory) (calm_term a (Some S64) p z b.0) (anything _) (λ v h.
      calm_then (λ n. Unit {0}) (address_at (record { size = q.size; at = (means a).run (Some S64); unaligned = q.unaligned; span = q.span }) v) (λ n. load_word q.span q.unaligned (option_or q.size w) n st.memory) (calm_defined q.span (word_of S64 v)) (anything _) (λ n u. load_calm (option_or q.size w) n))
    where
      load_calm : (o : Option Size) (n : ℕ) → Calm (load_word q.span q.unaligned o n st.memory)
      load_calm None n = init_calm
      load_calm (Some y) n = calm_then (λ b. Unit {0}) (accessed q.span q.unaligned y n (loaded st.memory n (bytes_of y))) (λ b. went [] (word y b)) (access_calm y n (loaded st.memory n (bytes_of y))) (anything _) (λ b u. tt)
        where
          access_calm : (y : Size) (n : ℕ) (o : Option ℕ) → Calm (accessed q.span q.unaligned y n o)
          access_calm y n None = (λ e. cc e, λ e. cc e)
          access_calm y n (Some b) = calm_if (q.unaligned || is_aligned y n) (went (n ∷ []) b) (stuck_at q.span Align) (λ c. tt) (λ c. (λ e. cc e, λ e. cc e))
  calm_term (neg a at) w p z e = calm_then (λ v. Unit {0}) ((means a).run (option_or w (size_in a)) st) (λ v. defined at (negated v)) (calm_term a (option_or w (size_in a)) p z e) (anything _) (λ v h. calm_defined at (negated v))
  calm_term (inv a at) w p z e = calm_then (λ v. Unit {0}) ((means a).run (option_or w (size_in a)) st) (λ v. went [] (inverted v)) (calm_term a (option_or w (size_in a)) p z e) (anything _) (λ v h. tt)
  calm_term (cast y sign a at) w p z e = calm_then (λ v. Unit {0}) ((means a).run (size_in a) st) (λ v. defined at (cast_value y sign v)) (calm_term a (size_in a) p.0 z e) (anything _) (λ v h. calm_defined at (cast_value y sign v))
  calm_term (bin op a b at) w p z e =
      let v = left_wanted op w (size_in a) (size_in b) in
      let m = both_met (asks g s v a) _ e in
      let n = both_met (asks g s (right_wanted op v) b) _ m.1 in
      let d = met (divides g s op (size_or_64 v) b) at Divide division n.1 in
      calm_then (λ x. is_shift op ≡ false → HasSize (size_or_64 v) x) ((means a).run v st) (with_right op (means b).run at v st) (calm_term a v p.1 z.0 m.0) (yields_when (is_shift op) (HasSize (size_or_64 v)) ((means a).run v st) z.2) (λ x hx.
      calm_if (is_settled op x) (went [] x) (and_then ((means b).run (right_wanted op v) st) (λ y. binary op at v x y)) (λ c. tt) (λ c.
      calm_then (λ y. (is_shift op ≡ false → HasSize (size_or_64 v) y) × Good (interval g s (size_or_64 v) b) (is_number b) (size_or_64 v) y) ((means b).run (right_wanted op v) st) (λ y. binary op at v x y) (calm_term b (right_wanted op v) p.2 z.1 n.0)
      (yields_with (λ y. is_shift op ≡ false → HasSize (size_or_64 v) y) (Good (interval g s (size_or_64 v) b) (is_number b) (size_or_64 v)) ((means b).run (right_wanted op v) st) (yields_when (is_shift op) (HasSize (size_or_64 v)) ((means b).run (right_wanted op v) st) z.3) (term_ok g sizes entry s st H b p.2 (size_or_64 v) (right_wanted op v)))
      (λ y hy. binary_calm g s op at v (size_or_64 v) b (is_number b) x y d (λ q. (hx q, hy.0 q)) hy.1)))
