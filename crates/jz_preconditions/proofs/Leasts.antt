-- The least value that a range and an alignment permit.
use Rattle.std.proofs.Common.{◌≡◌, ℕ, ◌+◌, ◌*◌, ◌/◌, ◌<◌, ◌≤◌, ◌==◌, ◌&&◌, ◌||◌, Bool, true, false, nat_lt, List, [], ◌∷◌, Option, Some, None, refl, sym, subst, arith, if◌then◌else◌, ⊎_elim}
use Rattle.std.specs.Prelude.{unwrap_or, IfSome, All}
use Rattle.std.specs.List.{cons_option}
use Rattle.std.specs.Option.{option_or}
use Rattle.std.specs.Str.{bytes_eq}
use Rattle.std.proofs.lemmas.Bool.{and_parts, and_from, or_cases, lt-ltb, ltb-true}
use Rattle.std.proofs.lemmas.List.Elements.{All-nil, All-cons, All-head, All-tail, All-map}
use Rattle.jz_tree.specs.Span.{Span}
use Rattle.jz_tree.specs.declared.expr.Var.{Var}
use Rattle.jz_tree.specs.declared.program.Fun.{Fun}
use Rattle.jz_tree.specs.declared.program.Note.{Note}
use Rattle.jz_annotations.proofs.LexingWords.{true_false, eq_is, le_is}
use Rattle.jz_type_names.specs.Kinds.{known_of}
use Rattle.jz_type_names.specs.Scopes.{text_of}
use Rattle.jz_annotations.specs.declared.precondition.Pre.{Pre}
use Rattle.jz_annotations.specs.declared.precondition.Pre.TheVariants.{Region, Range, Align}
use Rattle.jz_annotations.specs.Shapes.{is_alignment, Writes}
use Rattle.jz_annotations.specs.Shapes as shape
use Rattle.jz_annotations.specs.Sayings.{said}
use Rattle.jz_annotations.proofs.Written.{says}
use Rattle.jz_preconditions.specs.declared.least.Interval.{Interval}
use Rattle.jz_preconditions.specs.declared.stated.Stated.{Stated}
use Rattle.jz_preconditions.specs.Naming.{ParametersByName, parameters_of, names_parameters, values_of}
use Rattle.jz_preconditions.specs.Bounds.{range_of, multiple_in, multiple_of, rounded, low_of, is_below, least_by}
use Rattle.jz_preconditions.specs.Stating.{stated_at, stated_in, preconditions_of}
use Rattle.jz_preconditions.specs.Permitted.{IsPermitted, least_permitted, IsLeastPermitted}

-- ---- what holds of all that is stated
module _ (Q : Pre → Type 0) (ps : ParametersByName) where
  abbrev Each : List Stated → Type 0
  Each ss = All (λ s. Q s.pre) ss

  kept_each : (s : Stated) (rest : List Stated) (b : Bool) → (b ≡ true → Q s.pre) → Each rest → Each (cons_option (if b then Some s else None) rest)
  kept_each s rest true q h = All-cons (λ s. Q s.pre) s rest (q refl) h
  kept_each s rest false q h = h

  one_each : (at : Span) (o : Option Pre) → ((p : Pre) → o ≡ Some p → names_parameters ps p ≡ true → Q p) → (rest : List Stated) → Each rest → Each (cons_option (stated_at ps at o) rest)
  one_each at None q rest h = h
  one_each at (Some p) q rest h = kept_each (record { pre = p; span = at }) rest (names_parameters ps p) (q p refl) h

  pub all_stated : ((n : Note) (p : Pre) → said n ≡ Some p → names_parameters ps p ≡ true → Q p) → (notes : List Note) → Each (stated_in ps notes)
  all_stated q [] = All-nil (λ s. Q s.pre)
  all_stated q (n ∷ notes) = one_each n.span (said n) (q n) (stated_in ps notes) (all_stated q notes)

-- ---- alignments are 1, 2, 4 or 8
abbrev pub IsAligned : Pre → Type 0
IsAligned (Region p factor v constant) = Unit {0}
IsAligned (Range x low high) = Unit {0}
IsAligned (Align p multiple) = is_alignment multiple ≡ true

written_aligned : (name s : List ℕ) (p : Pre) → Writes name s p → IsAligned p
written_aligned name s p (shape.sum a b c d e) = tt
written_aligned name s p (shape.product a b c d) = tt
written_aligned name s p (shape.variable a b c) = tt
written_aligned name s p (shape.constant a b c) = tt
written_aligned name s p (shape.range a b c d) = tt
written_aligned name s p (shape.align a b c d) = d

pub said_aligned : (n : Note) (p : Pre) → said n ≡ Some p → IsAligned p
said_aligned n p e = let h = (says n p).0 e in written_aligned n.name h.string p h.writes

abbrev pub MayBe : Option ℕ → Type 0
MayBe o = IfSome o (λ m. is_alignment m ≡ true)

in_aligned : (n : List ℕ) (p : Pre) → IsAligned p → MayBe (multiple_in n p)
in_aligned n (Region p factor v constant) h = tt
in_aligned n (Range x low high) h = tt
in_aligned n (Align p multiple) h = elim (bytes_eq n p) as (λ b. MayBe (if b then Some multiple else None)) [ true ↦ h | false ↦ tt ]

or_aligned : (a b : Option ℕ) → MayBe a → MayBe b → MayBe (option_or a b)
or_aligned None b h k = k
or_aligned (Some m) b h k = h

pres_aligned : (pres : List Pre) (n : List ℕ) → All IsAligned pres → MayBe (multiple_of pres n)
pres_aligned [] n h = tt
pres_aligned (p ∷ pres) n h = or_aligned (multiple_in n p) (multiple_of pres n) (in_aligned n p (All-head IsAligned p pres h)) (pres_aligned pres n (All-tail IsAligned p pres h))

pub multiple_aligned : (f : Fun) (n : List ℕ) → MayBe (multiple_of (preconditions_of f) n)
multiple_aligned f n =
    let ps = parameters_of f in
    pres_aligned (preconditions_of f) n (All-map IsAligned (λ s. s.pre) (stated_in ps f.notes) (all_stated IsAligned ps (λ m p e k. said_aligned m p e) f.notes))

pub or_one : (o : Option ℕ) → MayBe o → is_alignment (unwrap_or o 1) ≡ true
or_one None h = refl
or_one (Some m) h = h

-- ---- the least multiple
alignment_cases : (P : ℕ → Type 0) → P 1 → P 2 → P 4 → P 8 → (m : ℕ) → is_alignment m ≡ true → P m
alignment_cases P one two four eight m h = ⊎_elim
    (λ e. subst P (sym (eq_is m 1 e)) one)
    (λ k. ⊎_elim
    (λ e. subst P (sym (eq_is m 2 e)) two)
    (λ l. ⊎_elim
    (λ e. subst P (sym (eq_is m 4 e)) four)
    (λ e. subst P (sym (eq_is m 8 e)) eight)
    (or_cases (m == 4) (m == 8) l))
    (or_cases (m == 2) ((m == 4) || (m == 8)) k))
    (or_cases (m == 1) ((m == 2) || ((m == 4) || (m == 8))) h)

abbrev pub Times : ℕ → ℕ → Type 0
Times m n = (k : ℕ) × (n ≡ k * m)

pub record IsLeastMultiple (n m r : ℕ) : Type 0 where
  pub reaches : n ≤ r
  pub multiple : Times m r
  pub least : (k : ℕ) → Times m k → n ≤ k → r ≤ k

by_one : (n : ℕ) → IsLeastMultiple n 1 (rounded 1 n)
unfolding rounded
by_one n = record { reaches = omega arith; multiple = (n, omega arith); least = λ k t h. h }

by_two : (n : ℕ) → IsLeastMultiple n 2 (rounded 2 n)
unfolding rounded
by_two n = record { reaches = omega arith; multiple = ((n + 1) / 2, refl); least = λ k t h. (let e = t.1 in omega (arith, e, h)) }

by_four : (n : ℕ) → IsLeastMultiple n 4 (rounded 4 n)
unfolding rounded
by_four n = record { reaches = omega arith; multiple = ((n + 3) / 4, refl); least = λ k t h. (let e = t.1 in omega (arith, e, h)) }

by_eight : (n : ℕ) → IsLeastMultiple n 8 (rounded 8 n)
unfolding rounded
by_eight n = record { reaches = omega arith; multiple = ((n + 7) / 8, refl); least = λ k t h. (let e = t.1 in omega (arith, e, h)) }

rounded_is : (n m : ℕ) → is_alignment m ≡ true → IsLeastMultiple n m (rounded m n)
rounded_is n m h = alignment_cases (λ m. IsLeastMultiple n m (rounded m n)) (by_one n) (by_two n) (by_four n) (by_eight n) m h

-- ---- within a range
abbrev pub Within : Option Interval → ℕ → Type 0
Within range n = IfSome range (λ i. (i.low ≤ n) × (n ≤ i.high))

within_low : (range : Option Interval) (n : ℕ) → Within range n → low_of range ≤ n
within_low None n h = omega arith
within_low (Some i) n h = h.0

within_below : (range : Option Interval) (n v : ℕ) → Within range n → v ≤ n → is_below range v ≡ true
within_below None n v h l = refl
within_below (Some i) n v h l = let top = h.1 in grind (arith, top, l)

below_within : (range : Option Interval) (v : ℕ) → low_of range ≤ v → is_below range v ≡ true → Within range v
below_within None v l h = tt
below_within (Some i) v l h = (l, le_is v i.high h)

-- ---- the least value below a count, in a range, that is a multiple
pub record Permits (count : ℕ) (interval : Option Interval) (m n : ℕ) : Type 0 where
  pub value : n < count
  pub range : Within interval n
  pub multiple : Times m n

abbrev pub IsLeastBy : ℕ → Option Interval → ℕ → Option ℕ → Type 0
IsLeastBy count range m None = (n : ℕ) → Permits count range m n → ⊥
IsLeastBy count range m (Some v) = Permits count range m v × ((n : ℕ) → Permits count range m n → v ≤ n)

module _ (count : ℕ) (range : Option Interval) (m v : ℕ) (up : IsLeastMultiple (low_of range) m v) where
  least_of_all : (n : ℕ) → Permits count range m n → v ≤ n
  least_of_all n p = up.least n p.multiple (within_low range n p.range)

  fitting_by : (b : Bool) → (nat_lt v count && is_below range v) ≡ b → IsLeastBy count range m (if b then Some v else None)
  fitting_by true e =
      let h = and_parts (nat_lt v count) (is_below range v) e in
      (record { value = ltb-true v count h.0; range = below_within range v up.reaches h.1; multiple = up.multiple }, least_of_all)
  fitting_by false e = λ n p.
      (let l = least_of_all n p in
      let value = p.value in
      let small : v < count = omega (arith, l, value) in
      true_false (nat_lt v count && is_below range v) ⊥ (and_from (nat_lt v count) (is_below range v) (lt-ltb v count small) (within_below range n v p.range l)) e)

pub least_by_is : (count : ℕ) (range : Option Interval) (m : ℕ) → is_alignment m ≡ true → IsLeastBy count range m (least_by count range m)
least_by_is count range m h =
    let v = rounded m (low_of range) in
    fitting_by count range m v (rounded_is (low_of range) m h) (nat_lt v count && is_below range v) refl

-- ---- of a function's parameter
times_one : (o : Option ℕ) (n : ℕ) → IfSome o (λ m. Times m n) → Times (unwrap_or o 1) n
times_one None n h = (n, omega arith)
times_one (Some m) n h = h

one_times : (o : Option ℕ) (n : ℕ) → Times (unwrap_or o 1) n → IfSome o (λ m. Times m n)
one_times None n h = tt
one_times (Some m) n h = h

module _ (f : Fun) (v : Var) where
  abbrev Range' : Option Interval
  Range' = range_of (preconditions_of f) (text_of v)

  abbrev Multiple' : Option ℕ
  Multiple' = multiple_of (preconditions_of f) (text_of v)

  abbrev Count' : ℕ
  Count' = values_of (known_of v)

  permitted_to : (n : ℕ) → Permits Count' Range' (unwrap_or Multiple' 1) n → IsPermitted f v n
  permitted_to n p = record { value = p.value; range = p.range; multiple = one_times Multiple' n p.multiple }

  permitted_from : (n : ℕ) → IsPermitted f v n → Permits Count' Range' (unwrap_or Multiple' 1) n
  permitted_from n p = record { value = p.value; range = p.range; multiple = times_one Multiple' n p.multiple }

  carried : (o : Option ℕ) → IsLeastBy Count' Range' (unwrap_or Multiple' 1) o → IsLeastPermitted f v o
  carried None h = λ n p. h n (permitted_from n p)
  carried (Some n) h = (permitted_to n h.0, λ k p. h.1 k (permitted_from k p))

pub least_permitted_is : (f : Fun) (v : Var) → IsLeastPermitted f v (least_permitted f v)
least_permitted_is f v =
    carried f v (least_permitted f v)
    (least_by_is (values_of (known_of v)) (range_of (preconditions_of f) (text_of v)) (unwrap_or (multiple_of (preconditions_of f) (text_of v)) 1)
    (or_one (multiple_of (preconditions_of f) (text_of v)) (multiple_aligned f (text_of v))))
