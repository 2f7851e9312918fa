-- The facts at entry, parameter by parameter.
use Rattle.std.proofs.Common.{◌≡◌, ℕ, ◌*◌, ◌%◌, ◌≤◌, ◌<◌, List, [], ◌∷◌, map, Option, Some, None, Bool, true, false, refl, sym, ap, ◌∙◌, subst, arith, inl, inr, if◌then◌else◌}
use Rattle.std.specs.Prelude.{All, IsSome, nat_le, option_map, ◌==◌}
use Rattle.std.proofs.lemmas.Bool.{and_parts, false≢true, or_cases}
use Rattle.std.proofs.lemmas.Bool.Decides.{nat_tests}
use Rattle.std.proofs.lemmas.List.Elements.{All-head, All-tail}
use Rattle.std.proofs.lemmas.Nat.Gcd.{dvd_of_mod-eq-zero, mod-eq-zero_of_dvd}
use Rattle.std.proofs.Math.Nat.{dvd-mul_left_of_dvd}
use Rattle.x64_insn.specs.Size.{Size}
use Rattle.x64_insn.specs.Size.TheVariants.{S8, S16, S32, S64}
use Rattle.x64_insn.specs.Sizes.{modulus}
use Rattle.jz_tree.specs.declared.program.Param.{Param}
use Rattle.jz_type_names.specs.Scopes.{text_of_param}
use Rattle.jz_annotations.specs.declared.precondition.Pre.{Pre}
use Rattle.jz_preconditions.specs.declared.least.Interval as stated
use Rattle.jz_preconditions.specs.Bounds.{range_of, multiple_of}
use Rattle.jz_preconditions.specs.Meeting.{IsBetween, IsMultiple, IsMet}
use Rattle.jz_intervals.specs.Intervals.{greatest_word}
use Rattle.jz_meaning.specs.declared.access.Kind.{Kind}
use Rattle.jz_meaning.specs.declared.access.Kind.TheVariants as kind
use Rattle.jz_meaning.specs.States.{word, Key, same_key, Store}
use Rattle.jz_meaning.specs.Values.{ref_of}
use Rattle.jz_run_laws.specs.Kinds.{Kinds, kind_at, IsOfKind, HoldsKinds}
use Rattle.jz_fact_laws.proofs.Setting.{same_key-true}
use Rattle.jz_facts.specs.Facts.{Fact, Set, Cell, AtLeast, AtMost, Under, Is, Multiple, subject, Start, lo_of, hi_of, least_of, is_among, multiples, of_parameter, of_parameters, in_range, is_aligned_by}
use Rattle.jz_fact_laws.specs.Saying.{Says, InRanges}
use Rattle.jz_fact_sets.specs.Kept.{start_of}
use Rattle.jz_given.specs.Ranges.{interval_of}
use Rattle.jz_given.specs.Giving.{size_of, param_of}
use Rattle.jz_standing.specs.Typing.{whole}
use Rattle.jz_standing.specs.Standing.{is_of_cell}
use Rattle.jz_fact_entry.specs.Entry.{entry_of, number_of}
use Rattle.jz_fact_entry.specs.EntryLaws.{AreOutside}
use Rattle.jz_fact_entry.proofs.Words.{key_at, Fits, AllFit}
use Rattle.jz_fact_entry.proofs.Stated.{range_met, multiple_met}

le_true : (a b : ℕ) → nat_le a b ≡ true → a ≤ b
le_true a b e = grind (arith, nat_tests, e)

below_greatest : (z : Size) (w : ℕ) → w < modulus z → w ≤ greatest_word z
below_greatest S8 w h = omega (arith, h)
below_greatest S16 w h = omega (arith, h)
below_greatest S32 w h = omega (arith, h)
below_greatest S64 w h = omega (arith, h)

-- a word of some kind is one of its size
small_word : (k : Kind) (z : Size) (w : ℕ) → IsOfKind k (word z w) → w < modulus z
small_word kind.Undeclared z w h = absurd h
small_word kind.Int z w h = absurd h
small_word kind.Bool z w h = absurd h
small_word (kind.Word y) z w h = subst (λ x. w < modulus x) (sym h.0) h.1
small_word (kind.Array y n) z w h = absurd h

some_multiple : (m : ℕ) → is_among m multiples ≡ true → (j k w : ℕ) → w ≡ j * k → (k % m == 0) ≡ true → w % m ≡ 0
some_multiple m e j k w is h =
    let z : k % m ≡ 0 = grind (arith, nat_tests, h) in
    subst (λ x. x % m ≡ 0) (sym is) (mod-eq-zero_of_dvd m (dvd-mul_left_of_dvd m (dvd_of_mod-eq-zero m z) j))

module _ (cs : List ℕ) (pres : List Pre) (names : List (List ℕ)) (words : List ℕ) (store : Store) (met : All (IsMet names words) pres) where
  abbrev entry : Key → ℕ
  entry = entry_of store

  abbrev start : Param → Start
  start p = start_of (param_of pres p)

  module _ (p : Param) (f : Fits store names words p) where
    entry_is : entry (key_at p) ≡ f.bits
    entry_is = ap number_of f.held

    between : (i : stated.Interval) → range_of pres (text_of_param p) ≡ Some i → (i.low ≤ f.bits) × (f.bits ≤ i.high)
    between i e = subst (λ o. IsBetween o i.low i.high) f.named (range_met names words (text_of_param p) pres met i e)

    aligned : (k : ℕ) → multiple_of pres (text_of_param p) ≡ Some k → (j : ℕ) × (f.bits ≡ j * k)
    aligned k e = subst (λ o. IsMultiple o k) f.named (multiple_met names words (text_of_param p) pres met k e)

    -- ---- one fact
    least_so : (c : ℕ) (o : Option stated.Interval) → range_of pres (text_of_param p) ≡ o → in_range (option_map interval_of o) (λ i. nat_le c i.lo) ≡ true → c ≤ f.bits
    least_so c None q e = absurd (false≢true e)
    least_so c (Some i) q e = let a = (between i q).0 in let b = le_true c i.low e in omega (arith, a, b)

    most_so : (c : ℕ) (o : Option stated.Interval) → range_of pres (text_of_param p) ≡ o → in_range (option_map interval_of o) (λ i. nat_le i.hi c) ≡ true → f.bits ≤ c
    most_so c None q e = absurd (false≢true e)
    most_so c (Some i) q e = let a = (between i q).1 in let b = le_true i.high c e in omega (arith, a, b)

    times_so : (m : ℕ) → is_among m multiples ≡ true → (o : Option ℕ) → multiple_of pres (text_of_param p) ≡ o → is_aligned_by o m ≡ true → f.bits % m ≡ 0
    times_so m a None q e = absurd (false≢true e)
    times_so m a (Some k) q e = let j = aligned k q in some_multiple m a j.0 k f.bits j.1 e

    held_at : (v : Key) → same_key v (key_at p) ≡ true → store v ≡ Some (word f.size f.bits)
    held_at v e = ap store (same_key-true v (key_at p) e) ∙ f.held

    entry_at : (v : Key) → same_key v (key_at p) ≡ true → entry v ≡ f.bits
    entry_at v e = ap number_of (held_at v e)

    one_says : (h : Fact) → of_parameter cs (start p) h ≡ true → Says entry store h
    one_says (Set v) e = subst IsSome (sym (held_at v e)) refl
    one_says (Cell a k) e = absurd (false≢true e)
    one_says (AtLeast v c) e =
        let a = and_parts (same_key v (key_at p)) _ e in
        let b = and_parts (is_among c cs) _ a.1 in
        (f.size, f.bits, held_at v a.0, least_so c (range_of pres (text_of_param p)) refl b.1)
    one_says (AtMost v c) e =
        let a = and_parts (same_key v (key_at p)) _ e in
        let b = and_parts (is_among c cs) _ a.1 in
        (f.size, f.bits, held_at v a.0, most_so c (range_of pres (text_of_param p)) refl b.1)
    one_says (Under v x) e = absurd (false≢true e)
    one_says (Is v x) e =
        let a = and_parts (same_key v (key_at p)) (same_key x (key_at p)) e in
        (f.size, f.bits, held_at v a.0, sym (entry_at x a.1))
    one_says (Multiple v m) e =
        let a = and_parts (same_key v (key_at p)) _ e in
        let b = and_parts (is_among m multiples) _ a.1 in
        (f.size, f.bits, held_at v a.0, times_so m b.0 (multiple_of pres (text_of_param p)) refl b.1)

    one_apart : (in_frame : Key → Bool) → in_frame (whole (key_at p)) ≡ false → (h : Fact) → of_parameter cs (start p) h ≡ true → in_frame (whole (subject h)) ≡ is_of_cell h
    one_apart in_frame out (Set v) e = ap (λ k. in_frame (whole k)) (same_key-true v (key_at p) e) ∙ out
    one_apart in_frame out (Cell a k) e = absurd (false≢true e)
    one_apart in_frame out (AtLeast v c) e = ap (λ k. in_frame (whole k)) (same_key-true v (key_at p) (and_parts (same_key v (key_at p)) _ e).0) ∙ out
    one_apart in_frame out (AtMost v c) e = ap (λ k. in_frame (whole k)) (same_key-true v (key_at p) (and_parts (same_key v (key_at p)) _ e).0) ∙ out
    one_apart in_frame out (Under v x) e = absurd (false≢true e)
    one_apart in_frame out (Is v x) e = ap (λ k. in_frame (whole k)) (same_key-true v (key_at p) (and_parts (same_key v (key_at p)) _ e).0) ∙ out
    one_apart in_frame out (Multiple v m) e = ap (λ k. in_frame (whole k)) (same_key-true v (key_at p) (and_parts (same_key v (key_at p)) _ e).0) ∙ out

    -- ---- its range
    small : (kinds : Kinds) → HoldsKinds kinds store → f.bits < modulus f.size
    small kinds k = small_word (kind_at kinds (key_at p)) f.size f.bits (k (key_at p) (word f.size f.bits) f.held)

    high_so : (kinds : Kinds) → HoldsKinds kinds store → (o : Option stated.Interval) → range_of pres (text_of_param p) ≡ o
        → f.bits ≤ hi_of (record { key = key_at p; size = size_of (ref_of p.var).kind; range = option_map interval_of o; align = multiple_of pres (text_of_param p) })
    high_so kinds k None q = subst (λ (d : Kind). f.bits ≤ greatest_word (size_of d)) (sym f.is) (below_greatest f.size f.bits (small kinds k))
    high_so kinds k (Some i) q = (between i q).1

    low_so : (o : Option stated.Interval) → range_of pres (text_of_param p) ≡ o
        → lo_of (record { key = key_at p; size = size_of (ref_of p.var).kind; range = option_map interval_of o; align = multiple_of pres (text_of_param p) }) ≤ f.bits
    low_so None q = omega arith
    low_so (Some i) q = (between i q).0

    in_its_range : (kinds : Kinds) → HoldsKinds kinds store → entry (key_at p) ≤ hi_of (start p)
    in_its_range kinds k = subst (λ n. n ≤ hi_of (start p)) (sym entry_is) (high_so kinds k (range_of pres (text_of_param p)) refl)

    least_is : (y : Key) → same_key (key_at p) y ≡ true → lo_of (start p) ≤ entry y
    least_is y e =
        let same : entry y ≡ f.bits = ap entry (sym (same_key-true (key_at p) y e)) ∙ entry_is in
        subst (λ n. lo_of (start p) ≤ n) (sym same) (low_so (range_of pres (text_of_param p)) refl)

  -- ---- all parameters
  abbrev starts : List Param → List Start
  starts ps = map start_of (map (param_of pres) ps)

  pub all_say : (ps : List Param) → AllFit store names words ps → (h : Fact) → of_parameters cs (starts ps) h ≡ true → Says entry store h
  all_say [] a h e = absurd (false≢true e)
  all_say (p ∷ ps) a h e = elim (or_cases (of_parameter cs (start p) h) (of_parameters cs (starts ps) h) e) [ inl l ↦ one_says p a.0 h l | inr r ↦ all_say ps a.1 h r ]

  pub all_apart : (in_frame : Key → Bool) (ps : List Param) → AllFit store names words ps → AreOutside in_frame ps → (h : Fact) → of_parameters cs (starts ps) h ≡ true
      → in_frame (whole (subject h)) ≡ is_of_cell h
  all_apart in_frame [] a o h e = absurd (false≢true e)
  all_apart in_frame (p ∷ ps) a o h e =
      elim (or_cases (of_parameter cs (start p) h) (of_parameters cs (starts ps) h) e) [
        | inl l ↦ one_apart p a.0 in_frame (All-head (λ (q : Param). in_frame (whole (key_at q)) ≡ false) p ps o) h l
        | inr r ↦ all_apart in_frame ps a.1 (All-tail (λ (q : Param). in_frame (whole (key_at q)) ≡ false) p ps o) h r
      ]

  pub all_ranged : (kinds : Kinds) → HoldsKinds kinds store → (ps : List Param) → AllFit store names words ps → InRanges entry (starts ps)
  all_ranged kinds k [] a = tt
  all_ranged kinds k (p ∷ ps) a = (in_its_range p a.0 kinds k, all_ranged kinds k ps a.1)

  pub all_least : (ps : List Param) → AllFit store names words ps → (y : Key) → least_of (starts ps) y ≤ entry y
  all_least [] a y = omega arith
  all_least (p ∷ ps) a y = by (same_key (key_at p) y) refl (all_least ps a.1 y)
    where
      by : (b : Bool) → same_key (key_at p) y ≡ b → least_of (starts ps) y ≤ entry y → (if b then lo_of (start p) else least_of (starts ps) y) ≤ entry y
      by true e rest = least_is p a.0 y e
      by false e rest = rest
