-- The results of an instruction, one after another.
use Rattle.std.proofs.Common.{◌≡◌, ℕ, zero, suc, ◌+◌, ◌<◌, ◌≤◌, List, [], ◌∷◌, drop, length, get_or, Option, Some, None, Bool, true, false, refl, ap, sym, ◌∙◌, arith}
use Rattle.std.specs.Prelude.{◌==◌, ℤ, pos, negsuc, if◌then◌else◌}
use Rattle.std.proofs.lemmas.List.{at_drop_more}
use Rattle.std.proofs.Math.ListN.{drop_of_length-le}
use Rattle.jz_tree.specs.declared.stmt.Lval.{Lval}
use Rattle.jz_tree.specs.declared.intrinsic.Intrinsic.{Intrinsic}
use Rattle.jz_tree.specs.declared.intrinsic.Intrinsic.TheVariants as name
use Rattle.jz_facts.specs.Facts.{Facts, Given}
use Rattle.jz_tree.specs.Span.{Span}
use Rattle.jz_tree.specs.declared.expr.Expr.{Expr}
use Rattle.jz_terms.specs.Terms.{num, term_of}
use Rattle.jz_facts.specs.Holding.{counted, written, all_written, flags, shift_flags, first_two, and_values, instruction_gets}
use Rattle.jz_fact_writes.specs.declared.results.Count.TheVariants as count
use Rattle.jz_fact_writes.specs.Instructing.{got, shown, count_of, written_count, number_count, of_shift, of_rotation, values_of, next_written}

-- ---- counts

pub number_counts : (z : ℤ) (at : Span) → number_count z ≡ count_of (written_count (num z at))
number_counts (pos n) at = refl
number_counts (negsuc n) at = refl

pub two_counted : (xs : List Expr) (e : Expr) → 2 ≤ length xs → length xs < 3 → e ≡ get_or xs 1 e → count_of (written_count (term_of e)) ≡ count_of (counted xs)
two_counted [] e l m h = absurd (omega (arith, l))
two_counted (a ∷ []) e l m h = absurd (omega (arith, l))
two_counted (a ∷ b ∷ []) e l m h = ap (λ x. count_of (written_count (term_of x))) h
two_counted (a ∷ b ∷ c ∷ xs) e l m h = absurd (omega (arith, m))

-- ---- lists of results

shift_shown : (n : Option ℕ) → shown (of_shift (count_of n)) ≡ and_values (shift_flags n) 1
shift_shown None = refl
shift_shown (Some n) = by (n == 0) (n == 1)
  where
    by : (a b : Bool) → shown (of_shift (if a then count.Zero else if b then count.One else count.More)) ≡ and_values (if a then flags false false false false false else flags b true true true true) 1
    by true b = refl
    by false true = refl
    by false false = refl

rotation_shown : (n : Option ℕ) → shown (of_rotation (count_of n)) ≡ and_values (first_two (shift_flags n)) 1
rotation_shown None = refl
rotation_shown (Some n) = by (n == 0) (n == 1)
  where
    by : (a b : Bool) → shown (of_rotation (if a then count.Zero else if b then count.One else count.More)) ≡ and_values (first_two (if a then flags false false false false false else flags b true true true true)) 1
    by true b = refl
    by false true = refl
    by false false = refl

pub instruction_shown : (i : Intrinsic) (n : Option ℕ) → shown (values_of i (count_of n)) ≡ instruction_gets i n
instruction_shown name.Add n = refl
instruction_shown name.Sub n = refl
instruction_shown name.And n = refl
instruction_shown name.Or n = refl
instruction_shown name.Xor n = refl
instruction_shown name.Adc n = refl
instruction_shown name.Sbb n = refl
instruction_shown name.Neg n = refl
instruction_shown name.Inc n = refl
instruction_shown name.Dec n = refl
instruction_shown name.Not n = refl
instruction_shown name.Bswap n = refl
instruction_shown name.Lea n = refl
instruction_shown name.Cmp n = refl
instruction_shown name.Test n = refl
instruction_shown name.Shl n = shift_shown n
instruction_shown name.Shr n = shift_shown n
instruction_shown name.Sar n = shift_shown n
instruction_shown name.Rol n = rotation_shown n
instruction_shown name.Ror n = rotation_shown n
instruction_shown name.Imul n = refl
instruction_shown name.Mul n = refl
instruction_shown name.Div n = refl
instruction_shown name.Setcc n = refl

abbrev rest_of : List Bool → List Bool
rest_of [] = []
rest_of (b ∷ bs) = bs

drop_rest : (bs : List Bool) (i : ℕ) → drop (i + 1) bs ≡ rest_of (drop i bs)
drop_rest bs i = ap (λ n. drop n bs) next ∙ by bs i
  where
    next : i + 1 ≡ suc i
    next = omega arith

    by : (cs : List Bool) (j : ℕ) → drop (suc j) cs ≡ rest_of (drop j cs)
    by [] zero = refl
    by [] (suc j) = refl
    by (c ∷ cs) zero = refl
    by (c ∷ cs) (suc j) = by cs j

module _ (g : Given) (s : Facts) where
  none_left : (ds : List Lval) (x : Facts) → all_written g s ds [] x ≡ x
  none_left [] x = refl
  none_left (d ∷ ds) x = refl

  step : (d : Lval) (ds : List Lval) (bs : List Bool) (x : Facts) → all_written g s ds (shown (rest_of bs)) (next_written g s d bs x) ≡ all_written g s (d ∷ ds) (shown bs) x
  step d ds [] x = none_left ds x
  step d ds (b ∷ bs) x = refl

  -- one more
  pub value_more : (to : List Lval) (i : ℕ) (d : Lval) (bs : List Bool) (old new all : Facts) → i < length to → d ≡ get_or to i d
      → new ≡ next_written g s d (drop i bs) old → all_written g s (drop i to) (shown (drop i bs)) old ≡ all → all_written g s (drop (i + 1) to) (shown (drop (i + 1) bs)) new ≡ all
  value_more to i d bs old new all l e made before =
      let rest = drop (i + 1) to in
      let here : drop i to ≡ d ∷ rest = at_drop_more (λ xs. xs) to i d l ∙ ap (λ (y : Lval). y ∷ rest) (sym e) in
      ap (λ (cs : List Bool). all_written g s rest (shown cs) new) (drop_rest bs i)
      ∙ ap (all_written g s rest (shown (rest_of (drop i bs)))) made
      ∙ step d rest (drop i bs) old
      ∙ sym (ap (λ (xs : List Lval). all_written g s xs (shown (drop i bs)) old) here)
      ∙ before

  pub value_end : (to : List Lval) (i : ℕ) (bs : List Bool) (new all : Facts) → length to ≤ i → all_written g s (drop i to) (shown (drop i bs)) new ≡ all → new ≡ all
  value_end to i bs new all l e = sym (ap (λ (xs : List Lval). all_written g s xs (shown (drop i bs)) new) (drop_of_length-le to l)) ∙ e

  pub now_written : (d : Lval) (bs : List Bool) (i : ℕ) (b : Bool) (x : Facts) → i < length bs → b ≡ get_or bs i false → written g s d (got b) x ≡ next_written g s d (drop i bs) x
  now_written d bs i b x l e = ap (λ (c : Bool). written g s d (got c) x) e ∙ sym (ap (λ (cs : List Bool). next_written g s d cs x) (at_drop_more (λ xs. xs) bs i false l))

  pub none_written : (d : Lval) (bs : List Bool) (i : ℕ) (x : Facts) → length bs ≤ i → x ≡ next_written g s d (drop i bs) x
  none_written d bs i x l = sym (ap (λ (cs : List Bool). next_written g s d cs x) (drop_of_length-le bs l))
