-- The interval of a sum of numbers has the word that the sum is.
use Rattle.std.proofs.Common.{◌≡◌, ℕ, ◌+◌, ◌-◌, ◌<◌, ◌≤◌, ◌^◌, if◌then◌else◌, Bool, true, false, List, [], ◌∷◌, ◌++◌, refl, sym, ap, subst, arith, ℤ, ◌+ℤ◌, ◌-ℤ◌}
use Rattle.std.specs.Prelude.{nat_le, min}
use Rattle.std.proofs.Math.Nat.{min-eq_left}
use Rattle.std.proofs.lemmas.Bool.{leb-true}
use Rattle.std.proofs.lemmas.Int.{ints}
use Rattle.jz_words.specs.declared.size.Size.TheVariants.{S64}
use Rattle.jz_words.specs.Words.{residue}
use Rattle.jz_words.proofs.Residues.{residue_small}
use Rattle.jz_tree.specs.Span.{Span}
use Rattle.jz_tree.specs.declared.expr.BinOp.TheVariants as op
use Rattle.jz_tree.specs.declared.expr.Expr.{Expr}
use Rattle.jz_tree.specs.declared.expr.Expr.TheVariants as expr
use Rattle.jz_intervals.specs.declared.interval.Interval.{Interval}
use Rattle.jz_intervals.specs.Intervals.{greatest_word, each_word, where_so, sum, difference}
use Rattle.jz_terms.specs.Terms.{term_of}
use Rattle.jz_terms.proofs.TermForms.{term_num, term_bin}
use Rattle.jz_facts.specs.Facts.{Facts, Given}
use Rattle.jz_facts.specs.Intervals.{is_flag, interval}
use Rattle.jz_homes.specs.Homes.{Homes}
use Rattle.jz_homes.specs.Sums.{Sum, IsSum, a_number, a_variable, a_multiple, multiple_of, added, less}
use Rattle.jz_homes.proofs.SumValues.{residue_add}

-- a word lies in an interval
record LiesIn (a : ℕ) (i : Interval) : Type 0 where
  low : i.lo ≤ a
  high : a ≤ i.hi

word_lies : (z : ℤ) → LiesIn (residue S64 z) (each_word S64)
word_lies z = let h = residue_small z in record { low = omega arith; high = omega (arith, h) }

by_test : (c : Bool) (z : ℤ) (lo hi : ℕ) → (c ≡ true → LiesIn (residue S64 z) (record { lo = lo; hi = hi })) → LiesIn (residue S64 z) (where_so c S64 lo hi)
by_test true z lo hi h = h refl
by_test false z lo hi h = word_lies z

sum_residue : (x y : ℤ) → residue S64 x + residue S64 y < 2 ^ 64 → residue S64 (x +ℤ y) ≡ residue S64 x + residue S64 y
sum_residue x y lt = let e = residue_add x y in omega (arith, e, lt)

back : (x y : ℤ) → ((x -ℤ y) +ℤ y) ≡ x
back x y = omega (arith, ints)

difference_residue : (x y : ℤ) → residue S64 y ≤ residue S64 x → residue S64 (x -ℤ y) ≡ residue S64 x - residue S64 y
difference_residue x y le =
    let e = residue_add (x -ℤ y) y in
    let f : residue S64 ((x -ℤ y) +ℤ y) ≡ residue S64 x = ap (residue S64) (back x y) in
    let a = residue_small (x -ℤ y) in let b = residue_small y in let c = residue_small x in
    omega (arith, e, f, a, b, c, le)

sum_lies : (x y : ℤ) (i j : Interval) → LiesIn (residue S64 x) i → LiesIn (residue S64 y) j → LiesIn (residue S64 (x +ℤ y)) (sum S64 i j)
sum_lies x y i j h k =
    by_test (nat_le (i.hi + j.hi) (greatest_word S64)) (x +ℤ y) (min (i.lo + j.lo) (greatest_word S64)) (i.hi + j.hi)
    (λ t.
    let le : i.hi + j.hi ≤ greatest_word S64 = leb-true (i.hi + j.hi) (greatest_word S64) t in
    let a = h.low in let b = h.high in let c = k.low in let d = k.high in
    let e = sum_residue x y (omega (arith, le, b, d)) in
    let m : min (i.lo + j.lo) (greatest_word S64) ≡ i.lo + j.lo = min-eq_left (omega (arith, le, a, b, c, d)) in
    record { low = omega (arith, e, a, c, m); high = omega (arith, e, b, d) })

difference_lies : (x y : ℤ) (i j : Interval) → LiesIn (residue S64 x) i → LiesIn (residue S64 y) j → LiesIn (residue S64 (x -ℤ y)) (difference S64 i j)
difference_lies x y i j h k =
    by_test (nat_le j.hi i.lo) (x -ℤ y) (i.lo - j.hi) (i.hi - j.lo)
    (λ t.
    let le : j.hi ≤ i.lo = leb-true j.hi i.lo t in
    let a = h.low in let b = h.high in let c = k.low in let d = k.high in
    let e = difference_residue x y (omega (arith, le, a, d)) in
    record { low = omega (arith, e, a, d); high = omega (arith, e, b, c) })

both_empty : (xs ys : List (ℕ × ℕ)) → xs ++ ys ≡ [] → (xs ≡ []) × (ys ≡ [])
both_empty [] ys e = (refl, e)
both_empty (x ∷ xs) ys e = cc

module _ (g : Given) (s : Facts) where
  abbrev I : Expr → Interval
  I e = interval g s S64 (term_of e)

  number_lies : (i : ℤ) (at : Span) → LiesIn (residue S64 i) (I (expr.Num i at))
  number_lies i at = subst (λ t. LiesIn (residue S64 i) (interval g s S64 t)) (sym (term_num (expr.Num i at) i at refl)) (record { low = omega arith; high = omega arith })

  by_flag : (b : Bool) (z : ℤ) (i : Interval) → LiesIn (residue S64 z) i → LiesIn (residue S64 z) (if b then each_word S64 else i)
  by_flag true z i h = word_lies z
  by_flag false z i h = h

  added_lies : (a b : Expr) (here : Span) (x y : ℤ) → LiesIn (residue S64 x) (I a) → LiesIn (residue S64 y) (I b) → LiesIn (residue S64 (x +ℤ y)) (I (expr.Bin op.Add a b here))
  added_lies a b here x y h k =
      subst (λ t. LiesIn (residue S64 (x +ℤ y)) (interval g s S64 t)) (sym (term_bin (expr.Bin op.Add a b here) op.Add a b here refl))
      (by_flag (is_flag (term_of b)) (x +ℤ y) (sum S64 (I a) (I b)) (sum_lies x y (I a) (I b) h k))

  less_lies : (a b : Expr) (here : Span) (x y : ℤ) → LiesIn (residue S64 x) (I a) → LiesIn (residue S64 y) (I b) → LiesIn (residue S64 (x -ℤ y)) (I (expr.Bin op.Sub a b here))
  less_lies a b here x y h k =
      subst (λ t. LiesIn (residue S64 (x -ℤ y)) (interval g s S64 t)) (sym (term_bin (expr.Bin op.Sub a b here) op.Sub a b here refl))
      (by_flag (is_flag (term_of b)) (x -ℤ y) (difference S64 (I a) (I b)) (difference_lies x y (I a) (I b) h k))

  lies : (home : Homes) {e : Expr} {t : Sum} → IsSum home e t → t.terms ≡ [] → LiesIn (residue S64 t.number) (I e)
  lies home (a_number i at) q = number_lies i at
  lies home (a_variable x n h) q = cc
  lies home (a_multiple x n k at here h) q = cc
  lies home (multiple_of x n k at here h) q = cc
  lies home (added {a} {b} {t} {u} here p r) q =
      let w = both_empty t.terms u.terms q in
      added_lies a b here t.number u.number (lies home p w.0) (lies home r w.1)
  lies home (less {a} {t} i at here p) q = less_lies a (expr.Num i at) here t.number i (lies home p q) (number_lies i at)

  pub not_above : (home : Homes) (e : Expr) (t : Sum) → IsSum home e t → t.terms ≡ [] → residue S64 t.number ≤ (interval g s S64 (term_of e)).hi
  not_above home e t h q = (lies home h q).high
