-- How many lines are instructions, one line more.
use Rattle.std.proofs.Common.{◌≡◌, ℕ, ◌+◌, ◌<◌, ◌≤◌, List, [], ◌∷◌, length, get_or, drop, sym, ap, ◌∙◌, arith}
use Rattle.std.proofs.lemmas.List.{drop_more}
use Rattle.jz_linear.specs.declared.line.Line.{Line}
use Rattle.jz_linear.specs.declared.line.Line.TheVariants as line
use Rattle.jz_linear.specs.LineRuns.{instructions_in}

abbrev pub count : List Line → ℕ
count ls = length (instructions_in ls)

count_first : (x : Line) (ls : List Line) → count (x ∷ ls) ≡ count (x ∷ []) + count ls
count_first (line.Label l) ls = omega arith
count_first (line.Insn i) ls = omega arith
count_first (line.Jcc c l) ls = omega arith
count_first (line.Jmp l) ls = omega arith
count_first (line.Call l) ls = omega arith

one_at_most : (x : Line) → count (x ∷ []) ≤ 1
one_at_most (line.Label l) = omega arith
one_at_most (line.Insn i) = omega arith
one_at_most (line.Jcc c l) = omega arith
one_at_most (line.Jmp l) = omega arith
one_at_most (line.Call l) = omega arith

count_short : (ls : List Line) → count ls ≤ length ls
count_short [] = omega arith
count_short (x ∷ ls) = omega (arith, count_first x ls, one_at_most x, count_short ls)

module _ (ls : List Line) (i : ℕ) (x : Line) (lt : i < length ls) (is : x ≡ get_or ls i x) (so_far : ℕ) (left : so_far + count (drop i ls) ≡ count ls) where
  here : count (drop i ls) ≡ count (x ∷ []) + count (drop (i + 1) ls)
  here = ap count (drop_more ls i x lt ∙ ap (λ y. y ∷ drop (i + 1) ls) (sym is)) ∙ count_first x (drop (i + 1) ls)

  pub count_fits : (w : ℕ) → w ≡ count (x ∷ []) → so_far + w ≤ length ls
  count_fits w e = omega (arith, e, here, left, count_short ls)

  pub count_on : (w next : ℕ) → w ≡ count (x ∷ []) → next ≡ so_far + w → next + count (drop (i + 1) ls) ≡ count ls
  count_on w next e n = omega (arith, e, n, here, left)
