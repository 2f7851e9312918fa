-- The place behind bytes, by how many of them are line feeds, and how many stand behind the last of
-- these.
use Rattle.std.proofs.Common.{◌≡◌, ℕ, ◌+◌, List, [], ◌∷◌, ◌++◌, true, false, not, ◌==◌, if◌then◌else◌, cond, refl, sym, ap, ◌∙◌, arith}
use Rattle.std.specs.Prelude.{reverse, count_by}
use Rattle.std.specs.List.{prefix_len, suffix_len}
use Rattle.std.proofs.lemmas.List.{reverse-append, reverse-reverse}
use Rattle.std.proofs.lemmas.List.Sums.{sum_by-cons}
use Rattle.jz_io.specs.declared.span.Span.{Span}
use Rattle.jz_lex.specs.Lexing.{first_place, after}

abbrev next_line : Span → Span
next_line s = record { line = s.line + 1; col = 1 }

abbrev next_column : Span → Span
next_column s = record { line = s.line; col = s.col + 1 }

lines_from : (s : Span) (bs : List ℕ) → (after s bs).line ≡ s.line + count_by (λ b. b == 10) bs
lines_from s [] = omega arith
lines_from s (b ∷ bs) =
    let feeds = count_by (λ c. c == 10) bs in
    let i = lines_from (next_line s) bs in
    let j = lines_from (next_column s) bs in
    elim (b == 10) as (λ t. (if t then after (next_line s) bs else after (next_column s) bs).line ≡ s.line + (cond t 1 0 + feeds))
    [ true ↦ omega (arith, i) | false ↦ omega (arith, j) ]
    ∙ ap (λ n. s.line + n) (sym (sum_by-cons (λ c. cond (c == 10) 1 0) b bs))

after-push : (s : Span) (bs : List ℕ) (b : ℕ) → after s (bs ++ b ∷ []) ≡ after (after s bs) (b ∷ [])
after-push s [] b = refl
after-push s (c ∷ bs) b =
    elim (c == 10) as (λ t. (if t then after (next_line s) (bs ++ b ∷ []) else after (next_column s) (bs ++ b ∷ []))
    ≡ after (if t then after (next_line s) bs else after (next_column s) bs) (b ∷ []))
    [ true ↦ after-push (next_line s) bs b | false ↦ after-push (next_column s) bs b ]

column_back : (bs : List ℕ) → (after first_place (reverse bs)).col ≡ 1 + prefix_len (λ b. not (b == 10)) bs
column_back [] = refl
column_back (b ∷ bs) =
    let before = after first_place (reverse bs) in
    let others = prefix_len (λ c. not (c == 10)) bs in
    let i = column_back bs in
    ap (λ z. (after first_place z).col) (reverse-append (b ∷ []) bs) ∙ (ap (λ s. s.col) (after-push first_place (reverse bs) b)
    ∙ elim (b == 10) as (λ t. (if t then next_line before else next_column before).col ≡ 1 + cond (not t) (1 + others) 0)
    [ true ↦ refl | false ↦ omega (arith, i) ])

pub lines : (bs : List ℕ) → (after first_place bs).line ≡ 1 + count_by (λ b. b == 10) bs
lines bs = lines_from first_place bs

pub columns : (bs : List ℕ) → (after first_place bs).col ≡ 1 + suffix_len (λ b. not (b == 10)) bs
columns bs = ap (λ z. (after first_place z).col) (sym (reverse-reverse bs)) ∙ column_back (reverse bs)
