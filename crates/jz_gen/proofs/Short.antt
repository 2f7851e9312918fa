-- How long the texts are.
use Rattle.std.proofs.Common.{◌≡◌, ℕ, zero, suc, ◌+◌, ◌*◌, ◌/◌, ◌%◌, ◌^◌, ◌<◌, ◌≤◌, List, [], ◌∷◌, ◌++◌, length, arith, refl, codes, decimal, length-append}
use Rattle.std.specs.Prelude.{slice_index_or}
use Rattle.std.specs.List.{AllByRecursion}
use Rattle.std.proofs.lemmas.Fmt.{length-decimal-le}
use Rattle.jz_gen.specs.Programs.{next_number, variable, cell, branch, statements, statement_of, line, lines, head, tail, program}

digit : (n : ℕ) → n < 10 → length (decimal n) ≤ 1
digit n lt = length-decimal-le 1 n (omega arith) (omega (arith, lt)) (omega (arith, lt))

exactly : (xs : List ℕ) (n : ℕ) → length xs ≡ n → length xs ≤ n
exactly xs n e = omega (arith, e)

two : (xs ys : List ℕ) (m n : ℕ) → length xs ≤ m → length ys ≤ n → length (xs ++ ys) ≤ m + n
two xs ys m n a b = let e = length-append xs ys in omega (arith, a, b, e)

short_variable : (i : ℕ) → i < 10 → length (variable i) ≤ 2
short_variable i lt = two (codes "x") (decimal i) 1 1 (exactly (codes "x") 1 refl) (digit i lt)

short_cell : (n : ℕ) → n < 10 → length (cell n) ≤ 4
short_cell n lt = two (codes "s[") (decimal n ++ codes "]") 2 2 (exactly (codes "s[") 2 refl) (two (decimal n) (codes "]") 1 1 (digit n lt) (exactly (codes "]") 1 refl))

-- two words with an operator between them and a sign at the end
four : (x op y end : List ℕ) (a b c d : ℕ) → length x ≤ a → length op ≤ b → length y ≤ c → length end ≤ d → length (x ++ op ++ y ++ end) ≤ a + b + c + d
four x op y end a b c d p q r s = two (x ++ op ++ y) end (a + b + c) d (two (x ++ op) y (a + b) c (two x op a b p q) r) s

short_branch : (x y : List ℕ) → length x ≤ 2 → length y ≤ 2 → length (branch x y) ≤ 25
short_branch x y p q =
    four (codes "if (" ++ x ++ codes " < " ++ y) (codes ") { ") x (codes " -= 1; }") 11 4 2 8
    (four (codes "if (") x (codes " < ") y 4 2 3 2 (exactly (codes "if (") 4 refl) p (exactly (codes " < ") 3 refl) q)
    (exactly (codes ") { ") 4 refl) p (exactly (codes " -= 1; }") 8 refl)

abbrev IsShort : List ℕ → Type 0
IsShort s = length s ≤ 25

less : (s : List ℕ) (n : ℕ) → n ≤ 25 → length s ≤ n → IsShort s
less s n most le = omega (arith, most, le)

all_short : (x y : List ℕ) (n : ℕ) → length x ≤ 2 → length y ≤ 2 → n < 8 → AllByRecursion IsShort (statements x y n)
all_short x y n p q lt =
    let c = short_cell n (omega (arith, lt)) in
    let end = exactly (codes ";") 1 refl in
    let d = digit (n + 1) (omega (arith, lt)) in (
      less (x ++ codes " += " ++ y ++ codes ";") 9 (omega arith) (four x (codes " += ") y (codes ";") 2 4 2 1 p (exactly (codes " += ") 4 refl) q end),
      (
        less (x ++ codes " -= " ++ cell n ++ codes ";") 11 (omega arith) (four x (codes " -= ") (cell n) (codes ";") 2 4 4 1 p (exactly (codes " -= ") 4 refl) c end),
        (
          less (x ++ codes " ^= " ++ y ++ codes ";") 9 (omega arith) (four x (codes " ^= ") y (codes ";") 2 4 2 1 p (exactly (codes " ^= ") 4 refl) q end),
          (
            less (cell n ++ codes " = " ++ x ++ codes ";") 10 (omega arith) (four (cell n) (codes " = ") x (codes ";") 4 3 2 1 c (exactly (codes " = ") 3 refl) p end),
            (
              less (x ++ codes " *= " ++ y ++ codes ";") 9 (omega arith) (four x (codes " *= ") y (codes ";") 2 4 2 1 p (exactly (codes " *= ") 4 refl) q end),
              (
                less (x ++ codes " <<r= " ++ decimal (n + 1) ++ codes ";") 10 (omega arith) (four x (codes " <<r= ") (decimal (n + 1)) (codes ";") 2 6 1 1 p (exactly (codes " <<r= ") 6 refl) d end),
                (
                  less (x ++ codes " += " ++ decimal (n + 1) ++ codes ";") 8 (omega arith) (four x (codes " += ") (decimal (n + 1)) (codes ";") 2 4 1 1 p (exactly (codes " += ") 4 refl) d end),
                  (
                    short_branch x y p q,
                    tt,
                  ),
                ),
              ),
            ),
          ),
        ),
      ),
    )

one_short : (xs : List (List ℕ)) (k : ℕ) → AllByRecursion IsShort xs → IsShort (slice_index_or xs k [])
one_short [] zero all = less [] 0 (omega arith) (exactly [] 0 refl)
one_short [] (suc k) all = less [] 0 (omega arith) (exactly [] 0 refl)
one_short (x ∷ xs) zero all = all.0
one_short (x ∷ xs) (suc k) all = one_short xs k all.1

-- a statement by its parts
short_of : (i j n kind : ℕ) → i < 10 → j < 10 → n < 8 → IsShort (slice_index_or (statements (variable i) (variable j) n) kind [])
short_of i j n kind lt lu lv = one_short (statements (variable i) (variable j) n) kind (all_short (variable i) (variable j) n (short_variable i lt) (short_variable j lu) lv)

short_statement : (t : ℕ) → IsShort (statement_of t)
short_statement t =
    let q = t / 2 ^ 16 in
    short_of (q / 8 % 4) (q / 32 % 4) (q / 128 % 8) (q % 8) (omega arith) (omega arith) (omega arith)

short_line : (t : ℕ) → length (line t) ≤ 30
unfolding line
short_line t =
    two (codes "    ") (statement_of t ++ codes "\n") 4 26 (exactly (codes "    ") 4 refl) (two (statement_of t) (codes "\n") 25 1 (short_statement t) (exactly (codes "\n") 1 refl))

short_lines : (t size : ℕ) → length (lines t size) ≤ 30 * size
short_lines t zero = let e : length (lines t 0) ≡ 0 = refl in omega (arith, e)
short_lines t (suc size) =
    let more = two (line (next_number t)) (lines (next_number t) size) 30 (30 * size) (short_line (next_number t)) (short_lines (next_number t) size) in
    omega (arith, more)

short_head : length head ≤ 164
short_head = exactly head 164 refl

short_tail : length tail ≤ 67
short_tail = exactly tail 67 refl

pub short_program : (seed size : ℕ) → size ≤ 30000 → length (program seed size) ≤ 1048576
short_program seed size few =
    let begun = two head (lines seed size) 164 (30 * size) short_head (short_lines seed size) in
    let whole = two (head ++ lines seed size) tail (164 + 30 * size) 67 begun short_tail in
    omega (arith, few, whole)
