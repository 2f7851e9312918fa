-- Programs that are made of a number: the same one of the same number.
use Rattle.std.specs.Prelude.{ℕ, zero, suc, ◌+◌, ◌*◌, ◌/◌, ◌%◌, ◌^◌, List, [], ◌∷◌, ◌++◌, codes, decimal, slice_index_or}

-- the number behind one: those of C's rand as its standard gives it for an example
unfoldable pub next_number : ℕ → ℕ
next_number t = (t * 1103515245 + 12345) % 2 ^ 31

-- a variable x0 to x3, and a cell of the array
abbrev pub variable : ℕ → List ℕ
variable i = codes "x" ++ decimal i

abbrev pub cell : ℕ → List ℕ
cell n = codes "s[" ++ decimal n ++ codes "]"

-- a small branch
abbrev pub branch : List ℕ → List ℕ → List ℕ
branch x y = codes "if (" ++ x ++ codes " < " ++ y ++ codes ") { " ++ x ++ codes " -= 1; }"

-- the statements of each kind, with two variables and a number below 8
abbrev pub statements : List ℕ → List ℕ → ℕ → List (List ℕ)
statements x y n =
    (x ++ codes " += " ++ y ++ codes ";")
    ∷ (x ++ codes " -= " ++ cell n ++ codes ";")
    ∷ (x ++ codes " ^= " ++ y ++ codes ";")
    ∷ (cell n ++ codes " = " ++ x ++ codes ";")
    ∷ (x ++ codes " *= " ++ y ++ codes ";")
    ∷ (x ++ codes " <<r= " ++ decimal (n + 1) ++ codes ";")
    ∷ (x ++ codes " += " ++ decimal (n + 1) ++ codes ";")
    ∷ branch x y
    ∷ []

-- the statement of a number, by its bits from the 16th on: three of the kind, two and two of the
-- variables, three of the number
abbrev pub statement_of : ℕ → List ℕ
statement_of t = let q = t / 2 ^ 16 in
    slice_index_or (statements (variable (q / 8 % 4)) (variable (q / 32 % 4)) (q / 128 % 8)) (q % 8) []

-- its line
unfoldable pub line : ℕ → List ℕ
line t = codes "    " ++ statement_of t ++ codes "\n"

-- so many lines, by the numbers behind one
abbrev pub lines : ℕ → ℕ → List ℕ
lines t zero = []
lines t (suc size) = line (next_number t) ++ lines (next_number t) size

-- before them and behind them: what is read of the arguments, and a loop of two turns
abbrev pub head : List ℕ
head = codes "export fn main(reg u64 x1 x2 x3 c) -> reg u64 {\n  reg u64 x0;\n  stack u64[8] s;\n  inline int m;\n  x0 = 1;\n  for m = 0 to 8 { s[m] = m; }\n  c = 0;\n  while (c < 2) {\n"

abbrev pub tail : List ℕ
tail = codes "    c += 1;\n  }\n  x0 ^= x1;\n  x0 ^= x2;\n  x0 ^= x3;\n  return x0;\n}\n"

-- the program of a number, with so many statements in its loop
abbrev pub program : ℕ → ℕ → List ℕ
program seed size = head ++ lines seed size ++ tail
