-- The bytes of lines as they are found: a table of the labels' offsets, and then line after line.
use Rattle.std.specs.Prelude.{◌≡◌, ◌<◌, ⊤, ℕ, suc, ◌+◌, ◌-◌, ◌^◌, true, pos, ◌-ℤ◌, List, [], ◌∷◌, ◌++◌, length, replicate, slice_set, slice_index}
use Rattle.x64_insn.specs.declared.types.Insn.TheVariants as insn
use Rattle.x64_insn.specs.declared.types.Width.TheVariants.{Rel32}
use Rattle.x64_insn.specs.Chosen.{chosen_bytes, is_spelled}
use Rattle.jz_linear.specs.declared.line.Line.{Line}
use Rattle.jz_linear.specs.declared.line.Line.TheVariants as line
use Rattle.x64_assemble.specs.Assembling.{line_size}

-- how many bytes a line has where jumps are wide
abbrev pub bytes_in : Line → ℕ
bytes_in x = line_size x Rel32

-- ---- the offsets of labels
-- a table that is long enough for a label
unfoldable pub grown : List ℕ → ℕ → List ℕ
grown t l = t ++ replicate (suc l - length t) 0

-- and that has its offset
abbrev pub marked : List ℕ → ℕ → ℕ → List ℕ
marked t l at = slice_set (grown t l) l at

abbrev pub marked_by : Line → ℕ → List ℕ → List ℕ
marked_by (line.Label l) at t = marked t l at
marked_by other at t = t

abbrev pub table_from : List Line → ℕ → List ℕ → List ℕ
table_from [] at t = t
table_from (x ∷ ls) at t = table_from ls (at + bytes_in x) (marked_by x at t)

-- an instruction that is no jump has a spelling
abbrev pub IsSpelled : Line → Type 0
IsSpelled (line.Insn i) = is_spelled i ≡ true
IsSpelled other = ⊤

-- ---- the bytes, by that table
abbrev pub line_code : List ℕ → Line → ℕ → List ℕ
line_code t (line.Insn i) next = chosen_bytes i
line_code t (line.Label l) next = []
line_code t (line.Jcc c l) next =
    chosen_bytes (insn.Jcc c Rel32 (pos (slice_index t l) -ℤ pos next))
line_code t (line.Jmp l) next = chosen_bytes (insn.Jmp Rel32 (pos (slice_index t l) -ℤ pos next))
line_code t (line.Call l) next = chosen_bytes (insn.Call (pos (slice_index t l) -ℤ pos next))

abbrev pub code_from : List ℕ → ℕ → List Line → List ℕ
code_from t at [] = []
code_from t at (x ∷ ls) =
    line_code t x (at + bytes_in x) ++ code_from t (at + bytes_in x) ls

-- a line has a spelling at an offset
abbrev pub IsReady : List ℕ → ℕ → Line → Type 0
IsReady t at (line.Insn i) = is_spelled i ≡ true
IsReady t at (line.Label l) = ⊤
IsReady t at (line.Jcc c l) = (slice_index t l < 2 ^ 31) × (at + 6 < 2 ^ 31)
IsReady t at (line.Jmp l) = (slice_index t l < 2 ^ 31) × (at + 5 < 2 ^ 31)
IsReady t at (line.Call l) = (slice_index t l < 2 ^ 31) × (at + 5 < 2 ^ 31)

abbrev pub AreReady : List ℕ → ℕ → List Line → Type 0
AreReady t at [] = ⊤
AreReady t at (x ∷ ls) = IsReady t at x × AreReady t (at + bytes_in x) ls
