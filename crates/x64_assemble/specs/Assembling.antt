-- The bytes of lines, by a width for each jump.
use Rattle.std.specs.Prelude.{◌≡◌, ◌⊎◌, ⊤, ℕ, zero, suc, ◌+◌, pos, ◌-ℤ◌, true, List, [], ◌∷◌, ◌++◌, map, length}
use Rattle.std.specs.List.{concat, AllByRecursion}
use Rattle.x64_insn.specs.declared.types.Insn.{Insn}
use Rattle.x64_insn.specs.declared.types.Insn.TheVariants as insn
use Rattle.x64_insn.specs.declared.types.Width.{Width}
use Rattle.x64_insn.specs.declared.types.Width.TheVariants.{Rel8, Rel32}
use Rattle.x64_insn.specs.Chosen.{chosen_bytes, is_spelled}
use Rattle.x64_insn.specs.Encoding.{Spells}
use Rattle.jz_linear.specs.declared.line.Line.{Line}
use Rattle.jz_linear.specs.declared.line.Line.TheVariants as line
use Rattle.jz_linear.specs.LineRuns.{instructions_in, place_of}

-- an instruction, with the width of its displacement where it is a jump
pub record Wide : Type 0 where
  pub line : Line
  pub width : Width

abbrev pub line_of : Wide → Line
line_of w = w.line

-- how many bytes a jump has
abbrev pub jcc_size : Width → ℕ
jcc_size Rel8 = 2
jcc_size Rel32 = 6

abbrev pub jmp_size : Width → ℕ
jmp_size Rel8 = 2
jmp_size Rel32 = 5

abbrev pub line_size : Line → Width → ℕ
line_size (line.Insn i) w = length (chosen_bytes i)
line_size (line.Label l) w = 0
line_size (line.Jcc c l) w = jcc_size w
line_size (line.Jmp l) w = jmp_size w
line_size (line.Call l) w = 5

abbrev pub size_of : Wide → ℕ
size_of w = line_size w.line w.width

-- how many bytes stand before a place
abbrev pub offset_of : List Wide → ℕ → ℕ
offset_of [] k = 0
offset_of (w ∷ ws) zero = 0
offset_of (w ∷ ws) (suc k) = size_of w + offset_of ws k

module _ (target : ℕ → ℕ) where
  -- a line as an instruction, whose displacement counts from the byte behind it; target gives the
  -- offset of a label
  abbrev pub as_insn : Line → Width → ℕ → Insn
  as_insn (line.Insn i) w next = i
  as_insn (line.Label l) w next = insn.Ret
  as_insn (line.Jcc c l) w next = insn.Jcc c w (pos (target l) -ℤ pos next)
  as_insn (line.Jmp l) w next = insn.Jmp w (pos (target l) -ℤ pos next)
  as_insn (line.Call l) w next = insn.Call (pos (target l) -ℤ pos next)

  -- one after another from an offset on
  abbrev pub insns_from : ℕ → List Wide → List Insn
  insns_from at [] = []
  insns_from at (w ∷ ws) = as_insn w.line w.width (at + size_of w) ∷ insns_from (at + size_of w) ws

-- the offset of a label
abbrev pub target_in : List Wide → (ℕ → ℕ) → ℕ → ℕ
target_in ws place l = offset_of ws (place l)

-- the instructions of code with widths and the places of labels
abbrev pub insns_of : List Wide → (ℕ → ℕ) → List Insn
insns_of ws place = insns_from (target_in ws place) 0 ws

-- the spellings that are chosen for instructions, one after another
abbrev pub assembled : List Insn → List ℕ
assembled is = concat (map chosen_bytes is)

-- every jump with a displacement of 32 bits
abbrev pub wide_line : Line → Wide
wide_line l = record { line = l; width = Rel32 }

abbrev pub all_wide : List Line → List Wide
all_wide ls = map wide_line (instructions_in ls)

-- the instructions, and the bytes, of lines
abbrev pub insns_of_lines : List Line → List Insn
insns_of_lines ls = insns_of (all_wide ls) (place_of ls)

abbrev pub bytes_of_lines : List Line → List ℕ
bytes_of_lines ls = assembled (insns_of_lines ls)

-- the bytes are spellings of the instructions, one after another
abbrev pub AreSpelled : List Insn → List ℕ → Type 0
AreSpelled [] code = code ≡ []
AreSpelled (i ∷ is) code =
    (bytes : List ℕ) × (rest : List ℕ) × (code ≡ bytes ++ rest) × Spells bytes i
    × AreSpelled is rest

-- each instruction has a spelling
abbrev pub AreSpellable : List Insn → Type 0
AreSpellable is = AllByRecursion (λ i. is_spelled i ≡ true) is

-- ---- what lines have to be
-- each instruction that is no jump has a spelling
abbrev pub AllSpelled : List Line → Type 0
AllSpelled [] = ⊤
AllSpelled (line.Insn i ∷ ls) = (is_spelled i ≡ true) × AllSpelled ls
AllSpelled (_ ∷ ls) = AllSpelled ls

-- a label stands in lines
abbrev pub Stands : List Line → ℕ → Type 0
Stands [] l = ⊥
Stands (line.Label k ∷ ls) l = (k ≡ l) ⊎ Stands ls l
Stands (line.Insn i ∷ ls) l = Stands ls l
Stands (line.Jcc c k ∷ ls) l = Stands ls l
Stands (line.Jmp k ∷ ls) l = Stands ls l
Stands (line.Call k ∷ ls) l = Stands ls l

-- each jump names one of them
abbrev pub Named : List Line → List Line → Type 0
Named all [] = ⊤
Named all (line.Label l ∷ ls) = Named all ls
Named all (line.Insn i ∷ ls) = Named all ls
Named all (line.Jcc c l ∷ ls) = Stands all l × Named all ls
Named all (line.Jmp l ∷ ls) = Stands all l × Named all ls
Named all (line.Call l ∷ ls) = Stands all l × Named all ls

-- how many bytes they have
abbrev pub total : List Line → ℕ
total ls = offset_of (all_wide ls) (length (all_wide ls))
