-- Where a run of a program stands: what its variables are, and the valid bytes of the memory.
use Rattle.std.specs.Prelude.{ℕ, ℤ, ◌==◌, Bool, true, false, ◌&&◌, List, Option, Some, None, if◌then◌else◌}
use Rattle.std.specs.Str.{bytes_eq}
use Rattle.x64_insn.specs.Size.{Size}
use Rattle.x64_insn.specs.Memory.{Memory}
use Rattle.jz_meaning.specs.declared.value.Value as code
use Rattle.jz_meaning.specs.declared.value.Value.TheVariants as v

-- what an expression may be
pub data Value : Type 0 where
  -- a word of a size, by its bits as an unsigned number
  word : Size → ℕ → Value
  -- a flag, or the answer of a condition
  boolean : Bool → Value
  -- a whole number that is known when the text is compiled
  integer : ℤ → Value

-- a value of the code
abbrev pub as_value : code.Value → Value
as_value (v.Word w) = word w.size w.bits
as_value (v.Bool c) = boolean c
as_value (v.Int i) = integer i

-- what can have a value: a variable, or one cell of an array; the copy tells the variables of
-- copied bodies apart
pub record Key : Type 0 where
  pub name : List ℕ
  pub copy : ℕ
  pub cell : Option ℕ

abbrev pub same_cell : Option ℕ → Option ℕ → Bool
same_cell None None = true
same_cell (Some i) (Some j) = i == j
same_cell _ _ = false

-- two keys are one
abbrev pub same_key : Key → Key → Bool
same_key a b = bytes_eq a.name b.name && (a.copy == b.copy && same_cell a.cell b.cell)

-- what has a value, with that value
abbrev pub Store : Type 0
Store = Key → Option Value

-- nothing has a value
abbrev pub empty_store : Store
empty_store k = None

-- with this at one key: a value, or none
abbrev pub put : Store → Key → Option Value → Store
put store k v q = if same_key k q then v else store q

pub record State : Type 0 where
  pub store : Store
  pub memory : Memory
