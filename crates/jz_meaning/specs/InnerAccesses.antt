-- An access to memory by its parts, as the code makes it: the address is known.
use Rattle.std.specs.Prelude.{ℕ, [], Option, Some}
use Rattle.x64_insn.specs.Size.{Size}
use Rattle.x64_insn.specs.Memory.{Memory}
use Rattle.jz_runs.specs.Rules.{went}
use Rattle.jz_meaning.specs.Attempts.{Evaluation, and_then}
use Rattle.jz_meaning.specs.States.{Value, word}
use Rattle.jz_meaning.specs.Values as values
use Rattle.jz_meaning.specs.Values.{MemoryAccess, accessed, after_store}

-- its bytes have these bits
abbrev pub load_bits : MemoryAccess → Size → ℕ → ℕ → Evaluation Value
load_bits p size address bits =
    and_then (accessed p.span p.unaligned size address (Some bits)) (λ b. went [] (word size b))

abbrev pub load_word : MemoryAccess → Option Size → ℕ → Memory → Evaluation Value
load_word p = values.load_word p.span p.unaligned

-- its bytes get these bits
abbrev pub store_bits : MemoryAccess → Size → ℕ → ℕ → Memory → Evaluation Memory
store_bits p size address bits memory =
    accessed p.span p.unaligned size address (after_store memory address size bits)

abbrev pub store_word : MemoryAccess → Option Size → ℕ → Option Value → Memory → Evaluation Memory
store_word p = values.store_word p.span p.unaligned
