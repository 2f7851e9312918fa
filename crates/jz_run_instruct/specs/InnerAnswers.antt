-- What the code answers, without what it keeps of words.
use Rattle.std.specs.Prelude.{◌≡◌, ℕ, List, [], Result, Ok, Err}
use Rattle.jz_tree.specs.Failure.{Failure}
use Rattle.jz_tree.specs.Failures.{IfAnswered}
use Rattle.x64_insn.specs.Word.{Word}
use Rattle.jz_meaning.specs.Rules.{went}
use Rattle.jz_meaning.specs.declared.value.Stuck.{Stuck}
use Rattle.jz_meaning.specs.Attempts.{Evaluation, and_then, did, numbers_first}

-- the bits of two words
abbrev pub both_bits : Result (Word × Word) Stuck → Result (ℕ × ℕ) Stuck
both_bits (Ok p) = Ok (p.0.bits, p.1.bits)
both_bits (Err k) = Err k

-- one operand, and then another
abbrev pub both_words : Evaluation ℕ → Evaluation ℕ → Evaluation (ℕ × ℕ)
both_words g h = and_then g (λ x. and_then h (λ y. went [] (x, y)))

-- the answer and its numbers behind those before, as the definition gives the bits of two words
abbrev pub GivesWords :
    Result (Word × Word) (Failure Stuck) → List ℕ → List ℕ → Evaluation (ℕ × ℕ) → Type 0
GivesWords result before now e =
    IfAnswered result (λ r. did now (both_bits r) ≡ numbers_first before e)
