-- Two rules for one statement of the small language.
use Rattle.std.specs.Prelude.{◌≡◌, ℕ, ◌-◌, ◌/◌, List, [], ◌∷◌}
use Rattle.jz_change.specs.declared.change.Number.TheVariants.{Fixed}
use Rattle.jz_change.specs.declared.change.Numbers.{Numbers}
use Rattle.jz_change.specs.declared.change.Numbers.TheVariants.{Same, These}
use Rattle.jz_pass.specs.Rewriting.{Rewriting}

-- a test stays as it is
pub data StaysTest : ℕ → List ℕ → List Numbers → ℕ → Numbers → Type 0 where
  stays : {p : ℕ} → StaysTest p [] [] p Same

-- ---- a number is added by halves

pub data InHalves : ℕ → List ℕ → List Numbers → Type 0 where
  in_halves :
      {k : ℕ}
      → InHalves k ((k / 2) ∷ (k - k / 2) ∷ [])
      (These (Fixed (k / 2) ∷ []) ∷ These (Fixed (k - k / 2) ∷ []) ∷ [])

abbrev pub halving : Rewriting ℕ ℕ ℕ ℕ
halving = record {
  Op = InHalves;
  Quiet = λ o o2. ⊥;
  Test = StaysTest;
}

-- ---- nothing is no longer added

pub data WithoutNothing : ℕ → List ℕ → List Numbers → Type 0 where
  nothing : WithoutNothing 0 [] []
  something : {k : ℕ} → (k ≡ 0 → ⊥) → WithoutNothing k (k ∷ []) (Same ∷ [])

abbrev pub dropping : Rewriting ℕ ℕ ℕ ℕ
dropping = record {
  Op = WithoutNothing;
  Quiet = λ o o2. ⊥;
  Test = StaysTest;
}
