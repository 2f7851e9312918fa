-- The bits of words.
use Rattle.std.proofs.Common.{◌≡◌, List, [], ◌∷◌, map, refl, ap}
use Rattle.jz_tree.specs.Word as code_word
use Rattle.jz_interp.specs.Outcomes.{values_of}
use Rattle.jasminc_calls.specs.Calls.{bits_of}

pub bits_are : (ws : List code_word.Word) → map (λ w. w.bits) ws ≡ map bits_of (values_of ws)
bits_are [] = refl
bits_are (w ∷ ws) = ap (λ bs. w.bits ∷ bs) (bits_are ws)
