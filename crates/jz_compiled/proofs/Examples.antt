-- Small cases of the layout, and of what a transformer may show of the frame.
use Rattle.std.proofs.Common.{◌≡◌, ℕ, ◌+◌, List, [], ◌∷◌, map, get_or, refl, sym, subst, zero, suc, ◌<◌, ◌*◌, arith, pos, negsuc, ◌<ℤ◌}
use Rattle.std.proofs.lemmas.Int.{ints}
use Rattle.jz_words.specs.declared.size.Size.TheVariants.{S8, S16, S64}
use Rattle.jz_words.specs.Sizes.{bytes_of}
use Rattle.jz_leak.specs.declared.transformer.Form.TheVariants as form
use Rattle.jz_correct.specs.Frames.{from_entry}
use Rattle.jz_compiled.specs.Layout.{StackVariable, Place, places_from, end_from}
use Rattle.jz_compiled.specs.Showing.{FormStaysIn}

-- ---- one byte, a cell of 64 bits, three of 16
abbrev three : List StackVariable
three =
    record { name = ([], 0); cell = S8; count = 1 } ∷ record { name = ([], 0); cell = S64; count = 1 } ∷ record { name = ([], 0); cell = S16; count = 3 } ∷ []

abbrev offset_of : Place → ℕ
offset_of p = p.offset

three_places : map offset_of (places_from 0 three) ≡ 0 ∷ 8 ∷ 16 ∷ []
three_places = refl

three_end : end_from 0 three ≡ 22
three_end = refl

-- ---- forms, where one word stands in a frame of 8 bytes
abbrev word : StackVariable
word = record { name = ([], 0); cell = S64; count = 1 }

in_place : FormStaysIn (places_from 0 (word ∷ [])) 8 (([], 0) ∷ []) (form.Frame (negsuc 7))
in_place = (record { of = word; offset = 0 }, (0, omega arith, refl), (0, omega arith, refl), omega (arith, ints), omega (arith, ints))

-- the slot of the return address is no place of it
above_it : FormStaysIn (places_from 0 (word ∷ [])) 8 (([], 0) ∷ []) (form.Frame (pos 0)) → ⊥
above_it h = only h.0 h.1.0 h.1.1 h.1.2 h.4
  where
    only : (q : Place) (k : ℕ) → k < 1 → get_or (places_from 0 (word ∷ [])) k q ≡ q → pos 0 <ℤ from_entry 8 (q.offset + q.of.count * bytes_of q.of.cell) → ⊥
    only q zero lt is below = absurd (omega (arith, ints, subst (λ (p : Place). pos 0 <ℤ from_entry 8 (p.offset + p.of.count * bytes_of p.of.cell)) (sym is) below))
    only q (suc k) lt is below = absurd (omega (arith, lt))
