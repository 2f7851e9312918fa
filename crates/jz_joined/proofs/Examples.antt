-- Small cases of what a transformer may show of the frame: one word in a frame of 8 bytes, and an array of eight words in one of 72.
use Rattle.std.proofs.Common.{◌≡◌, ℕ, zero, suc, ◌+◌, ◌*◌, ◌<◌, List, [], ◌∷◌, length, get_or, Contains, refl, sym, ap, subst, arith, ℤ, pos, negsuc, ◌≤ℤ◌, ◌<ℤ◌}
use Rattle.std.proofs.lemmas.Int.{ints}
use Rattle.jz_words.specs.declared.size.Size.TheVariants.{S64}
use Rattle.jz_words.specs.Sizes.{bytes_of}
use Rattle.jz_leak.specs.declared.transformer.Form.TheVariants as form
use Rattle.jz_leak.specs.declared.transformer.Case.{Case}
use Rattle.jz_correct.specs.Frames.{from_entry}
use Rattle.jz_compiled.specs.Layout.{Name, Place}
use Rattle.jz_compiled.specs.Showing.{LiesInPlace, FormStaysIn, IfThere}

-- ---- one place
only_one : {A : Type 0} (x : A) (y : A) (k : ℕ) → k < length (x ∷ []) → get_or (x ∷ []) k y ≡ y → x ≡ y
only_one x y zero lt e = e
only_one x y (suc k) lt e = absurd (omega (arith, lt))

-- what lies in it is between its bounds, and it has the name
bounds : (q : Place) (frame : ℕ) (names : List Name) (o : ℤ) → LiesInPlace (q ∷ []) frame names o
    → Contains names q.of.name × (from_entry frame q.offset ≤ℤ o) × (o <ℤ from_entry frame (q.offset + q.of.count * bytes_of q.of.cell))
bounds q frame names o h =
    let same = only_one q h.0 h.1.0 h.1.1 h.1.2 in
    subst (λ (p : Place). Contains names p.of.name × (from_entry frame p.offset ≤ℤ o) × (o <ℤ from_entry frame (p.offset + p.of.count * bytes_of p.of.cell))) (sym same) (h.2, h.3, h.4)

abbrev x : Name
x = (120 ∷ [], 0)

abbrev word : Place
word = record { of = record { name = x; cell = S64; count = 1 }; offset = 0 }

-- the first byte of it and the last
first_byte : FormStaysIn (word ∷ []) 8 (x ∷ []) (form.Frame (negsuc 7))
first_byte = (word, (0, omega arith, refl), (0, omega arith, refl), omega (arith, ints), omega (arith, ints))

last_byte : FormStaysIn (word ∷ []) 8 (x ∷ []) (form.Frame (negsuc 0))
last_byte = (word, (0, omega arith, refl), (0, omega arith, refl), omega (arith, ints), omega (arith, ints))

-- the byte below it, the slot of the return address, and the byte above that
below_it : FormStaysIn (word ∷ []) 8 (x ∷ []) (form.Frame (negsuc 8)) → ⊥
below_it h = let b = bounds word 8 (x ∷ []) (negsuc 8) h in absurd (omega (arith, ints, b.1))

slot_of_return : FormStaysIn (word ∷ []) 8 (x ∷ []) (form.Frame (pos 0)) → ⊥
slot_of_return h = let b = bounds word 8 (x ∷ []) (pos 0) h in absurd (omega (arith, ints, b.2))

beyond : FormStaysIn (word ∷ []) 8 (x ∷ []) (form.Frame (pos 1)) → ⊥
beyond h = let b = bounds word 8 (x ∷ []) (pos 1) h in absurd (omega (arith, ints, b.2))

-- a statement that names nothing shows nothing of it
unnamed : FormStaysIn (word ∷ []) 8 [] (form.Frame (negsuc 7)) → ⊥
unnamed h = absurd (omega (arith, (bounds word 8 [] (negsuc 7) h).0.1))

-- nor does one that names the variable of that name of another call
other_call : FormStaysIn (word ∷ []) 8 ((120 ∷ [], 1) ∷ []) (form.Frame (negsuc 7)) → ⊥
other_call h =
    let b = bounds word 8 ((120 ∷ [], 1) ∷ []) (negsuc 7) h in
    let same = only_one (120 ∷ [], 1) x b.0.0 b.0.1 b.0.2 in
    absurd (let e : ◌≡◌ {A = ℕ} 1 0 = ap (λ n. n.1) same in cc)

-- a leaked number and a constant are no places of the frame
a_number : FormStaysIn [] 8 [] (form.Leaked 0)
a_number = tt

a_constant : FormStaysIn [] 8 [] (form.Num 4096)
a_constant = tt

-- ---- an array of eight words, in a frame of 72 bytes
abbrev cells : Place
cells = record { of = record { name = x; cell = S64; count = 8 }; offset = 0 }

indexed : FormStaysIn (cells ∷ []) 72 (x ∷ []) (form.Indexed (negsuc 71) 8 0)
indexed = (cells, (0, omega arith, refl), (0, omega arith, refl), omega (arith, ints), omega (arith, ints))

last_cell : FormStaysIn (cells ∷ []) 72 (x ∷ []) (form.Frame (negsuc 15))
last_cell = (cells, (0, omega arith, refl), (0, omega arith, refl), omega (arith, ints), omega (arith, ints))

-- the eight bytes that align the frame are no cell of it
padding : FormStaysIn (cells ∷ []) 72 (x ∷ []) (form.Frame (negsuc 7)) → ⊥
padding h = let b = bounds cells 72 (x ∷ []) (negsuc 7) h in absurd (omega (arith, ints, b.2))

-- counted from the frame's end it begins elsewhere
from_the_end : FormStaysIn (cells ∷ []) 72 (x ∷ []) (form.Indexed (pos 0) 8 0) → ⊥
from_the_end h = let b = bounds cells 72 (x ∷ []) (pos 0) h in absurd (omega (arith, ints, b.2))

-- ---- of an arm that is gone nothing is asked
gone : (Stays : List Case → Type 0) → IfThere (cells ∷ []) 72 Stays []
gone Stays = tt
