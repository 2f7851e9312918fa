-- The numbers that a placed operation shows, by those that it shows over variables.
use Rattle.std.proofs.Common.{◌≡◌, ℕ, List, [], ◌∷◌, ◌++◌, refl, sym, ap, ◌∙◌}
use Rattle.std.specs.Prelude.{Option, Some, None, option_map, pos, ◌+ℤ◌}
use Rattle.jz_words.specs.declared.size.Size.{Size}
use Rattle.jz_words.specs.declared.size.Size.TheVariants.{S64}
use Rattle.jz_words.specs.Words.{residue}
use Rattle.jz_operations.specs.declared.operation.Cell.{Cell}
use Rattle.jz_operations.specs.declared.operation.Arg.TheVariants as arg
use Rattle.jz_operations.specs.Values.{State}
use Rattle.jz_operations.specs.Rows.{if_some, address_in, cell_in, base_in, cell_numbers, Output, access_numbers}
use Rattle.jz_operations.specs.Standing.{cell_address, goes_to, goes_first}
use Rattle.std.specs.Option.{option_or, option_to_list}
use Rattle.jz_placing.specs.Placing.{cell_by_address, accesses_by_address, AreOutside, HasOneAccess}

or_none : {A : Type 0} (x : Option A) → option_or x None ≡ x
or_none None = refl
or_none (Some x) = refl

module _ (slots : ℕ → ℕ) (low : ℕ) (σ : State) where
  first_is : (o : Output) (os : List Output) → goes_first slots low (o ∷ os) σ ≡ option_or (goes_to slots low o σ) (goes_first slots low os σ)
  first_is o [] = sym (or_none (goes_to slots low o σ))
  first_is o (p ∷ os) = refl

  none_numbers : (os : List Output) → AreOutside os → access_numbers os σ ≡ Some []
  none_numbers [] h = refl
  none_numbers ((s, arg.Mem a) ∷ os) h = absurd h.0
  none_numbers ((s, arg.Cell c) ∷ os) h = absurd h.0
  none_numbers ((s, arg.Var v) ∷ os) h = rw (none_numbers os h.1) refl
  none_numbers ((s, arg.Imm i) ∷ os) h = rw (none_numbers os h.1) refl
  none_numbers ((s, arg.At r p) ∷ os) h = rw (none_numbers os h.1) refl

  none_goes : (os : List Output) → AreOutside os → goes_first slots low os σ ≡ None
  none_goes [] h = refl
  none_goes ((s, arg.Mem a) ∷ os) h = absurd h.0
  none_goes ((s, arg.Cell c) ∷ os) h = absurd h.0
  none_goes ((s, arg.Var v) ∷ os) h = first_is (s, arg.Var v) os ∙ none_goes os h.1
  none_goes ((s, arg.Imm i) ∷ os) h = first_is (s, arg.Imm i) os ∙ none_goes os h.1
  none_goes ((s, arg.At r p) ∷ os) h = first_is (s, arg.At r p) os ∙ none_goes os h.1

  memory_numbers : (x : Option ℕ) (rest : Option (List ℕ)) (xs div : List ℕ) → rest ≡ Some [] → if_some (if_some x (λ a. Some (a ∷ []))) (λ ns. if_some rest (λ ms. Some (ns ++ ms))) ≡ Some xs → option_to_list (option_or x None) ++ div ≡ xs ++ div
  memory_numbers None rest xs div r e = absurd cc
  memory_numbers (Some a) None xs div r e = absurd cc
  memory_numbers (Some a) (Some ms) xs div r e = let k : ms ≡ [] = cc in let j : a ∷ ms ≡ xs = cc in ap (λ y. (a ∷ y) ++ div) (sym k) ∙ ap (λ y. y ++ div) j

  one_cell : (s : Size) (c : Cell) (i : Option ℕ) (x : Option ℕ) (rest : Option (List ℕ)) (xs div : List ℕ) → (i ≡ None → x ≡ Some (residue S64 (pos 0 +ℤ c.offset))) → rest ≡ Some []
      → if_some (if_some x (λ n. Some (cell_numbers i n))) (λ ns. if_some rest (λ ms. Some (ns ++ ms))) ≡ Some xs
      → option_to_list (option_or (option_map (cell_address low (slots c.of) s) x) None) ++ div ≡ cell_by_address slots low s c i (xs ++ div)
  one_cell s c i None rest xs div n r e = absurd cc
  one_cell s c i (Some a) None xs div n r e = absurd cc
  one_cell s c None (Some a) (Some ms) xs div n r e =
      let k : ms ≡ [] = cc in let j : ms ≡ xs = cc in let v = n refl in
      let same : a ≡ residue S64 (pos 0 +ℤ c.offset) = cc in
      ap (λ y. cell_address low (slots c.of) s y ∷ div) same ∙ ap (λ ys. cell_address low (slots c.of) s (residue S64 (pos 0 +ℤ c.offset)) ∷ (ys ++ div)) (sym k ∙ j)
  one_cell s c (Some v) (Some a) (Some ms) xs div n r e =
      let k : ms ≡ [] = cc in let j : a ∷ ms ≡ xs = cc in
      ap (λ y. cell_by_address slots low s c (Some v) ((a ∷ y) ++ div)) (sym k) ∙ ap (λ y. cell_by_address slots low s c (Some v) (y ++ div)) j

  pub numbers_are : (os : List Output) (xs div : List ℕ) → HasOneAccess os → access_numbers os σ ≡ Some xs → option_to_list (goes_first slots low os σ) ++ div ≡ accesses_by_address slots low os (xs ++ div)
  numbers_are [] xs div one e = let k : [] ≡ xs = cc in ap (λ y. y ++ div) k
  numbers_are ((s, arg.Mem a) ∷ os) xs div one e =
      ap (λ g. option_to_list g ++ div) (first_is (s, arg.Mem a) os ∙ ap (option_or (address_in a σ)) (none_goes os one)) ∙ memory_numbers (address_in a σ) (access_numbers os σ) xs div (none_numbers os one) e
  numbers_are ((s, arg.Cell c) ∷ os) xs div one e =
      ap (λ g. option_to_list g ++ div) (first_is (s, arg.Cell c) os ∙ ap (option_or (goes_to slots low (s, arg.Cell c) σ)) (none_goes os one))
      ∙ one_cell s c c.index (cell_in c σ) (access_numbers os σ) xs div (λ i. ap (λ x. if_some (base_in x σ) (λ n. Some (residue S64 (pos n +ℤ c.offset)))) i) (none_numbers os one) e
  numbers_are ((s, arg.Var v) ∷ os) xs div one e = ap (λ g. option_to_list g ++ div) (first_is (s, arg.Var v) os) ∙ numbers_are os xs div one (skip (access_numbers os σ) e)
    where
      skip : (r : Option (List ℕ)) → if_some r (λ ms. Some ms) ≡ Some xs → r ≡ Some xs
      skip None e = cc
      skip (Some y) e = e
  numbers_are ((s, arg.Imm v) ∷ os) xs div one e = ap (λ g. option_to_list g ++ div) (first_is (s, arg.Imm v) os) ∙ numbers_are os xs div one (skip (access_numbers os σ) e)
    where
      skip : (r : Option (List ℕ)) → if_some r (λ ms. Some ms) ≡ Some xs → r ≡ Some xs
      skip None e = cc
      skip (Some y) e = e
  numbers_are ((s, arg.At r p) ∷ os) xs div one e = ap (λ g. option_to_list g ++ div) (first_is (s, arg.At r p) os) ∙ numbers_are os xs div one (skip (access_numbers os σ) e)
    where
      skip : (r : Option (List ℕ)) → if_some r (λ ms. Some ms) ≡ Some xs → r ≡ Some xs
      skip None e = cc
      skip (Some y) e = e
