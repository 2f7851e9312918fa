-- The memory at the start: the items' bytes, and above and below them the stack.
use Rattle.std.proofs.Common.{◌≡◌, ℕ, zero, suc, ◌+◌, ◌-◌, ◌^◌, ◌<◌, ◌≤◌, true, false, List, [], ◌∷◌, length, refl, sym, ap, ◌∙◌, arith, subst, ◌⊎◌, ⊎_elim}
use Rattle.std.proofs.lemmas.Bool.{le-ltb, lt-ltb}
use Rattle.std.specs.Prelude.{Option, Some, None, is_some, slice_get, if◌then◌else◌, replicate}
use Rattle.std.specs.FinMap.{get}
use Rattle.std.specs.Option.{option_or}
use Rattle.jz_words.specs.Memory.{Memory}
use Rattle.jz_tree.specs.declared.program.Fun.{Fun}
use Rattle.jz_leak.specs.MemoryMap.{AddsBytes}
use Rattle.jz_preconditions.specs.Stating.{preconditions_of}
use Rattle.jz_preconditions.specs.Meeting.{IsValid}
use Rattle.jz_items.specs.declared.item.Item.{Item}
use Rattle.jz_inputs.specs.Held.{byte_at}
use Rattle.jz_inputs.specs.Inputs.{HoldsRegions}
use Rattle.jasminc_steps.specs.Starting.{return_slot}
use Rattle.jasminc_starts.specs.Memories.{lowest_stack, stack_end, StandApart, most_frame, IsStartMemory}

-- ---- bytes of 0
zero_at : (n i : ℕ) → i < n → slice_get {X = ℕ} (replicate n 0) i ≡ Some 0
zero_at zero i lt = absurd (omega (arith, lt))
zero_at (suc n) zero lt = refl
zero_at (suc n) (suc i) lt = zero_at n i (omega (arith, lt))

past_zeros : (n i : ℕ) → n ≤ i → slice_get {X = ℕ} (replicate n 0) i ≡ None
past_zeros zero i le = refl
past_zeros (suc n) zero le = absurd (omega (arith, le))
past_zeros (suc n) (suc i) le = past_zeros n i (omega (arith, le))

pub zeros_long : (n : ℕ) → length {A = ℕ} (replicate n 0) ≡ n
zeros_long zero = refl
zeros_long (suc n) = ap suc (zeros_long n)

-- past a list's end there is nothing
pub past_end : (xs : List ℕ) (i : ℕ) → length xs ≤ i → slice_get xs i ≡ None
past_end [] i le = refl
past_end (x ∷ xs) zero le = absurd (omega (arith, le))
past_end (x ∷ xs) (suc i) le = past_end xs i (omega (arith, le))

-- ---- added to a memory
module _ (old new : Memory) (a n : ℕ) (h : AddsBytes old new a (replicate n 0)) where
  -- below them nothing changes
  before : (q : ℕ) → q < a → q < 2 ^ 64 → get new q ≡ get old q
  before q lt fits =
      h.below q fits ∙ ap (λ b. option_or (if b then None else slice_get (replicate n 0) (q - a)) (get old q)) (lt-ltb q a lt)

  behind : (q : ℕ) → a ≤ q → q < 2 ^ 64 → get new q ≡ option_or (slice_get (replicate n 0) (q - a)) (get old q)
  behind q le fits =
      h.below q fits ∙ ap (λ b. option_or (if b then None else slice_get (replicate n 0) (q - a)) (get old q)) (le-ltb q a le)

  -- there they are 0
  pub within : (q : ℕ) → a ≤ q → q < a + n → q < 2 ^ 64 → get new q ≡ Some 0
  within q le lt fits = behind q le fits ∙ ap (λ o. option_or o (get old q)) (zero_at n (q - a) (omega (arith, le, lt)))

  past : (q : ℕ) → a + n ≤ q → q < 2 ^ 64 → get new q ≡ get old q
  past q le fits =
      behind q (omega (arith, le)) fits ∙ ap (λ o. option_or o (get old q)) (past_zeros n (q - a) (omega (arith, le)))

  order : (q r : ℕ) → (q < r) ⊎ (r ≤ q)
  order q r = grind arith

  -- elsewhere nothing changes
  pub elsewhere : (q : ℕ) → (a ≤ q → q < a + n → ⊥) → get new q ≡ get old q
  elsewhere q out =
      ⊎_elim (λ fits. ⊎_elim (λ lt. before q lt fits) (λ le. ⊎_elim (λ lt. absurd (out le lt)) (λ far. past q far fits) (order q (a + n))) (order q a))
      (λ le. h.past q le) (order q (2 ^ 64))

-- ---- where no item has a byte
module _ (f : Fun) (words : List ℕ) (items : List Item) (m : Memory) (h : HoldsRegions f words items (preconditions_of f) m) (apart : StandApart items) where
  pub none_there : (q : ℕ) → lowest_stack ≤ q → q < stack_end → get m q ≡ None
  none_there q low high = by (get m q) refl
    where
      none_given : (b : ℕ) → byte_at items q ≡ Some b → byte_at items q ≡ None → ⊥
      none_given b e k = cc

      by : (o : Option ℕ) → get m q ≡ o → get m q ≡ None
      by None e = e
      by (Some b) e = absurd (none_given b (h.given q b e) (apart q low high))

  pub valid_apart : (q : ℕ) → IsValid m q → lowest_stack ≤ q → q < stack_end → ⊥
  valid_apart q valid low high = let none = none_there q low high in let no : false ≡ true = sym (ap is_some none) ∙ valid in cc

-- ---- the memory at the start
module _ (frame : ℕ) (f : Fun) (words : List ℕ) (items : List Item) (m : Memory) (small : frame ≤ most_frame) (apart : StandApart items) (s : IsStartMemory frame f words items m) where
  -- what is valid of the items' bytes is as they give it
  pub input_stays : (q : ℕ) → IsValid s.input q → get m q ≡ get s.input q
  input_stays q valid =
      elsewhere s.input m (return_slot - frame) (frame + 8) s.added q
      (λ le lt. valid_apart f words items s.input s.holds apart q valid (omega (arith, small, le)) (omega (arith, small, lt)))

  -- the stack is 0
  pub stack_zero : (q : ℕ) → return_slot - frame ≤ q → q < return_slot - frame + (frame + 8) → get m q ≡ Some 0
  stack_zero q le lt = within s.input m (return_slot - frame) (frame + 8) s.added q le lt (omega (arith, small, lt))

  -- bytes are bytes
  pub start_bytes : (q b : ℕ) → get m q ≡ Some b → b < 256
  start_bytes q b e = ⊎_elim (λ lt. from_old (λ le k. absurd (omega (arith, le, lt)))) (λ le. ⊎_elim (in_stack le) (λ far. from_old (λ k lt. absurd (omega (arith, far, lt)))) (order q (return_slot - frame + (frame + 8)))) (order q (return_slot - frame))
    where
      order : (q r : ℕ) → (q < r) ⊎ (r ≤ q)
      order q r = grind arith

      from_old : (return_slot - frame ≤ q → q < return_slot - frame + (frame + 8) → ⊥) → b < 256
      from_old out = s.holds.bytes q b (sym (elsewhere s.input m (return_slot - frame) (frame + 8) s.added q out) ∙ e)

      zero_is : (b : ℕ) → Some 0 ≡ Some b → b < 256
      zero_is b k = let same : 0 ≡ b = cc in subst (λ c. c < 256) same (omega arith)

      in_stack : return_slot - frame ≤ q → q < return_slot - frame + (frame + 8) → b < 256
      in_stack le lt = zero_is b (sym (stack_zero q le lt) ∙ e)
