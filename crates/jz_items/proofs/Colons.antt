-- A text without a colon.
use Rattle.std.proofs.Common.{◌≡◌, ℕ, suc, ◌+◌, Bool, true, false, not, cond, ◌||◌, List, [], ◌∷◌, length, refl, ap, arith, if◌then◌else◌}
use Rattle.std.specs.List.{list_any, position_or_len, before_first, after_first}
use Rattle.std.specs.Option.{option_and_then}
use Rattle.jz_items.specs.Items.{is_colon, at_address, bytes_of, in_slot, bytes_item}

none_behind : (b : Bool) (n m : ℕ) (rest : Bool) → (n ≡ m → rest ≡ false) → cond (not b) (1 + n) 0 ≡ suc m → (b || rest) ≡ false
none_behind true n m rest ih h = absurd (omega (arith, h))
none_behind false n m rest ih h = ih (omega (arith, h))

none_passes : (p : ℕ → Bool) (xs : List ℕ) → position_or_len p xs ≡ length xs → list_any p xs ≡ false
none_passes p [] h = refl
none_passes p (x ∷ xs) h = none_behind (p x) (position_or_len p xs) (length xs) (list_any p xs) (none_passes p xs) h

pub without_colon : (position : ℕ) (text : List ℕ) → position_or_len is_colon text ≡ length text → bytes_item position text ≡ option_and_then (in_slot position) (bytes_of text)
without_colon position text h =
    ap (λ b. if b then at_address (before_first is_colon text) (after_first is_colon text) else option_and_then (in_slot position) (bytes_of text)) (none_passes is_colon text h)
