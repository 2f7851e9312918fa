-- The bytes of items stand apart from the stack.
use Rattle.std.proofs.Common.{◌≡◌, ℕ, ◌+◌, ◌-◌, ◌<◌, ◌≤◌, ◌^◌, Bool, true, false, not, ◌&&◌, ◌||◌, nat_lt, if◌then◌else◌, List, [], ◌∷◌, ◌++◌, length, Option, Some, None, refl, ap, ◌∙◌, arith, subst, ◌⊎◌, ⊎_elim}
use Rattle.std.specs.Prelude.{slice_get}
use Rattle.std.specs.Option.{option_and_then, option_or}
use Rattle.std.specs.List.{AllByRecursion, list_any}
use Rattle.std.proofs.lemmas.Bool.{and_parts, le-ltb, lt-ltb}
use Rattle.jz_preconditions.specs.Bounds.{first_of}
use Rattle.jz_items.specs.declared.item.Placed.{Placed}
use Rattle.jz_items.specs.declared.item.Item.{Item}
use Rattle.jz_items.specs.declared.item.Item.TheVariants.{Number, Bytes}
use Rattle.jz_items.specs.Items.{do_meet, is_reserved, is_free, meets_item, item_of, items_behind, AreItems}
use Rattle.jz_inputs.specs.Held.{byte_in, byte_at}
use Rattle.jasminc_starts.specs.Memories.{lowest_stack, stack_end, StandApart}
use Rattle.jasminc_starts.proofs.Memories.{past_end}

-- ---- what stands apart
abbrev is_apart : Item → Bool
is_apart (Number n) = true
is_apart (Bytes p) = not (is_reserved p)

abbrev AreApart : List Item → Type 0
AreApart items = AllByRecursion (λ i. is_apart i ≡ true) items

free_apart : (before : List Item) (i : Item) → is_free before i ≡ true → is_apart i ≡ true
free_apart before (Number n) e = refl
free_apart before (Bytes p) e = (and_parts (not (is_reserved p)) (not (list_any (meets_item p) before)) e).0

one_more : (before : List Item) (i : Item) → AreApart before → is_apart i ≡ true → AreApart (before ++ i ∷ [])
one_more [] i h e = (e, tt)
one_more (x ∷ xs) i h e = (h.0, one_more xs i h.1 e)

taken_apart : (b : Bool) (rest : Option (List Item)) (items : List Item) → (if b then rest else None) ≡ Some items → (b ≡ true → rest ≡ Some items → AreApart items) → AreApart items
taken_apart true rest items e h = h refl e
taken_apart false rest items e h = cc

next_apart : (before : List Item) (ws : List (List ℕ)) (o : Option Item) (items : List Item)
    → option_and_then (λ i. if is_free before i then items_behind (before ++ i ∷ []) ws else None) o ≡ Some items
    → ((i : Item) → is_free before i ≡ true → items_behind (before ++ i ∷ []) ws ≡ Some items → AreApart items) → AreApart items
next_apart before ws None items e h = cc
next_apart before ws (Some i) items e h = taken_apart (is_free before i) (items_behind (before ++ i ∷ []) ws) items e (h i)

behind_apart : (ws : List (List ℕ)) (before items : List Item) → AreApart before → items_behind before ws ≡ Some items → AreApart items
behind_apart [] before items a e = let same : before ≡ items = cc in subst AreApart same a
behind_apart (w ∷ ws) before items a e =
    next_apart before ws (item_of (length before) w) items e
    (λ i free rest. behind_apart ws (before ++ i ∷ []) items (one_more before i a (free_apart before i free)) rest)

-- ---- no byte stands there
both : (a b : Bool) → a ≡ true → b ≡ true → (a && b) ≡ true
both true b e f = f
both false b e f = e

not_second : (a b : Bool) → not (a || b) ≡ true → b ≡ true → ⊥
not_second true b e f = let no : false ≡ true = e in cc
not_second false true e f = let no : false ≡ true = e in cc
not_second false false e f = cc

order : (q r : ℕ) → (q < r) ⊎ (r ≤ q)
order q r = grind arith

meets_there : (a m q : ℕ) → a ≤ q → q < a + m → lowest_stack ≤ q → q < stack_end → do_meet a m 140733193388032 4294967296 ≡ true
meets_there a m q le lt low high =
    both (nat_lt 0 m) _ (lt-ltb 0 m (omega (arith, le, lt)))
    (both (nat_lt 0 4294967296) _ (lt-ltb 0 4294967296 (omega arith))
    (both (nat_lt a (140733193388032 + 4294967296)) (nat_lt 140733193388032 (a + m)) (lt-ltb a (140733193388032 + 4294967296) (omega (arith, le, high)))
    (lt-ltb 140733193388032 (a + m) (omega (arith, lt, low)))))

module _ (q : ℕ) (low : lowest_stack ≤ q) (high : q < stack_end) where
  outside : (p : Placed) → not (is_reserved p) ≡ true → p.at ≤ q → slice_get p.bytes (q - p.at) ≡ None
  outside p e le =
      ⊎_elim
      (λ lt. absurd (not_second (do_meet p.at (length p.bytes) 4194304 264241152) (do_meet p.at (length p.bytes) 140733193388032 4294967296) e
      (meets_there p.at (length p.bytes) q le lt low high)))
      (λ far. past_end p.bytes (q - p.at) (omega (arith, far, le)))
      (order q (p.at + length p.bytes))

  none_in : (i : Item) → is_apart i ≡ true → byte_in q i ≡ None
  none_in (Number n) e = refl
  none_in (Bytes p) e =
      ⊎_elim
      (λ lt. ap (λ b. if b then None else slice_get p.bytes (q - p.at)) (lt-ltb q p.at lt))
      (λ le. ap (λ b. if b then None else slice_get p.bytes (q - p.at)) (le-ltb q p.at le) ∙ outside p e le)
      (order q p.at)

  none_of : (items : List Item) → AreApart items → first_of (byte_in q) items ≡ None
  none_of [] a = refl
  none_of (i ∷ items) a = ap (λ o. option_or o (first_of (byte_in q) items)) (none_in i a.0) ∙ none_of items a.1

  none_either : (b : Bool) (o : Option ℕ) → o ≡ None → (if b then o else None) ≡ None
  none_either true o e = e
  none_either false o e = refl

  none_at : (items : List Item) → AreApart items → byte_at items q ≡ None
  none_at items a = none_either (nat_lt q (2 ^ 64)) (first_of (byte_in q) items) (none_of items a)

pub stand_apart : (items : List Item) → AreItems items → StandApart items
stand_apart items h q low high = none_at q low high items (behind_apart h.0 [] items tt h.1)
