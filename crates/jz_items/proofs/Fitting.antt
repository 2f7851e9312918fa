-- The numbers and addresses of items are words of 64 bits.
use Rattle.std.proofs.Common.{◌≡◌, ℕ, ◌<◌, ◌^◌, Bool, true, false, ◌&&◌, nat_lt, nat_le, if◌then◌else◌, List, [], ◌∷◌, ◌++◌, drop, length, codes, Option, Some, None, refl, arith, subst}
use Rattle.std.specs.Prelude.{◌==◌}
use Rattle.std.specs.List.{starts_with, list_any, before_first, after_first}
use Rattle.std.specs.Option.{option_and_then, option_map}
use Rattle.jz_items.specs.declared.item.Item.{Item}
use Rattle.jz_items.specs.declared.item.Item.TheVariants.{Number}
use Rattle.jz_items.specs.Numbers.{is_numeral, numeral, has_leading_zero, number_of_word}
use Rattle.jz_items.specs.Items.{slot_size, slot_of, bytes_of, placed, in_slot, is_colon, bytes_item, item_of, is_free, items_behind, items_of, word_of, ItemsFit}

-- ---- numbers
below : (z : Bool) (v n : ℕ) → z ≡ nat_lt v (2 ^ 64) → (if z then Some v else None) ≡ Some n → n < 2 ^ 64
below true v n q e = let same : v ≡ n = cc in let lt : v < 2 ^ 64 = grind (arith, q) in subst (λ k. k < 2 ^ 64) same lt
below false v n q e = cc

chosen : (a : Bool) (v n : ℕ) → (if a && nat_lt v (2 ^ 64) then Some v else None) ≡ Some n → n < 2 ^ 64
chosen false v n e = cc
chosen true v n e = below (nat_lt v (2 ^ 64)) v n refl e

numeral_fits : (base : ℕ) (digits : List ℕ) (n : ℕ) → numeral base digits ≡ Some n → n < 2 ^ 64
numeral_fits base digits n e = chosen (is_numeral base digits) _ n e

picked : (z y : Bool) (a b : Option ℕ) (n : ℕ) → (if z then a else (if y then None else b)) ≡ Some n → (a ≡ Some n → n < 2 ^ 64) → (b ≡ Some n → n < 2 ^ 64) → n < 2 ^ 64
picked true y a b n e h k = h e
picked false true a b n e h k = cc
picked false false a b n e h k = k e

pub word_fits : (word : List ℕ) (n : ℕ) → number_of_word word ≡ Some n → n < 2 ^ 64
word_fits word n e = picked (starts_with ◌==◌ word (codes "0x")) (has_leading_zero word) _ _ n e (λ h. numeral_fits 16 (drop 2 word) n h) (λ h. numeral_fits 10 word n h)

-- ---- an item
abbrev Fits : Item → Type 0
Fits i = word_of i < 2 ^ 64

slot_below : (z : Bool) (v : ℕ) (bytes : List ℕ) (i : Item) → z ≡ nat_lt v (2 ^ 64) → (if z then Some (placed v bytes) else None) ≡ Some i → Fits i
slot_below true v bytes i q e = let same : placed v bytes ≡ i = cc in let lt : v < 2 ^ 64 = grind (arith, q) in subst Fits same lt
slot_below false v bytes i q e = cc

slot_chosen : (a : Bool) (v : ℕ) (bytes : List ℕ) (i : Item) → (if a && nat_lt v (2 ^ 64) then Some (placed v bytes) else None) ≡ Some i → Fits i
slot_chosen false v bytes i e = cc
slot_chosen true v bytes i e = slot_below (nat_lt v (2 ^ 64)) v bytes i refl e

in_slot_fits : (position : ℕ) (bytes : Option (List ℕ)) (i : Item) → option_and_then (in_slot position) bytes ≡ Some i → Fits i
in_slot_fits position None i e = cc
in_slot_fits position (Some bytes) i e = slot_chosen (nat_le (length bytes) slot_size) (slot_of position) bytes i e

placed_fits : (at : Option ℕ) (bytes : Option (List ℕ)) (i : Item) → option_and_then (λ a. option_map (placed a) bytes) at ≡ Some i → ((n : ℕ) → at ≡ Some n → n < 2 ^ 64) → Fits i
placed_fits None bytes i e h = cc
placed_fits (Some a) None i e h = cc
placed_fits (Some a) (Some bytes) i e h = let same : placed a bytes ≡ i = cc in subst Fits same (h a refl)

either : (b : Bool) (x y : Option Item) (i : Item) → (if b then x else y) ≡ Some i → (x ≡ Some i → Fits i) → (y ≡ Some i → Fits i) → Fits i
either true x y i e h k = h e
either false x y i e h k = k e

bytes_fit : (position : ℕ) (text : List ℕ) (i : Item) → bytes_item position text ≡ Some i → Fits i
bytes_fit position text i e =
    either (list_any is_colon text) _ _ i e
    (λ h. placed_fits (number_of_word (before_first is_colon text)) (bytes_of (after_first is_colon text)) i h (word_fits (before_first is_colon text)))
    (in_slot_fits position (bytes_of text) i)

number_fits : (o : Option ℕ) (i : Item) → option_map Number o ≡ Some i → ((n : ℕ) → o ≡ Some n → n < 2 ^ 64) → Fits i
number_fits None i e h = cc
number_fits (Some n) i e h = let same : Number n ≡ i = cc in subst Fits same (h n refl)

item_fits : (position : ℕ) (word : List ℕ) (i : Item) → item_of position word ≡ Some i → Fits i
item_fits position [] i e = cc
item_fits position (b ∷ bs) i e =
    either (b == 64) _ _ i e (bytes_fit position bs i) (λ h. number_fits (number_of_word (b ∷ bs)) i h (word_fits (b ∷ bs)))

-- ---- all items
one_more : (before : List Item) (i : Item) → ItemsFit before → Fits i → ItemsFit (before ++ i ∷ [])
one_more [] i h f = (f, tt)
one_more (x ∷ xs) i h f = (h.0, one_more xs i h.1 f)

free_fit : (b : Bool) (rest : Option (List Item)) (items : List Item) → (if b then rest else None) ≡ Some items → (rest ≡ Some items → ItemsFit items) → ItemsFit items
free_fit true rest items e h = h e
free_fit false rest items e h = cc

next_fit : (before : List Item) (ws : List (List ℕ)) (o : Option Item) (items : List Item)
    → option_and_then (λ i. if is_free before i then items_behind (before ++ i ∷ []) ws else None) o ≡ Some items
    → ((i : Item) → o ≡ Some i → items_behind (before ++ i ∷ []) ws ≡ Some items → ItemsFit items) → ItemsFit items
next_fit before ws None items e h = cc
next_fit before ws (Some i) items e h = free_fit (is_free before i) (items_behind (before ++ i ∷ []) ws) items e (h i refl)

behind_fit : (ws : List (List ℕ)) (before items : List Item) → ItemsFit before → items_behind before ws ≡ Some items → ItemsFit items
behind_fit [] before items f e = let same : before ≡ items = cc in subst ItemsFit same f
behind_fit (w ∷ ws) before items f e =
    next_fit before ws (item_of (length before) w) items e
    (λ i is rest. behind_fit ws (before ++ i ∷ []) items (one_more before i f (item_fits (length before) w i is)) rest)

pub items_fit : (ws : List (List ℕ)) (items : List Item) → items_of ws ≡ Some items → ItemsFit items
items_fit ws items e = behind_fit ws [] items tt e
