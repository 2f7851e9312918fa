-- The items of a command line.
use Rattle.std.specs.Prelude.{◌≡◌, ℕ, ◌<◌, ◌+◌, ◌*◌, ◌^◌, ◌==◌, nat_lt, nat_le, Bool, true, false, not, ◌&&◌, ◌||◌, if◌then◌else◌, List, [], ◌∷◌, ◌++◌, length, Option, Some, None, option_map, map}
use Rattle.std.specs.List.{list_any, before_first, after_first, AllByRecursion}
use Rattle.std.specs.Option.{option_and_then}
use Rattle.std.specs.Result.{result_ok}
use Rattle.hex.specs.Hex.{decode_of}
use Rattle.jz_items.specs.declared.item.Placed.{Placed}
use Rattle.jz_items.specs.declared.item.Item.{Item}
use Rattle.jz_items.specs.declared.item.Item.TheVariants.{Number, Bytes}
use Rattle.jz_items.specs.Numbers.{number_of_word}

-- ---- where bytes without an address stand: each item has a slot of its own
abbrev pub slot_size : ℕ
slot_size = 16777216

abbrev pub slot_of : ℕ → ℕ
slot_of position = 268435456 + position * slot_size

-- ---- shapes
-- the bytes that hexadecimal digits of either case write, two digits a byte
abbrev pub bytes_of : List ℕ → Option (List ℕ)
bytes_of digits = result_ok (decode_of digits)

abbrev pub placed : ℕ → List ℕ → Item
placed at bytes = Bytes (record { at = at; bytes = bytes })

-- bytes in the slot of their item
abbrev pub in_slot : ℕ → List ℕ → Option Item
in_slot position bytes =
    if nat_le (length bytes) slot_size && nat_lt (slot_of position) (2 ^ 64)
    then Some (placed (slot_of position) bytes) else None

abbrev pub is_colon : ℕ → Bool
is_colon b = b == 58

-- an address, a colon, and bytes
abbrev pub at_address : List ℕ → List ℕ → Option Item
at_address addr digits =
    option_and_then (λ at. option_map (placed at) (bytes_of digits)) (number_of_word addr)

-- what stands behind an `@`
abbrev pub bytes_item : ℕ → List ℕ → Option Item
bytes_item position text =
    if list_any is_colon text
    then at_address (before_first is_colon text) (after_first is_colon text)
    else option_and_then (in_slot position) (bytes_of text)

-- the item that a word is, at a position that is counted from 0: a number, `@HEX` or `@ADDR:HEX`
abbrev pub item_of : ℕ → List ℕ → Option Item
item_of position [] = None
item_of position (b ∷ bs) =
    if b == 64 then bytes_item position bs else option_map Number (number_of_word (b ∷ bs))

-- ---- apart
-- so many bytes from an address on meet so many from another one on
abbrev pub do_meet : ℕ → ℕ → ℕ → ℕ → Bool
do_meet a m b n = nat_lt 0 m && (nat_lt 0 n && (nat_lt a (b + n) && nat_lt b (a + m)))

-- where the code and the stack of a run may stand: 0x400000 to 0xfffffff, and 0x7fff00000000 to
-- 0x7fffffffffff
abbrev pub is_reserved : Placed → Bool
is_reserved p =
    do_meet p.at (length p.bytes) 4194304 264241152
    || do_meet p.at (length p.bytes) 140733193388032 4294967296

abbrev pub meets_item : Placed → Item → Bool
meets_item p (Number n) = false
meets_item p (Bytes q) = do_meet p.at (length p.bytes) q.at (length q.bytes)

-- its bytes stand apart from those and from the bytes of these items
abbrev pub is_free : List Item → Item → Bool
is_free before (Number n) = true
is_free before (Bytes p) = not (is_reserved p) && not (list_any (meets_item p) before)

-- ---- all items
-- the items that words are behind some items, each free of those before it; else none
abbrev pub items_behind : List Item → List (List ℕ) → Option (List Item)
items_behind before [] = Some before
items_behind before (w ∷ ws) =
    option_and_then (λ i. if is_free before i then items_behind (before ++ i ∷ []) ws else None)
    (item_of (length before) w)

abbrev pub items_of : List (List ℕ) → Option (List Item)
items_of words = items_behind [] words

-- the items that some words are
abbrev pub AreItems : List Item → Type 0
AreItems items = (words : List (List ℕ)) × (items_of words ≡ Some items)

-- ---- as arguments
-- the number, or the address of the bytes
abbrev pub word_of : Item → ℕ
word_of (Number n) = n
word_of (Bytes p) = p.at

abbrev pub words_of : List Item → List ℕ
words_of items = map word_of items

-- each of them is a word of 64 bits
abbrev pub ItemsFit : List Item → Type 0
ItemsFit items = AllByRecursion (λ n. n < 2 ^ 64) (words_of items)
