-- The bytes of items, and how far they go on.
use Rattle.std.proofs.Common.{◌≡◌, ◌⊎◌, inl, inr, ⊎_elim, ℕ, zero, suc, ◌+◌, ◌-◌, ◌^◌, ◌<◌, ◌≤◌, true, false, ◌&&◌, nat_lt, nat_le, List, [], ◌∷◌, length, get_or, drop, Option, Some, None, refl, sym, ap, ◌∙◌, subst, arith, if◌then◌else◌}
use Rattle.std.specs.Prelude.{IsSome, is_some, slice_get}
use Rattle.std.specs.Option.{option_or}
use Rattle.std.proofs.lemmas.Bool.{and_parts, lt-ltb, ltb-true}
use Rattle.std.proofs.lemmas.Bool.Decides.{nat_tests}
use Rattle.std.proofs.lemmas.List.{drop_more}
use Rattle.std.proofs.lemmas.Option.{slice_get-get_or, slice_get_past}
use Rattle.jz_leak.specs.MemoryMap.{byte_from}
use Rattle.jz_lex.proofs.LexingWords.{by_cases, if_true, if_false, le_is}
use Rattle.jz_items.specs.declared.item.Item.{Item}
use Rattle.jz_items.specs.declared.item.Item.TheVariants.{Number, Bytes}
use Rattle.jz_preconditions.specs.Bounds.{first_of}
use Rattle.jz_inputs.specs.Held.{byte_in, byte_at}
use Rattle.jz_inputs.specs.InnerCover.{is_within, end_of, AreGiven, GoesOn}

-- ---- the byte of an item
pub from_inside : (a q : ℕ) (bytes : List ℕ) → a ≤ q → q < a + length bytes → IsSome (byte_from a bytes q)
from_inside a q bytes l r =
    ap is_some (if_false (nat_lt q a) None (slice_get bytes (q - a)) (let t : nat_lt q a ≡ false = grind (arith, nat_tests, l) in t)
    ∙ slice_get-get_or bytes (q - a) 0 (omega (arith, l, r)))

pub from_before : (a q : ℕ) (bytes : List ℕ) → q < a → byte_from a bytes q ≡ None
from_before a q bytes l = if_true (nat_lt q a) None (slice_get bytes (q - a)) (lt-ltb q a l)

pub from_past : (a q : ℕ) (bytes : List ℕ) → a + length bytes ≤ q → byte_from a bytes q ≡ None
from_past a q bytes r =
    if_false (nat_lt q a) None (slice_get bytes (q - a)) (let t : nat_lt q a ≡ false = grind (arith, nat_tests, r) in t)
    ∙ slice_get_past bytes (q - a) (omega (arith, r))

within_parts : (a n q : ℕ) → (nat_le a q && nat_lt q (a + n)) ≡ true → (a ≤ q) × (q < a + n)
within_parts a n q h = let p = and_parts (nat_le a q) (nat_lt q (a + n)) h in (le_is a q p.0, ltb-true q (a + n) p.1)

pub inside_some : (q : ℕ) (i : Item) → is_within q i ≡ true → IsSome (byte_in q i)
inside_some q (Number n) h = absurd (let no : ⊥ = cc in no)
inside_some q (Bytes p) h = let w = within_parts p.at (length p.bytes) q h in from_inside p.at q p.bytes w.0 w.1

outside_by : (a n q : ℕ) → (nat_le a q && nat_lt q (a + n)) ≡ false → q < a ⊎ (a + n ≤ q)
outside_by a n q h = by_cases (q < a ⊎ (a + n ≤ q)) (nat_lt q a)
    (λ e. inl (ltb-true q a e))
    (λ e. inr (let r : a + n ≤ q = grind (arith, nat_tests, h, e) in r))

pub outside_none : (q : ℕ) (i : Item) → is_within q i ≡ false → byte_in q i ≡ None
outside_none q (Number n) h = refl
outside_none q (Bytes p) h = ⊎_elim (λ l. from_before p.at q p.bytes l) (λ r. from_past p.at q p.bytes r) (outside_by p.at (length p.bytes) q h)

-- ---- the byte of several
or_some : (a b : Option ℕ) → IsSome b → IsSome (option_or a b)
or_some None b h = h
or_some (Some x) b h = refl

or_left : (a b : Option ℕ) → IsSome a → IsSome (option_or a b)
or_left None b h = absurd (let no : ⊥ = cc in no)
or_left (Some x) b h = refl

first_some : (q : ℕ) (items : List Item) (i : ℕ) (x : Item) → i < length items → x ≡ get_or items i x → IsSome (byte_in q x) → IsSome (first_of (byte_in q) items)
first_some q [] i x lt is h = absurd (omega (arith, lt))
first_some q (y ∷ ys) zero x lt is h = or_left (byte_in q y) (first_of (byte_in q) ys) (subst (λ z. IsSome (byte_in q z)) is h)
first_some q (y ∷ ys) (suc i) x lt is h = or_some (byte_in q y) (first_of (byte_in q) ys) (first_some q ys i x (omega (arith, lt)) is h)

pub given_from : (items : List Item) (i : ℕ) (x : Item) (q : ℕ) → i < length items → x ≡ get_or items i x → q < 2 ^ 64 → is_within q x ≡ true → IsSome (byte_at items q)
given_from items i x q lt is small h =
    ap is_some (if_true (nat_lt q (2 ^ 64)) (first_of (byte_in q) items) None (lt-ltb q (2 ^ 64) small)) ∙ first_some q items i x lt is (inside_some q x h)

-- one item more without a byte there
pub next_item : (q : ℕ) (items : List Item) (i : ℕ) (x : Item) (whole : Option ℕ) → i < length items → x ≡ get_or items i x → byte_in q x ≡ None
    → first_of (byte_in q) (drop i items) ≡ whole → first_of (byte_in q) (drop (i + 1) items) ≡ whole
next_item q items i x whole lt is none h =
    let rest : Option ℕ = first_of (byte_in q) (drop (i + 1) items) in
    let split : first_of (byte_in q) (drop i items) ≡ option_or (byte_in q x) rest =
    ap (first_of (byte_in q)) (drop_more items i x lt) ∙ ap (λ y. option_or (byte_in q y) rest) (sym is) in
    sym (ap (λ o. option_or o rest) none) ∙ sym split ∙ h

-- the first item with a byte there
pub here_item : (q : ℕ) (items : List Item) (i : ℕ) (x : Item) (b : ℕ) (whole : Option ℕ) → i < length items → x ≡ get_or items i x → byte_in q x ≡ Some b
    → first_of (byte_in q) (drop i items) ≡ whole → Some b ≡ whole
here_item q items i x b whole lt is some h =
    let rest : Option ℕ = first_of (byte_in q) (drop (i + 1) items) in
    let split : first_of (byte_in q) (drop i items) ≡ option_or (byte_in q x) rest =
    ap (first_of (byte_in q)) (drop_more items i x lt) ∙ ap (λ y. option_or (byte_in q y) rest) (sym is) in
    sym (ap (λ o. option_or o rest) some) ∙ sym split ∙ h

pub none_at : (items : List Item) (q : ℕ) → first_of (byte_in q) items ≡ None → byte_at items q ≡ None
none_at items q h = elim (nat_lt q (2 ^ 64)) as (λ b. (if b then first_of (byte_in q) items else None) ≡ None) [ true ↦ h | false ↦ refl ]

pub small_at : (items : List Item) (q : ℕ) → q < 2 ^ 64 → byte_at items q ≡ first_of (byte_in q) items
small_at items q small = if_true (nat_lt q (2 ^ 64)) (first_of (byte_in q) items) None (lt-ltb q (2 ^ 64) small)

-- ---- how far they go on
within_from : (a n q : ℕ) → a ≤ q → q < a + n → (nat_le a q && nat_lt q (a + n)) ≡ true
within_from a n q l r = grind (arith, nat_tests, l, r)

over : (n : ℕ) → nat_le n (2 ^ 64) ≡ false → 2 ^ 64 < n
over n h = grind (arith, nat_tests, h)

pub goes_on : (items : List Item) (i : ℕ) (x : Item) (at : ℕ) → i < length items → x ≡ get_or items i x → at < 2 ^ 64 → is_within at x ≡ true → GoesOn items at (Some (end_of x))
goes_on items i (Number n) at lt is small h = absurd (let no : ⊥ = cc in no)
goes_on items i (Bytes p) at lt is small h =
    let w = within_parts p.at (length p.bytes) at h in
    let low = w.0 in
    let high = w.1 in
    let end = p.at + length p.bytes in
    by_cases (GoesOn items at (Some (end_of (Bytes p)))) (nat_le end (2 ^ 64))
    (λ e. let fits = le_is end (2 ^ 64) e in
    subst (λ z. GoesOn items at (Some z)) (sym (if_true (nat_le end (2 ^ 64)) end (2 ^ 64) e))
    (high, fits, λ q l r. given_from items i (Bytes p) q lt is (omega (arith, r, fits)) (within_from p.at (length p.bytes) q (omega (arith, l, low)) r)))
    (λ e. let past = over end e in
    subst (λ z. GoesOn items at (Some z)) (sym (if_false (nat_le end (2 ^ 64)) end (2 ^ 64) e))
    (small, omega arith, λ q l r. given_from items i (Bytes p) q lt is r (within_from p.at (length p.bytes) q (omega (arith, l, low)) (omega (arith, r, past)))))

-- ---- up to an end
pub given_more : (items : List Item) (from at next : ℕ) → AreGiven items from at → AreGiven items at next → AreGiven items from next
given_more items from at next h k q l r = by_cases (IsSome (byte_at items q)) (nat_lt q at)
    (λ e. h q l (ltb-true q at e))
    (λ e. k q (let w : at ≤ q = grind (arith, nat_tests, e) in w) r)

pub not_given : (items : List Item) (from at end : ℕ) → from ≤ at → at < end → byte_at items at ≡ None → AreGiven items from end → ⊥
not_given items from at end l r none h = let s : IsSome (byte_at items at) = h at l r in let no : ⊥ = cc in no
