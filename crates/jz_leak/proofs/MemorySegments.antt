-- What segments have at an address.
use Rattle.std.proofs.Common.{◌≡◌, ◌⊎◌, inl, inr, ⊎_elim, ℕ, zero, suc, ◌+◌, ◌-◌, ◌<◌, ◌≤◌, List, [], ◌∷◌, ◌++◌, length, take, get_or, Bool, true, false, cond, Ordering, refl, sym, ap, ◌∙◌, subst, arith, if◌then◌else◌}
use Rattle.std.specs.Prelude.{Option, Some, None, nat_lt, slice_get, slice_set, is_some}
use Rattle.std.proofs.lemmas.Bool.Decides.{nat_tests}
use Rattle.std.proofs.lemmas.Option.{slice_get_within, slice_get_read}
use Rattle.std.proofs.lemmas.List.{length-take}
use Rattle.std.specs.declared.cmp.Ordering.TheVariants.{Less, Equal, Greater}
use Rattle.std.specs.Ordering.{nat_cmp, is_eq, eq_by_cmp, MatchOrdering}
use Rattle.std.specs.Cmp.{nat_cmp_total, ranks}
use Rattle.std.specs.FinMap.{get, find, from_entries, get-from_entries, get-insert, insert, same_map, nat_cmp-IsAntisymmetric}
use Rattle.jz_leak.specs.declared.segment.Segment.{Segment}
use Rattle.std.specs.Option.{option_or}
use Rattle.jz_leak.specs.MemoryMap.{byte_from}
use Rattle.jz_leak.specs.MemoryMapSegments.{entries_from, all_entries}
use Rattle.jz_leak.specs.InnerSegments.{byte_of, read_at, index_of, with_byte}

test_else : (b : Bool) (v : ℕ) (x y z : Option ℕ) → x ≡ option_or y z → cond b (Some v) x ≡ option_or (cond b (Some v) y) z
test_else true v x y z h = refl
test_else false v x y z h = h

find_both : (q : ℕ) (es fs : List (ℕ × ℕ)) → find nat_cmp q (es ++ fs) ≡ option_or (find nat_cmp q es) (find nat_cmp q fs)
find_both q [] fs = refl
find_both q (e ∷ es) fs = test_else (eq_by_cmp nat_cmp q e.0) e.1 _ _ _ (find_both q es fs)

-- one byte, and those behind it
before : (q a b : ℕ) (bs : List ℕ) → q < a → byte_from (a + 1) bs q ≡ byte_from a (b ∷ bs) q
before q a b bs lt = let x : nat_lt q (a + 1) ≡ true = grind (arith, nat_tests) in let y : nat_lt q a ≡ true = grind (arith, nat_tests) in rw (x, y) refl

here : (a b : ℕ) (bs : List ℕ) → ◌≡◌ {A = Option ℕ} (Some b) (byte_from a (b ∷ bs) a)
here a b bs = let y : nat_lt a a ≡ false = grind (arith, nat_tests) in let z : a - a ≡ 0 = omega arith in rw (y, z) refl

behind : (q a b : ℕ) (bs : List ℕ) → a < q → byte_from (a + 1) bs q ≡ byte_from a (b ∷ bs) q
behind q a b bs lt =
    let x : nat_lt q (a + 1) ≡ false = grind (arith, nat_tests) in
    let y : nat_lt q a ≡ false = grind (arith, nat_tests) in
    let z : q - a ≡ suc (q - (a + 1)) = omega arith in
    rw (x, y, z) refl

at_test : (q a : ℕ) (o : Ordering) → MatchOrdering o (q < a) (q ≡ a) (a < q) → (b : ℕ) (bs : List ℕ) (rest : Option ℕ) → rest ≡ byte_from (a + 1) bs q → cond (is_eq o) (Some b) rest ≡ byte_from a (b ∷ bs) q
at_test q a Less e b bs rest h = h ∙ before q a b bs e
at_test q a Equal e b bs rest h = here a b bs ∙ ap (byte_from a (b ∷ bs)) (sym e)
at_test q a Greater e b bs rest h = h ∙ behind q a b bs e

nothing : (b : Bool) (k : ℕ) → ◌≡◌ {A = Option ℕ} None (if b then None else slice_get [] k)
nothing true k = refl
nothing false k = refl

find_from : (q a : ℕ) (bs : List ℕ) → find nat_cmp q (entries_from a bs) ≡ byte_from a bs q
find_from q a [] = nothing (nat_lt q a) (q - a)
find_from q a (b ∷ bs) = at_test q a (nat_cmp q a) (ranks q a) b bs _ (find_from q (a + 1) bs)

find_read : (q : ℕ) (ss : List Segment) → find nat_cmp q (all_entries ss) ≡ read_at ss q
find_read q [] = refl
find_read q (s ∷ ss) = find_both q (entries_from s.start s.bytes) (all_entries ss) ∙ ap (λ o. option_or o (find nat_cmp q (all_entries ss))) (find_from q s.start s.bytes) ∙ ap (option_or (byte_of s q)) (find_read q ss)

pub get_read : (ss : List Segment) (q : ℕ) → get (from_entries {R = nat_cmp} (all_entries ss)) q ≡ read_at ss q
get_read ss q = get-from_entries nat_cmp_total (all_entries ss) q ∙ find_read q ss

-- ---- one more segment
read_more : (q : ℕ) (ss : List Segment) (s : Segment) → read_at (ss ++ s ∷ []) q ≡ option_or (read_at ss q) (byte_of s q)
read_more q [] s = last (byte_of s q)
  where
    last : (o : Option ℕ) → option_or o None ≡ o
    last None = refl
    last (Some b) = refl
read_more q (t ∷ ss) s = ap (option_or (byte_of t q)) (read_more q ss s) ∙ regroup (byte_of t q) (read_at ss q) (byte_of s q)
  where
    regroup : (x y z : Option ℕ) → option_or x (option_or y z) ≡ option_or (option_or x y) z
    regroup None y z = refl
    regroup (Some b) y z = refl

-- bytes that are past the cut count no more than those past the end
get_taken : (n : ℕ) (bs : List ℕ) (k : ℕ) → (k < n) ⊎ (length bs ≤ n) → slice_get (take n bs) k ≡ slice_get bs k
get_taken zero [] k h = refl
get_taken zero (b ∷ bs) k h = ⊎_elim (λ i. absurd (omega arith)) (λ i. absurd (omega arith)) h
get_taken (suc n) [] k h = refl
get_taken (suc n) (b ∷ bs) zero h = refl
get_taken (suc n) (b ∷ bs) (suc k) h = get_taken n bs k (⊎_elim (λ i. inl (omega arith)) (λ i. inr (omega arith)) h)

pub from_taken : (a n q : ℕ) (bs : List ℕ) → (q < a + n) ⊎ (length bs ≤ n) → byte_from a (take n bs) q ≡ byte_from a bs q
from_taken a n q bs h = by_side (nat_lt q a) refl
  where
    by_side : (b : Bool) → nat_lt q a ≡ b → (if b then None else slice_get (take n bs) (q - a)) ≡ (if b then None else slice_get bs (q - a))
    by_side true e = refl
    by_side false e = let le : a ≤ q = grind (arith, nat_tests) in get_taken n bs (q - a) (⊎_elim (λ i. inl (omega arith)) (λ i. inr i) h)

either_first : (x y : Option ℕ) → ((b : ℕ) → y ≡ Some b → x ≡ None) → option_or x y ≡ option_or y x
either_first None None h = refl
either_first None (Some b) h = refl
either_first (Some a) None h = refl
either_first (Some a) (Some b) h = cc (h b refl)

byte_within : (a q b : ℕ) (bs : List ℕ) → byte_from a bs q ≡ Some b → (a ≤ q) × (q < a + length bs)
byte_within a q b bs h = by_side (nat_lt q a) refl h
  where
    by_side : (v : Bool) → nat_lt q a ≡ v → (if v then None else slice_get bs (q - a)) ≡ Some b → (a ≤ q) × (q < a + length bs)
    by_side true e h = cc
    by_side false e h = let le : a ≤ q = grind (arith, nat_tests) in let lt = slice_get_within bs (q - a) b h in (le, omega arith)

-- what a segment behind the others adds, where they have none of its bytes
pub added : (ss : List Segment) (s : Segment) (a n q : ℕ) (bs : List ℕ) → s.start ≡ a → s.bytes ≡ take n bs
    → (a ≤ q → q < a + n → q < a + length bs → read_at ss q ≡ None)
    → read_at (ss ++ s ∷ []) q ≡ option_or (byte_from a (take n bs) q) (read_at ss q)
added ss s a n q bs h k apart =
    let same : byte_of s q ≡ byte_from a (take n bs) q = ap (λ x. byte_from x s.bytes q) h ∙ ap (λ xs. byte_from a xs q) k
    in read_more q ss s ∙ ap (option_or (read_at ss q)) same
    ∙ either_first (read_at ss q) (byte_from a (take n bs) q)
    (λ b e. let w = byte_within a q b (take n bs) e
    in apart w.0 (omega (arith, w.1, length-take n bs)) (omega (arith, w.1, length-take n bs)))

-- past the bytes that are kept there is none
pub none_past : (a n q : ℕ) (bs : List ℕ) → a + n ≤ q → byte_from a (take n bs) q ≡ None
none_past a n q bs le = by_value (byte_from a (take n bs) q) refl
  where
    by_value : (o : Option ℕ) → byte_from a (take n bs) q ≡ o → byte_from a (take n bs) q ≡ None
    by_value None e = e
    by_value (Some b) e = let w = byte_within a q b (take n bs) e in absurd (omega (arith, w.1, length-take n bs))

-- ---- one byte changed

-- the segment at this place is the first that has the address
abbrev pub Holds : List Segment → ℕ → ℕ → Type 0
Holds [] q k = ⊥
Holds (s ∷ ss) q zero = is_some (byte_of s q) ≡ true
Holds (s ∷ ss) q (suc k) = (is_some (byte_of s q) ≡ false) × Holds ss q k

pub record Holder (ss : List Segment) (q n i : ℕ) : Type 0 where
  pub place : ℕ
  pub counted : i ≡ n + place
  pub holds : Holds ss q place

some_same : (a b : ℕ) → ◌≡◌ {A = Option ℕ} (Some a) (Some b) → a ≡ b
some_same a b h = cc

holder_by : (s : Segment) (ss : List Segment) (q n i : ℕ) (b : Bool) → b ≡ is_some (byte_of s q)
    → (index_of ss q (n + 1) ≡ Some i → Holder ss q (n + 1) i) → (if b then Some n else index_of ss q (n + 1)) ≡ Some i → Holder (s ∷ ss) q n i
holder_by s ss q n i true e more h =
    let same : n ≡ i = some_same n i h in record { place = 0; counted = omega arith; holds = sym e }
holder_by s ss q n i false e more h =
    let r : Holder ss q (n + 1) i = more h
    in record { place = suc r.place; counted = omega (arith, r.counted); holds = (sym e, r.holds) }

pub holder : (ss : List Segment) (q n i : ℕ) → index_of ss q n ≡ Some i → Holder ss q n i
holder [] q n i h = cc
holder (s ∷ ss) q n i h = holder_by s ss q n i (is_some (byte_of s q)) refl (holder ss q (n + 1) i) h

none_by : (o : Option ℕ) (b : Bool) → b ≡ is_some o → b ≡ false → o ≡ None
none_by None b e h = refl
none_by (Some x) b e h = cc

held_none : (s : Segment) (ss : List Segment) (q n : ℕ) (b : Bool) → b ≡ is_some (byte_of s q)
    → (index_of ss q (n + 1) ≡ None → read_at ss q ≡ None) → (if b then Some n else index_of ss q (n + 1)) ≡ None
    → option_or (byte_of s q) (read_at ss q) ≡ None
held_none s ss q n true e more h = cc
held_none s ss q n false e more h = rw (none_by (byte_of s q) false e refl) (more h)

-- where no segment is found none has the address
pub none_held : (ss : List Segment) (q n : ℕ) → index_of ss q n ≡ None → read_at ss q ≡ None
none_held [] q n h = refl
none_held (s ∷ ss) q n h = held_none s ss q n (is_some (byte_of s q)) refl (none_held ss q (n + 1)) h

some_first : (x y : Option ℕ) → is_some x ≡ true → is_some (option_or x y) ≡ true
some_first None y h = cc
some_first (Some a) y h = refl

some_second : (x y : Option ℕ) → is_some y ≡ true → is_some (option_or x y) ≡ true
some_second None y h = h
some_second (Some a) y h = refl

pub held_some : (ss : List Segment) (q k : ℕ) → Holds ss q k → is_some (read_at ss q) ≡ true
held_some [] q k h = absurd h
held_some (s ∷ ss) q zero h = some_first (byte_of s q) (read_at ss q) h
held_some (s ∷ ss) q (suc k) h = some_second (byte_of s q) (read_at ss q) (held_some ss q k h.1)

some_value : (o : Option ℕ) → is_some o ≡ true → (b : ℕ) × (o ≡ Some b)
some_value None h = cc
some_value (Some b) h = (b, refl)

segment_same : (a b : Segment) → ◌≡◌ {A = Option Segment} (Some a) (Some b) → a ≡ b
segment_same a b h = cc

-- the segment at that place has the address
pub held_byte : (ss : List Segment) (q k : ℕ) (s : Segment) → Holds ss q k → slice_get ss k ≡ Some s → is_some (byte_of s q) ≡ true
held_byte [] q k s h e = absurd h
held_byte (t ∷ ss) q zero s h e = subst (λ x. is_some (byte_of x q) ≡ true) (segment_same t s e) h
held_byte (t ∷ ss) q (suc k) s h e = held_byte ss q k s h.1 e

pub held_within : (ss : List Segment) (q k : ℕ) → Holds ss q k → k < length ss
held_within [] q k h = absurd h
held_within (s ∷ ss) q zero h = omega arith
held_within (s ∷ ss) q (suc k) h = let r : k < length ss = held_within ss q k h.1 in omega arith

pub byte_inside : (s : Segment) (q : ℕ) → is_some (byte_of s q) ≡ true → (s.start ≤ q) × (q - s.start < length s.bytes)
byte_inside s q h =
    let v = some_value (byte_of s q) h
    in let w = byte_within s.start q v.0 s.bytes v.1
    in (w.0, omega (arith, w.0, w.1))

set_here : (xs : List ℕ) (i v : ℕ) → i < length xs → slice_get (slice_set xs i v) i ≡ Some v
set_here [] i v lt = absurd (omega arith)
set_here (x ∷ xs) zero v lt = refl
set_here (x ∷ xs) (suc i) v lt = let less : i < length xs = omega arith in set_here xs i v less

set_other : (xs : List ℕ) (i k v : ℕ) → (k ≡ i → ⊥) → slice_get (slice_set xs i v) k ≡ slice_get xs k
set_other [] i k v ne = refl
set_other (x ∷ xs) zero zero v ne = absurd (ne refl)
set_other (x ∷ xs) zero (suc k) v ne = refl
set_other (x ∷ xs) (suc i) zero v ne = refl
set_other (x ∷ xs) (suc i) (suc k) v ne = set_other xs i k v (λ e. ne (ap suc e))

byte_here : (s : Segment) (q v : ℕ) → is_some (byte_of s q) ≡ true → byte_of (with_byte s q v) q ≡ Some v
byte_here s q v h =
    let w = byte_inside s q h
    in let at : nat_lt q s.start ≡ false = let le : s.start ≤ q = w.0 in grind (arith, nat_tests)
    in rw at (set_here s.bytes (q - s.start) v w.1)

byte_other : (s : Segment) (q v p : ℕ) → is_some (byte_of s q) ≡ true → (p ≡ q → ⊥) → byte_of (with_byte s q v) p ≡ byte_of s p
byte_other s q v p h ne = by_side (nat_lt p s.start) refl
  where
    by_side : (b : Bool) → nat_lt p s.start ≡ b
        → (if b then None else slice_get (slice_set s.bytes (q - s.start) v) (p - s.start)) ≡ (if b then None else slice_get s.bytes (p - s.start))
    by_side true e = refl
    by_side false e =
        let le : s.start ≤ p = grind (arith, nat_tests)
        in let w = byte_inside s q h
        in let from : s.start ≤ q = w.0
        in set_other s.bytes (q - s.start) (p - s.start) v (λ same. ne (omega arith))

written_here : (ss : List Segment) (q k v : ℕ) (s : Segment) → Holds ss q k → slice_get ss k ≡ Some s
    → read_at (slice_set ss k (with_byte s q v)) q ≡ Some v
written_here [] q k v s h e = absurd h
written_here (t ∷ ss) q zero v s h e =
    ap (λ o. option_or o (read_at ss q)) (byte_here s q v (held_byte (t ∷ ss) q 0 s h e))
written_here (t ∷ ss) q (suc k) v s h e =
    rw (none_by (byte_of t q) false (sym h.0) refl) (written_here ss q k v s h.1 e)

written_other : (ss : List Segment) (q k v p : ℕ) (s : Segment) → Holds ss q k → slice_get ss k ≡ Some s → (p ≡ q → ⊥)
    → read_at (slice_set ss k (with_byte s q v)) p ≡ read_at ss p
written_other [] q k v p s h e ne = absurd h
written_other (t ∷ ss) q zero v p s h e ne =
    ap (λ o. option_or o (read_at ss p))
    (byte_other s q v p (held_byte (t ∷ ss) q 0 s h e) ne ∙ ap (λ x. byte_of x p) (sym (segment_same t s e)))
written_other (t ∷ ss) q (suc k) v p s h e ne = ap (option_or (byte_of t p)) (written_other ss q k v p s h.1 e ne)

by_order : (ss : List Segment) (q k v p : ℕ) (s : Segment) → Holds ss q k → slice_get ss k ≡ Some s
    → (o : Ordering) → MatchOrdering o (p < q) (p ≡ q) (q < p)
    → read_at (slice_set ss k (with_byte s q v)) p ≡ cond (is_eq o) (Some v) (read_at ss p)
by_order ss q k v p s h e Less lt = written_other ss q k v p s h e (λ same. omega arith)
by_order ss q k v p s h e Equal same =
    ap (read_at (slice_set ss k (with_byte s q v))) same ∙ written_here ss q k v s h e
by_order ss q k v p s h e Greater lt = written_other ss q k v p s h e (λ same. omega arith)

-- the first segment with the address, rewritten, is the map with that byte changed
pub written : (ss : List Segment) (q k v : ℕ) (s : Segment) → Holds ss q k → slice_get ss k ≡ Some s
    → from_entries {R = nat_cmp} (all_entries (slice_set ss k (with_byte s q v))) ≡ insert (from_entries (all_entries ss)) q v
written ss q k v s h e = same_map nat_cmp_total nat_cmp-IsAntisymmetric _ _ (λ p.
    get_read (slice_set ss k (with_byte s q v)) p
    ∙ by_order ss q k v p s h e (nat_cmp p q) (ranks p q)
    ∙ sym (get-insert nat_cmp_total (from_entries (all_entries ss)) q v p
    ∙ ap (cond (is_eq (nat_cmp p q)) (Some v)) (get_read ss p)))

-- the place that is answered
pub found : (ss xs : List Segment) (q i : ℕ) → xs ≡ ss → ◌≡◌ {A = Option ℕ} (Some i) (index_of xs q 0) → Holds ss q i
found ss xs q i same e =
    let r : Holder ss q 0 i = holder ss q 0 i (ap (λ x. index_of x q 0) (sym same) ∙ sym e)
    in let at : r.place ≡ i = omega (arith, r.counted)
    in subst (Holds ss q) at r.holds

pub not_found : (ss xs : List Segment) (q : ℕ) → xs ≡ ss → ◌≡◌ {A = Option ℕ} None (index_of xs q 0) → get (from_entries {R = nat_cmp} (all_entries ss)) q ≡ None
not_found ss xs q same e = get_read ss q ∙ none_held ss q 0 (ap (λ x. index_of x q 0) (sym same) ∙ sym e)

pub found_valid : (ss : List Segment) (q i : ℕ) → Holds ss q i → is_some (get (from_entries {R = nat_cmp} (all_entries ss)) q) ≡ true
found_valid ss q i h = ap is_some (get_read ss q) ∙ held_some ss q i h

pub found_there : (ss : List Segment) (q i : ℕ) (s : Segment) → Holds ss q i → s ≡ get_or ss i s → slice_get ss i ≡ Some s
found_there ss q i s h e = slice_get_read ss (length ss) i s refl (held_within ss q i h) e

pub found_inside : (ss : List Segment) (q i : ℕ) (s : Segment) → Holds ss q i → s ≡ get_or ss i s → (s.start ≤ q) × (q - s.start < length s.bytes)
found_inside ss q i s h e = byte_inside s q (held_byte ss q i s h (found_there ss q i s h e))
