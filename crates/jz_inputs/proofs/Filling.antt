-- Memories that are filled with bytes of items.
use Rattle.std.proofs.Common.{◌≡◌, ℕ, zero, suc, ◌+◌, ◌-◌, ◌^◌, ◌<◌, ◌≤◌, Bool, true, false, ◌&&◌, ◌||◌, nat_lt, nat_le, List, [], ◌∷◌, ◌++◌, Option, Some, None, refl, sym, ap, ◌∙◌, subst, arith, if◌then◌else◌}
use Rattle.std.specs.Prelude.{IsSome, slice_get, All}
use Rattle.std.specs.List.{list_any}
use Rattle.std.specs.Option.{option_or}
use Rattle.std.specs.Ordering.{nat_cmp}
use Rattle.std.specs.FinMap as map_of
use Rattle.std.proofs.lemmas.Bool.{and_parts, or_right, ltb-true}
use Rattle.std.proofs.lemmas.Bool.Decides.{nat_tests}
use Rattle.std.proofs.lemmas.Grind.{flat_map-append}
use Rattle.std.proofs.lemmas.List.Elements.{All-nil, All-head, All-tail, All-append}
use Rattle.std.proofs.lemmas.List.Folds.{Any-from_list_any, list_any-from_Any}
use Rattle.jz_tree.specs.Memory.{Memory}
use Rattle.jz_tree.specs.declared.program.Fun.{Fun}
use Rattle.jz_leak.specs.MemoryMap.{byte_from, AddsBytes}
use Rattle.jz_lex.proofs.LexingWords.{by_cases, if_true, if_false, le_is}
use Rattle.jz_annotations.specs.declared.precondition.Pre.{Pre}
use Rattle.jz_items.specs.declared.item.Item.{Item}
use Rattle.jz_preconditions.specs.Meeting.{ByteRange, IsIn, region_of, regions_of, names_of}
use Rattle.jz_inputs.specs.declared.regions.Extent.{Extent}
use Rattle.jz_inputs.specs.Held.{byte_at, IsRegion, IsHeld}
use Rattle.jz_inputs.specs.Inputs.{range_of, HoldsRegions}
use Rattle.jz_inputs.specs.InnerCover.{AreGiven}
use Rattle.jz_inputs.specs.InnerFilled.{is_between, is_in, is_in_one, IsFilled, FillsFrom, FillsRegion, IsPiece}
use Rattle.jz_inputs.proofs.Covered.{from_before, from_past}

-- ---- the addresses of a filled memory by another test
pub filled_as : (items : List Item) (h g : ℕ → Bool) (m : Memory) → ((q : ℕ) → h q ≡ g q) → IsFilled items h m → IsFilled items g m
filled_as items h g m same f = record {
  is = λ q. f.is q ∙ ap (λ b. if b then byte_at items q else None) (same q);
  bytes = f.bytes;
}

-- a byte that is valid stands at one of the addresses
valid_here : (b : Bool) (o : Option ℕ) → IsSome (if b then o else None) → b ≡ true
valid_here true o h = refl
valid_here false o h = absurd (let no : ⊥ = cc in no)

-- ---- nothing yet
or_false : (b : Bool) → (b || false) ≡ b
or_false true = refl
or_false false = refl

none_between : (from q : ℕ) → is_between from from q ≡ false
none_between from q = grind (arith, nat_tests)

pub begun : (items : List Item) (from : ℕ) (m : Memory) → FillsFrom items from from m m
begun items from m here f = filled_as items here (λ q. here q || is_between from from q) m (λ q. sym (ap (λ b. here q || b) (none_between from q) ∙ or_false (here q))) f

-- ---- one byte further, which is there already
one_between : (from at q : ℕ) → from ≤ at → (q ≡ at → ⊥) → is_between from (at + 1) q ≡ is_between from at q
one_between from at q l other = by_cases (is_between from (at + 1) q ≡ is_between from at q) (nat_lt q at)
    (λ e. let w = ltb-true q at e in let r : is_between from (at + 1) q ≡ is_between from at q = grind (arith, nat_tests, w) in r)
    (λ e. let w : at < q = (let u : at ≤ q = grind (arith, nat_tests, e) in omega (arith, u, other)) in
    let r : is_between from (at + 1) q ≡ is_between from at q = grind (arith, nat_tests, w) in r)

pub skipped : (items : List Item) (from at : ℕ) (old m : Memory) → from ≤ at → IsSome (map_of.get m at) → FillsFrom items from at old m → FillsFrom items from (at + 1) old m
skipped items from at old m l there fills here f =
    let g = fills here f in
    let has : (here at || is_between from at at) ≡ true = valid_here (here at || is_between from at at) (byte_at items at) (subst IsSome (g.is at) there) in
    filled_as items (λ q. here q || is_between from at q) (λ q. here q || is_between from (at + 1) q) m
    (λ q. by_cases ((here q || is_between from at q) ≡ (here q || is_between from (at + 1) q)) (nat_le q at && nat_le at q)
    (λ e. let p = and_parts (nat_le q at) (nat_le at q) e in
    let same : q ≡ at = (let a = le_is q at p.0 in let b = le_is at q p.1 in omega (arith, a, b)) in
    subst (λ z. (here z || is_between from at z) ≡ (here z || is_between from (at + 1) z)) (sym same)
    (has ∙ sym (or_right (here at) (is_between from (at + 1) at) (let r : is_between from (at + 1) at ≡ true = grind (arith, nat_tests, l) in r))))
    (λ e. ap (λ b. here q || b) (sym (one_between from at q l (λ same. (let a : (nat_le q at && nat_le at q) ≡ true = grind (arith, nat_tests, same) in let no : ⊥ = cc in no))))))
    g

-- ---- a piece more
behind_piece : (items : List Item) (at stop q : ℕ) (bytes : List ℕ) → at ≤ stop → IsPiece items at stop bytes → is_between at stop q ≡ false → byte_from at bytes q ≡ None
behind_piece items at stop q bytes order p h = by_cases (byte_from at bytes q ≡ None) (nat_lt q at)
    (λ e. from_before at q bytes (ltb-true q at e))
    (λ e. from_past at q bytes (let r : stop ≤ q = grind (arith, nat_tests, h, e) in let n = p.long in omega (arith, r, n, order)))

in_piece : (items : List Item) (at stop q : ℕ) (bytes : List ℕ) → IsPiece items at stop bytes → at ≤ q → q < stop → byte_from at bytes q ≡ byte_at items q
in_piece items at stop q bytes p l r =
    if_false (nat_lt q at) None (slice_get bytes (q - at)) (let t : nat_lt q at ≡ false = grind (arith, nat_tests, l) in t) ∙ p.given q l r

or_same : (o : Option ℕ) (b : Bool) → (IsSome o) → option_or o (if b then o else None) ≡ o
or_same None b h = absurd (let no : ⊥ = cc in no)
or_same (Some x) b h = refl

some_or : (o other : Option ℕ) → IsSome o → option_or o other ≡ o
some_or None other h = absurd (let no : ⊥ = cc in no)
some_or (Some x) other h = refl

between_more : (from at stop q : ℕ) → from ≤ at → at ≤ stop → is_between at stop q ≡ false → is_between from stop q ≡ is_between from at q
between_more from at stop q l r h = grind (arith, nat_tests, l, r, h)

between_in : (from at stop q : ℕ) → from ≤ at → is_between at stop q ≡ true → is_between from stop q ≡ true
between_in from at stop q l h = grind (arith, nat_tests, l, h)

between_is : (at stop q : ℕ) → is_between at stop q ≡ true → (at ≤ q) × (q < stop)
between_is at stop q h = let p = and_parts (nat_le at q) (nat_lt q stop) h in (le_is at q p.0, ltb-true q stop p.1)

module _ (items : List Item) (from at stop end : ℕ) (old m new : Memory) (bytes : List ℕ) (l : from ≤ at) (r : at < stop) (s : stop ≤ end) (top : end ≤ 2 ^ 64)
    (given : AreGiven items from end) (piece : IsPiece items at stop bytes) (add : AddsBytes m new at bytes) where
  -- what stands at an address then
  new_at : (here : ℕ → Bool) → IsFilled items (λ q. here q || is_between from at q) m → (q : ℕ)
      → map_of.get new q ≡ (if here q || is_between from stop q then byte_at items q else None)
  new_at here g q = by_cases (map_of.get new q ≡ (if here q || is_between from stop q then byte_at items q else None)) (is_between at stop q)
      (λ e. let b = between_is at stop q e in
      let small : q < 2 ^ 64 = (let b1 = b.1 in omega (arith, b1, s, top)) in
      let some : IsSome (byte_at items q) = given q (let b0 = b.0 in omega (arith, b0, l)) (let b1 = b.1 in omega (arith, b1, s)) in
      add.below q small
      ∙ ap (λ o. option_or o (map_of.get m q)) (in_piece items at stop q bytes piece b.0 b.1)
      ∙ some_or (byte_at items q) (map_of.get m q) some
      ∙ sym (if_true (here q || is_between from stop q) (byte_at items q) None (or_right (here q) (is_between from stop q) (between_in from at stop q l e))))
      (λ e. let kept : map_of.get new q ≡ map_of.get m q = by_cases (map_of.get new q ≡ map_of.get m q) (nat_lt q (2 ^ 64))
      (λ w. add.below q (ltb-true q (2 ^ 64) w) ∙ ap (λ o. option_or o (map_of.get m q)) (behind_piece items at stop q bytes (omega (arith, r)) piece e))
      (λ w. add.past q (let u : 2 ^ 64 ≤ q = grind (arith, nat_tests, w) in u)) in
      kept ∙ g.is q ∙ ap (λ b. if here q || b then byte_at items q else None) (sym (between_more from at stop q l (omega (arith, r)) e)))

  byte_small : (q : ℕ) → (b : ℕ) → (c : Option ℕ) → c ≡ Some b → (c ≡ slice_get bytes (q - at)) → b < 256
  byte_small q b c e is = all_at bytes (q - at) b piece.bytes (sym is ∙ e)
    where
      all_at : (xs : List ℕ) (i b : ℕ) → All (λ x. x < 256) xs → slice_get xs i ≡ Some b → b < 256
      all_at [] i b h e = absurd (let no : ⊥ = cc in no)
      all_at (x ∷ xs) zero b h e = let same : x ≡ b = cc in subst (λ z. z < 256) same (All-head (λ x. x < 256) x xs h)
      all_at (x ∷ xs) (suc i) b h e = all_at xs i b (All-tail (λ x. x < 256) x xs h) e

  new_small : (here : ℕ → Bool) → IsFilled items (λ q. here q || is_between from at q) m → (q b : ℕ) → map_of.get new q ≡ Some b → b < 256
  new_small here g q b e = by_cases (b < 256) (is_between at stop q)
      (λ t. let w = between_is at stop q t in
      let small : q < 2 ^ 64 = (let w1 = w.1 in omega (arith, w1, s, top)) in
      let some : IsSome (byte_at items q) = given q (let w0 = w.0 in omega (arith, w0, l)) (let w1 = w.1 in omega (arith, w1, s)) in
      let is : map_of.get new q ≡ byte_at items q =
      add.below q small ∙ ap (λ o. option_or o (map_of.get m q)) (in_piece items at stop q bytes piece w.0 w.1) ∙ some_or (byte_at items q) (map_of.get m q) some in
      byte_small q b (byte_at items q) (sym is ∙ e) (sym (piece.given q w.0 w.1)))
      (λ t. let kept : map_of.get new q ≡ map_of.get m q = by_cases (map_of.get new q ≡ map_of.get m q) (nat_lt q (2 ^ 64))
      (λ w. add.below q (ltb-true q (2 ^ 64) w) ∙ ap (λ o. option_or o (map_of.get m q)) (behind_piece items at stop q bytes (omega (arith, r)) piece t))
      (λ w. add.past q (let u : 2 ^ 64 ≤ q = grind (arith, nat_tests, w) in u)) in
      g.bytes q b (sym kept ∙ e))

  pub put : FillsFrom items from at old m → FillsFrom items from stop old new
  put fills here f = record { is = new_at here (fills here f); bytes = new_small here (fills here f) }

-- ---- regions
abbrev Filled : List Item → List ByteRange → Memory → Type 0
Filled items rs m = IsFilled items (is_in_one rs) m

no_byte : (o : Option ℕ) (b : ℕ) → o ≡ None → o ≡ Some b → b < 256
no_byte o b p q = absurd (let no : ⊥ = cc in no)

pub empty_filled : (items : List Item) (m : Memory) → m ≡ map_of.empty → Filled items [] m
empty_filled items m e =
    let none : (q : ℕ) → map_of.get m q ≡ None = λ q. ap (λ z. map_of.get z q) e ∙ map_of.get-empty nat_cmp q in
    record { is = none; bytes = λ q b h. no_byte (map_of.get m q) b (none q) h }

any_append : {A : Type 0} (t : A → Bool) (xs ys : List A) → list_any t (xs ++ ys) ≡ (list_any t xs || list_any t ys)
any_append t [] ys = refl
any_append t (x ∷ xs) ys = ap (λ b. t x || b) (any_append t xs ys) ∙ assoc (t x) (list_any t xs) (list_any t ys)
  where
    assoc : (a b c : Bool) → (a || (b || c)) ≡ ((a || b) || c)
    assoc true b c = refl
    assoc false b c = refl

pub region_none : (f : Fun) (words : List ℕ) (items : List Item) (p : Pre) (m : Memory) → [] ≡ region_of (names_of f) words p → FillsRegion f words items p m m
region_none f words items p m e here g =
    filled_as items here (λ q. here q || is_in_one (region_of (names_of f) words p) q) m
    (λ q. sym (ap (λ rs. here q || is_in_one rs q) (sym e) ∙ or_false (here q))) g

pub region_some : (f : Fun) (words : List ℕ) (items : List Item) (p : Pre) (old new : Memory) (e : Extent) → range_of e ∷ [] ≡ region_of (names_of f) words p
    → FillsFrom items e.from (e.from + e.count) old new → FillsRegion f words items p old new
region_some f words items p old new e is fills here g =
    filled_as items (λ q. here q || is_between e.from (e.from + e.count) q) (λ q. here q || is_in_one (region_of (names_of f) words p) q) new
    (λ q. ap (λ b. here q || b) (sym (or_false (is_between e.from (e.from + e.count) q))) ∙ ap (λ rs. here q || is_in_one rs q) is) (fills here g)

-- what is asked of a region
pub region_asked : (f : Fun) (words : List ℕ) (items : List Item) (p : Pre) (e : Extent) → range_of e ∷ [] ≡ region_of (names_of f) words p → IsHeld f words items p
    → (e.from + e.count ≤ 2 ^ 64) × AreGiven items e.from (e.from + e.count)
region_asked f words items p e is h =
    let r = All-head (IsRegion items) (range_of e) [] (subst (λ rs. All (IsRegion items) rs) (sym is) h.regions) in
    (r.0, λ q l u. r.1 q (l, u))

pub region_more : (f : Fun) (words : List ℕ) (items : List Item) (front : List Pre) (p : Pre) (old new : Memory)
    → FillsRegion f words items p old new → Filled items (regions_of (names_of f) front words) old → Filled items (regions_of (names_of f) (front ++ p ∷ []) words) new
region_more f words items front p old new fills h =
    let rs = regions_of (names_of f) front words in
    let more : regions_of (names_of f) (front ++ p ∷ []) words ≡ rs ++ region_of (names_of f) words p =
    flat_map-append (region_of (names_of f) words) front (p ∷ []) ∙ ap (λ z. rs ++ z) (nil_behind (region_of (names_of f) words p)) in
    filled_as items (λ q. is_in_one rs q || is_in_one (region_of (names_of f) words p) q) (is_in_one (regions_of (names_of f) (front ++ p ∷ []) words)) new
    (λ q. sym (any_append (is_in q) rs (region_of (names_of f) words p)) ∙ ap (λ z. is_in_one z q) (sym more)) (fills (is_in_one rs) h)
  where
    nil_behind : (xs : List ByteRange) → xs ++ [] ≡ xs
    nil_behind [] = refl
    nil_behind (x ∷ xs) = ap (λ ys. x ∷ ys) (nil_behind xs)

-- ---- the whole
in_range : (r : ByteRange) (q : ℕ) → is_in q r ≡ true → IsIn r q
in_range r q h = between_is r.from (r.from + r.count) q h

range_in : (r : ByteRange) (q : ℕ) → IsIn r q → is_in q r ≡ true
range_in r q h = let a = h.0 in let b = h.1 in grind (arith, nat_tests, a, b)

pub all_regions : (f : Fun) (words : List ℕ) (items : List Item) (pres : List Pre) → All (IsHeld f words items) pres → All (IsRegion items) (regions_of (names_of f) pres words)
all_regions f words items [] h = All-nil (IsRegion items)
all_regions f words items (p ∷ pres) h =
    All-append (IsRegion items) (region_of (names_of f) words p) (regions_of (names_of f) pres words)
    (All-head (IsHeld f words items) p pres h).regions (all_regions f words items pres (All-tail (IsHeld f words items) p pres h))

one_given : (items : List Item) (rs : List ByteRange) (q : ℕ) → All (IsRegion items) rs → is_in_one rs q ≡ true → IsSome (byte_at items q)
one_given items [] q h e = absurd (let no : ⊥ = cc in no)
one_given items (r ∷ rs) q h e = by_cases (IsSome (byte_at items q)) (is_in q r)
    (λ t. (All-head (IsRegion items) r rs h).1 q (in_range r q t))
    (λ t. one_given items rs q (All-tail (IsRegion items) r rs h) (sym (ap (λ b. b || is_in_one rs q) t) ∙ e))

given_by : (c : Bool) (o : Option ℕ) (b : ℕ) → (if c then o else None) ≡ Some b → o ≡ Some b
given_by true o b e = e
given_by false o b e = absurd (let no : ⊥ = cc in no)

pub holds : (f : Fun) (words : List ℕ) (items : List Item) (pres : List Pre) (m : Memory) → All (IsHeld f words items) pres
    → Filled items (regions_of (names_of f) pres words) m → HoldsRegions f words items pres m
holds f words items pres m all h =
    let rs = regions_of (names_of f) pres words in
    record {
      covered = λ q. (
        λ v. (let a = Any-from_list_any (is_in q) rs (valid_here (is_in_one rs q) (byte_at items q) (subst IsSome (h.is q) v)) in (a.0, a.1, a.2, a.3, in_range a.1 q a.4)),
        λ a. (let t : is_in_one rs q ≡ true = list_any-from_Any (is_in q) rs (a.0, a.1, a.2, a.3, range_in a.1 q a.4) in
            subst IsSome (sym (h.is q ∙ if_true (is_in_one rs q) (byte_at items q) None t)) (one_given items rs q (all_regions f words items pres all) t)),
      );
      given = λ q b e. given_by (is_in_one rs q) (byte_at items q) b (sym (h.is q) ∙ e);
      bytes = h.bytes;
    }
