-- A memory of zero bytes on some ranges.
use Rattle.std.proofs.Common.{◌≡◌, ℕ, zero, suc, ◌+◌, Bool, true, false, cond, ◌&&◌, ◌||◌, nat_lt, nat_le, List, [], ◌∷◌, Option, Some, None, refl, sym, ap, ◌∙◌, arith, if◌then◌else◌}
use Rattle.std.specs.Prelude.{is_some, ◌↔◌}
use Rattle.std.specs.List.{list_any}
use Rattle.std.specs.Ordering.{nat_cmp, eq_by_cmp}
use Rattle.std.specs.Cmp.{nat_cmp_total}
use Rattle.std.specs.FinMap as map_of
use Rattle.std.proofs.lemmas.Bool.Decides.{nat_tests}
use Rattle.std.proofs.lemmas.Bool.{and_parts, ltb-true}
use Rattle.std.proofs.lemmas.List.Folds.{Any-from_list_any, list_any-from_Any}
use Rattle.jz_tree.specs.Memory.{Memory}
use Rattle.jz_annotations.proofs.LexingWords.{if_false, le_is}
use Rattle.jz_preconditions.specs.Meeting.{ByteRange, IsIn, IsInOne, IsValid}

-- ---- the bytes of one range
abbrev pub has : ByteRange → ℕ → Bool
has r q = nat_le r.from q && nat_lt q (r.from + r.count)

abbrev pub filled : ℕ → ℕ → Memory → Memory
filled zero a m = m
filled (suc n) a m = map_of.insert (filled n (a + 1) m) a 0

one_more : (a n q : ℕ) → (nat_le a q && nat_lt q (a + suc n)) ≡ (eq_by_cmp nat_cmp q a || (nat_le (a + 1) q && nat_lt q (a + 1 + n)))
one_more a n q = grind (arith, nat_tests)

chosen : (b c : Bool) (o : Option ℕ) → cond b (Some 0) (if c then Some 0 else o) ≡ (if b || c then Some 0 else o)
chosen true c o = refl
chosen false c o = refl

filled_get : (n a : ℕ) (m : Memory) (q : ℕ) → map_of.get (filled n a m) q ≡ (if nat_le a q && nat_lt q (a + n) then Some 0 else map_of.get m q)
filled_get zero a m q = sym (if_false (nat_le a q && nat_lt q (a + 0)) (Some 0) (map_of.get m q) (grind (arith, nat_tests)))
filled_get (suc n) a m q =
    map_of.get-insert nat_cmp_total (filled n (a + 1) m) a 0 q
    ∙ ap (λ o. cond (eq_by_cmp nat_cmp q a) (Some 0) o) (filled_get n (a + 1) m q)
    ∙ chosen (eq_by_cmp nat_cmp q a) (nat_le (a + 1) q && nat_lt q (a + 1 + n)) (map_of.get m q)
    ∙ ap (λ b. if b then Some 0 else map_of.get m q) (sym (one_more a n q))

-- ---- of several
abbrev pub zeros : List ByteRange → Memory
zeros [] = map_of.empty
zeros (r ∷ rs) = filled r.count r.from (zeros rs)

abbrev any_has : List ByteRange → ℕ → Bool
any_has rs q = list_any (λ r. has r q) rs

either : (b c : Bool) → ◌≡◌ {A = Option ℕ} (if b then Some 0 else if c then Some 0 else None) (if b || c then Some 0 else None)
either true c = refl
either false c = refl

zeros_get : (rs : List ByteRange) (q : ℕ) → map_of.get (zeros rs) q ≡ (if any_has rs q then Some 0 else None)
zeros_get [] q = map_of.get-empty nat_cmp q
zeros_get (r ∷ rs) q =
    filled_get r.count r.from (zeros rs) q
    ∙ ap (λ o. if has r q then Some 0 else o) (zeros_get rs q)
    ∙ either (has r q) (any_has rs q)

some_is : (b : Bool) → is_some {T = ℕ} (if b then Some 0 else None) ≡ b
some_is true = refl
some_is false = refl

-- ---- the ranges, and nothing else
has_in : (r : ByteRange) (q : ℕ) → has r q ≡ true → IsIn r q
has_in r q h = let p = and_parts (nat_le r.from q) (nat_lt q (r.from + r.count)) h in (le_is r.from q p.0, ltb-true q (r.from + r.count) p.1)

in_has : (r : ByteRange) (q : ℕ) → IsIn r q → has r q ≡ true
in_has r q h = let a = h.0 in let b = h.1 in grind (arith, nat_tests, a, b)

pub zeros_cover : (rs : List ByteRange) (q : ℕ) → IsValid (zeros rs) q ↔ IsInOne rs q
zeros_cover rs q =
    let same : is_some (map_of.get (zeros rs) q) ≡ any_has rs q = ap is_some (zeros_get rs q) ∙ some_is (any_has rs q) in (
      λ v. (let a = Any-from_list_any (λ r. has r q) rs (sym same ∙ v) in (a.0, a.1, a.2, a.3, has_in a.1 q a.4)),
      λ a. same ∙ list_any-from_Any (λ r. has r q) rs (a.0, a.1, a.2, a.3, in_has a.1 q a.4),
    )

zero_byte : (c : Bool) (b : ℕ) → ◌≡◌ {A = Option ℕ} (if c then Some 0 else None) (Some b) → b ≡ 0
zero_byte true b e = cc
zero_byte false b e = absurd (let no : ⊥ = cc in no)

pub zeros_bytes : (rs : List ByteRange) (q b : ℕ) → map_of.get (zeros rs) q ≡ Some b → b ≡ 0
zeros_bytes rs q b e = zero_byte (any_has rs q) b (sym (zeros_get rs q) ∙ e)
