-- A cell that is looked for among those that are noted.
use Rattle.std.proofs.Common.{◌≡◌, ℕ, zero, suc, ◌+◌, ◌<◌, ◌≤◌, Bool, true, false, List, [], ◌∷◌, length, Option, Some, None, refl, ap, sym, ◌∙◌, subst, arith, rules}
use Rattle.std.specs.Prelude.{cond, nat_lt, slice_get, is_none, is_some, ◌&&◌, ◌||◌}
use Rattle.std.specs.Map.{lookup}
use Rattle.jz_layers.specs.declared.named.Named.{Named}
use Rattle.jz_layers.specs.declared.layers.Layers.{Layers}
use Rattle.jz_layers.specs.Spots.{Spot, spot_of, same_spot, is_plain, is_noted, entry_in, IsListed}
use Rattle.jz_layers.specs.Layered.{seen}
use Rattle.jz_fact_sets.specs.declared.knowledge.Knowledge.{Knowledge}
use Rattle.jz_fact_sets.specs.Kept.{known_at, known_or}

-- none of the first i is at the spot
abbrev pub NoneBefore : List (Named × Unit {0}) → ℕ → Spot → Type 0
NoneBefore es i s = (k : ℕ) → k < i → (n : Named) (u : Unit {0}) → slice_get es k ≡ Some (n, u) → same_spot s (spot_of n) ≡ false

pub none_first : (es : List (Named × Unit {0})) (s : Spot) → NoneBefore es 0 s
none_first es s k lt n u e = absurd (omega (arith, lt))

some_one : (a b : Named × Unit {0}) → ◌≡◌ {A = Option (Named × Unit {0})} (Some a) (Some b) → a ≡ b
some_one a b e = cc e

same_name : (n o : Named) (u v : Unit {0}) → ◌≡◌ {A = Option (Named × Unit {0})} (Some (o, u)) (Some (n, v)) → o ≡ n
same_name n o u v e = ap (λ (p : Named × Unit {0}). p.0) (some_one (o, u) (n, v) e)

pub next_none : (es : List (Named × Unit {0})) (i : ℕ) (s : Spot) (o : Named) (w : Unit {0}) → NoneBefore es i s → slice_get es i ≡ Some (o, w) → same_spot s (spot_of o) ≡ false → NoneBefore es (i + 1) s
next_none es i s o w h e f k lt n u q = by (nat_lt k i) refl
  where
    by : (b : Bool) → nat_lt k i ≡ b → same_spot s (spot_of n) ≡ false
    by true c = let l : k < i = grind (arith, rules, c) in h k l n u q
    by false c =
        let l : i ≤ k = grind (arith, rules, c) in
        let same : k ≡ i = omega (arith, l, lt) in
        let one : o ≡ n = same_name n o w u (sym e ∙ ap (slice_get es) (sym same) ∙ q) in
        subst (λ m. same_spot s (spot_of m) ≡ false) one f

none_in : (es : List (Named × Unit {0})) (s : Spot) → NoneBefore es (length es) s → lookup (λ n. same_spot s (spot_of n)) es ≡ None
none_in [] s h = refl
none_in (x ∷ es) s h =
    ap (λ b. cond b (Some x.1) (lookup (λ n. same_spot s (spot_of n)) es)) (h zero (omega arith) x.0 x.1 refl)
    ∙ none_in es s (λ k lt n u q. h (suc k) (omega (arith, lt)) n u q)

fewer : (es : List (Named × Unit {0})) (i : ℕ) (s : Spot) → length es ≤ i → NoneBefore es i s → NoneBefore es (length es) s
fewer es i s l h k lt n u q = h k (omega (arith, l, lt)) n u q

not_noted : (p b : Bool) → p ≡ false → b ≡ false → (p || b) ≡ true → ⊥
not_noted true b e f h = cc e
not_noted false true e f h = cc f
not_noted false false e f h = cc h

pub not_known : (set : Layers Knowledge) (s : Spot) (i : ℕ) → is_plain s ≡ false → IsListed set.noted (seen set) → length set.noted.entries ≤ i → NoneBefore set.noted.entries i s → false ≡ (known_at set s).set
not_known set s i p listed l h = by (seen set s) refl
  where
    none : entry_in set.noted s ≡ None
    none = none_in set.noted.entries s (fewer set.noted.entries i s l h)

    by : (o : Option Knowledge) → seen set s ≡ o → false ≡ (known_at set s).set
    by None e = sym (ap (λ o. (known_or o).set) e)
    by (Some v) e = absurd (not_noted (is_plain s) (is_some (entry_in set.noted s)) p (ap is_some none) (listed s v e))

pub cells_are_not_plain : (b : Bool) → (b && false) ≡ false
cells_are_not_plain true = refl
cells_are_not_plain false = refl
