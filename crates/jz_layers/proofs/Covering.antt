-- A table that is gone through from its first entry.
use Rattle.std.proofs.Common.{◌≡◌, ℕ, zero, suc, ◌+◌, ◌<◌, ◌≤◌, List, [], ◌∷◌, take, length, Option, Some, None, Bool, true, false, refl, ap, sym, ◌∙◌, if◌then◌else◌, arith}
use Rattle.std.specs.Prelude.{◌||◌, cond, slice_get, is_some}
use Rattle.std.proofs.Math.Path.{fun_ext}
use Rattle.std.specs.Map.{lookup}
use Rattle.std.specs.Option.{option_map}
use Rattle.indexmap.specs.IndexMap.{IndexMap}
use Rattle.jz_layers.specs.declared.named.Named.{Named}
use Rattle.jz_layers.specs.Spots.{Spot, same_spot, spot_of, or_below, put_in, entry_in, over}
use Rattle.jz_layers.proofs.SpotLemmas.{same_spot-true, same_spot-refl, same_spot-back}

-- what an option has, else something
abbrev has_or : {V : Type 0} → V → Option V → V
has_or v None = v
has_or v (Some w) = w

module _ {V : Type 0} where
  -- a key is that of one of the first entries
  abbrev pub covers : List (Named × V) → ℕ → Spot → Bool
  covers es i k = is_some (lookup (λ n. same_spot k (spot_of n)) (take i es))

  pub cover_none : (es : List (Named × V)) (k : Spot) → covers es 0 k ≡ false
  cover_none [] k = refl
  cover_none (e ∷ es) k = refl

  pub cover_more : (es : List (Named × V)) (i : ℕ) (n : Named) (v : V) (k : Spot) → slice_get es i ≡ Some (n, v) → covers es (suc i) k ≡ (covers es i k || same_spot k (spot_of n))
  cover_more [] i n v k e = absurd cc
  cover_more (x ∷ es) zero n v k e = by (same_spot k (spot_of x.0)) refl
    where
      x_is : x ≡ (n, v)
      x_is = ap (has_or x) e

      by : (b : Bool) → same_spot k (spot_of x.0) ≡ b → is_some (cond b (Some x.1) (lookup (λ n. same_spot k (spot_of n)) [])) ≡ same_spot k (spot_of n)
      by true h = sym h ∙ ap (λ (y : Named × V). same_spot k (spot_of y.0)) x_is
      by false h = sym h ∙ ap (λ (y : Named × V). same_spot k (spot_of y.0)) x_is
  cover_more (x ∷ es) (suc i) n v k e = by (same_spot k (spot_of x.0)) (cover_more es i n v k e)
    where
      by : (b : Bool) → covers es (suc i) k ≡ (covers es i k || same_spot k (spot_of n))
          → is_some (cond b (Some x.1) (lookup (λ n. same_spot k (spot_of n)) (take (suc i) es))) ≡ (is_some (cond b (Some x.1) (lookup (λ n. same_spot k (spot_of n)) (take i es))) || same_spot k (spot_of n))
      by true h = refl
      by false h = h

  pub cover_next : (es : List (Named × V)) (i : ℕ) (n : Named) (v : V) (k : Spot) → slice_get es i ≡ Some (n, v) → covers es (i + 1) k ≡ (covers es i k || same_spot k (spot_of n))
  cover_next es i n v k e = let j : i + 1 ≡ suc i = omega arith in ap (λ m. covers es m k) j ∙ cover_more es i n v k e

  -- what stands at an index is found
  pub found_at : (es : List (Named × V)) (i : ℕ) (n : Named) (v : V) → slice_get es i ≡ Some (n, v) → is_some (lookup (λ m. same_spot (spot_of n) (spot_of m)) es) ≡ true
  found_at [] i n v e = absurd cc
  found_at (x ∷ es) zero n v e = by (same_spot (spot_of n) (spot_of x.0)) (ap (λ (y : Named × V). same_spot (spot_of n) (spot_of y.0)) (ap (has_or x) e) ∙ same_spot-refl (spot_of n))
    where
      by : (b : Bool) → b ≡ true → is_some (cond b (Some x.1) (lookup (λ m. same_spot (spot_of n) (spot_of m)) es)) ≡ true
      by true h = refl
      by false h = absurd (cc h)
  found_at (x ∷ es) (suc i) n v e = by (same_spot (spot_of n) (spot_of x.0)) (found_at es i n v e)
    where
      by : (b : Bool) → is_some (lookup (λ m. same_spot (spot_of n) (spot_of m)) es) ≡ true → is_some (cond b (Some x.1) (lookup (λ m. same_spot (spot_of n) (spot_of m)) es)) ≡ true
      by true h = refl
      by false h = h

  -- a key at an index is that of an entry
  pub entry_at : (o : Option (Named × V)) (n : Named) → Some n ≡ option_map (λ e. e.0) o → (v : V) × (o ≡ Some (n, v))
  entry_at None n e = absurd (cc e)
  entry_at (Some x) n e = (x.1, ap Some (λ i. (key i, x.1)))
    where
      key : x.0 ≡ n
      key = sym (ap (has_or n) e)

  -- of the keys of the first entries it is F, else f
  abbrev pub Covered : (Spot → Option V) → (Spot → Option V) → List (Named × V) → ℕ → (Spot → Option V) → Type 0
  Covered F f es i h = (k : Spot) → h k ≡ (if covers es i k then F k else f k)

  pub covered_none : (F : Spot → Option V) (f : Spot → Option V) (es : List (Named × V)) → Covered F f es 0 f
  covered_none F f es k = sym (ap (λ b. if b then F k else f k) (cover_none es k))

  pub covered_more : (F : Spot → Option V) (f : Spot → Option V) (es : List (Named × V)) (i : ℕ) (h : Spot → Option V) (n : Named) (u v : V) → slice_get es i ≡ Some (n, u) → F (spot_of n) ≡ Some v
      → Covered F f es i h → Covered F f es (i + 1) (put_in h (spot_of n) v)
  covered_more F f es i h n u v e is c k =
      let j : i + 1 ≡ suc i = omega arith in
      by (same_spot (spot_of n) k) refl (covers es i k) (c k) ∙ sym (ap (λ b. if b then F k else f k) (ap (λ m. covers es m k) j ∙ cover_more es i n u k e))
    where
      by : (b : Bool) → same_spot (spot_of n) k ≡ b → (a : Bool) → h k ≡ (if a then F k else f k) → (if b then Some v else h k) ≡ (if a || same_spot k (spot_of n) then F k else f k)
      by true p true q = sym is ∙ ap F (same_spot-true (spot_of n) k p)
      by true p false q = sym is ∙ ap F (same_spot-true (spot_of n) k p) ∙ sym (ap (λ b. if b then F k else f k) (same_spot-back (spot_of n) k true p))
      by false p true q = q
      by false p false q = q ∙ sym (ap (λ b. if b then F k else f k) (same_spot-back (spot_of n) k false p))

  all_taken : (es : List (Named × V)) (i : ℕ) → length es ≤ i → take i es ≡ es
  all_taken [] zero l = refl
  all_taken [] (suc i) l = refl
  all_taken (e ∷ es) zero l = absurd (omega (arith, l))
  all_taken (e ∷ es) (suc i) l = let m : length es ≤ i = omega (arith, l) in ap (λ (xs : List (Named × V)). e ∷ xs) (all_taken es i m)

  pub covers_all : (es : List (Named × V)) (i : ℕ) (k : Spot) → length es ≤ i → covers es i k ≡ is_some (lookup (λ n. same_spot k (spot_of n)) es)
  covers_all es i k l = ap (λ xs. is_some (lookup (λ n. same_spot k (spot_of n)) xs)) (all_taken es i l)

module _ {V S : Type 0} where
  -- all of a table over what was there
  pub covered_all : (m : IndexMap Named V S) (f : Spot → Option V) (i : ℕ) (h : Spot → Option V) → length m.entries ≤ i
      → Covered (entry_in m) f m.entries i h → h ≡ over m f
  covered_all m f i h l c = fun_ext (λ k. c k ∙ ap (λ b. if b then entry_in m k else f k) (covers_all m.entries i k l) ∙ by k (entry_in m k))
    where
      by : (k : Spot) → (o : Option V) → (if is_some o then o else f k) ≡ or_below o (f k)
      by k None = refl
      by k (Some v) = refl
