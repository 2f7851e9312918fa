-- Labels of scalars by layers of tables, and the floor below which none stands.
use Rattle.std.proofs.Common.{◌≡◌, ◌<◌, ◌≤◌, ℕ, Bool, true, false, Option, Some, None, if◌then◌else◌, refl, sym, ap, ◌∙◌, arith}
use Rattle.std.specs.Prelude.{nat_lt}
use Rattle.std.proofs.Math.Path.{fun_ext}
use Rattle.std.proofs.lemmas.Bool.Decides.{nat_tests}
use Rattle.jz_meaning.specs.States.{Key, same_key}
use Rattle.jz_labels.proofs.Keys.{keys_same}
use Rattle.jz_layers.specs.Spots.{Spot, same_spot, put_in}
use Rattle.jz_layers.proofs.SpotLemmas.{same_spot-true, same_spot-refl}
use Rattle.jz_drawing.specs.Drawings.{View, next, put_node, IsBounded}
use Rattle.jz_drawing.proofs.Renewing.{key_itself}
use Rattle.jz_drawn_labels.specs.Kept.{standing, whole, nodes_by}

same_bool : (x y : Bool) → (x ≡ true → y ≡ true) → (y ≡ true → x ≡ true) → x ≡ y
same_bool true y p q = sym (p refl)
same_bool false true p q = q refl
same_bool false false p q = refl

-- a spot of a scalar, and its key
pub spot_key : (s : Spot) (k : Key) → s.index ≡ None → same_spot s (whole k) ≡ same_key k s.of
spot_key s k e = same_bool (same_spot s (whole k)) (same_key k s.of) to back
  where
    to : same_spot s (whole k) ≡ true → same_key k s.of ≡ true
    to h = let i : s ≡ whole k = same_spot-true s (whole k) h in ap (λ (x : Spot). same_key k x.of) i ∙ key_itself k

    back : same_key k s.of ≡ true → same_spot s (whole k) ≡ true
    back h =
        let i : k ≡ s.of = keys_same k s.of h in
        let j : whole k ≡ s = λ z. record { of = i z; index = sym e z } in
        ap (same_spot s) j ∙ same_spot-refl s

pub stands : (floor n : ℕ) → floor ≤ n → standing floor (Some n) ≡ n
stands floor n l = by (nat_lt n floor) refl
  where
    by : (c : Bool) → nat_lt n floor ≡ c → (if c then 0 else n) ≡ n
    by true e = absurd (grind (arith, nat_tests, e, l))
    by false e = refl

pub falls : (floor n : ℕ) → n < floor → standing floor (Some n) ≡ 0
falls floor n l = by (nat_lt n floor) refl
  where
    by : (c : Bool) → nat_lt n floor ≡ c → (if c then 0 else n) ≡ 0
    by true e = refl
    by false e = absurd (grind (arith, nat_tests, e, l))

pub node_put : (floor : ℕ) (f : Spot → Option ℕ) (s : Spot) (n : ℕ) → s.index ≡ None → floor ≤ n → nodes_by floor (put_in f s n) ≡ put_node s.of n (nodes_by floor f)
node_put floor f s n e l = fun_ext (λ k. by k (same_key k s.of) (spot_key s k e))
  where
    by : (k : Key) (c : Bool) → same_spot s (whole k) ≡ c → standing floor (put_in f s n (whole k)) ≡ (if c then n else nodes_by floor f k)
    by k true h = ap (λ (b : Bool). standing floor (if b then Some n else f (whole k))) h ∙ stands floor n l
    by k false h = ap (λ (b : Bool). standing floor (if b then Some n else f (whole k))) h

-- of what is bounded nothing stands above the next label
pub all_fall : (floor high : ℕ) (f : Spot → Option ℕ) (v : View) → v.nodes ≡ nodes_by floor f → IsBounded v → floor ≤ next v → next v ≤ high → (k : Key) → nodes_by high f k ≡ 0
all_fall floor high f v e b l m k = by (f (whole k)) refl
  where
    below : (n : ℕ) (c : Bool) → nat_lt n floor ≡ c → f (whole k) ≡ Some n → n < high
    below n true h i = let x : n < floor = grind (arith, nat_tests, h) in omega (arith, x, l, m)
    below n false h i =
        let x : floor ≤ n = grind (arith, nat_tests, h) in
        let y : v.nodes k ≡ n = ap (λ (g : Key → ℕ). g k) e ∙ ap (standing floor) i ∙ stands floor n x in
        let z = b.nodes k in
        omega (arith, y, z, m)

    by : (o : Option ℕ) → f (whole k) ≡ o → standing high o ≡ 0
    by None i = refl
    by (Some n) i = falls high n (below n (nat_lt n floor) refl i)
