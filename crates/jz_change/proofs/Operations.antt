-- Operations and their numbers by the numbers of an item between.
use Rattle.std.proofs.Common.{◌≡◌, ℕ, zero, suc, List, [], ◌∷◌, ◌++◌, map, refl, sym, ap, ◌∙◌, subst}
use Rattle.std.specs.Prelude.{◌<◌, slice_index, slice_index_or, All}
use Rattle.std.proofs.lemmas.List.{length-map}
use Rattle.std.proofs.lemmas.List.Elements.{All-append, All-map, All-nil, All-head, All-tail}
use Rattle.jz_leak.specs.RunLeaks.{Leak, ran}
use Rattle.jz_change.specs.declared.change.Number.{Number}
use Rattle.jz_change.specs.declared.change.Number.TheVariants.{Fixed, Nth}
use Rattle.jz_change.specs.declared.change.Numbers.{Numbers}
use Rattle.jz_change.specs.declared.change.Numbers.TheVariants.{Same, These}
use Rattle.jz_change.specs.Changes.{number_in, numbers_in, Change, operations, map_before}
use Rattle.jz_change.specs.Fitting.{HasNumber, HasThese, HasAll, LeakFits, fits_ran}
use Rattle.jz_change.specs.Composing.{number_by, numbers_by, all_by, FrontOps, first_ops}

-- ---- their values

pub number_at : (xs : List Number) (ns : List ℕ) (i : ℕ) → number_in ns (slice_index_or xs i (Fixed 0)) ≡ slice_index (map (number_in ns) xs) i
number_at [] ns i = refl
number_at (x ∷ xs) ns zero = refl
number_at (x ∷ xs) ns (suc i) = number_at xs ns i

number_so : (xs : List Number) (ns : List ℕ) (y : Number) → number_in ns (number_by xs y) ≡ number_in (map (number_in ns) xs) y
number_so xs ns (Fixed n) = refl
number_so xs ns (Nth i) = number_at xs ns i

list_so : (xs ys : List Number) (ns : List ℕ) → map (number_in ns) (map (number_by xs) ys) ≡ map (number_in (map (number_in ns) xs)) ys
list_so xs [] ns = refl
list_so xs (y ∷ ys) ns = let e = number_so xs ns y in let h = list_so xs ys ns in rw (e, h)

pub numbers_so : (i j : Numbers) (ns : List ℕ) → numbers_in (numbers_by i j) ns ≡ numbers_in j (numbers_in i ns)
numbers_so i Same ns = refl
numbers_so Same (These ys) ns = refl
numbers_so (These xs) (These ys) ns = list_so xs ys ns

all_so : (i : Numbers) (js : List Numbers) (ns : List ℕ) (k : Leak) → operations (all_by i js) ns k ≡ operations js (numbers_in i ns) k
all_so i [] ns k = refl
all_so i (j ∷ js) ns k = let e = numbers_so i j ns in let h = all_so i js ns k in rw (e, h)

append_so : (xs ys : List Numbers) (ns : List ℕ) (k : Leak) → operations (xs ++ ys) ns k ≡ operations xs ns (operations ys ns k)
append_so [] ys ns k = refl
append_so (x ∷ xs) ys ns k = ap (ran (numbers_in x ns)) (append_so xs ys ns k)

-- operations, and operations by an item
pub both_so : (xs ys : List Numbers) (i : Numbers) (ns : List ℕ) (k : Leak) → operations xs ns (operations ys (numbers_in i ns) k) ≡ operations (xs ++ all_by i ys) ns k
both_so xs ys i ns k = ap (operations xs ns) (sym (all_so i ys ns k)) ∙ sym (append_so xs (all_by i ys) ns k)

-- ---- they are there

number_there : (ns : List ℕ) (xs : List Number) (y : Number) → All (HasNumber ns) xs → HasNumber (map (number_in ns) xs) y → HasNumber ns (number_by xs y)
number_there ns xs (Fixed n) t h = tt
number_there ns xs (Nth i) t h = t i (Fixed 0) (subst (λ n. i < n) (length-map xs (number_in ns)) h)

pub these_there : (ns : List ℕ) (i j : Numbers) → HasThese ns i → HasThese (numbers_in i ns) j → HasThese ns (numbers_by i j)
these_there ns i Same t h = t
these_there ns Same (These ys) t h = h
these_there ns (These xs) (These ys) t h = All-map (HasNumber ns) (number_by xs) ys (λ k d lt. number_there ns xs _ t (h k d lt))

all_there : (ns : List ℕ) (i : Numbers) (js : List Numbers) → HasThese ns i → HasAll (numbers_in i ns) js → HasAll ns (all_by i js)
all_there ns i js t h = All-map (HasThese ns) (numbers_by i) js (λ k d lt. these_there ns i _ t (h k d lt))

pub both_there : (ns : List ℕ) (is : List Numbers) (i : Numbers) (js : List Numbers) → HasAll ns is → HasThese ns i → HasAll (numbers_in i ns) js → HasAll ns (is ++ all_by i js)
both_there ns is i js g t h = All-append (HasThese ns) is (all_by i js) g (all_there ns i js t h)

-- ---- the first steps of a change

-- what they make of operations before k, and what is left of them
pub record TakesOps (ns : List ℕ) (k : Leak) (m : Leak → Leak) (f : FrontOps) : Type 0 where
  pub fits : LeakFits k f.rest
  pub there : HasAll ns f.items
  pub maps : (z : Leak) → m z ≡ operations f.items ns (map_before k f.rest z)

pub ops_taken : {b : Change} (is : List Numbers) (ns : List ℕ) (k : Leak) → HasAll ns is → LeakFits (operations is ns k) b → TakesOps ns k (map_before (operations is ns k) b) (first_ops is b)
ops_taken [] ns k t h = record { fits = h; there = All-nil (HasThese ns); maps = λ z. refl }
ops_taken (i ∷ is) ns k t (fits_ran {is = js} {r} g h) =
    let q = ops_taken is ns k (All-tail (HasThese ns) i is t) h in
    record {
      fits = q.fits;
      there = All-append (HasThese ns) (all_by i js) (first_ops is r).items (all_there ns i js (All-head (HasThese ns) i is t) g) q.there;
      maps = λ z. ap (operations js (numbers_in i ns)) (q.maps z) ∙ sym (all_so i js ns _) ∙ sym (append_so (all_by i js) (first_ops is r).items ns _);
    }
