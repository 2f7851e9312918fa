-- A walk over statements, one part after another.
use Rattle.std.proofs.Common.{◌≡◌, ℕ, ◌+◌, ◌<◌, ◌≤◌, List, [], ◌∷◌, ◌++◌, length, Result, Ok, Err, refl, sym, ap, ◌∙◌, subst, arith, length-append}
use Rattle.std.specs.Prelude.{suc, ◌⊎◌, Bool, true, false, if◌then◌else◌, nat_lt, All, Contains}
use Rattle.std.proofs.Common.{inl, inr}
use Rattle.std.proofs.lemmas.Bool.Decides.{nat_tests}
use Rattle.std.proofs.lemmas.List.Elements.{All-nil, All-cons}
use Rattle.jz_tree.specs.declared.program.Program.{Program}
use Rattle.jz_tree.specs.declared.program.Fun.{Fun}
use Rattle.jz_copies.specs.declared.extent.Extent.{Extent}
use Rattle.jz_copies.specs.declared.extent.CopyLimit.{CopyLimit}
use Rattle.jz_copies.specs.declared.extent.CopyLimit.TheVariants.{Expand}
use Rattle.jz_copies.specs.Counts.{most_statements, depths_of, IsDeepest, IsExtent, Passes}
use Rattle.jz_copies.specs.InnerCounts.{greatest, IsFurther, IsWalked}

greatest_both : (xs ys : List ℕ) (m : ℕ) → greatest m (xs ++ ys) ≡ greatest (greatest m xs) ys
greatest_both [] ys m = refl
greatest_both (d ∷ xs) ys m = greatest_both xs ys (if nat_lt m d then d else m)

-- one part, and then another
pub walked_on : (xs ys : List ℕ) (a b : Extent) (r : Result Extent CopyLimit) → IsFurther a xs b → IsWalked b ys r → IsWalked a (xs ++ ys) r
walked_on xs ys a b (Ok e) h k =
    record {
      count = omega (arith, h.count, k.count, length-append xs ys);
      few = k.few;
      deepest = k.deepest ∙ ap (λ m. greatest m ys) h.deepest ∙ sym (greatest_both xs ys a.deepest);
    }
walked_on xs ys a b (Err l) h k = omega (arith, h.count, k, length-append xs ys)

-- the first part has too many
pub walk_stops : (xs ys : List ℕ) (a : Extent) (l : CopyLimit) → IsWalked a xs (Err l) → IsWalked a (xs ++ ys) (Err l)
walk_stops xs ys a l h = omega (arith, h, length-append xs ys)

-- no part is left
pub walked_none : (a : Extent) → a.count ≤ most_statements → IsFurther a [] a
walked_none a few = record { count = omega arith; few = few; deepest = refl }

-- how far a loop over parts has come: those behind it make of it what all make of the first
pub record IsLeft (first : Extent) (all : List ℕ) (now : Extent) (rest : List ℕ) : Type 0 where
  pub few : now.count ≤ most_statements
  pub more : first.count ≤ now.count
  pub count : now.count + length rest ≡ first.count + length all
  pub deepest : greatest now.deepest rest ≡ greatest first.deepest all

pub all_left : (a : Extent) (all : List ℕ) → a.count ≤ most_statements → IsLeft a all a all
all_left a all few = record { few = few; more = omega arith; count = refl; deepest = refl }

pub next_left : (a : Extent) (all : List ℕ) (now next : Extent) (xs ys zs : List ℕ) → zs ≡ xs ++ ys → IsLeft a all now zs → IsFurther now xs next → IsLeft a all next ys
next_left a all now next xs ys zs e h k =
    record {
      few = k.few;
      more = omega (arith, h.more, k.count);
      count = omega (arith, k.count, h.count, ap length e, length-append xs ys);
      deepest = ap (λ m. greatest m ys) k.deepest ∙ sym (greatest_both xs ys now.deepest) ∙ ap (greatest now.deepest) (sym e) ∙ h.deepest;
    }

pub left_stops : (a : Extent) (all : List ℕ) (now : Extent) (l : CopyLimit) (xs ys zs : List ℕ) → zs ≡ xs ++ ys → IsLeft a all now zs → IsWalked now xs (Err l) → IsWalked a all (Err l)
left_stops a all now l xs ys zs e h k = omega (arith, h.count, k, ap length e, length-append xs ys)

pub none_left : (a : Extent) (all : List ℕ) (now : Extent) → IsLeft a all now [] → IsFurther a all now
none_left a all now h = record { count = omega (arith, h.count); few = h.few; deepest = h.deepest }

-- ---- the greatest

at_least : (ds : List ℕ) (m : ℕ) → m ≤ greatest m ds
at_least [] m = omega arith
at_least (d ∷ ds) m = by_test (nat_lt m d) refl (λ k. at_least ds k)
  where
    by_test : (b : Bool) → nat_lt m d ≡ b → ((k : ℕ) → k ≤ greatest k ds) → m ≤ greatest (if b then d else m) ds
    by_test true q h = let lt : m < d = grind (arith, nat_tests, q) in omega (arith, lt, h d)
    by_test false q h = h m

first_below : (ds : List ℕ) (m d : ℕ) (b : Bool) → nat_lt m d ≡ b → d ≤ greatest (if b then d else m) ds
first_below ds m d true q = at_least ds d
first_below ds m d false q = let le : d ≤ m = grind (arith, nat_tests, q) in omega (arith, le, at_least ds m)

all_below : (ds : List ℕ) (m : ℕ) → All (λ d. d ≤ greatest m ds) ds
all_below [] m = All-nil (λ d. d ≤ m)
all_below (d ∷ ds) m =
    let n : ℕ = if nat_lt m d then d else m in
    All-cons (λ k. k ≤ greatest n ds) d ds (first_below ds m d (nat_lt m d) refl) (all_below ds n)

later_one : (d k : ℕ) (ds : List ℕ) → Contains ds k → Contains (d ∷ ds) k
later_one d k ds c = (suc c.0, (let lt = c.1 in omega (arith, lt)), c.2)

first_one : (d k : ℕ) (ds : List ℕ) → k ≡ d → Contains (d ∷ ds) k
first_one d k ds e = subst (Contains (d ∷ ds)) (sym e) (0, omega arith, refl)

one_of : (ds : List ℕ) (m : ℕ) → (greatest m ds ≡ m) ⊎ Contains ds (greatest m ds)
one_of [] m = inl refl
one_of (d ∷ ds) m = by_test (nat_lt m d) (one_of ds (if nat_lt m d then d else m))
  where
    by_test : (b : Bool) → (greatest (if b then d else m) ds ≡ (if b then d else m)) ⊎ Contains ds (greatest (if b then d else m) ds) → (greatest (if b then d else m) ds ≡ m) ⊎ Contains (d ∷ ds) (greatest (if b then d else m) ds)
    by_test true (inl e) = inr (first_one d (greatest d ds) ds e)
    by_test false (inl e) = inl e
    by_test true (inr c) = inr (later_one d (greatest d ds) ds c)
    by_test false (inr c) = inr (later_one d (greatest m ds) ds c)

reached : (ds : List ℕ) → (greatest 0 ds ≡ 0) ⊎ Contains ds (greatest 0 ds) → (ds ≡ []) ⊎ Contains ds (greatest 0 ds)
reached [] h = inl refl
reached (d ∷ ds) (inr c) = inr c
reached (d ∷ ds) (inl e) = let le : d ≤ greatest 0 (d ∷ ds) = first_below ds 0 d (nat_lt 0 d) refl in inr (first_one d (greatest 0 (d ∷ ds)) ds (omega (arith, e, le)))

pub deepest_of : (ds : List ℕ) (m : ℕ) → m ≡ greatest 0 ds → IsDeepest ds m
deepest_of ds m e = subst (IsDeepest ds) (sym e) (record { bound = all_below ds 0; reached = reached ds (one_of ds 0) })

-- ---- the whole walk

-- nothing so far
abbrev Begin : Extent → Type 0
Begin a = (a.count ≡ 0) × (a.deepest ≡ 0)

pub extent_of : (p : Program) (f : Fun) (a e : Extent) → Begin a → IsFurther a (depths_of p f) e → IsExtent p f e
extent_of p f a e b h =
    record {
      count = omega (arith, h.count, b.0);
      deepest = deepest_of (depths_of p f) e.deepest (h.deepest ∙ ap (λ m. greatest m (depths_of p f)) b.1);
      within = omega (arith, h.count, h.few, b.0);
    }

pub passed_of : (p : Program) (f : Fun) (a : Extent) (l : CopyLimit) → Begin a → IsWalked a (depths_of p f) (Err l) → Passes p f l
passed_of p f a Expand b h = omega (arith, h, b.0)
