-- The law of each rule on one statement.
use Rattle.std.specs.Prelude.{◌≡◌, ℕ, ◌+◌, ◌-◌, ◌/◌, Bool, List, [], ◌∷◌, ⊤}
use Rattle.std.proofs.Common.{refl, subst, arith, inl}
use Rattle.std.proofs.lemmas.List.Elements.{All-nil, All-cons}
use Rattle.jz_runs.specs.Rules.{stuck, went}
use Rattle.jz_change.specs.declared.change.Number.TheVariants.{Fixed}
use Rattle.jz_change.specs.declared.change.Numbers.{Numbers}
use Rattle.jz_change.specs.declared.change.Numbers.TheVariants.{These}
use Rattle.jz_change.specs.Changes.{numbers_in}
use Rattle.jz_change.specs.Fitting.{HasNumber, HasThese}
use Rattle.jz_pass.specs.Operations.{DoAll, do_none, do_one}
use Rattle.jz_pass.specs.Unrolling.{IsKnown}
use Rattle.jz_pass.specs.Rewriting.{knowing_of}
use Rattle.jz_pass.specs.Cases.{AsMany, none_each, one_each, HasItems}
use Rattle.jz_pass_tests.specs.declared.small.Unknown.{Unknown}
use Rattle.jz_pass_tests.specs.Meaning.{small}
use Rattle.jz_pass_tests.specs.Rules.{StaysTest, stays, InHalves, in_halves, halving, WithoutNothing, nothing, something, dropping}

fixed_there : (ns : List ℕ) (n : ℕ) → HasThese ns (These (Fixed n ∷ []))
fixed_there ns n = All-cons (HasNumber ns) (Fixed n) [] tt (All-nil (HasNumber ns))

-- what an addition makes of the number
sum_so : (k s : ℕ) {s1 : ℕ} {ns : List ℕ} → small.does k s ≡ went ns s1 → s1 ≡ s + k
sum_so k s q = cc

never_stuck : (k s : ℕ) {w : Unknown} {A : Type 0} → small.does k s ≡ stuck w → A
never_stuck k s q = absurd cc

-- operations that come from one, of equal numbers to equal numbers
abbrev Went : List ℕ → List ℕ → List Numbers → ℕ → ℕ → Type 0
Went ns os is s1 t = (t1 : ℕ) × DoAll small ns os is t t1 × (s1 ≡ t1)

halves_went :
    {k s s1 t : ℕ} {os ns : List ℕ} {is : List Numbers}
    → InHalves k os is → s ≡ t → small.does k s ≡ went ns s1 → Went ns os is s1 t
halves_went {k} {s} {s1} {t} {ns} in_halves e q =
    let r : s1 ≡ s + k = sum_so k s q in (
      t + k / 2 + (k - k / 2),
      do_one (fixed_there ns (k / 2)) refl (do_one (fixed_there ns (k - k / 2)) refl do_none),
      omega arith,
    )

nothing_went :
    {k s s1 t : ℕ} {os ns : List ℕ} {is : List Numbers}
    → WithoutNothing k os is → s ≡ t → small.does k s ≡ went ns s1 → Went ns os is s1 t
nothing_went {s} {s1} {t} nothing e q =
    let r : s1 ≡ s + 0 = sum_so 0 s q in
    (t, do_none, omega arith)
nothing_went {k} {s1} {ns} (something f) e q =
    (s1, do_one tt (subst (λ x. small.does k x ≡ went ns s1) e q) do_none, refl)

abbrev Tested : List ℕ → List ℕ → List Numbers → ℕ → Numbers → Bool → ℕ → ℕ → Type 0
Tested ns os is p2 i z s t =
    (t1 : ℕ) × DoAll small ns os is t t1 × HasThese ns i
    × (small.tests p2 t1 ≡ went (numbers_in i ns) z) × (s ≡ t1)

stays_went :
    {p s t : ℕ} {os ns : List ℕ} {is : List Numbers} {p2 : ℕ} {i : Numbers} {z : Bool}
    → StaysTest p os is p2 i → s ≡ t → small.tests p s ≡ went ns z
    → Tested ns os is p2 i z s t
stays_went {p} {t} {ns} {z} stays e q =
    (t, do_none, tt, subst (λ x. small.tests p x ≡ went ns z) e q, e)

test_never_stuck : (p s : ℕ) {w : Unknown} {A : Type 0} → small.tests p s ≡ stuck w → A
test_never_stuck p s q = absurd cc

pub halving_known : IsKnown small small (knowing_of halving)
halving_known = record {
  Relates = λ e s t. s ≡ t;
  Fails = λ w w2. w ≡ w2;
  Exact = ⊤;
  settles = λ w w2. inl tt;
  less_so = λ e0 e s t l r. r;
  op_went = λ o e e1 os is s s1 t ns h r q. halves_went h r q;
  op_stuck = λ o e e1 os is s t w x h r q. never_stuck o s q;
  quiet_so = λ o e e1 o2 s t h r. absurd h;
  test_went = λ p e os is p2 i s t ns z h r q. stays_went h r q;
  test_stuck = λ p e os is p2 i s t w x h r q. test_never_stuck p s q;
  loop_test_went = λ p e os is p2 i s t ns z h r q. stays_went h r q;
  loop_test_stuck = λ p e os is p2 i s t w x h r q. test_never_stuck p s q;
  constant_so = λ p e z s t h r. absurd h;
  values_so = λ f e is s t h r. absurd h;
  set_so = λ f i e0 e is s t h r. absurd h;
  restore_so = λ f e e1 is s s1 t t1 h r r1. absurd h;
}

pub dropping_known : IsKnown small small (knowing_of dropping)
dropping_known = record {
  Relates = λ e s t. s ≡ t;
  Fails = λ w w2. w ≡ w2;
  Exact = ⊤;
  settles = λ w w2. inl tt;
  less_so = λ e0 e s t l r. r;
  op_went = λ o e e1 os is s s1 t ns h r q. nothing_went h r q;
  op_stuck = λ o e e1 os is s t w x h r q. never_stuck o s q;
  quiet_so = λ o e e1 o2 s t h r. absurd h;
  test_went = λ p e os is p2 i s t ns z h r q. stays_went h r q;
  test_stuck = λ p e os is p2 i s t w x h r q. test_never_stuck p s q;
  loop_test_went = λ p e os is p2 i s t ns z h r q. stays_went h r q;
  loop_test_stuck = λ p e os is p2 i s t w x h r q. test_never_stuck p s q;
  constant_so = λ p e z s t h r. absurd h;
  values_so = λ f e is s t h r. absurd h;
  set_so = λ f i e0 e is s t h r. absurd h;
  restore_so = λ f e e1 is s s1 t t1 h r r1. absurd h;
}

-- ---- an item for each operation

halves_even : {k : ℕ} {os : List ℕ} {is : List Numbers} → InHalves k os is → AsMany os is
halves_even in_halves = one_each (one_each none_each)

nothing_even :
    {k : ℕ} {os : List ℕ} {is : List Numbers} → WithoutNothing k os is → AsMany os is
nothing_even nothing = none_each
nothing_even (something f) = one_each none_each

tests_even :
    {p p2 : ℕ} {os : List ℕ} {is : List Numbers} {i : Numbers}
    → StaysTest p os is p2 i → AsMany os is
tests_even stays = none_each

pub halving_items : HasItems (knowing_of {F = ⊥} halving)
halving_items = record {
  ops = λ o e e1 os is h. halves_even h;
  tests = λ p e os is p2 i h. tests_even h;
  loop_tests = λ p e os is p2 i h. tests_even h;
}

pub dropping_items : HasItems (knowing_of {F = ⊥} dropping)
dropping_items = record {
  ops = λ o e e1 os is h. nothing_even h;
  tests = λ p e os is p2 i h. tests_even h;
  loop_tests = λ p e os is p2 i h. tests_even h;
}
