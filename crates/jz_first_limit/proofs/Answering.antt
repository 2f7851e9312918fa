-- One answer, and no other.
use Rattle.std.proofs.Common.{◌≡◌, ℕ, ◌+◌, ◌≤◌, ◌<◌, Option, Some, None, refl, sym, ap, ◌∙◌, inl, inr, arith}
use Rattle.std.specs.Prelude.{nat_le, Bool, true, false}
use Rattle.std.proofs.lemmas.Bool.Decides.{nat_tests}
use Rattle.jz_tree.specs.declared.program.Fun.{Fun}
use Rattle.jz_tree.specs.declared.program.Program.{Program}
use Rattle.jz_copies.specs.Counts.{copied_count}
use Rattle.jz_limits.specs.declared.limit.Limit.{Limit}
use Rattle.jz_limits.specs.Limits.{most_statements, count_of, IsWithin}
use Rattle.jz_limits.specs.declared.limit.Limit.TheVariants.{Expand}
use Rattle.jz_limits.specs.InnerFirst.{first_from}
use Rattle.jz_limits.specs.Walks.{steps_of}
use Rattle.jz_limits.proofs.First.{found_first, found_none, one_first, none_within}
use Rattle.jz_first_limit.specs.declared.met.Met.{Met}
use Rattle.jz_first_limit.specs.declared.met.Met.TheVariants.{Within, Passed}
use Rattle.jz_first_limit.specs.InnerMet.{MeetsSteps}
use Rattle.jz_first_limit.specs.FirstLimits.{PassesFirst, IsFirst, IsMet, OneAnswer, SomeAnswer}

-- by what is found in expanded order
pub found_is : (p : Program) (f : Fun) (found : Option Limit) → copied_count p f ≤ most_statements → found ≡ first_from 0 (steps_of p f) → IsFirst p f found
found_is p f None few e = (few, found_none (steps_of p f) (sym e))
found_is p f (Some l) few e = inr (few, found_first (steps_of p f) l (sym e))

none_before : (n m : ℕ) → n ≡ 0 + m → n ≡ m
none_before n m e = omega (arith, e)

-- by what is met in expanded order
pub met_is : (p : Program) (f : Fun) (met : Met) → copied_count p f ≤ most_statements → MeetsSteps 0 (steps_of p f) met → IsMet p f met
met_is p f (Within n) few h = ((few, found_none (steps_of p f) h.none), none_before n (count_of (steps_of p f)) h.count)
met_is p f (Passed l) few h = inr (few, found_first (steps_of p f) l h)

clash : {A : Type 0} (n : ℕ) → n ≤ most_statements → most_statements < n → A
clash n le lt = absurd (omega (arith, le, lt))

same_passed : (p : Program) (f : Fun) (a b : Limit) → PassesFirst p f a → PassesFirst p f b → a ≡ b
same_passed p f a b (inl x) (inl y) = x.1 ∙ sym y.1
same_passed p f a b (inl x) (inr y) = clash (copied_count p f) y.0 x.0
same_passed p f a b (inr x) (inl y) = clash (copied_count p f) x.0 y.0
same_passed p f a b (inr x) (inr y) = one_first (steps_of p f) a b x.1 y.1

not_both : {A : Type 0} (p : Program) (f : Fun) (b : Limit) → copied_count p f ≤ most_statements → IsWithin (steps_of p f) → PassesFirst p f b → A
not_both p f b few h (inl y) = clash (copied_count p f) few y.0
not_both p f b few h (inr y) = absurd (none_within (steps_of p f) b h y.1)

pub one_answer : OneAnswer
one_answer p f None None x y = refl
one_answer p f None (Some b) x y = not_both p f b x.0 x.1 y
one_answer p f (Some a) None x y = not_both p f a y.0 y.1 x
one_answer p f (Some a) (Some b) x y = ap (λ l. Some l) (same_passed p f a b x y)

by_count : (t : Bool) (p : Program) (f : Fun) → nat_le (copied_count p f) most_statements ≡ t → (a : Option Limit) × IsFirst p f a
by_count true p f e =
    let few : copied_count p f ≤ most_statements = grind (arith, nat_tests, e) in
    (first_from 0 (steps_of p f), found_is p f (first_from 0 (steps_of p f)) few refl)
by_count false p f e =
    let many : most_statements < copied_count p f = grind (arith, nat_tests, e) in
    (Some Expand, inl (many, refl))

pub some_answer : SomeAnswer
some_answer p f = by_count (nat_le (copied_count p f) most_statements) p f refl
