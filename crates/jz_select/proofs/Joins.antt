-- Sums are joined in any grouping.
use Rattle.std.proofs.Common.{◌≡◌, ℕ, Bool, true, false, ◌&&◌, refl, ap, ◌∙◌, arith}
use Rattle.std.proofs.lemmas.Bool.Decides.{nat_tests}
use Rattle.jz_select.specs.declared.class.Sum.{Sum}
use Rattle.jz_select.specs.Sums.{joined_sum, capped_count, sum_of}

pub capped-assoc : (a b c : ℕ) → capped_count (capped_count a b) c ≡ capped_count a (capped_count b c)
capped-assoc a b c = grind (arith, nat_tests)

and-assoc : (a b c : Bool) → ((a && b) && c) ≡ (a && (b && c))
and-assoc true b c = refl
and-assoc false b c = refl

sums : (p p' s s' : ℕ) (g g' : Bool) → p ≡ p' → s ≡ s' → g ≡ g' → sum_of p s g ≡ sum_of p' s' g'
sums p p' s s' g g' e f h = ap (λ x. sum_of x s g) e ∙ (ap (λ x. sum_of p' x g) f ∙ ap (sum_of p' s') h)

pub joined-assoc : (a b c : Sum) → joined_sum (joined_sum a b) c ≡ joined_sum a (joined_sum b c)
joined-assoc a b c = sums _ _ _ _ _ _ (capped-assoc a.plain b.plain c.plain) (capped-assoc a.scaled b.scaled c.scaled) (and-assoc a.good b.good c.good)

capped-none : (a b : ℕ) → capped_count a (capped_count 0 b) ≡ capped_count a b
capped-none a b = grind (arith, nat_tests)

pub joined-none : (a b : Sum) → joined_sum a (joined_sum (sum_of 0 0 true) b) ≡ joined_sum a b
joined-none a b = sums _ _ _ _ _ _ (capped-none a.plain b.plain) (capped-none a.scaled b.scaled) refl

pub ruleset joins = (joined-assoc, joined-none)
