-- The arms that a test takes.
use Rattle.std.proofs.Common.{◌≡◌, ℕ, Bool, true, false, Option, Some, None, sym, ap, ◌∙◌, subst, inl, inr, if◌then◌else◌}
use Rattle.jz_tree.specs.declared.expr.Expr.{Expr}
use Rattle.jz_integers.specs.Integers.{KnownNumbers, inline_value}
use Rattle.jz_type_names.specs.Kinds.{is_inline}
use Rattle.jz_type_names.specs.Parts.{span_of}
use Rattle.jz_limits.specs.declared.limit.Limit.{Limit}
use Rattle.jz_limits.specs.Asked.{asked_condition}
use Rattle.jz_limits.specs.Values.{truth_of}
use Rattle.jz_limits.specs.Walks.{Walk, limits, behind, followed, silent, constant_steps, taken, arms}
use Rattle.jz_first_limit.specs.declared.met.Met.{Met}
use Rattle.jz_first_limit.specs.declared.met.Met.TheVariants.{Within, Passed}
use Rattle.jz_first_limit.specs.declared.testing.Arms.TheVariants as arm
use Rattle.jz_first_limit.specs.InnerMet.{Meets, IsTest}
use Rattle.jz_first_limit.proofs.Steps.{walk_then, walk_stop, ends, limits_none, limits_stop}

module _ (c : Expr) (a b : KnownNumbers → Walk) (e : KnownNumbers) where
  abbrev constant_arms : Option Bool → Walk
  constant_arms t = behind (constant_steps (span_of c) t) (taken t (a e) (b e) (silent e))

  abbrev staying_arms : Walk
  staying_arms = behind (limits (asked_condition e c)) (followed (a e) b)

  arms_true : (t : Option Bool) → is_inline c ≡ true → truth_of (inline_value e c) ≡ t → arms c a b e ≡ constant_arms t
  arms_true t h g = ap (λ i. if i then constant_arms (truth_of (inline_value e c)) else staying_arms) h ∙ ap constant_arms g

  arms_false : is_inline c ≡ false → arms c a b e ≡ staying_arms
  arms_false h = ap (λ i. if i then constant_arms (truth_of (inline_value e c)) else staying_arms) h

  pub first_met : (n : ℕ) (r : Met) (k : KnownNumbers) → IsTest e c arm.First → Meets n (a e) r k → Meets n (arms c a b e) r k
  first_met n r k h g = subst (λ w. Meets n w r k) (sym (arms_true (Some true) h.0 h.1)) g

  pub second_met : (n : ℕ) (r : Met) (k : KnownNumbers) → IsTest e c arm.Second → Meets n (b e) r k → Meets n (arms c a b e) r k
  second_met n r k h g = subst (λ w. Meets n w r k) (sym (arms_true (Some false) h.0 h.1)) g

  pub both_met : (n m : ℕ) (r : Met) (j k : KnownNumbers) → IsTest e c arm.Both → Meets n (a e) (Within m) j → Meets m (b j) r k → Meets n (arms c a b e) r k
  both_met n m r j k h g f =
      subst (λ w. Meets n w r k) (sym (arms_false h.0))
      (limits_none n (asked_condition e c) (followed (a e) b) r k (sym h.1) (walk_then n m (a e) b r j k g f))

  pub both_stop : (n : ℕ) (l : Limit) (j k : KnownNumbers) → IsTest e c arm.Both → Meets n (a e) (Passed l) j → Meets n (arms c a b e) (Passed l) k
  both_stop n l j k h g =
      subst (λ w. Meets n w (Passed l) k) (sym (arms_false h.0))
      (limits_none n (asked_condition e c) (followed (a e) b) (Passed l) k (sym h.1) (walk_stop n (a e) b l j k g))

  pub neither_met : (n : ℕ) (l : Limit) (k : KnownNumbers) → IsTest e c (arm.Neither l) → Meets n (arms c a b e) (Passed l) k
  neither_met n l k (inl h) =
      subst (λ w. Meets n w (Passed l) k) (sym (arms_false h.0)) (limits_stop n (asked_condition e c) (followed (a e) b) l k (sym h.1))
  neither_met n l k (inr h) =
      subst (λ w. Meets n w (Passed l) k) (sym (arms_true None h.0 h.1)) (ap (λ (m : Limit). Some m) (sym h.2), tt)

-- nothing is behind the body of a `while`
pub body_met : (c : Expr) (b : KnownNumbers → Walk) (e : KnownNumbers) (n : ℕ) (r : Met) (k : KnownNumbers) → IsTest e c arm.Both → Meets n (b e) r k → Meets n (arms c b silent e) r k
body_met c b e n r k h g =
    subst (λ w. Meets n w r k) (sym (arms_false c b silent e h.0))
    (limits_none n (asked_condition e c) (followed (b e) silent) r k (sym h.1) (ends n (b e) r k g))
