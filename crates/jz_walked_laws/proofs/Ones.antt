-- Where all that is met is within the limits, each part of it is.
use Rattle.std.proofs.Common.{◌≡◌, List, [], ◌∷◌, ◌++◌, Option, Some, None, Bool, true, false, refl, ap, ◌∙◌, subst, inl, inr, if◌then◌else◌}
use Rattle.std.specs.Prelude.{◌⊎◌, All, ⊤}
use Rattle.std.proofs.lemmas.List.Elements.{All-head, All-tail}
use Rattle.jz_tree.specs.declared.expr.Expr.{Expr}
use Rattle.jz_type_names.specs.Kinds.{is_inline}
use Rattle.jz_type_names.specs.Parts.{span_of}
use Rattle.jz_integers.specs.Integers.{KnownNumbers, inline_value}
use Rattle.jz_integers.specs.declared.constant.Constant.{Constant}
use Rattle.jz_integers.specs.declared.constant.Constant.TheVariants as constant
use Rattle.jz_limits.specs.declared.limit.Limit.{Limit}
use Rattle.jz_limits.specs.Limits.{Step, one, passing}
use Rattle.jz_limits.specs.Values.{truth_of}
use Rattle.jz_limits.specs.Asked.{asked_condition}
use Rattle.jz_limits.specs.Walks.{Walk, limits, behind, followed, silent, constant_steps, taken, arms}

-- none of them passes a limit
abbrev pub OnlyOnes : List Step → Type 0
OnlyOnes [] = ⊤
OnlyOnes (one ∷ steps) = OnlyOnes steps
OnlyOnes (passing l ∷ steps) = ⊥

one_step : (s : Step) (steps : List Step) → s ≡ one → OnlyOnes steps → OnlyOnes (s ∷ steps)
one_step one steps e h = h
one_step (passing l) steps e h = absurd cc

pub only_ones : (steps : List Step) → All (λ step. step ≡ one) steps → OnlyOnes steps
only_ones [] h = tt
only_ones (s ∷ steps) h = one_step s steps (All-head (λ step. step ≡ one) s steps h) (only_ones steps (All-tail (λ step. step ≡ one) s steps h))

pub ones_both : (a b : List Step) → OnlyOnes (a ++ b) → OnlyOnes a × OnlyOnes b
ones_both [] b h = (tt, h)
ones_both (one ∷ a) b h = ones_both a b h
ones_both (passing l ∷ a) b h = absurd h

pub no_limits : (ls : List Limit) → OnlyOnes (limits ls) → ls ≡ []
no_limits [] h = refl
no_limits (l ∷ ls) h = absurd h

pub nothing_both : {A : Type 0} (xs ys : List A) → xs ++ ys ≡ [] → (xs ≡ []) × (ys ≡ [])
nothing_both [] ys e = (refl, e)
nothing_both (x ∷ xs) ys e = absurd cc

-- ---- tests

some_truth : (c : Option Constant) (b : Bool) → truth_of c ≡ Some b → c ≡ Some (constant.Bool b)
some_truth None b e = absurd cc
some_truth (Some (constant.Int i)) b e = absurd cc
some_truth (Some (constant.Bool d)) b e = ap (λ x. Some (constant.Bool x)) (same d b e)
  where
    same : (x y : Bool) → Some x ≡ Some y → x ≡ y
    same x y e = cc

module _ (c : Expr) (A B : KnownNumbers → Walk) (e : KnownNumbers) where
  -- a constant test takes one of them
  pub record Takes (z : Bool) : Type 0 where
    pub inline : is_inline c ≡ true
    pub value : inline_value e c ≡ Some (constant.Bool z)
    pub ones : OnlyOnes (if z then A e else B e).steps
    pub known : (arms c A B e).known ≡ (if z then A e else B e).known

  -- another one is asked, before both
  pub record Asks : Type 0 where
    pub plain : is_inline c ≡ false
    pub none : asked_condition e c ≡ []
    pub first : OnlyOnes (A e).steps
    pub second : OnlyOnes (B (A e).known).steps
    pub known : (arms c A B e).known ≡ (B (A e).known).known

  abbrev by_inline : Bool → Walk
  by_inline b =
      if b
      then behind (constant_steps (span_of c) (truth_of (inline_value e c))) (taken (truth_of (inline_value e c)) (A e) (B e) (silent e))
      else behind (limits (asked_condition e c)) (followed (A e) B)

  abbrev by_truth : Option Bool → Walk
  by_truth t = behind (constant_steps (span_of c) t) (taken t (A e) (B e) (silent e))

  pub arms_met : OnlyOnes (arms c A B e).steps → ((z : Bool) × Takes z) ⊎ Asks
  arms_met h = by_test (is_inline c) refl
    where
      constant_case : (i : is_inline c ≡ true) (t : Option Bool) → truth_of (inline_value e c) ≡ t → OnlyOnes (by_truth t).steps → (z : Bool) × Takes z
      constant_case i None q h = absurd h
      constant_case i (Some true) q h = (true, record { inline = i; value = some_truth (inline_value e c) true q; ones = h; known = ap (λ b. (by_inline b).known) i ∙ ap (λ t. (by_truth t).known) q })
      constant_case i (Some false) q h = (false, record { inline = i; value = some_truth (inline_value e c) false q; ones = h; known = ap (λ b. (by_inline b).known) i ∙ ap (λ t. (by_truth t).known) q })

      by_test : (b : Bool) → is_inline c ≡ b → ((z : Bool) × Takes z) ⊎ Asks
      by_test true i =
          inl (constant_case i (truth_of (inline_value e c)) refl (subst (λ b. OnlyOnes (by_inline b).steps) i h))
      by_test false i =
          let k : OnlyOnes (by_inline false).steps = subst (λ b. OnlyOnes (by_inline b).steps) i h in
          let p = ones_both (limits (asked_condition e c)) ((A e).steps ++ (B (A e).known).steps) k in
          let q = ones_both (A e).steps (B (A e).known).steps p.1 in
          inr (record { plain = i; none = no_limits (asked_condition e c) p.0; first = q.0; second = q.1; known = ap (λ b. (by_inline b).known) i })
