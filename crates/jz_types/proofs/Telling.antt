-- The fault that is told, of rules that are asked in the order of their numbers.
use Rattle.std.proofs.Common.{◌≡◌, ℕ, ◌<◌, ◌≤◌, ◌⊎◌, inl, inr, suc, Bool, true, false, Option, Some, None, refl, sym, ap, ◌∙◌, subst, arith}
use Rattle.std.specs.Prelude.{if◌then◌else◌, nat_eq, MatchOption}
use Rattle.std.proofs.lemmas.Bool.Decides.{nat_tests}
use Rattle.jz_tree.specs.Span.{Span}
use Rattle.jz_type_names.specs.Order.{Before, is_before, IsEarliest, nowhere, here}
use Rattle.jz_type_names.proofs.Standing.{before_is, before_before, clash, at_least}
use Rattle.jz_types.specs.declared.fault.TypeRule.{TypeRule}
use Rattle.jz_types.specs.declared.fault.TypeRule.TheVariants.{Unknown, Duplicate, Mismatch, Storage, Recursion, NoInstruction, ArrayCopy, BadAnnotation, ExportShape, RegIndex}
use Rattle.jz_types.specs.declared.fault.TypeFault.{TypeFault}
use Rattle.jz_types.specs.declared.fault.Firsts.{Firsts}
use Rattle.jz_types.specs.Faults.{rule_number, IsToldBefore, IsTold}
use Rattle.jz_types.specs.InnerFaults.{told_of, first_told}

-- at these places the rules fail first
pub record AreFirst (Fails : TypeRule → Span → Type 0) (p : Firsts) : Type 0 where
  pub unknown : IsEarliest (Fails Unknown) p.unknown
  pub repeated : IsEarliest (Fails Duplicate) p.repeated
  pub mismatched : IsEarliest (Fails Mismatch) p.mismatched
  pub misplaced : IsEarliest (Fails Storage) p.misplaced
  pub recursive : IsEarliest (Fails Recursion) p.recursive
  pub unmatched : IsEarliest (Fails NoInstruction) p.unmatched
  pub copied : IsEarliest (Fails ArrayCopy) p.copied
  pub annotated : IsEarliest (Fails BadAnnotation) p.annotated
  pub misshapen : IsEarliest (Fails ExportShape) p.misshapen
  pub indexed : IsEarliest (Fails RegIndex) p.indexed

-- ---- rules differ in their numbers
abbrev rule_of : ℕ → TypeRule
rule_of n =
    if nat_eq n 1 then Unknown
    else if nat_eq n 2 then Duplicate
    else if nat_eq n 3 then Mismatch
    else if nat_eq n 4 then Storage
    else if nat_eq n 5 then Recursion
    else if nat_eq n 6 then NoInstruction
    else if nat_eq n 7 then ArrayCopy
    else if nat_eq n 8 then BadAnnotation
    else if nat_eq n 9 then ExportShape
    else RegIndex

numbered : (r : TypeRule) → rule_of (rule_number r) ≡ r
numbered Unknown = refl
numbered Duplicate = refl
numbered Mismatch = refl
numbered Storage = refl
numbered Recursion = refl
numbered NoInstruction = refl
numbered ArrayCopy = refl
numbered BadAnnotation = refl
numbered ExportShape = refl
numbered RegIndex = refl

pub same_rule : (r s : TypeRule) → rule_number r ≡ rule_number s → r ≡ s
same_rule r s e = sym (numbered r) ∙ (ap rule_of e ∙ numbered s)

below_eleven : (r : TypeRule) → rule_number r < 11
below_eleven Unknown = omega arith
below_eleven Duplicate = omega arith
below_eleven Mismatch = omega arith
below_eleven Storage = omega arith
below_eleven Recursion = omega arith
below_eleven NoInstruction = omega arith
below_eleven ArrayCopy = omega arith
below_eleven BadAnnotation = omega arith
below_eleven ExportShape = omega arith
below_eleven RegIndex = omega arith

above_zero : (r : TypeRule) → rule_number r < 1 → ⊥
above_zero Unknown h = omega arith
above_zero Duplicate h = omega arith
above_zero Mismatch h = omega arith
above_zero Storage h = omega arith
above_zero Recursion h = omega arith
above_zero NoInstruction h = omega arith
above_zero ArrayCopy h = omega arith
above_zero BadAnnotation h = omega arith
above_zero ExportShape h = omega arith
above_zero RegIndex h = omega arith

-- ---- places
not_itself : (a b : Span) → Before a b → a ≡ b → ⊥
not_itself a b p e = clash a b p (subst (λ z. Before z a) e (subst (λ z. Before a z) (sym e) p))

same_fault : (f g : TypeFault) → f.rule ≡ g.rule → f.span ≡ g.span → f ≡ g
same_fault f g r s =
    let made : TypeRule → Span → TypeFault = λ r s. record { rule = r; span = s }
    in let e : made f.rule f.span ≡ made g.rule g.span = ap (λ z. made z f.span) r ∙ ap (made g.rule) s
    in e

lt_or_eq : (a k b : ℕ) → b ≡ k → a < suc k → (a < k) ⊎ (a ≡ b)
lt_or_eq a k b e h = grind (arith, nat_tests)

-- ---- rules one after another
module _ (Fails : TypeRule → Span → Type 0) where
  -- none of the rules below that number fails, or of their failures this one is told
  pub record IsLeast (k : ℕ) (f : TypeFault) : Type 0 where
    pub below : rule_number f.rule < k
    pub fails : Fails f.rule f.span
    pub first : (rule : TypeRule) (at : Span) → rule_number rule < k → Fails rule at → IsToldBefore f rule at

  abbrev pub Below : ℕ → Option TypeFault → Type 0
  Below k None = (rule : TypeRule) (at : Span) → rule_number rule < k → Fails rule at → ⊥
  Below k (Some f) = IsLeast k f

  pub below_none : Below 1 None
  below_none rule at h w = above_zero rule h

  -- a rule below the next number is below this one, or is the rule of this number
  parted : (k : ℕ) (rule other : TypeRule) → rule_number rule ≡ k → rule_number other < suc k → (rule_number other < k) ⊎ (other ≡ rule)
  parted k rule other e h =
      let either : (rule_number other < k) ⊎ (rule_number other ≡ rule_number rule) = lt_or_eq (rule_number other) k (rule_number rule) e h
      in elim either [ inl p ↦ inl p | inr p ↦ inr (same_rule other rule p) ]

  -- a rule that fails nowhere
  quiet : (k : ℕ) (rule : TypeRule) → rule_number rule ≡ k → ((at : Span) → Fails rule at → ⊥) → (best : Option TypeFault) → Below k best → Below (suc k) best
  quiet k rule e n None b = λ other at h w. elim (parted k rule other e h) [ inl p ↦ b other at p w | inr p ↦ n at (subst (λ r. Fails r at) p w) ]
  quiet k rule e n (Some f) b = record {
    below = omega (arith, b.below);
    fails = b.fails;
    first = λ other at h w. elim (parted k rule other e h) [ inl p ↦ b.first other at p w | inr p ↦ absurd (n at (subst (λ r. Fails r at) p w)) ];
  }

  pub told_more : (k : ℕ) (rule : TypeRule) → rule_number rule ≡ k → (r : Option Span) → IsEarliest (Fails rule) r → (best : Option TypeFault) → Below k best
      → Below (suc k) (told_of best rule r)
  told_more k rule e None (nowhere n) best b = quiet k rule e n best b
  told_more k rule e (Some at) (here w first) None b = record {
    below = omega (arith, e);
    fails = w;
    first = λ other there h v. elim (parted k rule other e h) [
      | inl p ↦ absurd (b other there p v)
      | inr p ↦ elim (first there (subst (λ r. Fails r there) p v)) [ inl q ↦ inl q | inr q ↦ inr (q, subst (λ r. rule_number rule ≤ rule_number r) (sym p) (omega arith)) ]
    ];
  }
  told_more k rule e (Some at) (here w first) (Some f) b =
      let new : TypeFault = record { rule = rule; span = at }
      in let go : (t : Bool) → is_before at f.span ≡ t → Below (suc k) (if t then Some new else Some f) =
      λ t. elim t as (λ t. is_before at f.span ≡ t → Below (suc k) (if t then Some new else Some f)) [
        | true ↦ λ i. record {
          below = omega (arith, e);
          fails = w;
          first = λ other there h v. elim (parted k rule other e h) [
            | inl p ↦ elim (b.first other there p v) [
              | inl q ↦ inl (before_before at f.span there (before_is at f.span i) q)
              | inr q ↦ inl (subst (Before at) q.0 (before_is at f.span i))
            ]
            | inr p ↦ elim (first there (subst (λ r. Fails r there) p v)) [
              | inl q ↦ inl q
              | inr q ↦ inr (q, subst (λ r. rule_number rule ≤ rule_number r) (sym p) (omega arith))
            ]
          ];
        }
        | false ↦ λ i. record {
          below = omega (arith, b.below);
          fails = b.fails;
          first = λ other there h v. elim (parted k rule other e h) [
            | inl p ↦ b.first other there p v
            | inr p ↦ elim (first there (subst (λ r. Fails r there) p v)) [
              | inl q ↦ elim (at_least f.span at i) [ inl z ↦ inl (before_before f.span at there z q) | inr z ↦ inl (subst (λ s. Before s there) (sym z) q) ]
              | inr q ↦ elim (at_least f.span at i) [
                | inl z ↦ inl (subst (Before f.span) q z)
                | inr z ↦ inr (z ∙ q, subst (λ r. rule_number f.rule ≤ rule_number r) (sym p) (omega (arith, b.below, e)))
              ]
            ]
          ];
        }
      ]
      in go (is_before at f.span) refl

  -- none of the ten fails, or of the failures this one is told
  pub told_all : (best : Option TypeFault) → Below 11 best → MatchOption best ((rule : TypeRule) (at : Span) → Fails rule at → ⊥) (IsTold Fails)
  told_all None b = λ rule at w. b rule at (below_eleven rule) w
  told_all (Some f) b = record { fails = b.fails; first = λ rule at w. b.first rule at (below_eleven rule) w }

  -- of what each rule finds first
  pub told_first : (p : Firsts) → AreFirst Fails p → MatchOption (first_told p) ((rule : TypeRule) (at : Span) → Fails rule at → ⊥) (IsTold Fails)
  told_first p f =
      told_all
      (first_told p)
      (told_more 10 RegIndex refl p.indexed f.indexed _
      (told_more 9 ExportShape refl p.misshapen f.misshapen _
      (told_more 8 BadAnnotation refl p.annotated f.annotated _
      (told_more 7 ArrayCopy refl p.copied f.copied _
      (told_more 6 NoInstruction refl p.unmatched f.unmatched _
      (told_more 5 Recursion refl p.recursive f.recursive _
      (told_more 4 Storage refl p.misplaced f.misplaced _
      (told_more 3 Mismatch refl p.mismatched f.mismatched _
      (told_more 2 Duplicate refl p.repeated f.repeated _ (told_more 1 Unknown refl p.unknown f.unknown None below_none))))))))))

  -- one fault is told at most
  pub one_told : (f g : TypeFault) → IsTold Fails f → IsTold Fails g → f ≡ g
  one_told f g p q =
      elim (p.first g.rule g.span q.fails) [
        | inl a ↦ elim (q.first f.rule f.span p.fails) [ inl b ↦ absurd (clash f.span g.span a b) | inr b ↦ absurd (not_itself f.span g.span a (sym b.0)) ]
        | inr a ↦ elim (q.first f.rule f.span p.fails) [
          | inl b ↦ absurd (not_itself g.span f.span b (sym a.0))
          | inr b ↦ let n : rule_number f.rule ≡ rule_number g.rule = omega (arith, a.1, b.1) in same_fault f g (same_rule f.rule g.rule n) a.0
        ]
      ]
