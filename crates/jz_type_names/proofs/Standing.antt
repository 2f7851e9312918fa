-- Which of two places stands before the other.
use Rattle.std.proofs.Common.{◌≡◌, ℕ, ◌⊎◌, inl, inr, true, false, sym, ap, ◌∙◌, subst, arith}
use Rattle.std.proofs.lemmas.Bool.Decides.{nat_tests}
use Rattle.jz_tree.specs.Span.{Span}
use Rattle.jz_type_names.specs.Order.{is_before, Before}

-- at or behind
abbrev pub AtLeast : Span → Span → Type 0
AtLeast a b = Before a b ⊎ (a ≡ b)

pub before_is : (a b : Span) → is_before a b ≡ true → Before a b
before_is a b h = grind (arith, nat_tests)

pub before_before : (a b c : Span) → Before a b → Before b c → Before a c
before_before a b c p q = grind arith

pub clash : (a b : Span) → Before a b → Before b a → ⊥
clash a b p q = grind arith

abbrev spot : ℕ → ℕ → Span
spot l c = record { line = l; col = c }

same_span : (a b : Span) → a.line ≡ b.line → a.col ≡ b.col → a ≡ b
same_span a b l c = ap (λ k. spot k a.col) l ∙ ap (spot b.line) c

not_before : (a b : Span) → is_before b a ≡ false → Before a b ⊎ ((a.line ≡ b.line) × (a.col ≡ b.col))
not_before a b h = grind (arith, nat_tests)

pub at_least : (a b : Span) → is_before b a ≡ false → AtLeast a b
at_least a b h = elim (not_before a b h) [ inl p ↦ inl p | inr e ↦ inr (same_span a b e.0 e.1) ]

pub least_least : (a b c : Span) → AtLeast a b → AtLeast b c → AtLeast a c
least_least a b c (inl p) (inl q) = inl (before_before a b c p q)
least_least a b c (inl p) (inr e) = inl (subst (Before a) e p)
least_least a b c (inr e) q = subst (λ x. AtLeast x c) (sym e) q

pub only_place : (a b : Span) → AtLeast a b → AtLeast b a → a ≡ b
only_place a b (inl p) (inl q) = absurd (clash a b p q)
only_place a b (inl p) (inr e) = sym e
only_place a b (inr e) q = e
