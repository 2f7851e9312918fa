-- Words in registers that are no more than the registers are passed.
use Rattle.std.proofs.Common.{◌≡◌, inl, inr, ℕ, zero, suc, ◌+◌, ◌<◌, ◌≤◌, List, [], ◌∷◌, ◌++◌, length, None, ap, ◌∙◌, subst, arith, length-append}
use Rattle.std.specs.Prelude.{All, slice_get}
use Rattle.std.proofs.lemmas.List.Elements.{All-head}
use Rattle.x64_insn.specs.declared.types.Reg.{Reg}
use Rattle.jz_tree.specs.Span.{Span}
use Rattle.jz_tree.specs.declared.expr.Var.{Var}
use Rattle.jz_texts.proofs.Lists.{parted}
use Rattle.jz_homes.specs.Homes.{Homes}
use Rattle.jz_lowering.specs.Passing.{CannotPass, IsFirstUnpassed}
use Rattle.jz_expanded_homes.proofs.Whole.{HasRegister}

none_there : {A : Type 0} (xs : List A) (n : ℕ) → n < length xs → slice_get xs n ≡ None → ⊥
none_there [] n lt e = absurd (omega (arith, lt))
none_there (x ∷ xs) zero lt e = absurd cc
none_there (x ∷ xs) (suc n) lt e = none_there xs n (omega (arith, lt)) e

within : (n m a k : ℕ) → n ≡ a + suc m → n ≤ k → a < k
within n m a k e h = omega (arith, e, h)

module _ (home : Homes) (rs : List Reg) (xs : List Var) (few : length xs ≤ length rs) (words : All (HasRegister home) xs) (at : Span) (h : IsFirstUnpassed home rs xs at) where
  here : HasRegister home h.var
  here = All-head (HasRegister home) h.var h.back (parted (HasRegister home) h.front (h.var ∷ h.back) (subst (All (HasRegister home)) h.split words)).1

  number : length h.front < length rs
  number =
      let e : length xs ≡ length (h.front ++ (h.var ∷ h.back)) = ap length h.split in
      let i : length (h.front ++ (h.var ∷ h.back)) ≡ length h.front + suc (length h.back) = length-append h.front (h.var ∷ h.back) in
      within (length xs) (length h.back) (length h.front) (length rs) (e ∙ i) few

  clash : CannotPass home rs (length h.front) h.var → ⊥
  clash (inl none) = none_there rs (length h.front) number none
  clash (inr none) = none here.0 here.1 here.2

  pub all_passed : ⊥
  all_passed = clash h.none
