-- What the answer of a comparison tells of its operands, if they are variables.
use Rattle.std.specs.Prelude.{ℕ, ◌≡◌, ◌≤◌, ◌+◌, ◌-◌, ◌^◌, ◌==◌, nat_le, Bool, true, false, ◌&&◌, ◌||◌, List}
use Rattle.x64_insn.specs.Size.{Size}
use Rattle.x64_insn.specs.Words.{residue}
use Rattle.jz_tree.specs.declared.expr.BinOp.{BinOp}
use Rattle.jz_tree.specs.declared.expr.BinOp.TheVariants as o
use Rattle.jz_terms.specs.Terms.{Term, num}
use Rattle.jz_facts.specs.Facts.{AtLeast, AtMost, Under, Is, Multiple, Facts, subject, Given, is_among, multiples}
use Rattle.jz_facts.specs.Intervals.{interval, multiple}
use Rattle.jz_facts.specs.Holding.{copied}
use Rattle.jz_facts.specs.Tests.{is_var, ◌and◌}

-- each constant is a word
abbrev pub AreWords : List ℕ → Type 0
AreWords cs = (c : ℕ) → is_among c cs ≡ true → c ≤ 2 ^ 64 - 1

abbrev pub below_of : Bool → ℕ → ℕ
below_of true n = n - 1
below_of false n = n

abbrev pub above_of : Bool → ℕ → ℕ
above_of true n = n + 1
above_of false n = n

abbrev pub none : Facts
none f = false

-- of what differs from a term
abbrev pub told_other : Given → Size → Term → Facts
told_other g z (num i at) (AtLeast v c) =
    (residue z i == 0) && (is_among c g.consts && nat_le c 1)
told_other g z t f = false

-- of what it is
abbrev pub told_same : Given → Facts → Term → Facts
told_same g s t (Is v x) = copied s t (λ y. Is y x)
told_same g s t (Multiple v m) = is_among m multiples && multiple g s t m
told_same g s t f = false

module _ (g : Given) (s : Facts) (z : Size) where
  -- of what is below a term, or at most that
  abbrev pub told_below : Bool → Term → Facts
  told_below strict t (AtMost v c) =
      is_among c g.consts && nat_le (below_of strict (interval g s z t).hi) c
  told_below strict t (Under v x) =
      copied s t (λ y. Under y x) || (strict && copied s t (λ y. Is y x))
  told_below strict t f = false

  -- of what is above it, or at least that
  abbrev pub told_above : Bool → Term → Facts
  told_above strict t (AtLeast v c) =
      is_among c g.consts && nat_le c (above_of strict (interval g s z t).lo)
  told_above strict t f = false

  abbrev pub told_equal : Term → Facts
  told_equal t = (told_below false t and told_above false t) and told_same g s t

  abbrev pub left_told : BinOp → Term → Facts
  left_told o.Lt b = told_below true b
  left_told o.Le b = told_below false b
  left_told o.Gt b = told_above true b
  left_told o.Ge b = told_above false b
  left_told o.Eq b = told_equal b
  left_told o.Ne b = told_other g z b
  left_told op b = none

  abbrev pub right_told : BinOp → Term → Facts
  right_told o.Lt a = told_above true a
  right_told o.Le a = told_above false a
  right_told o.Gt a = told_below true a
  right_told o.Ge a = told_below false a
  right_told o.Eq a = told_equal a
  right_told op a = none

-- of a term, if it is a variable
abbrev pub on : Term → Facts → Facts
on t told f = is_var t (subject f) && told f
