-- A `Seq` after its slice, or an element, was lent for writing.
use Rattle.std.specs.Prelude.{ℕ, List, Option, slice_set, take, drop, length, ◌++◌}
use Rattle.std.specs.Borrow.{Lends, LendsIf, MutBor, Fml, Array}
use denote.RattleType.{RattleType}
use Rattle.jz_data.specs.contracts.seq.Seq.{the_row}

-- ws, cut or filled up from xs to the length of xs: what is written through a slice has that length
abbrev pub refilled_list : {A : Type 0} → List A → List A → List A
refilled_list xs ws = take (length xs) (ws ++ drop (length ws) xs)

module _ (T : RattleType) where
  -- it ends as the last list behind r
  abbrev pub LendsSlice : MutBor (List T.Denot) → MutBor (List T.Denot) → Fml
  LendsSlice s r = Lends (the_row T) (Array T 0) s r (refilled_list s.now)

  -- it ends with the last value behind r at i
  abbrev pub LendsAt : MutBor (List T.Denot) → ℕ → Option (MutBor T.Denot) → Fml
  LendsAt s i r = LendsIf (the_row T) T s r (λ w. slice_set s.now i w) s.now
