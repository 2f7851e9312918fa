-- What private contracts alone say: what the needs of a variable leave it.
use Rattle.std.specs.Prelude.{ℕ, Bool, true, false, not, List, nat_eq, slice_index_or, ◌++◌}
use Rattle.std.specs.List.{filter, range_with_len}
use Rattle.jz_fit.specs.declared.wants.Wanted.{Wanted}
use Rattle.jz_fit.specs.declared.wants.Wanted.TheVariants as V

-- the place of this number is left
abbrev pub admits : Wanted → ℕ → Bool
admits V.Anywhere q = true
admits (V.Only p) q = nat_eq p q
admits V.Nowhere q = false

-- there is a need
abbrev pub is_needed : Wanted → Bool
is_needed V.Anywhere = false
is_needed other = true

abbrev pub wanted_at : List Wanted → ℕ → Wanted
wanted_at wants v = slice_index_or wants v V.Anywhere

-- those below the bound that pass, and then the others
abbrev pub passing_first : (ℕ → Bool) → ℕ → List ℕ
passing_first passes n =
    filter passes (range_with_len 0 n) ++ filter (λ v. not (passes v)) (range_with_len 0 n)
