-- What a wide number is.
use Rattle.std.specs.Prelude.{ℕ, ◌+◌, ◌*◌, ◌^◌, List, [], ◌∷◌}
use Rattle.jz_wide.specs.declared.wide.Wide.{Wide}

abbrev pub value : Wide → ℕ
value w = w.high * 2 ^ 64 + w.low

abbrev pub sum : List ℕ → ℕ
sum [] = 0
sum (n ∷ ns) = n + sum ns
