-- The order of places.
use Rattle.std.specs.Prelude.{ℕ, Bool, List, nat_eq}
use Rattle.std.specs.List.{list_any}
use Rattle.x64_insn.specs.declared.types.Place.{Place}
use Rattle.x64_insn.specs.declared.types.Place.TheVariants as place
use Rattle.x64_insn.specs.declared.types.Reg.TheVariants as reg
use Rattle.x64_insn.specs.declared.types.Flag.TheVariants as flag

-- the place of each in the order; no variable is ever in RSP, which stands behind all
abbrev pub number_of : Place → ℕ
number_of (place.Reg reg.Rax) = 0
number_of (place.Reg reg.Rcx) = 1
number_of (place.Reg reg.Rdx) = 2
number_of (place.Reg reg.Rbx) = 3
number_of (place.Reg reg.Rbp) = 4
number_of (place.Reg reg.Rsi) = 5
number_of (place.Reg reg.Rdi) = 6
number_of (place.Reg reg.R8) = 7
number_of (place.Reg reg.R9) = 8
number_of (place.Reg reg.R10) = 9
number_of (place.Reg reg.R11) = 10
number_of (place.Reg reg.R12) = 11
number_of (place.Reg reg.R13) = 12
number_of (place.Reg reg.R14) = 13
number_of (place.Reg reg.R15) = 14
number_of (place.Flag flag.Cf) = 15
number_of (place.Flag flag.Of) = 16
number_of (place.Flag flag.Sf) = 17
number_of (place.Flag flag.Pf) = 18
number_of (place.Flag flag.Zf) = 19
number_of (place.Reg reg.Rsp) = 20

-- the list has the place of this number
abbrev pub has_place : List Place → ℕ → Bool
has_place places q = list_any (λ p. nat_eq (number_of p) q) places
